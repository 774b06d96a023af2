-- What the words of a shape line mean.
use Rattle.std.specs.Prelude.{ℕ, ◌≤◌, Bool, ◌&&◌, ◌==◌, nat_le, if◌then◌else◌, List, [], ◌∷◌, codes, length, Option, Some, None, Result, Ok, Err, bytes_eq}
use Rattle.std.specs.List.{slice_index}
use Rattle.text_lines.specs.Number.{number_of}
use Rattle.script_text.specs.declared.faults.BadKind.{BadKind}
use Rattle.script_text.specs.declared.faults.BadKind.TheVariants as kind
use Rattle.script_text.specs.declared.scripts.Line.{Line}
use Rattle.script_text.specs.declared.scripts.Shape.{Shape}

abbrev pub with_number : Option ℕ → Option (List ℕ) → Option (List ℕ)
with_number (Some number) (Some numbers) = Some (number ∷ numbers)
with_number (Some number) None = None
with_number None numbers = None

-- the numbers that these words are
abbrev pub numbers_of : List (List ℕ) → Option (List ℕ)
numbers_of [] = Some []
numbers_of (word ∷ words) = with_number (number_of word) (numbers_of words)

abbrev pub numbers_due : Option (List ℕ) → Result (List ℕ) BadKind
numbers_due (Some numbers) = Ok numbers
numbers_due None = Err kind.Number

-- the seven numbers that follow `shape`
unfoldable pub seven_numbers : List (List ℕ) → Result (List ℕ) BadKind
seven_numbers words = if length words == 7 then numbers_due (numbers_of words) else Err kind.Count

-- the shape of seven sizes in order
abbrev pub shape_of : List ℕ → Shape
shape_of sizes = record {
  nodes = slice_index sizes 0;
  replicas = slice_index sizes 1;
  regions = slice_index sizes 2;
  blocks = slice_index sizes 3;
  groups = slice_index sizes 4;
  clients = slice_index sizes 5;
  calls = slice_index sizes 6;
}

-- whether a size is 1 to this limit
abbrev pub is_size : ℕ → ℕ → Bool
is_size limit size = nat_le 1 size && nat_le size limit

-- whether each size is within its limits
unfoldable pub is_within : Shape → Bool
is_within shape =
    is_size 8 shape.nodes && is_size 5 shape.replicas && nat_le shape.replicas shape.nodes && is_size 63 shape.regions
    && is_size 64 shape.blocks && is_size 256 shape.groups && is_size 64 shape.clients && is_size 16777215 shape.calls

-- the limits, one by one
pub record IsWithin (shape : Shape) : Type 0 where
  pub nodes : (1 ≤ shape.nodes) × (shape.nodes ≤ 8)
  pub replicas : (1 ≤ shape.replicas) × (shape.replicas ≤ 5)
  pub placed : shape.replicas ≤ shape.nodes
  pub regions : (1 ≤ shape.regions) × (shape.regions ≤ 63)
  pub blocks : (1 ≤ shape.blocks) × (shape.blocks ≤ 64)
  pub groups : (1 ≤ shape.groups) × (shape.groups ≤ 256)
  pub clients : (1 ≤ shape.clients) × (shape.clients ≤ 64)
  pub calls : (1 ≤ shape.calls) × (shape.calls ≤ 16777215)

abbrev pub sized : Result (List ℕ) BadKind → Result Shape BadKind
sized (Ok sizes) = if is_within (shape_of sizes) then Ok (shape_of sizes) else Err kind.Shape
sized (Err kind) = Err kind

-- the first line that is not skipped
unfoldable pub shape_line : List (List ℕ) → Result Shape BadKind
shape_line [] = Err kind.NoShape
shape_line (name ∷ words) = if bytes_eq name (codes "shape") then sized (seven_numbers words) else Err kind.NoShape

abbrev pub shape_refused : Result (List ℕ) BadKind → Result Line BadKind
shape_refused (Ok sizes) = Err kind.Shape
shape_refused (Err kind) = Err kind

-- a later line that begins with `shape`
abbrev pub shape_again : List (List ℕ) → Result Line BadKind
shape_again words = shape_refused (seven_numbers words)
