-- The meta word of an object: its kind in bits 32 to 39, the length of its key in bits 16 to 31 and
-- that of its value in bits 0 to 15.
use Rattle.std.specs.Prelude.{ℕ, ◌+◌, ◌*◌, ◌/◌, ◌%◌, ◌^◌, ◌≤◌, Bool, ◌&&◌, ◌==◌, nat_le, if◌then◌else◌, Option, Some, None}
use Rattle.std.specs.Option.{option_and_then}
use Rattle.object_form.specs.declared.classes.TheConstants.{LONGEST}
use Rattle.object_form.specs.declared.metas.Kind.{Kind}
use Rattle.object_form.specs.declared.metas.Kind.TheVariants.{Value, Tombstone}
use Rattle.object_form.specs.declared.metas.Meta.{Meta}
use Rattle.object_form.specs.Class.{IsKeyLength}

-- the number that stands for a kind
abbrev pub code_of : Kind → ℕ
code_of Value = 1
code_of Tombstone = 2

-- the longest value of a kind, in bytes
abbrev pub longest_of : Kind → ℕ
longest_of Value = LONGEST
longest_of Tombstone = 0

-- an object may have this kind and these lengths
pub record IsMeta (meta : Meta) : Type 0 where
  pub key : IsKeyLength meta.key_len
  pub value : meta.value_len ≤ longest_of meta.kind

-- the meta word
abbrev pub word_of_meta : Meta → ℕ
word_of_meta meta = code_of meta.kind * 2 ^ 32 + meta.key_len * 2 ^ 16 + meta.value_len

-- the kind that a number stands for, if it stands for one
abbrev pub kind_in : ℕ → Option Kind
kind_in code = if code == 1 then Some Value else if code == 2 then Some Tombstone else None

-- what stands in a word in the bits of the fields, with a kind
abbrev pub meta_fields : ℕ → Kind → Meta
meta_fields word kind = record { kind = kind; key_len = word / 2 ^ 16 % 2 ^ 16; value_len = word % 2 ^ 16 }

-- whether an object may have this kind and these lengths
abbrev pub is_meta : Meta → Bool
is_meta meta = nat_le 1 meta.key_len && nat_le meta.key_len 64 && nat_le meta.value_len (longest_of meta.kind)

abbrev pub checked_meta : Meta → Option Meta
checked_meta meta = if is_meta meta then Some meta else None

-- what a word says of an object, if it is a meta word
unfoldable pub meta_in : ℕ → Option Meta
meta_in word = option_and_then (λ kind. checked_meta (meta_fields word kind)) (kind_in (word / 2 ^ 32))
