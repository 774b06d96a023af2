-- The words of a shape line mean a shape exactly where they are read as it.
use Rattle.std.proofs.Common.{◌≡◌, ℕ, ◌≤◌, ◌==◌, Bool, true, false, ◌&&◌, List, [], ◌∷◌, length, map, Option, Some, None, Result, Ok, Err, refl, sym, ap, subst, ◌∙◌, arith}
use Rattle.std.specs.Prelude.{if◌then◌else◌, bytes_eq, codes, nat_le}
use Rattle.std.proofs.lemmas.Bool.{false≢true}
use Rattle.std.proofs.lemmas.Bool.Decides.{nat_tests}
use Rattle.std.proofs.lemmas.Slice.Eq.{bytes_eq-Decides}
use Rattle.text_lines.specs.Number.{number_of}
use Rattle.script_text.specs.Meaning.{StandFor, number, shape_form}
use Rattle.script_text.specs.ShapeForm.{IsWithin, is_size, is_within, numbers_due, numbers_of, seven_numbers, shape_line, shape_of, sized, with_number}
use Rattle.script_text.specs.declared.faults.BadKind.{BadKind}
use Rattle.script_text.specs.declared.faults.BadKind.TheVariants as kind
use Rattle.script_text.specs.declared.scripts.Shape.{Shape}

both : (a b : Bool) → (a && b) ≡ true → (a ≡ true) × (b ≡ true)
both true b is = (refl, is)
both false b is = absurd (false≢true is)

size : (limit n : ℕ) → is_size limit n ≡ true → (1 ≤ n) × (n ≤ limit)
size limit n is = (grind (arith, nat_tests), grind (arith, nat_tests))

sized_yes : (limit n : ℕ) → 1 ≤ n → n ≤ limit → is_size limit n ≡ true
sized_yes limit n least most = grind (arith, nat_tests)

at_most : (m n : ℕ) → nat_le m n ≡ true → m ≤ n
at_most m n is = grind (arith, nat_tests)

at_most_yes : (m n : ℕ) → m ≤ n → nat_le m n ≡ true
at_most_yes m n is = grind (arith, nat_tests)

pub IsWithin-tested : (shape : Shape) → is_within shape ≡ true → IsWithin shape
unfolding is_within
IsWithin-tested shape is =
    let h = both _ (is_size 16777215 shape.calls) is in
    let g = both _ (is_size 64 shape.clients) h.0 in
    let f = both _ (is_size 256 shape.groups) g.0 in
    let e = both _ (is_size 64 shape.blocks) f.0 in
    let d = both _ (is_size 63 shape.regions) e.0 in
    let c = both _ (nat_le shape.replicas shape.nodes) d.0 in
    let b = both (is_size 8 shape.nodes) (is_size 5 shape.replicas) c.0 in
    record {
      nodes = size 8 shape.nodes b.0;
      replicas = size 5 shape.replicas b.1;
      placed = at_most shape.replicas shape.nodes c.1;
      regions = size 63 shape.regions d.1;
      blocks = size 64 shape.blocks e.1;
      groups = size 256 shape.groups f.1;
      clients = size 64 shape.clients g.1;
      calls = size 16777215 shape.calls h.1;
    }

is_within-yes : (shape : Shape) → IsWithin shape → is_within shape ≡ true
unfolding is_within
is_within-yes shape w =
    rw (
      sized_yes 8 shape.nodes w.nodes.0 w.nodes.1,
      sized_yes 5 shape.replicas w.replicas.0 w.replicas.1,
      at_most_yes shape.replicas shape.nodes w.placed,
      sized_yes 63 shape.regions w.regions.0 w.regions.1,
      sized_yes 64 shape.blocks w.blocks.0 w.blocks.1,
      sized_yes 256 shape.groups w.groups.0 w.groups.1,
      sized_yes 64 shape.clients w.clients.0 w.clients.1,
      sized_yes 16777215 shape.calls w.calls.0 w.calls.1,
    ) refl

numbers_read : (words : List (List ℕ)) (numbers : List ℕ) → StandFor words (map number numbers) → (numbers_of words ≡ Some numbers) × (length words ≡ length numbers)
numbers_read [] [] stand = (refl, refl)
numbers_read [] (n ∷ numbers) stand = absurd stand
numbers_read (word ∷ words) [] stand = absurd stand
numbers_read (word ∷ words) (n ∷ numbers) stand =
    let rest = numbers_read words numbers stand.1 in
    (rw (stand.0, rest.0) refl, omega (arith, rest.1))

seven_read : (words : List (List ℕ)) (sizes : List ℕ) → length sizes ≡ 7 → StandFor words (map number sizes) → seven_numbers words ≡ Ok sizes
unfolding seven_numbers
seven_read words sizes seven stand =
    let read = numbers_read words sizes stand in
    let count : length words ≡ 7 = read.1 ∙ seven in
    rw (count, read.0) refl

-- words that mean a shape within its limits are read as it
pub shape_line-means : (words : List (List ℕ)) (shape : Shape) → StandFor words (shape_form shape) → IsWithin shape → shape_line words ≡ Ok shape
unfolding shape_line
shape_line-means [] shape stand within = absurd stand
shape_line-means (name ∷ words) shape stand within =
    let sizes : List ℕ = shape.nodes ∷ shape.replicas ∷ shape.regions ∷ shape.blocks ∷ shape.groups ∷ shape.clients ∷ shape.calls ∷ [] in
    rw (stand.0, seven_read words sizes refl stand.1, is_within-yes shape within) refl

record WithNumber (found : Option ℕ) (rest : Option (List ℕ)) (numbers : List ℕ) : Type 0 where
  value : ℕ
  others : List ℕ
  found_is : found ≡ Some value
  rest_is : rest ≡ Some others
  are : value ∷ others ≡ numbers

with_is : (found : Option ℕ) (rest : Option (List ℕ)) (numbers : List ℕ) → with_number found rest ≡ Some numbers → WithNumber found rest numbers
with_is None rest numbers is = cc
with_is (Some value) None numbers is = cc
with_is (Some value) (Some others) numbers is = record { value = value; others = others; found_is = refl; rest_is = refl; are = cc }

numbers_mean : (words : List (List ℕ)) (numbers : List ℕ) → numbers_of words ≡ Some numbers → StandFor words (map number numbers) × (length numbers ≡ length words)
numbers_mean [] [] is = (tt, refl)
numbers_mean [] (n ∷ numbers) is = cc
numbers_mean (word ∷ words) numbers is =
    let w = with_is (number_of word) (numbers_of words) numbers is in
    let rest = numbers_mean words w.others w.rest_is in
    subst (λ numbers. StandFor (word ∷ words) (map number numbers) × (length numbers ≡ length (word ∷ words))) w.are ((w.found_is, rest.0), omega (arith, rest.1))

due_is : (numbers : Option (List ℕ)) (sizes : List ℕ) → numbers_due numbers ≡ Ok sizes → numbers ≡ Some sizes
due_is None sizes is = cc
due_is (Some numbers) sizes is = let same : numbers ≡ sizes = cc in ap (λ numbers. Some numbers) same

seven_at : (seven : Bool) (count : ℕ) (numbers : Option (List ℕ)) (sizes : List ℕ) → (count == 7) ≡ seven → (if seven then numbers_due numbers else Err kind.Count) ≡ Ok sizes → (count ≡ 7) × (numbers ≡ Some sizes)
seven_at true count numbers sizes test is = (grind (arith, nat_tests), due_is numbers sizes is)
seven_at false count numbers sizes test is = cc

sizes_form : (words : List (List ℕ)) (sizes : List ℕ) → length sizes ≡ 7 → StandFor words (map number sizes) → StandFor (codes "shape" ∷ words) (shape_form (shape_of sizes))
sizes_form words [] long stand = absurd (omega arith)
sizes_form words (a ∷ []) long stand = absurd (omega arith)
sizes_form words (a ∷ b ∷ []) long stand = absurd (omega arith)
sizes_form words (a ∷ b ∷ c ∷ []) long stand = absurd (omega arith)
sizes_form words (a ∷ b ∷ c ∷ d ∷ []) long stand = absurd (omega arith)
sizes_form words (a ∷ b ∷ c ∷ d ∷ e ∷ []) long stand = absurd (omega arith)
sizes_form words (a ∷ b ∷ c ∷ d ∷ e ∷ f ∷ []) long stand = absurd (omega arith)
sizes_form words (a ∷ b ∷ c ∷ d ∷ e ∷ f ∷ g ∷ []) long stand = (refl, stand)
sizes_form words (a ∷ b ∷ c ∷ d ∷ e ∷ f ∷ g ∷ h ∷ sizes) long stand = absurd (omega arith)

seven_means : (words : List (List ℕ)) (sizes : List ℕ) → seven_numbers words ≡ Ok sizes → StandFor (codes "shape" ∷ words) (shape_form (shape_of sizes))
unfolding seven_numbers
seven_means words sizes is =
    let seven = seven_at (length words == 7) (length words) (numbers_of words) sizes refl is in
    let mean = numbers_mean words sizes seven.1 in
    sizes_form words sizes (mean.1 ∙ seven.0) mean.0

-- what a shape line means
pub record MeansShape (words : List (List ℕ)) (shape : Shape) : Type 0 where
  pub stand : StandFor words (shape_form shape)
  pub within : IsWithin shape

within_means : (words : List (List ℕ)) (made shape : Shape) (is_in : Bool) → is_within made ≡ is_in → StandFor (codes "shape" ∷ words) (shape_form made)
    → (if is_in then Ok made else Err kind.Shape) ≡ Ok shape → MeansShape (codes "shape" ∷ words) shape
within_means words made shape true tested stand is =
    let same : made ≡ shape = cc in
    subst (MeansShape (codes "shape" ∷ words)) same (record { stand = stand; within = IsWithin-tested made tested })
within_means words made shape false tested stand is = cc

sized_means : (words : List (List ℕ)) (sizes : Result (List ℕ) BadKind) (shape : Shape) → seven_numbers words ≡ sizes → sized sizes ≡ Ok shape → MeansShape (codes "shape" ∷ words) shape
sized_means words (Ok sizes) shape read is = within_means words (shape_of sizes) shape (is_within (shape_of sizes)) refl (seven_means words sizes read) is
sized_means words (Err kind) shape read is = cc

named_shape : (name : List ℕ) (words : List (List ℕ)) (shape : Shape) (is_named : Bool) → bytes_eq name (codes "shape") ≡ is_named
    → (if is_named then sized (seven_numbers words) else Err kind.NoShape) ≡ Ok shape → MeansShape (name ∷ words) shape
named_shape name words shape true named is =
    let same : name ≡ codes "shape" = (bytes_eq-Decides name (codes "shape")).0 named in
    subst (λ name. MeansShape (name ∷ words) shape) (sym same) (sized_means words (seven_numbers words) shape refl is)
named_shape name words shape false named is = cc

-- words that are read as a shape mean it
pub means-shape_line : (words : List (List ℕ)) (shape : Shape) → shape_line words ≡ Ok shape → MeansShape words shape
unfolding shape_line
means-shape_line [] shape is = cc
means-shape_line (name ∷ words) shape is = named_shape name words shape (bytes_eq name (codes "shape")) refl is
