-- The objects of a block from one on of which all are in stock.
use Rattle.std.proofs.Common.{◌≡◌, ℕ, zero, suc, ◌+◌, ◌-◌, ◌*◌, ◌/◌, ◌%◌, ◌^◌, ◌<◌, ◌≤◌, ◌==◌, true, List, ◌∷◌, ◌++◌, map, sym, ap, subst, ◌∙◌, arith}
use Rattle.std.specs.List.{range_with_len}
use Rattle.std.proofs.Math.Nat.{div-div-eq-div-mul}
use Rattle.std.proofs.lemmas.List.{map-append}
use Rattle.std.proofs.lemmas.Nat.{pow-add}
use Rattle.std.proofs.lemmas.Nat.Bits.{bit_at_ones}
use Rattle.machine.specs.BitChange.{has_bit}
use Rattle.machine.specs.ObjectNames.{Object, pointer_to}
use Rattle.machine_world.specs.Readings.{is_in_stock}
use Rattle.machine_world.specs.declared.parts.Division.{Division}
use Rattle.region_view.specs.Sizes.{Sizes}
use Rattle.world_ledger.proofs.DivisionLemmas.{with_objects-append}
use Rattle.object_form.specs.Class.{units_of}
use Rattle.object_form.specs.declared.classes.TheConstants.{CLASSES}
use Rattle.pointer_fields.specs.Pointer.{region_of, unit_of}
use Rattle.world_ledger.specs.Divisions.{with_object, with_objects}
use Rattle.world_ledger.specs.NamedUnits.{is_named}

-- words that are the same from a bit on have the same bits there
same-rest : (word other j m : ℕ) → word / 2 ^ j ≡ other / 2 ^ j → word / 2 ^ (j + m) ≡ other / 2 ^ (j + m)
same-rest word other j m same =
    ap (λ n. word / n) (pow-add 2 j m)
    ∙ sym (div-div-eq-div-mul word (2 ^ j) (2 ^ m))
    ∙ ap (λ n. n / 2 ^ m) same
    ∙ div-div-eq-div-mul other (2 ^ j) (2 ^ m)
    ∙ sym (ap (λ n. other / n) (pow-add 2 j m))

-- each bit is set from one on
pub has_bit-rest : (bits j k : ℕ) → bits / 2 ^ j ≡ (2 ^ 64 - 1) / 2 ^ j → j ≤ k → k < 64 → has_bit bits k ≡ true
has_bit-rest bits j k same from few =
    let m = k - j in
    let is : j + m ≡ k = omega (arith, from) in
    let rest : bits / 2 ^ k ≡ (2 ^ 64 - 1) / 2 ^ k = subst (λ n. bits / 2 ^ n ≡ (2 ^ 64 - 1) / 2 ^ n) is (same-rest bits (2 ^ 64 - 1) j m same) in
    ap (λ n. n % 2 == 1) rest ∙ ap (λ b. b == 1) (bit_at_ones 64 k few)

from_next : (j n k : ℕ) → j + 1 ≤ k → k < j + 1 + n → (j ≤ k) × (k < j + suc n)
from_next j n k least most = (omega (arith, least), omega (arith, most))

next_stock : (stock n : ℕ) → stock + 1 + n ≡ stock + suc n
next_stock stock n = omega arith

no_more : (stock : ℕ) → stock ≡ stock + 0
no_more stock = omega arith

-- all in stock
pub stock-run : (sizes : Sizes) (nodes : List (List ℕ)) (f : ℕ → Object) (j n : ℕ) (division : Division)
    → ((k : ℕ) → j ≤ k → k < j + n → is_in_stock sizes nodes (f k) ≡ true)
    → with_objects sizes nodes (map f (range_with_len j n)) division ≡ record division { stock = division.stock + n }
stock-run sizes nodes f j zero division all = ap (λ n. record division { stock = n }) (no_more division.stock)
stock-run sizes nodes f j (suc n) division all =
    let rest = map f (range_with_len (j + 1) n) in
    ap (λ b. with_objects sizes nodes rest (with_object b (is_named sizes nodes (f j).pointer) division)) (all j (omega arith) (omega arith))
    ∙ stock-run sizes nodes f (j + 1) n (with_object true (is_named sizes nodes (f j).pointer) division)
    (λ k least most. let range = from_next j n k least most in all k range.0 range.1)
    ∙ ap (λ s. record division { stock = s }) (next_stock division.stock n)

range-parts : (a n m : ℕ) → range_with_len a (n + m) ≡ range_with_len a n ++ range_with_len (a + n) m
range-parts a zero m = ap (λ k. range_with_len a k) (no_less m) ∙ ap (λ k. range_with_len k m) (no_more a)
  where
    no_less : (k : ℕ) → 0 + k ≡ k
    no_less k = omega arith
range-parts a (suc n) m =
    ap (range_with_len a) (more n m)
    ∙ ap (λ l. a ∷ l) (range-parts (a + 1) n m)
    ∙ ap (λ k. a ∷ (range_with_len (a + 1) n ++ range_with_len k m)) (moved a n)
  where
    more : (k l : ℕ) → suc k + l ≡ suc (k + l)
    more k l = omega arith

    moved : (k l : ℕ) → k + 1 + l ≡ k + suc l
    moved k l = omega arith

-- where those before an object are counted, and it and all others are in stock
pub stock-rest : (sizes : Sizes) (nodes : List (List ℕ)) (f : ℕ → Object) (j count : ℕ) (division before : Division) → j < count
    → before ≡ with_objects sizes nodes (map f (range_with_len 0 j)) division
    → ((k : ℕ) → j ≤ k → k < count → is_in_stock sizes nodes (f k) ≡ true)
    → record before { stock = before.stock + (count - j) } ≡ with_objects sizes nodes (map f (range_with_len 0 count)) division
stock-rest sizes nodes f j count division before low counted all =
    let n = count - j in
    let front = map f (range_with_len 0 j) in
    let run = map f (range_with_len j n) in
    let parts : j + n ≡ count = omega (arith, low) in
    let start : 0 + j ≡ j = omega arith in
    sym (stock-run sizes nodes f j n before (λ k least most. all k least (omega (arith, most, parts))))
    ∙ ap (with_objects sizes nodes run) counted
    ∙ sym (with_objects-append sizes nodes front run division)
    ∙ ap (λ l. with_objects sizes nodes l division)
    (sym (map-append f (range_with_len 0 j) (range_with_len j n))
    ∙ ap (λ k. map f (range_with_len 0 j ++ range_with_len k n)) (sym start)
    ∙ ap (map f) (sym (range-parts 0 j n))
    ∙ ap (λ k. map f (range_with_len 0 k)) parts)

-- where an object of a block lies
pub unit-lies : (region block class j : ℕ) → class < CLASSES → block < 64 → j < 64 / units_of class
    → (region_of (pointer_to region block class j) ≡ region) × (unit_of (pointer_to region block class j) ≡ 16 + 64 * block + j * units_of class) × (j < 64)
unit-lies region block zero j below few under = (omega arith, omega arith, omega arith)
unit-lies region block (suc zero) j below few under = (omega arith, omega arith, omega arith)
unit-lies region block (suc (suc zero)) j below few under = (omega arith, omega arith, omega arith)
unit-lies region block (suc (suc (suc zero))) j below few under = (omega arith, omega arith, omega arith)
unit-lies region block (suc (suc (suc (suc zero)))) j below few under = (omega arith, omega arith, omega arith)
unit-lies region block (suc (suc (suc (suc (suc zero))))) j below few under = (omega arith, omega arith, omega arith)
unit-lies region block (suc (suc (suc (suc (suc (suc class)))))) j below few under = absurd (omega arith)
