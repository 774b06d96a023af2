-- One bit for each unit: a bit that is set is that of its unit alone.
use Rattle.std.proofs.Common.{◌≡◌, ◌≢◌, ℕ, zero, suc, ◌+◌, ◌*◌, ◌/◌, ◌%◌, ◌^◌, ◌<◌, ◌≤◌, ◌==◌, ◌⊎◌, inl, inr, Bool, true, false, ◌||◌, List, [], ◌∷◌, ◌++◌, length, replicate, set, refl, sym, ap, subst, ◌∙◌, arith}
use Rattle.std.specs.Prelude.{bit_or, slice_index, is_some}
use Rattle.std.specs.Int.{bit_at, w64}
use Rattle.std.specs.List.{find, list_any, range_with_len}
use Rattle.std.proofs.lemmas.Bool.Decides.{eqb_tells}
use Rattle.std.proofs.lemmas.List.{get_or-set_other, get_or-set_same}
use Rattle.std.proofs.lemmas.List.Folds.{list_any-append}
use Rattle.std.proofs.lemmas.Nat.Bits.{bit_at-zero, bit_at_set_other, bit_at_set_same}
use Rattle.machine.specs.BitChange.{has_bit}
use Rattle.machine_world.specs.declared.parts.Division.{Division}
use Rattle.object_form.specs.Block.{block_of_unit, object_of_unit}
use Rattle.object_form.specs.Class.{units_of}
use Rattle.object_form.specs.declared.classes.TheConstants.{CLASSES}
use Rattle.region_view.specs.Sizes.{Sizes}
use Rattle.slot_order.proofs.ListLemmas.{range_with_len-push}
use Rattle.world_ledger.specs.Divisions.{with_object}
use Rattle.world_ledger.specs.NamedUnits.{has_unit, unit_place}
use Rattle.world_ledger.specs.Seen.{IsUnit}

-- units of one place are one
unit_place-only : (sizes : Sizes) (pointer other : ℕ) → sizes.blocks ≤ 64 → IsUnit sizes pointer → IsUnit sizes other
    → unit_place other / 64 ≡ unit_place pointer / 64 → unit_place other % 64 ≡ unit_place pointer % 64 → pointer ≡ other
unit_place-only sizes pointer other few one unit row bit =
    omega (arith, one.region, one.first, one.last, unit.region, unit.first, unit.last)

or_true : (a : Bool) → (a || true) ≡ true
or_true true = refl
or_true false = refl

or_false : (a : Bool) → (a || false) ≡ a
or_false true = refl
or_false false = refl

pub has_unit-added : (sizes : Sizes) (units : List ℕ) (pointer other : ℕ) → sizes.blocks ≤ 64 → IsUnit sizes pointer → IsUnit sizes other → unit_place pointer / 64 < length units
    → has_unit (set units (unit_place pointer / 64) (bit_or (slice_index units (unit_place pointer / 64)) (1 * 2 ^ (unit_place pointer % 64) % 2 ^ 64))) other
    ≡ (has_unit units other || (pointer == other))
has_unit-added sizes units pointer other few one unit within =
    by (eqb_tells pointer other) (eqb_tells (unit_place other / 64) row) (eqb_tells (unit_place other % 64) bit)
  where
    row : ℕ
    row = unit_place pointer / 64

    bit : ℕ
    bit = unit_place pointer % 64

    word : ℕ
    word = bit_or (slice_index units row) (1 * 2 ^ bit % 2 ^ 64)

    stays : bit_at (slice_index (set units row word) (unit_place other / 64)) (unit_place other % 64) ≡ bit_at (slice_index units (unit_place other / 64)) (unit_place other % 64)
        → (pointer == other) ≡ false → has_unit (set units row word) other ≡ (has_unit units other || (pointer == other))
    stays same test = rw test (ap (λ b. b == 1) same ∙ sym (or_false (has_unit units other)))

    by : (((pointer == other) ≡ true) × (pointer ≡ other)) ⊎ (((pointer == other) ≡ false) × (pointer ≢ other))
        → (((unit_place other / 64 == row) ≡ true) × (unit_place other / 64 ≡ row)) ⊎ (((unit_place other / 64 == row) ≡ false) × (unit_place other / 64 ≢ row))
        → (((unit_place other % 64 == bit) ≡ true) × (unit_place other % 64 ≡ bit)) ⊎ (((unit_place other % 64 == bit) ≡ false) × (unit_place other % 64 ≢ bit))
        → has_unit (set units row word) other ≡ (has_unit units other || (pointer == other))
    by (inl (test, same)) of_row of_bit =
        let P : ℕ → Type 0 = λ o. has_unit (set units row word) o ≡ true in
        let now : bit_at (slice_index (set units row word) row) bit ≡ 1 =
        ap (λ n. bit_at n bit) (get_or-set_same units row word 0 within) ∙ bit_at_set_same w64 (slice_index units row) bit (omega arith) in
        rw test (subst P same (ap (λ b. b == 1) now) ∙ sym (or_true (has_unit units other)))
    by (inr (test, differ)) (inr (row_no, apart)) of_bit =
        stays (ap (λ n. bit_at n (unit_place other % 64)) (get_or-set_other units row (unit_place other / 64) word 0 apart)) test
    by (inr (test, differ)) (inl (row_is, here)) (inl (bit_is, same)) = absurd (differ (unit_place-only sizes pointer other few one unit here same))
    by (inr (test, differ)) (inl (row_is, here)) (inr (bit_no, apart)) =
        stays
        (ap (λ n. bit_at (slice_index (set units row word) n) (unit_place other % 64)) here
        ∙ ap (λ n. bit_at n (unit_place other % 64)) (get_or-set_same units row word 0 within)
        ∙ bit_at_set_other w64 (slice_index units row) bit (omega arith) (unit_place other % 64) apart
        ∙ sym (ap (λ n. bit_at (slice_index units n) (unit_place other % 64)) here))
        test

-- something is found where one passes the test
pub is_some-find : (test : ℕ → Bool) (numbers : List ℕ) → is_some (find test numbers) ≡ list_any test numbers
is_some-find test [] = refl
is_some-find test (n ∷ numbers) = by (test n) refl (is_some-find test numbers)
  where
    by : (passes : Bool) → test n ≡ passes → is_some (find test numbers) ≡ list_any test numbers → is_some (find test (n ∷ numbers)) ≡ list_any test (n ∷ numbers)
    by true passes later = rw passes refl
    by false passes later = rw passes later

from_none : (n : ℕ) → 0 + n ≡ n
from_none n = omega arith

-- one number more in a range
pub list_any-more : (test : ℕ → Bool) (n : ℕ) → list_any test (range_with_len 0 (n + 1)) ≡ (list_any test (range_with_len 0 n) || test n)
list_any-more test n =
    ap (list_any test) (range_with_len-push 0 n ∙ ap (λ k. range_with_len 0 n ++ k ∷ []) (from_none n))
    ∙ list_any-append test (range_with_len 0 n) (n ∷ [])
    ∙ ap (λ b. list_any test (range_with_len 0 n) || b) (or_false (test n))

zeros : (n i : ℕ) → slice_index (replicate n 0) i ≡ 0
zeros zero i = refl
zeros (suc n) zero = refl
zeros (suc n) (suc i) = zeros n i

-- at first there is none
pub has_unit-zeros : (n pointer : ℕ) → has_unit (replicate n 0) pointer ≡ false
has_unit-zeros n pointer = ap (λ w. has_bit w (unit_place pointer % 64)) (zeros n (unit_place pointer / 64)) ∙ ap (λ b. b == 1) (bit_at-zero (unit_place pointer % 64))

-- object j of a block
pub number-is : (class block j unit : ℕ) → class < CLASSES → j < 64 / units_of class → unit ≡ 16 + 64 * block + j * units_of class
    → (block_of_unit unit ≡ block) × (object_of_unit unit class ≡ j)
number-is zero block j unit below under is = (omega arith, omega arith)
number-is (suc zero) block j unit below under is = (omega arith, omega arith)
number-is (suc (suc zero)) block j unit below under is = (omega arith, omega arith)
number-is (suc (suc (suc zero))) block j unit below under is = (omega arith, omega arith)
number-is (suc (suc (suc (suc zero)))) block j unit below under is = (omega arith, omega arith)
number-is (suc (suc (suc (suc (suc zero))))) block j unit below under is = (omega arith, omega arith)
number-is (suc (suc (suc (suc (suc (suc class)))))) block j unit below under is = absurd (omega arith)

pub none_more : (a : Bool) → a ≡ (a || false)
none_more a = sym (or_false a)

-- of an object in stock it does not matter whether a slot names it
pub with_object-stock : (in_stock named other : Bool) (division : Division) → (in_stock ≡ false → named ≡ other) → with_object in_stock named division ≡ with_object in_stock other division
with_object-stock true named other division same = refl
with_object-stock false named other division same = ap (λ n. with_object false n division) (same refl)
