-- What the names of objects say of their words.
use Rattle.std.proofs.Common.{◌≡◌, ℕ, zero, suc, ◌+◌, ◌-◌, ◌*◌, ◌/◌, ◌%◌, ◌^◌, ◌<◌, ◌≤◌, Bool, true, false, ◌==◌, List, find, Option, Some, None, if◌then◌else◌, refl, sym, ap, subst, ◌∙◌, arith}
use Rattle.std.specs.List.{range_with_len}
use Rattle.std.proofs.lemmas.Bool.{eq-eqb, le-leb, lt-ltb}
use Rattle.std.proofs.lemmas.Bool.Decides.{nat_tests}
use Rattle.std.specs.Cmp.Derive.{both_true}
use Rattle.std.proofs.lemmas.Option.{option_and_then_some}
use Rattle.machine.specs.ObjectNames.{IsObject, Object, bitmap_of, candidate_in, class_of_units, names_object, object_in, pointer_in}
use Rattle.machine.specs.Places.{object_word}
use Rattle.object_form.specs.Class.{room_of, units_of}
use Rattle.object_form.specs.declared.classes.TheConstants.{CLASSES}
use Rattle.pointer_fields.specs.Pointer.{region_of, unit_of}
use Rattle.race_slot.proofs.SlotLemmas.{unpacked-gives}
use Rattle.race_slot.specs.Slot.{unpacked}
use Rattle.region_view.specs.Layout.{HasWord}
use Rattle.region_view.specs.Sizes.{Sizes}
use Rattle.slot_order.specs.Fnv.{finger_of}

-- what a pointer that names an object of a class says
pub record IsNamed (sizes : Sizes) (class pointer : ℕ) : Type 0 where
  pub below : pointer < 2 ^ 28
  pub region : (1 ≤ region_of pointer) × (region_of pointer ≤ sizes.regions)
  pub first : 16 ≤ unit_of pointer
  pub last : unit_of pointer < 16 + 64 * sizes.blocks
  pub whole : (unit_of pointer - 16) % units_of class ≡ 0

pub names_object-says : (sizes : Sizes) (class pointer : ℕ) → names_object sizes class pointer ≡ true → IsNamed sizes class pointer
unfolding names_object
names_object-says sizes class pointer named = record {
  below = grind (arith, nat_tests);
  region = grind (arith, nat_tests);
  first = grind (arith, nat_tests);
  last = grind (arith, nat_tests);
  whole = grind (arith, nat_tests);
}

pub names_object-if : (sizes : Sizes) (class pointer : ℕ) → IsNamed sizes class pointer → names_object sizes class pointer ≡ true
unfolding names_object
names_object-if sizes class pointer says =
    both_true (both_true (both_true (both_true (lt-ltb _ _ says.below) (both_true (le-leb _ _ says.region.0) (le-leb _ _ says.region.1))) (le-leb _ _ says.first)) (lt-ltb _ _ says.last)) (eq-eqb _ _ says.whole)

-- the object lies in the block whole
units_within : (class unit blocks : ℕ) → class < CLASSES → 16 ≤ unit → unit < 16 + 64 * blocks → (unit - 16) % units_of class ≡ 0 → unit + units_of class ≤ 16 + 64 * blocks
units_within zero unit blocks below first last whole = omega arith
units_within (suc zero) unit blocks below first last whole = omega arith
units_within (suc (suc zero)) unit blocks below first last whole = omega arith
units_within (suc (suc (suc zero))) unit blocks below first last whole = omega arith
units_within (suc (suc (suc (suc zero)))) unit blocks below first last whole = omega arith
units_within (suc (suc (suc (suc (suc zero))))) unit blocks below first last whole = omega arith
units_within (suc (suc (suc (suc (suc (suc n)))))) unit blocks below first last whole = absurd (omega arith)

-- each word of an object is a word of the pool
pub object_word-has : (sizes : Sizes) (object : Object) (i : ℕ) → IsObject sizes object → i < room_of object.class → HasWord sizes (object_word object.pointer i)
object_word-has sizes object i is below =
    let says = names_object-says sizes object.class object.pointer is.named in
    let within = units_within object.class (unit_of object.pointer) sizes.blocks is.class says.first says.last says.whole in
    (says.region.0, says.region.1, omega (arith, says.first), omega arith, omega arith)

pub bitmap_of-has : (sizes : Sizes) (object : Object) → IsObject sizes object → HasWord sizes (bitmap_of object.pointer)
bitmap_of-has sizes object is =
    let says = names_object-says sizes object.class object.pointer is.named in
    (says.region.0, says.region.1, omega (arith, says.first, says.last))

-- what a test that held gave
pub checked : {A : Type 0} (test : Bool) (given taken : A) → (if test then Some given else None) ≡ Some taken → (test ≡ true) × (given ≡ taken)
checked true given taken is = (refl, cc)
checked false given taken is = absurd cc

pub passed_on : {A : Type 0} (test : Bool) (given : Option A) (taken : A) → (if test then given else None) ≡ Some taken → given ≡ Some taken
passed_on true given taken is = is
passed_on false given taken is = absurd cc

find-below : (test : ℕ → Bool) (from len bound number : ℕ) → from + len ≤ bound → find test (range_with_len from len) ≡ Some number → number < bound
find-below test from zero bound number within found = absurd cc
find-below test from (suc len) bound number within found = by (test from) refl (find-below test (from + 1) len bound number (omega arith))
  where
    by : (t : Bool) → test from ≡ t → (find test (range_with_len (from + 1) len) ≡ Some number → number < bound) → number < bound
    by true is rest =
        let P : Bool → Type 0 = λ b. (if b then Some from else find test (range_with_len (from + 1) len)) ≡ Some number in
        let here : Some from ≡ Some number = subst P is found in
        let same : from ≡ number = cc in
        omega arith
    by false is rest = rest (let P : Bool → Type 0 = λ b. (if b then Some from else find test (range_with_len (from + 1) len)) ≡ Some number in subst P is found)

class_of_units-says : (units class : ℕ) → class_of_units units ≡ Some class → class < CLASSES
class_of_units-says units class found = find-below (λ c. units_of c == units) 0 CLASSES CLASSES class (omega arith) found

-- the object that a slot word names is one of the pool, and its pointer stands in the word
pub object_in-is : (sizes : Sizes) (word : ℕ) (object : Object) → object_in sizes word ≡ Some object → IsObject sizes object
unfolding object_in
object_in-is sizes word object found =
    option_and_then_some _ (unpacked word) object found (λ slot packed named.
    option_and_then_some _ (class_of_units slot.units) object named (λ class units given.
    let both = checked (names_object sizes class slot.pointer) (record { pointer = slot.pointer; class = class }) object given in
    subst (IsObject sizes) both.1 (record { class = class_of_units-says slot.units class units; named = both.0 })))

pub object_in-pointer : (sizes : Sizes) (word : ℕ) (object : Object) → object_in sizes word ≡ Some object → object.pointer ≡ pointer_in word
unfolding object_in
object_in-pointer sizes word object found =
    option_and_then_some _ (unpacked word) object found (λ slot packed named.
    option_and_then_some _ (class_of_units slot.units) object named (λ class units given.
    let both = checked (names_object sizes class slot.pointer) (record { pointer = slot.pointer; class = class }) object given in
    let gives = unpacked-gives word slot packed in
    let below = gives.0.pointer in
    let is = gives.1 in
    let same : slot.pointer ≡ pointer_in word = omega arith in
    sym (ap (λ (o : Object). o.pointer) both.1) ∙ same))

pub candidate_in-object : (sizes : Sizes) (key : List ℕ) (word : ℕ) (object : Object) → candidate_in sizes key word ≡ Some object → object_in sizes word ≡ Some object
candidate_in-object sizes key word object found = passed_on (word / 2 ^ 56 == finger_of key) (object_in sizes word) object found
