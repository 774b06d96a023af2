-- What a call has: its slot word, its slot, the places of its object.
use Rattle.std.proofs.Common.{◌≡◌, ◌≢◌, ℕ, ◌*◌, ◌%◌, ◌^◌, ◌<◌, ◌==◌, true, List, length, Some, sym, subst, ◌∙◌, arith}
use Rattle.std.specs.Prelude.{All}
use Rattle.std.proofs.lemmas.Bool.{ne_eqb}
use Rattle.kv_ops.specs.Standings.{IsReadyUnder, OwnsObject, OwnsPlace}
use Rattle.key_test.proofs.StateLemmas.{first_word-has}
use Rattle.machine.proofs.ChoosingLemmas.{taken-is}
use Rattle.machine.proofs.ClientLemmas.{place_for-below, slot_of-below}
use Rattle.machine.proofs.ObjectNamesLemmas.{names_object-says, object_in-is, object_in-pointer}
use Rattle.machine.specs.Choosing.{taken}
use Rattle.machine.specs.Client.{fresh_of, slot_of}
use Rattle.machine.specs.ObjectNames.{Object, names_object, object_in, pointer_in}
use Rattle.machine.specs.Places.{object_word}
use Rattle.machine.specs.Remembered.{Pair, place_for}
use Rattle.machine.specs.Stage.{Client}
use Rattle.machine.specs.Standing.{IsMember, IsPlaceOf}
use Rattle.machine.specs.Stock.{Stock}
use Rattle.object_form.proofs.ClassLemmas.{units_of-bounds}
use Rattle.object_form.specs.declared.classes.TheConstants.{CLASSES}
use Rattle.object_form.specs.Class.{units_of}
use Rattle.race_slot.specs.declared.Slot.{Slot}
use Rattle.race_slot.specs.Slot.{IsSlot}
use Rattle.race_slot.proofs.SlotLemmas.{slot_word_bounds}
use Rattle.region_view.specs.Layout.{HasWord}
use Rattle.region_view.specs.Sizes.{Sizes}
use Rattle.slot_order.proofs.FnvLemmas.{finger_of-below}
use Rattle.slot_order.specs.Fnv.{finger_of}
use Rattle.slot_order.specs.Slots.{order_of}

pub named-has : (sizes : Sizes) (word : ℕ) (object : Object) → object_in sizes word ≡ Some object → HasWord sizes (object_word (pointer_in word) 0)
named-has sizes word object named =
    let P : ℕ → Type 0 = λ p. HasWord sizes (object_word p 0) in
    subst P (object_in-pointer sizes word object named) (first_word-has sizes object (object_in-is sizes word object named))

-- a remembered place is one of the order, also of a key and of groups that are the same
pub place-below : (sizes : Sizes) (pairs : List Pair) (key other : List ℕ) (groups place : ℕ) → All (IsPlaceOf sizes) pairs → other ≡ key → groups ≡ sizes.groups → place ≡ place_for pairs other → place < length (order_of other groups)
place-below sizes pairs key other groups place all same of_shape is =
    let below = place_for-below sizes pairs other all in
    subst (λ g. place < length (order_of other g)) (sym of_shape) (subst (λ p. p < length (order_of other sizes.groups)) (sym is) below)

-- the stock once the reserve was taken is still the member's
pub taken-member : (sizes : Sizes) (client class next : ℕ) (stock new : Stock) (remembered : List Pair) → IsMember sizes client sizes client stock remembered → class < CLASSES
    → names_object sizes class next ≡ true → new ≡ taken stock class next → IsMember sizes client sizes client new remembered
taken-member sizes client class next stock new remembered member below named is =
    let P : Stock → Type 0 = λ s. IsMember sizes client sizes client s remembered in
    subst P (sym is) (record {
      same_shape = member.same_shape;
      same_number = member.same_number;
      limits = member.limits;
      least = member.least;
      most = member.most;
      is_stock = taken-is sizes client class next stock member.is_stock below named;
      places = member.places;
    })

-- the call's slot word is one
abbrev pub slot_for : List ℕ → ℕ → ℕ → Slot
slot_for key class pointer = record { finger = finger_of key; units = units_of class; pointer = pointer }

pub slot_for-is : (sizes : Sizes) (key : List ℕ) (class pointer : ℕ) → class < CLASSES → names_object sizes class pointer ≡ true → IsSlot (slot_for key class pointer)
slot_for-is sizes key class pointer below named =
    let says = names_object-says sizes class pointer named in
    let units = units_of-bounds class below in
    record {
      finger = omega (arith, finger_of-below key);
      units = units.0;
      units_below = omega (arith, units.1);
      pointer = says.below;
      region = says.region.0;
    }

pub fresh_of-some : (client : Client) → OwnsObject client → fresh_of client ≢ 0
fresh_of-some client owns = let bounds = slot_word_bounds (slot_for client.key client.class client.object) (slot_for-is client.shape client.key client.class client.object owns.of_class.below owns.named) in λ zero. omega (arith, bounds.0, zero)

-- a word with another pointer is not the call's own
pub is_own-else : (client : Client) (word pointer : ℕ) → OwnsObject client → pointer ≡ client.object → word % 2 ^ 28 ≢ pointer → (word % 2 ^ 28 == pointer) ≡ (word == fresh_of client)
is_own-else client word pointer owns same other =
    let is = slot_for-is client.shape client.key client.class client.object owns.of_class.below owns.named in
    let different : word ≢ fresh_of client = λ e. other (omega (arith, e, is.pointer, same)) in
    ne_eqb _ _ other ∙ sym (ne_eqb _ _ different)

pub slot-below : (client : Client) (slot groups : ℕ) → IsReadyUnder client → OwnsPlace client → slot ≡ slot_of client → groups ≡ client.shape.groups → slot < 24 * groups
slot-below client slot groups ready owns is of_shape =
    let below = slot_of-below client.shape client.client client ready.0 owns.below in
    omega (arith, is, of_shape, below)
