-- What the bits of an object say of the primary's: an object is in stock exactly while it is untaken.
use Rattle.std.proofs.Common.{◌≡◌, ◌≢◌, ℕ, ◌-◌, ◌<◌, Bool, true, false, not, inl, inr, length, refl, sym, ◌∙◌, ap, subst, arith}
use Rattle.std.proofs.lemmas.Bool.{cases_Bool}
use Rattle.machine.proofs.BitChangeLemmas.{bit_change_of-is}
use Rattle.machine.specs.BitChange.{has_bit}
use Rattle.machine.specs.EpochRead.{IsView}
use Rattle.machine.specs.ObjectNames.{IsObject, Object, bitmap_of, number_of}
use Rattle.machine.specs.Places.{replica_count}
use Rattle.object_bits.specs.Bits.{Change, bit_at}
use Rattle.object_bits.specs.Claims.{AreAll}
use Rattle.verb_words.specs.Words.{word_at}
use Rattle.object_division.specs.Claims.{IsDivided, IsSetEverywhere, IsTakenBy}
use Rattle.object_division.specs.Client.{Named, Returning, Taken, Untaken, Use}
use Rattle.object_division.specs.Run.{State, is_in_stock}
use Rattle.object_division.specs.Seen.{IsStraight, bits_of, seen}
use Rattle.object_division.proofs.BitStepLemmas.{bits_of-at, length-bits_of}
use Rattle.object_division.proofs.ChangeOfLemmas.{AreOf, ClearingIsOf, UseIsOf}
use Rattle.object_division.proofs.ClassLemmas.{HasOpen}
use Rattle.object_division.proofs.InOrder.{AreBitsOf, ClearsWell, HasBits, IsBeingCleared}
use Rattle.object_division.proofs.PlaceLemmas.{primary_place-last}
use Rattle.object_division.proofs.UnderWayLemmas.{straight_primary}
use Rattle.object_division.proofs.UntakenBlockLemmas.{untaken}

-- ---- the primary's bit

some_replica : (state : State) (object : Object) → IsView state.view → IsObject state.view.shape object
    → 0 < replica_count state.view (bitmap_of object.pointer)
some_replica state object is_view is = (bit_change_of-is state.view object true false is_view is).replica

primary_bit : (state : State) (object : Object) → IsView state.view → IsObject state.view.shape object
    → bit_at (bits_of state.view state.words object) (length (bits_of state.view state.words object) - 1)
    ≡ is_in_stock state object
primary_bit state object is_view is =
    let list = bits_of state.view state.words object in
    let count = replica_count state.view (bitmap_of object.pointer) in
    ap (λ n. bit_at list (n - 1)) (length-bits_of state.view state.words object)
    ∙ (bits_of-at state.view state.words object (count - 1) (omega (arith, some_replica state object is_view is))
    ∙ ap (λ p. has_bit (word_at state.words p) (number_of object.pointer object.class))
    (sym (primary_place-last state.view (bitmap_of object.pointer))))

pub all_primary : (state : State) (object : Object) (bit : Bool) → IsView state.view → IsObject state.view.shape object
    → AreAll bit (bits_of state.view state.words object) → is_in_stock state object ≡ bit
all_primary state object bit is_view is all =
    let list = bits_of state.view state.words object in
    sym (primary_bit state object is_view is)
    ∙ all (length list - 1)
    (omega (arith, length-bits_of state.view state.words object, some_replica state object is_view is))

straight_stock : (state : State) (object : Object) (change : Change) → IsView state.view → IsObject state.view.shape object
    → IsStraight (bits_of state.view state.words object) change → is_in_stock state object ≡ not change.wanted
straight_stock state object change is_view is straight =
    sym (primary_bit state object is_view is) ∙ straight_primary (bits_of state.view state.words object) change straight

-- every replica has the bit set
pub set_all : (state : State) (object : Object) → IsSetEverywhere state object
    → AreAll true (bits_of state.view state.words object)
set_all state object set place below =
    let within : place < replica_count state.view (bitmap_of object.pointer) =
    omega (arith, below, length-bits_of state.view state.words object) in
    bits_of-at state.view state.words object place within ∙ set place within

pub all_set : (state : State) (object : Object) → AreAll true (bits_of state.view state.words object)
    → IsSetEverywhere state object
all_set state object all replica within =
    sym (bits_of-at state.view state.words object replica within)
    ∙ all replica (omega (arith, within, length-bits_of state.view state.words object))

-- ---- in stock, or taken

true_false : {A : Type 0} → true ≡ false → A
true_false is = absurd cc

-- an object that is taken is not in stock
used_out : (state : State) (object : Object) (use_of : Use) → IsView state.view → IsObject state.view.shape object
    → UseIsOf object use_of → AreBitsOf (bits_of state.view state.words object) use_of → use_of ≢ Untaken
    → is_in_stock state object ≡ false
used_out state object Untaken is_view is of_object bits used = absurd (used refl)
used_out state object (Taken client) is_view is of_object bits used = all_primary state object false is_view is bits
used_out state object (Named client namer) is_view is of_object bits used = all_primary state object false is_view is bits
used_out state object (Returning client namer change) is_view is of_object bits used =
    straight_stock state object (seen change) is_view is bits ∙ ap not of_object.set_is

pub stock_untaken : (state : State) (object : Object) → IsView state.view → AreOf state.clients state.uses → HasBits state
    → IsObject state.view.shape object → is_in_stock state object ≡ true → state.uses object ≡ Untaken
stock_untaken state object is_view of_objects has is in_stock =
    untaken (state.uses object)
    (λ used.
    true_false
    (sym in_stock
    ∙ used_out state object (state.uses object) is_view is (of_objects.sets object) (has.used object) used))

-- one whose bit is being cleared is in stock still
cleared_in : (state : State) (object : Object) → IsView state.view → AreOf state.clients state.uses → HasBits state
    → IsObject state.view.shape object → IsBeingCleared state.clients object → is_in_stock state object ≡ true
cleared_in state object is_view of_objects has is cleared =
    straight_stock state object (seen cleared.change) is_view is
    (subst (λ o. IsStraight (bits_of state.view state.words o) (seen cleared.change)) cleared.object_is
    (subst (λ c. ClearsWell state.view state.words state.uses c) cleared.clears (has.clears cleared.client)).0)
    ∙ ap not (subst (λ c. ClearingIsOf c) cleared.clears (of_objects.clears cleared.client)).0.set_is

taker : (use_of : Use) → use_of ≢ Untaken → (client : ℕ) × IsTakenBy client use_of
taker Untaken used = absurd (used refl)
taker (Taken client) used = (client, refl)
taker (Named client namer) used = (client, refl)
taker (Returning client namer change) used = (client, refl)

pub divided_object : (state : State) (object : Object) → IsView state.view → AreOf state.clients state.uses → HasBits state
    → IsObject state.view.shape object → HasOpen state.view state.words object → IsDivided state object
divided_object state object is_view of_objects has is open_to =
    elim (cases_Bool (is_in_stock state object)) [
      | inl in_stock ↦ inl (in_stock, stock_untaken state object is_view of_objects has is in_stock)
      | inr out ↦
          let by = taker (state.uses object) (λ free. true_false (sym (kept_in free out) ∙ out)) in
          inr (out, by.0, by.1)
    ]
  where
    kept_in : state.uses object ≡ Untaken → is_in_stock state object ≡ false → is_in_stock state object ≡ true
    kept_in free out =
        all_primary state object true is_view is
        (has.free object is open_to free
        (λ cleared. true_false (sym (cleared_in state object is_view of_objects has is cleared) ∙ out)))
