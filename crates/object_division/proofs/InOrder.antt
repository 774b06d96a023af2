-- The record of bits and marks: how the bits of each object stand, and that what a client holds ready is untaken.
use Rattle.std.proofs.Common.{◌≡◌, ◌≢◌, ℕ, ◌⊎◌, inl, inr, Bool, true, false, List, Option, Some, refl, sym, ◌∙◌, ap, eq-eqb}
use Rattle.std.proofs.lemmas.Bool.{cases_Bool, cond_both}
use Rattle.std.specs.Prelude.{Contains}
use Rattle.machine.specs.BitChange.{BitChange}
use Rattle.machine.specs.ObjectNames.{IsObject, Object, block_of, number_of}
use Rattle.object_bits.specs.Claims.{AreAll}
use Rattle.pointer_fields.specs.Pointer.{region_of}
use Rattle.region_view.specs.Placed.{Viewed}
use Rattle.object_division.specs.Client.{Cleared, Clearing, Client, Given, Named, NotClearing, Returning, Taken, Under, Untaken, Use, is_same}
use Rattle.object_division.specs.Marks.{IsMarked, blocks_of}
use Rattle.object_division.specs.Run.{State, object_of, with_use}
use Rattle.object_division.specs.Seen.{IsStraight, bits_of, seen}
use Rattle.object_division.proofs.ClassLemmas.{HasOpen}
use Rattle.object_division.proofs.StepLemmas.{is_same-true}

-- ---- bits

-- the bits of an object of which this has become: clear where it is taken; where they are being set, as that change has them
abbrev pub AreBitsOf : List Bool → Use → Type 0
AreBitsOf list Untaken = Unit {0}
AreBitsOf list (Taken client) = AreAll false list
AreBitsOf list (Named client namer) = AreAll false list
AreBitsOf list (Returning client namer change) = IsStraight list (seen change)

-- the object whose bits are being cleared: they stand as that change has them, and it is untaken
abbrev pub ClearsWell : Viewed → List (List ℕ) → (Object → Use) → Clearing → Type 0
ClearsWell view words uses NotClearing = Unit {0}
ClearsWell view words uses (Under class given change) =
    IsStraight (bits_of view words (object_of class given)) (seen change) × (uses (object_of class given) ≡ Untaken)
ClearsWell view words uses (Cleared class given) = Unit {0}

-- a client clears the bit of the object
pub record IsBeingCleared (clients : ℕ → Client) (object : Object) : Type 0 where
  pub client : ℕ
  pub class : ℕ
  pub given : Given
  pub change : BitChange
  pub clears : (clients client).clearing ≡ Under class given change
  pub object_is : object_of class given ≡ object

-- how the bits of all objects stand
pub record HasBits (state : State) : Type 0 where
  -- an object that nobody has taken or clears has its bit set on every replica
  pub free : (object : Object) → IsObject state.view.shape object → HasOpen state.view state.words object
      → state.uses object ≡ Untaken → (IsBeingCleared state.clients object → ⊥)
      → AreAll true (bits_of state.view state.words object)
  pub used : (object : Object) → AreBitsOf (bits_of state.view state.words object) (state.uses object)
  pub clears : (client : ℕ) → ClearsWell state.view state.words state.uses (state.clients client).clearing

-- ---- marks

abbrev pub IsReadyAt : Client → Object → Type 0
IsReadyAt client object =
    IsMarked (blocks_of client.stock object.class) (region_of object.pointer) (block_of object.pointer)
    (number_of object.pointer object.class)

-- the release of the object's block has not begun
abbrev pub IsKeptAt : Client → Object → Type 0
IsKeptAt client object = Contains client.released (region_of object.pointer, block_of object.pointer) → ⊥

-- it is untaken, or the one that was just cleared
abbrev pub IsFreeBut : Clearing → (Object → Use) → Object → Type 0
IsFreeBut clearing uses object =
    (uses object ≡ Untaken)
    ⊎ ((given : Given) × (clearing ≡ Cleared object.class given) × (object ≡ object_of object.class given))

-- what the client holds ready in a block whose release has not begun is so
abbrev pub HoldsFree : Viewed → (Object → Use) → Client → Type 0
HoldsFree view uses client =
    (object : Object) → IsObject view.shape object → IsKeptAt client object → IsReadyAt client object
    → IsFreeBut client.clearing uses object

unfoldable pub AllHoldFree : State → Type 0
AllHoldFree state = (number : ℕ) → HoldsFree state.view state.uses (state.clients number)

-- ---- what a clearing clears is what the last choosing of its class gave

abbrev pub ClearsGift : (ℕ → Option Given) → Clearing → Type 0
ClearsGift given NotClearing = Unit {0}
ClearsGift given (Under class one change) = given class ≡ Some one
ClearsGift given (Cleared class one) = given class ≡ Some one

unfoldable pub AllClearGifts : (ℕ → Client) → Type 0
AllClearGifts clients = (number : ℕ) → ClearsGift (clients number).given (clients number).clearing

-- ---- what has become of an object

is_same-self : (object other : Object) → object ≡ other → is_same object other ≡ true
is_same-self object other same =
    rw (eq-eqb object.pointer other.pointer (ap (λ (o : Object). o.pointer) same), eq-eqb object.class other.class (ap (λ (o : Object). o.class) same))
    refl

false_true : {A : Type 0} → false ≡ true → A
false_true is = absurd cc

pub at_use : (P : Use → Type 0) (uses : Object → Use) (object : Object) (use_of : Use) (other : Object)
    → (object ≡ other → P use_of) → (object ≢ other → P (uses other)) → P (with_use uses object use_of other)
at_use P uses object use_of other here there =
    cond_both (is_same object other) use_of (uses other) P (λ same. here (is_same-true object other same))
    (λ apart. there (λ same. false_true (sym apart ∙ is_same-self object other same)))

pub object_cases : (one other : Object) → (one ≡ other) ⊎ (one ≢ other)
object_cases one other =
    elim (cases_Bool (is_same one other)) [
      | inl same ↦ inl (is_same-true one other same)
      | inr apart ↦ inr (λ same. false_true (sym apart ∙ is_same-self one other same))
    ]
