-- The steps that change no bit leave the bits of each object as its use, and its clearing, say.
use Rattle.std.proofs.Common.{◌≡◌, ℕ, Bool, true, false, List, refl, sym, ◌∙◌, ap, subst}
use Rattle.machine.specs.declared.choosing.Took.{Took}
use Rattle.machine.specs.declared.choosing.Took.TheVariants as took
use Rattle.machine.specs.BitChange.{BitChange, bit_change_of}
use Rattle.machine.specs.ObjectNames.{IsObject, Object}
use Rattle.machine.specs.Stock.{Stock}
use Rattle.object_bits.specs.Claims.{AreAll}
use Rattle.region_view.specs.Placed.{Viewed}
use Rattle.reuse_grace.proofs.Soundness.{at_updated}
use Rattle.reuse_grace.specs.Stock.{updated}
use Rattle.object_division.specs.Client.{Cleared, Clearing, Client, Given, Named, NotClearing, Returning, Taken, Under, Untaken, Use}
use Rattle.object_division.specs.Run.{State, named, object_of, renewed, returning, told, with_client, with_use}
use Rattle.object_division.specs.Seen.{IsStraight, bits_of, seen}
use Rattle.object_division.proofs.BitmapLemmas.{SameBitmaps, bits_of-same}
use Rattle.object_division.proofs.ClassLemmas.{HasOpen}
use Rattle.object_division.proofs.InOrder.{AreBitsOf, ClearsWell, HasBits, IsBeingCleared, at_use}
use Rattle.object_division.proofs.OwnerLemmas.{cleared_object}
use Rattle.object_division.proofs.Soundness.{IsSound, IsSoundUse}
use Rattle.object_division.proofs.UnderWayLemmas.{straight_begun}

-- ---- other words, with the same bitmaps

used_same : (view : Viewed) (words new : List (List ℕ)) (object : Object) (use_of : Use) → SameBitmaps view words new
    → IsSoundUse view object use_of → AreBitsOf (bits_of view words object) use_of → AreBitsOf (bits_of view new object) use_of
used_same view words new object Untaken same sound is = tt
used_same view words new object (Taken client) same sound is =
    subst (AreAll false) (sym (bits_of-same view words new object same sound)) is
used_same view words new object (Named client namer) same sound is =
    subst (AreAll false) (sym (bits_of-same view words new object same sound)) is
used_same view words new object (Returning client namer change) same sound is =
    subst (λ list. IsStraight list (seen change)) (sym (bits_of-same view words new object same sound.0)) is

clears_same : (state : State) (new : List (List ℕ)) (client : ℕ) (clearing : Clearing)
    → (state.clients client).clearing ≡ clearing → IsSound state → SameBitmaps state.view state.words new
    → ClearsWell state.view state.words state.uses clearing → ClearsWell state.view new state.uses clearing
clears_same state new client NotClearing is sound same well = tt
clears_same state new client (Under class given change) is sound same well = (
  subst (λ list. IsStraight list (seen change))
      (sym (bits_of-same state.view state.words new (object_of class given) same (cleared_object state client class given change sound is).0))
      well.0,
  well.1,
)
clears_same state new client (Cleared class given) is sound same well = tt

pub HasBits-words : (state : State) (new : List (List ℕ)) → IsSound state → SameBitmaps state.view state.words new
    → ((object : Object) → IsObject state.view.shape object → HasOpen state.view new object → HasOpen state.view state.words object)
    → HasBits state → HasBits (record state { words = new })
HasBits-words state new sound same before has =
    record {
      free = λ object is open_to untaken uncleared.
          subst (AreAll true) (sym (bits_of-same state.view state.words new object same is))
          (has.free object is (before object is open_to) untaken uncleared);
      used = λ object.
          used_same state.view state.words new object (state.uses object) same (sound.uses object) (has.used object);
      clears = λ client.
          clears_same state new client (state.clients client).clearing refl sound same (has.clears client);
    }

-- ---- another client

-- it clears what it cleared, and clears well
pub HasBits-client : (state : State) (number : ℕ) (client : Client)
    → ((class : ℕ) (given : Given) (change : BitChange) → (state.clients number).clearing ≡ Under class given change
    → client.clearing ≡ Under class given change)
    → ClearsWell state.view state.words state.uses client.clearing → HasBits state
    → HasBits (with_client state number client)
HasBits-client state number client still well has =
    record {
      free = λ object is open_to untaken uncleared.
          has.free object is open_to untaken (λ cleared. uncleared (is_still object cleared));
      used = has.used;
      clears = λ other.
          at_updated (λ (c : Client). ClearsWell state.view state.words state.uses c.clearing) state.clients number client other
          (λ same. well) (λ apart. has.clears other);
    }
  where
    is_still : (object : Object) → IsBeingCleared state.clients object → IsBeingCleared (updated state.clients number client) object
    is_still object is =
        record {
          client = is.client;
          class = is.class;
          given = is.given;
          change = is.change;
          clears =
              at_updated (λ (c : Client). c.clearing ≡ Under is.class is.given is.change) state.clients number client is.client
              (λ same.
              still is.class is.given is.change (ap (λ n. (state.clients n).clearing) same ∙ is.clears))
              (λ apart. is.clears);
          object_is = is.object_is;
        }

-- it clears as before
pub HasBits-kept : (state : State) (number : ℕ) (client : Client) → client.clearing ≡ (state.clients number).clearing
    → HasBits state → HasBits (with_client state number client)
HasBits-kept state number client kept has =
    HasBits-client state number client (λ class given change is. kept ∙ is)
    (subst (λ c. ClearsWell state.view state.words state.uses c) (sym kept) (has.clears number)) has

pub told-clearing : (client : Client) (stock : Stock) (answer : Took) → (told client stock answer).clearing ≡ client.clearing
told-clearing client stock took.Going = refl
told-clearing client stock (took.Have object next_object) = refl
told-clearing client stock (took.NoSpace class awaited begin) = refl
told-clearing client stock (took.Refused node) = refl

cleared_under : {A : Type 0} (class of_class : ℕ) (given of_given : Given) (change : BitChange)
    → Cleared class given ≡ Under of_class of_given change → A
cleared_under class of_class given of_given change is = absurd cc

pub HasBits-renewed : (state : State) (number : ℕ) (clearing : Clearing) → (state.clients number).clearing ≡ clearing
    → HasBits state → HasBits (with_client state number (renewed (state.clients number) clearing))
HasBits-renewed state number NotClearing is has = HasBits-kept state number (state.clients number) refl has
HasBits-renewed state number (Under class given change) is has = HasBits-kept state number (state.clients number) refl has
HasBits-renewed state number (Cleared class given) is has =
    HasBits-client state number (renewed (state.clients number) (Cleared class given))
    (λ of_class of_given change under. cleared_under class of_class given of_given change (sym is ∙ under)) tt has

-- ---- another use of an object

clears_free : (view : Viewed) (words : List (List ℕ)) (uses new : Object → Use) (clearing : Clearing)
    → ((object : Object) → uses object ≡ Untaken → new object ≡ Untaken) → ClearsWell view words uses clearing
    → ClearsWell view words new clearing
clears_free view words uses new NotClearing still well = tt
clears_free view words uses new (Under class given change) still well = (well.0, still (object_of class given) well.1)
clears_free view words uses new (Cleared class given) still well = tt

pub HasBits-use : (state : State) (object : Object) (use_of : Use) → (use_of ≡ Untaken → state.uses object ≡ Untaken)
    → (state.uses object ≡ Untaken → use_of ≡ Untaken) → AreBitsOf (bits_of state.view state.words object) use_of
    → HasBits state → HasBits (record state { uses = with_use state.uses object use_of })
HasBits-use state object use_of back forth bits has =
    record {
      free = λ other is open_to untaken uncleared. has.free other is open_to (was_free other untaken) uncleared;
      used = λ other.
          at_use (λ u. AreBitsOf (bits_of state.view state.words other) u) state.uses object use_of other
          (λ same. subst (λ o. AreBitsOf (bits_of state.view state.words o) use_of) same bits) (λ apart. has.used other);
      clears = λ client.
          clears_free state.view state.words state.uses (with_use state.uses object use_of) (state.clients client).clearing
          is_free (has.clears client);
    }
  where
    was_free : (other : Object) → with_use state.uses object use_of other ≡ Untaken → state.uses other ≡ Untaken
    was_free other =
        at_use (λ u. u ≡ Untaken → state.uses other ≡ Untaken) state.uses object use_of other
        (λ same now. ap state.uses (sym same) ∙ back now) (λ apart now. now)

    is_free : (other : Object) → state.uses other ≡ Untaken → with_use state.uses object use_of other ≡ Untaken
    is_free other before =
        at_use (λ u. u ≡ Untaken) state.uses object use_of other (λ same. forth (ap state.uses same ∙ before))
        (λ apart. before)

named_free : {A : Type 0} (client namer : ℕ) → Named client namer ≡ Untaken → A
named_free client namer is = absurd cc

returning_free : {A : Type 0} (client namer : ℕ) (change : BitChange) → Returning client namer change ≡ Untaken → A
returning_free client namer change is = absurd cc

pub HasBits-named : (state : State) (object : Object) (namer : ℕ) (use_of : Use) → state.uses object ≡ use_of → HasBits state
    → HasBits (record state { uses = with_use state.uses object (named namer use_of) })
HasBits-named state object namer use_of is has =
    HasBits-use state object (named namer use_of) (λ now. is ∙ back use_of now)
    (λ before. ap (named namer) (sym is ∙ before))
    (here use_of (subst (AreBitsOf (bits_of state.view state.words object)) is (has.used object))) has
  where
    back : (before : Use) → named namer before ≡ Untaken → before ≡ Untaken
    back Untaken now = refl
    back (Taken client) now = named_free client namer now
    back (Named client other) now = now
    back (Returning client other change) now = now

    here : (before : Use) → AreBitsOf (bits_of state.view state.words object) before
        → AreBitsOf (bits_of state.view state.words object) (named namer before)
    here Untaken bits = tt
    here (Taken client) bits = bits
    here (Named client other) bits = bits
    here (Returning client other change) bits = bits

pub HasBits-returning : (state : State) (object : Object) (look : Bool) (use_of : Use) → state.uses object ≡ use_of
    → IsSound state → HasBits state
    → HasBits (record state { uses = with_use state.uses object (returning state.view object look use_of) })
HasBits-returning state object look use_of is sound has =
    HasBits-use state object (returning state.view object look use_of) (λ now. is ∙ back use_of now)
    (λ before. ap (returning state.view object look) (sym is ∙ before))
    (here use_of (subst (IsSoundUse state.view object) is (sound.uses object))
    (subst (AreBitsOf (bits_of state.view state.words object)) is (has.used object))) has
  where
    back : (before : Use) → returning state.view object look before ≡ Untaken → before ≡ Untaken
    back Untaken now = refl
    back (Taken client) now = now
    back (Named client namer) now = returning_free client namer (bit_change_of state.view object true look) now
    back (Returning client namer change) now = now

    here : (before : Use) → IsSoundUse state.view object before → AreBitsOf (bits_of state.view state.words object) before
        → AreBitsOf (bits_of state.view state.words object) (returning state.view object look before)
    here Untaken sound_use bits = tt
    here (Taken client) sound_use bits = bits
    here (Named client namer) sound_use bits =
        straight_begun state.view state.words object true look sound.is_view sound_use bits
    here (Returning client namer change) sound_use bits = bits
