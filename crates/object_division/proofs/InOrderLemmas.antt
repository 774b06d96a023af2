-- The record of bits and marks, with all that it rests on, is kept along all steps.
use Rattle.std.proofs.Common.{◌≡◌, ℕ, false, List, [], ◌∷◌, Some, refl, sym, ◌∙◌, ap, subst}
use Rattle.machine.specs.BitChange.{BitChange}
use Rattle.machine.specs.Choosing.{begins, next, turn}
use Rattle.machine.specs.EpochRead.{IsView}
use Rattle.machine.specs.ObjectNames.{IsObject, Object, block_of}
use Rattle.pointer_fields.specs.Pointer.{region_of}
use Rattle.region_view.specs.Placed.{Viewed}
use Rattle.verb_words.specs.Applied.{words_after}
use Rattle.object_division.specs.Allowed.{IsAllowed, MayHappen}
use Rattle.object_division.specs.Client.{Active, Client, Given, NotClearing, Releasing, Retired, Service, Under, Untaken}
use Rattle.object_division.specs.Run.{Begin, Choose, Clear, ClearNext, End, Event, Name, Release, ReleaseNext, Renew, Retire, Return, ReturnNext, Seek, State, answered, clearing_of, happens, object_of, opening, released_next, run, service_after, told}
use Rattle.object_division.proofs.BitChangedLemmas.{IsChanging, bits-cleared_next, bits-returned_next}
use Rattle.object_division.proofs.BitKeptLemmas.{HasBits-client, HasBits-kept, HasBits-named, HasBits-renewed, HasBits-returning, HasBits-words, told-clearing}
use Rattle.object_division.proofs.BitmapLemmas.{SameBitmaps, SmallBitmaps, bitmaps-happens, set_at_first, small-happens, small-opening}
use Rattle.object_division.proofs.BlockWordLemmas.{block_words}
use Rattle.object_division.proofs.CallLemmas.{AllInCalls, calls-happens, calls-opening}
use Rattle.object_division.proofs.ChangeOfLemmas.{AreOf, of-happens, of-opening}
use Rattle.object_division.proofs.ClassLemmas.{HasOpen, HasOpen-happens, view-happens}
use Rattle.object_division.proofs.ClearedGiftLemmas.{gifts-happens, gifts-opening}
use Rattle.object_division.proofs.ClearerLemmas.{active_keeps, one_owner}
use Rattle.object_division.proofs.InOrder.{AllClearGifts, AllHoldFree, ClearsWell, HasBits, IsBeingCleared, IsKeptAt, IsReadyAt}
use Rattle.object_division.proofs.OwnLemmas.{AllHaveTheirOwn}
use Rattle.object_division.proofs.OwnerLemmas.{HasClass-owned, HasOpen-class, Owns, cleared_owned, given_object, ready_owned, reserve_ready}
use Rattle.object_division.proofs.ReadyLemmas.{IsReadied, not_cleared, ready-happens, ready-opening, untaken_but}
use Rattle.object_division.proofs.Soundness.{IsSound}
use Rattle.object_division.proofs.SortedLemmas.{AllSorted, sorted-happens, sorted-opening}
use Rattle.object_division.proofs.StockLemmas.{set_all, stock_untaken}
use Rattle.object_division.proofs.UnderWayLemmas.{straight_begun}
use Rattle.object_division.proofs.UntakenBlockLemmas.{IsKept, IsKept-happens, IsKept-opening}

-- how the bits stand, what is held ready, and all that this rests on
pub record IsInOrder (state : State) : Type 0 where
  pub kept : IsKept state
  pub sorted : AllSorted state.clients
  pub calls : AllInCalls state
  pub small : SmallBitmaps state.view state.words
  pub of_objects : AreOf state.clients state.uses
  pub gifts : AllClearGifts state.clients
  pub bits : HasBits state
  pub ready : AllHoldFree state

pub changing_in_order : (state : State) → IsInOrder state → IsChanging state
changing_in_order state order =
    record { kept = order.kept; of_objects = order.of_objects; calls = order.calls; small = order.small }

-- ---- a clearing begins at a bit that is set on every replica

not_under : (class : ℕ) (given : Given) (change : BitChange) → NotClearing ≡ Under class given change → ⊥
not_under class given change is = cc

-- who clears an object is the one that holds it ready
pub clearer_holds : (state : State) (client : ℕ) (object : Object) → IsInOrder state → IsKeptAt (state.clients client) object
    → IsReadyAt (state.clients client) object → (cleared : IsBeingCleared state.clients object) → client ≡ cleared.client
clearer_holds state client object order kept ready cleared =
    one_owner (block_words state.view state.words (region_of object.pointer) (block_of object.pointer)) client cleared.client
    object.class object.class (ready_owned state client object order.kept.sound kept ready)
    (subst (λ o. Owns state cleared.client o) cleared.object_is
    (cleared_owned state cleared.client cleared.class cleared.given cleared.change order.kept.sound order.kept.own order.calls
    cleared.clears))

clearing_begins : (state : State) (number class : ℕ) (given : Given) → IsInOrder state
    → (state.clients number).service ≡ Active → (state.clients number).clearing ≡ NotClearing
    → (state.clients number).given class ≡ Some given
    → ClearsWell state.view state.words state.uses (clearing_of state.view class (Some given))
unfolding AllHaveTheirOwn AllHoldFree
clearing_begins state number class given order active none has = (
  straight_begun state.view state.words object false false sound.is_view is
      (order.bits.free object is
      (HasOpen-class state object
      (HasClass-owned state number object (ready_owned state number object sound kept ready))) untaken uncleared),
  untaken,
)
  where
    object : Object
    object = object_of class given

    sound : IsSound state
    sound = order.kept.sound

    is : IsObject state.view.shape object
    is = given_object state class given ((sound.clients number).given class given has)

    kept : IsKeptAt (state.clients number) object
    kept = active_keeps state number (region_of object.pointer) (block_of object.pointer) order.kept.own active

    ready : IsReadyAt (state.clients number) object
    ready = reserve_ready state number object order.kept.own ((order.kept.own number).given class given has).reserve

    untaken : state.uses object ≡ Untaken
    untaken =
        untaken_but (state.clients number).clearing state.uses object
        (λ one clears. absurd (not_cleared class one (sym none ∙ clears))) (order.ready number object is kept ready)

    uncleared : IsBeingCleared state.clients object → ⊥
    uncleared cleared =
        not_under cleared.class cleared.given cleared.change
        (sym none
        ∙ (ap (λ n. (state.clients n).clearing) (clearer_holds state number object order kept ready cleared) ∙ cleared.clears))

begun_bits : (state : State) (number class : ℕ) (given : Given) → IsInOrder state
    → (state.clients number).service ≡ Active → (state.clients number).clearing ≡ NotClearing
    → (state.clients number).given class ≡ Some given → HasBits (happens state (Clear number class))
begun_bits state number class given order active none has =
    HasBits-client state number later
    (λ of_class one change clears. absurd (not_under of_class one change (sym none ∙ clears)))
    (subst (λ gift. ClearsWell state.view state.words state.uses (clearing_of state.view class gift)) (sym has)
    (clearing_begins state number class given order active none has)) order.bits
  where
    later : Client
    later = record (state.clients number) { clearing = clearing_of state.view class ((state.clients number).given class) }

-- ---- any step

-- a step that changes no bitmap
same_bits : (state : State) (event : Event) → MayHappen state event → IsInOrder state
    → SameBitmaps state.view state.words (happens state event).words
    → HasBits (record state { words = (happens state event).words })
same_bits state event may order same =
    HasBits-words state (happens state event).words order.kept.sound same
    (λ object is open_to.
    HasOpen-happens state event object may order.kept.sound is
    (subst (λ v. HasOpen v (happens state event).words object) (sym (view-happens state event)) open_to)) order.bits

released_bits : (state : State) (number : ℕ) (service : Service)
    → HasBits (record state { words = (released_next state number service).words }) → HasBits (released_next state number service)
released_bits state number Active has = has
released_bits state number Retired has = has
released_bits state number (Releasing region block class replicas) has =
    HasBits-kept (record state { words = (released_next state number (Releasing region block class replicas)).words }) number
    (record (state.clients number) { service = service_after state.view region block class replicas }) refl has

bits-happens : (state : State) (event : Event) → MayHappen state event → IsInOrder state → HasBits (happens state event)
bits-happens state (Begin client) may order =
    same_bits state (Begin client) may order (bitmaps-happens state (Begin client) may order.kept.sound (λ is. is))
bits-happens state (End client) may order =
    same_bits state (End client) may order (bitmaps-happens state (End client) may order.kept.sound (λ is. is))
bits-happens state (Choose number class) may order =
    let client = state.clients number in
    let t = begins client.stock state.view.mask class in
    HasBits-kept state number (told client t.state t.told) (told-clearing client t.state t.told) order.bits
bits-happens state (Seek number) may order =
    let client = state.clients number in
    let t = turn client.stock (answered state (next client.stock)) in
    HasBits-kept (record state { words = words_after state.words (next client.stock) false }) number (told client t.state t.told)
    (told-clearing client t.state t.told)
    (same_bits state (Seek number) may order (bitmaps-happens state (Seek number) may order.kept.sound (λ is. is)))
bits-happens state (Clear number class) may order =
    begun_bits state number class may.2.0 order may.0.active.active may.0.clearing may.2.1
bits-happens state (ClearNext number) may order =
    bits-cleared_next state number (state.clients number).clearing refl (changing_in_order state order) order.bits
bits-happens state (Renew number) may order =
    HasBits-renewed state number (state.clients number).clearing refl order.bits
bits-happens state (Name client object) may order =
    HasBits-named state object client (state.uses object) refl order.bits
bits-happens state (Return client object look) may order =
    HasBits-returning state object look (state.uses object) refl order.kept.sound order.bits
bits-happens state (ReturnNext client object) may order =
    bits-returned_next state object (state.uses object) refl (changing_in_order state order) order.bits
bits-happens state (Retire number) may order =
    HasBits-kept state number (record (state.clients number) { service = Retired }) refl order.bits
bits-happens state (Release number region block class) may order =
    let client = state.clients number in
    HasBits-kept state number
    (record client { service = Releasing region block class 0; released = (region, block) ∷ client.released }) refl order.bits
bits-happens state (ReleaseNext number) may order =
    released_bits state number (state.clients number).service
    (same_bits state (ReleaseNext number) may order
    (bitmaps-happens state (ReleaseNext number) may order.kept.sound (λ is. is)))

readied_in_order : (state : State) → IsInOrder state → IsReadied state
readied_in_order state order =
    record {
      kept = order.kept;
      sorted = order.sorted;
      calls = order.calls;
      found = λ object is in_stock.
          stock_untaken state object order.kept.sound.is_view order.of_objects order.bits is in_stock;
    }

pub order-happens : (state : State) (event : Event) → MayHappen state event → IsInOrder state → IsInOrder (happens state event)
order-happens state event may order =
    record {
      kept = IsKept-happens state event may order.kept;
      sorted = sorted-happens state event may order.kept.sound order.kept.new order.sorted;
      calls = calls-happens state event may order.kept.sound order.calls;
      small =
          subst (λ v. SmallBitmaps v (happens state event).words) (sym (view-happens state event))
          (small-happens state event may order.kept.sound order.small);
      of_objects = of-happens state event order.of_objects;
      gifts = gifts-happens state event may order.gifts;
      bits = bits-happens state event may order;
      ready = ready-happens state event may (readied_in_order state order) order.ready;
    }

pub order-run : (state : State) (events : List Event) → IsAllowed state events → IsInOrder state → IsInOrder (run state events)
order-run state [] allowed order = order
order-run state (event ∷ events) allowed order =
    order-run (happens state event) events allowed.1 (order-happens state event allowed.0 order)

pub order-opening : (view : Viewed) → IsView view → IsInOrder (opening view)
order-opening view is =
    record {
      kept = IsKept-opening view is;
      sorted = sorted-opening view;
      calls = calls-opening view;
      small = small-opening view is;
      of_objects = of-opening view;
      gifts = gifts-opening view;
      bits = record {
        free = λ object is_object open_to untaken uncleared. set_all (opening view) object (set_at_first view is object is_object);
        used = λ object. tt;
        clears = λ client. tt;
      };
      ready = ready-opening view;
    }
