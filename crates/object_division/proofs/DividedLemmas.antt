-- The theorem: each object is in stock or taken by one client, and bits are changed the right way, after any steps.
use Rattle.std.proofs.Common.{◌≡◌, ◌≢◌, ℕ, ◌<◌, List, [], ◌∷◌, Some, sym, ◌∙◌, ap, subst, arith}
use Rattle.machine.specs.BitChange.{BitChange, IsBitChange, bit_number, has_bit}
use Rattle.machine.specs.EpochRead.{IsView}
use Rattle.machine.specs.ObjectNames.{IsObject, Object, bitmap_of, block_of}
use Rattle.machine.specs.Places.{replica_count}
use Rattle.pointer_fields.specs.Pointer.{region_of}
use Rattle.region_view.specs.Placed.{Viewed}
use Rattle.verb_words.specs.Words.{word_at}
use Rattle.object_division.specs.Allowed.{IsAllowed, MayHappen}
use Rattle.object_division.specs.Claims.{Holds, HoldsAlong, IsDividedState, IsReserve, IsRight, IsSetEverywhere, Takes}
use Rattle.object_division.specs.Client.{Given, Returning, Under, Untaken}
use Rattle.object_division.specs.Run.{Event, State, happens, object_of, opening, run}
use Rattle.object_division.specs.Seen.{IsStraight, bits_of, seen}
use Rattle.object_division.specs.Stocked.{IsStocked}
use Rattle.object_division.proofs.BitStepLemmas.{bits_of-at, length-bits_of, place_held, replica_held}
use Rattle.object_division.proofs.BlockLemmas.{gained_soundly}
use Rattle.object_division.proofs.ChangeOfLemmas.{ClearingIsOf, UseIsOf}
use Rattle.object_division.proofs.ClassLemmas.{HasClass-granted}
use Rattle.object_division.proofs.ClearerLemmas.{active_keeps}
use Rattle.object_division.proofs.InOrder.{AllClearGifts, AllHoldFree, AreBitsOf, ClearsGift, ClearsWell, IsBeingCleared, IsReadyAt}
use Rattle.object_division.proofs.InOrderLemmas.{IsInOrder, clearer_holds, order-happens, order-opening, order-run}
use Rattle.object_division.proofs.OwnLemmas.{takes_unreserved}
use Rattle.object_division.proofs.OwnerLemmas.{HasClass-owned, HasOpen-class, Owns, cleared_object, ready_owned, reserve_ready}
use Rattle.object_division.proofs.ReadyLemmas.{untaken_but}
use Rattle.object_division.proofs.Soundness.{IsSoundUse}
use Rattle.object_division.proofs.StockLemmas.{all_set, divided_object, stock_untaken}

-- ---- reserves

-- a reserve that is not what a choosing gave is in stock on every replica
reserve_set : (state : State) (client class pointer : ℕ) → IsInOrder state → IsReserve state client class pointer
    → ((given : Given) → (state.clients client).given class ≡ Some given → given.object ≢ pointer)
    → IsSetEverywhere state (record { pointer = pointer; class = class })
unfolding AllHoldFree AllClearGifts
reserve_set state client class pointer order reserve not_given =
    all_set state object
    (order.bits.free object is (HasOpen-class state object (HasClass-owned state client object owner)) untaken uncleared)
  where
    object : Object
    object = record { pointer = pointer; class = class }

    ready : IsReadyAt (state.clients client) object
    ready = reserve_ready state client object order.kept.own reserve.is

    owner : Owns state client object
    owner = ready_owned state client object order.kept.sound reserve.kept ready

    is : IsObject state.view.shape object
    is =
        record {
          class = owner.class_within;
          named = ((order.kept.sound.clients client).stock.classes class owner.class_within).reserve pointer reserve.is;
        }

    untaken : state.uses object ≡ Untaken
    untaken =
        untaken_but (state.clients client).clearing state.uses object
        (λ given clears same.
        not_given given (subst (λ c. ClearsGift (state.clients client).given c) clears (order.gifts client))
        (ap (λ (o : Object). o.pointer) (sym same))) (order.ready client object is reserve.kept ready)

    gift : (one of_class : ℕ) (given : Given) (change : BitChange) → (state.clients one).clearing ≡ Under of_class given change
        → (state.clients one).given of_class ≡ Some given
    gift one of_class given change clears = subst (λ c. ClearsGift (state.clients one).given c) clears (order.gifts one)

    uncleared : IsBeingCleared state.clients object → ⊥
    uncleared cleared =
        not_given cleared.given
        (ap (λ n. (state.clients n).given class) (clearer_holds state client object order reserve.kept ready cleared)
        ∙ (ap (λ k. (state.clients cleared.client).given k) (ap (λ (o : Object). o.class) (sym cleared.object_is))
        ∙ gift cleared.client cleared.class cleared.given cleared.change cleared.clears))
        (ap (λ (o : Object). o.pointer) cleared.object_is)

divided_state : (state : State) → IsInOrder state → IsDividedState state
divided_state state order =
    record {
      owned = λ client class own gained. gained_soundly state client class own order.kept.sound gained;
      divided = λ object is granted.
          divided_object state object order.kept.sound.is_view order.of_objects order.bits is
          (HasOpen-class state object (HasClass-granted state object order.kept.sound.is_view is granted));
      reserves = λ client class pointer reserve not_given. reserve_set state client class pointer order reserve not_given;
    }

-- ---- adds

-- the bit at a straight change's own replica is as it is not wanted
straight_right : (state : State) (change : BitChange) (object : Object) → IsBitChange state.view change → change.object ≡ object
    → IsStraight (bits_of state.view state.words object) (seen change) → IsRight state change
straight_right state change object is same straight adds =
    ap (λ p. has_bit (word_at state.words p) (bit_number change)) (place_held state.view change is)
    ∙ (sym (bits_of-at state.view state.words change.object change.replica within)
    ∙ here.to_do change.replica (omega arith)
    (omega (arith, within, length-bits_of state.view state.words change.object)))
  where
    within : change.replica < replica_count state.view (bitmap_of change.object.pointer)
    within = replica_held state.view change is

    here : IsStraight (bits_of state.view state.words change.object) (seen change)
    here = subst (λ o. IsStraight (bits_of state.view state.words o) (seen change)) (sym same) straight

clearing_right : (state : State) (client class : ℕ) (given : Given) (change : BitChange) → IsInOrder state
    → (state.clients client).clearing ≡ Under class given change → IsRight state change
clearing_right state client class given change order clears =
    straight_right state change (object_of class given)
    (cleared_object state client class given change order.kept.sound clears).1
    (subst (λ c. ClearingIsOf c) clears (order.of_objects.clears client)).0.object_is
    (subst (λ c. ClearsWell state.view state.words state.uses c) clears (order.bits.clears client)).0

setting_right : (state : State) (client taker : ℕ) (object : Object) (change : BitChange) → IsInOrder state
    → state.uses object ≡ Returning taker client change → IsRight state change
setting_right state client taker object change order sets =
    straight_right state change object (subst (IsSoundUse state.view object) sets (order.kept.sound.uses object)).1
    (subst (UseIsOf object) sets (order.of_objects.sets object)).object_is
    (subst (AreBitsOf (bits_of state.view state.words object)) sets (order.bits.used object))

-- ---- the theorem

taken_stocked : (state : State) (event : Event) (client : ℕ) (object : Object) → IsInOrder state
    → Takes state event client object → state.uses object ≡ Untaken
taken_stocked state event client object order takes =
    ap state.uses takes.object_is
    ∙ (subst (λ c. ClearsWell state.view state.words state.uses c) takes.clears (order.bits.clears client)).1

holds : (state : State) (event : Event) → MayHappen state event → IsInOrder state → Holds state event
holds state event may order =
    record {
      after = divided_state (happens state event) (order-happens state event may order);
      stocked = λ client object takes. taken_stocked state event client object order takes;
      unreserved = λ client other object takes apart reserve.
          takes_unreserved state event client other object order.kept.sound order.kept.own may takes apart reserve;
      cleared = λ client class given change is clears. clearing_right state client class given change order clears;
      set = λ client taker object change is sets. setting_right state client taker object change order sets;
    }

holds_along : (state : State) (events : List Event) → IsAllowed state events → IsInOrder state → HoldsAlong state events
holds_along state [] allowed order = tt
holds_along state (event ∷ events) allowed order = (
  holds state event allowed.0 order,
  holds_along (happens state event) events allowed.1 (order-happens state event allowed.0 order),
)

pub divided_along : (view : Viewed) (events : List Event) → IsView view → IsAllowed (opening view) events
    → HoldsAlong (opening view) events
divided_along view events is allowed = holds_along (opening view) events allowed (order-opening view is)

stocked_in_order : (state : State) → IsInOrder state → IsStocked state
unfolding AllHoldFree
stocked_in_order state order =
    record {
      found = λ object is granted in_stock.
          stock_untaken state object order.kept.sound.is_view order.of_objects order.bits is in_stock;
      marked = λ client object active is marked.
          order.ready client object is
          (active_keeps state client (region_of object.pointer) (block_of object.pointer) order.kept.own active) marked;
    }

pub stocked_after : (view : Viewed) (events : List Event) → IsView view → IsAllowed (opening view) events
    → IsStocked (run (opening view) events)
stocked_after view events is allowed =
    stocked_in_order (run (opening view) events) (order-run (opening view) events allowed (order-opening view is))
