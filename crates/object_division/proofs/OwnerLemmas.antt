-- Who owns the blocks of what is held ready and of what is cleared; and that a change of a bit leaves the bits of the others.
use Rattle.std.proofs.Common.{◌≡◌, ◌≢◌, ℕ, ◌<◌, ◌^◌, true, false, inl, inr, Some, sym, ◌∙◌, subst}
use Rattle.block_claims.proofs.Soundness.{IsOwner}
use Rattle.machine.specs.BitChange as bits
use Rattle.machine.specs.BitChange.{BitChange, IsBitChange, Look, bitmap_place}
use Rattle.machine.specs.ObjectNames.{IsObject, Object, block_of, number_of}
use Rattle.pointer_fields.specs.Pointer.{region_of}
use Rattle.verb_words.specs.Applied.{words_after}
use Rattle.verb_words.specs.Words.{word_at}
use Rattle.object_division.specs.Allowed.{stock_of}
use Rattle.object_division.specs.Claims.{IsOpen, IsOpenTo}
use Rattle.object_division.specs.Client.{Active, Client, Given, Under}
use Rattle.object_division.specs.Marks.{IsRipe, blocks_of}
use Rattle.object_division.specs.Run.{State, answered, object_of}
use Rattle.object_division.specs.Seen.{HasComeStraight, IsStraight, bits_of, seen, seen_turn}
use Rattle.object_division.proofs.BitStepLemmas.{object_held, others_seen, place_held, replica_held}
use Rattle.object_division.proofs.BitmapLemmas.{SmallBitmaps}
use Rattle.object_division.proofs.BlockWordLemmas.{block_words, primary-block_words}
use Rattle.object_division.proofs.CallLemmas.{AllInCalls}
use Rattle.object_division.proofs.ClassLemmas.{HasClass, HasOpen, IsGranted-has, open_apart}
use Rattle.object_division.proofs.ClearerLemmas.{marks_owned, under_clears}
use Rattle.object_division.proofs.InOrder.{IsKeptAt, IsReadyAt}
use Rattle.object_division.proofs.MovedLemmas.{KeepsClass, KeepsClass-same}
use Rattle.object_division.proofs.OwnLemmas.{AllHaveTheirOwn, clearer_owns}
use Rattle.object_division.proofs.Soundness.{AreNamed, IsSound, IsSoundClearing}
use Rattle.object_division.proofs.StepLemmas.{SameBlocks-change, object_block}
use Rattle.object_division.proofs.UnderWayLemmas.{straight-goes, straight_is, under_way-right}

-- ---- owners

abbrev pub Owns : State → ℕ → Object → Type 0
Owns state client object =
    IsOwner (block_words state.view state.words (region_of object.pointer) (block_of object.pointer)) client object.class

-- who holds an object ready owns its block, until the release of that begins
pub ready_owned : (state : State) (client : ℕ) (object : Object) → IsSound state → IsKeptAt (state.clients client) object
    → IsReadyAt (state.clients client) object → Owns state client object
ready_owned state client object sound kept is =
    marks_owned state client object.class (region_of object.pointer) (block_of object.pointer)
    (number_of object.pointer object.class) sound kept is

pub clearer_active : (state : State) (client class : ℕ) (given : Given) (change : BitChange) → AllInCalls state
    → (state.clients client).clearing ≡ Under class given change → (state.clients client).service ≡ Active
unfolding AllInCalls
clearer_active state client class given change calls clears =
    (calls client (inl (λ none. under_clears class given change (sym clears ∙ none)))).0.active

pub cleared_owned : (state : State) (client class : ℕ) (given : Given) (change : BitChange) → IsSound state
    → AllHaveTheirOwn state.clients → AllInCalls state → (state.clients client).clearing ≡ Under class given change
    → Owns state client (object_of class given)
cleared_owned state client class given change sound own calls clears =
    (clearer_owns state client class given change sound own
    (clearer_active state client class given change calls clears) clears).0

pub HasClass-owned : (state : State) (client : ℕ) (object : Object) → Owns state client object
    → HasClass state.view state.words object
unfolding HasClass
HasClass-owned state client object owner = inr (client, owner.primary)

pub HasOpen-class : (state : State) (object : Object) → HasClass state.view state.words object
    → HasOpen state.view state.words object
unfolding HasClass HasOpen
HasOpen-class state object has = inr has

pub IsOpen-has : (state : State) (object : Object) → IsSound state → IsObject state.view.shape object
    → HasOpen state.view state.words object → IsOpen state object
unfolding HasOpen
IsOpen-has state object sound is has =
    subst (λ w. IsOpenTo w object.class)
    (primary-block_words state.view state.words (region_of object.pointer) (block_of object.pointer) sound.is_view
    (object_block state.view object is)) has

-- ---- objects

pub given_object : (state : State) (class : ℕ) (given : Given) → AreNamed state.view.shape class given
    → IsObject state.view.shape (object_of class given)
given_object state class given named = record { class = named.below; named = named.object }

pub cleared_object : (state : State) (client class : ℕ) (given : Given) (change : BitChange) → IsSound state
    → (state.clients client).clearing ≡ Under class given change
    → IsObject state.view.shape (object_of class given) × IsBitChange state.view change
cleared_object state client class given change sound clears =
    let is : IsSoundClearing state.view (Under class given change) =
    subst (λ c. IsSoundClearing state.view c) clears (sound.clients client).clearing in
    (given_object state class given is.0, is.1)

-- what is ripe is held ready
pub ripe_ready : (client : Client) (object : Object) → IsRipe (blocks_of client.stock object.class) object.class object.pointer
    → IsReadyAt client object
ripe_ready client object is =
    record { own = is.own; has = is.has; region_is = sym is.region; block_is = sym is.block; mark = inl is.ripe }

pub reserve_ready : (state : State) (client : ℕ) (object : Object) → AllHaveTheirOwn state.clients
    → (stock_of (state.clients client) object.class).reserve ≡ Some object.pointer → IsReadyAt (state.clients client) object
unfolding AllHaveTheirOwn
reserve_ready state client object own is =
    ripe_ready (state.clients client) object ((own client).reserves object.class object.pointer is)

-- ---- a change of a bit

small_place : (state : State) (change : BitChange) → IsSound state → SmallBitmaps state.view state.words
    → IsBitChange state.view change → word_at state.words (bitmap_place change) < 2 ^ 64
unfolding SmallBitmaps
small_place state change sound small is =
    subst (λ p. word_at state.words p < 2 ^ 64) (sym (place_held state.view change is))
    (small (region_of change.object.pointer) (block_of change.object.pointer) change.replica
    (object_block state.view change.object (object_held state.view change is)) (replica_held state.view change is))

-- it comes straight on
pub change_goes : (state : State) (change : BitChange) → IsSound state → SmallBitmaps state.view state.words
    → IsBitChange state.view change → (change.phase ≡ Look → change.look ≡ true)
    → IsStraight (bits_of state.view state.words change.object) (seen change)
    → HasComeStraight change.set
    (bits_of state.view (words_after state.words (bits.next change) false) change.object)
    (seen_turn (bits.turn change (answered state (bits.next change))))
change_goes state change sound small is looks straight =
    straight-goes state.view state.words change is sound.places (small_place state change sound small is) looks straight

-- and leaves the bits of every other object whose block is unused or granted for its class
pub others_stay : (state : State) (change : BitChange) → IsSound state → SmallBitmaps state.view state.words
    → IsBitChange state.view change → IsStraight (bits_of state.view state.words change.object) (seen change)
    → HasClass state.view state.words change.object → (other : Object) → IsObject state.view.shape other
    → HasOpen state.view state.words other → other ≢ change.object
    → bits_of state.view (words_after state.words (bits.next change) false) other
    ≡ bits_of state.view state.words other
others_stay state change sound small is straight granted other is_object open_to differs =
    let held = object_held state.view change is in
    others_seen state.view state.words change other
    (under_way-right state.view state.words change is sound.places (small_place state change sound small is)
    (straight_is (bits_of state.view state.words change.object) (seen change) straight)) is_object
    (open_apart state other change.object is_object held differs (IsOpen-has state other sound is_object open_to)
    (IsGranted-has state change.object sound.is_view held granted))

-- a block that is unused or granted for a class then was so before
pub HasOpen-change : (state : State) (change : BitChange) (object : Object) → IsSound state → IsBitChange state.view change
    → IsObject state.view.shape object
    → HasOpen state.view (words_after state.words (bits.next change) false) object → HasOpen state.view state.words object
unfolding HasOpen KeepsClass
HasOpen-change state change object sound is is_object has =
    let new = words_after state.words (bits.next change) false in
    (KeepsClass-same state.view state.words new (SameBlocks-change state.view state.words change sound.is_view is)
    (region_of object.pointer) (block_of object.pointer) object.class (object_block state.view object is_object) is_object.class).1
    has
