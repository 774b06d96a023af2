-- An object is cleared by one client, and by none but the one that holds it ready.
use Rattle.std.proofs.Common.{◌≡◌, ℕ, List, [], sym, ◌∙◌, subst, arith}
use Rattle.std.specs.Prelude.{Contains}
use Rattle.block_claims.proofs.Soundness.{IsOwner}
use Rattle.block_claims.proofs.WordLemmas.{owned-same}
use Rattle.machine.specs.BitChange.{BitChange}
use Rattle.machine.specs.EpochRead.{IsView}
use Rattle.machine.specs.ObjectNames.{Object, block_of}
use Rattle.pointer_fields.specs.Pointer.{region_of}
use Rattle.region_view.specs.Placed.{Viewed}
use Rattle.object_division.specs.Allowed.{IsAllowed}
use Rattle.object_division.specs.Client.{Active, Given, NotClearing, Under}
use Rattle.object_division.specs.Marks.{IsMarked, blocks_of}
use Rattle.object_division.specs.Run.{Event, State, object_of, opening, run}
use Rattle.object_division.proofs.BlockLemmas.{IsSound-opening, IsSound-run}
use Rattle.object_division.proofs.BlockWordLemmas.{block_words}
use Rattle.object_division.proofs.CallLemmas.{clearers_inside}
use Rattle.object_division.proofs.OwnLemmas.{AllHaveTheirOwn, clearer_owns, own-opening, own-run}
use Rattle.object_division.proofs.Soundness.{IsSound}

-- a block has one owner
pub one_owner : (words : List ℕ) (client other class of_other : ℕ) → IsOwner words client class → IsOwner words other of_other
    → client ≡ other
one_owner words client other class of_other owner also =
    (owned-same client other class of_other owner.client_within owner.class_within also.client_within also.class_within
    (sym owner.primary ∙ also.primary)).0

OwnsAt : State → ℕ → ℕ → ℕ → ℕ → Type 0
OwnsAt state client class region block = IsOwner (block_words state.view state.words region block) client class

pub two_clearers : (state : State) (client other class of_other : ℕ) (given of_given : Given) (change of_change : BitChange)
    → IsSound state → AllHaveTheirOwn state.clients → (state.clients client).service ≡ Active
    → (state.clients other).service ≡ Active → (state.clients client).clearing ≡ Under class given change
    → (state.clients other).clearing ≡ Under of_other of_given of_change
    → object_of class given ≡ object_of of_other of_given → client ≡ other
unfolding OwnsAt
two_clearers state client other class of_other given of_given change of_change sound own active active' clears clears' same =
    one_owner (block_words state.view state.words (region_of given.object) (block_of given.object)) client other class of_other
    (clearer_owns state client class given change sound own active clears).0
    (subst (λ (o : Object). OwnsAt state other of_other (region_of o.pointer) (block_of o.pointer)) (sym same)
    (clearer_owns state other of_other of_given of_change sound own active' clears').0)

-- who has a mark in a block owns the block, until its release begins
pub marks_owned : (state : State) (client class region block j : ℕ) → IsSound state
    → (Contains (state.clients client).released (region, block) → ⊥)
    → IsMarked (blocks_of (state.clients client).stock class) region block j
    → IsOwner (block_words state.view state.words region block) client class
unfolding OwnsAt
marks_owned state client class region block j sound kept is =
    subst (λ r. OwnsAt state client class r block) is.region_is
    (subst (λ b. OwnsAt state client class is.own.region b) is.block_is
    ((sound.clients client).gained class is.own is.has
    (λ has.
    kept
    (subst (λ r. Contains (state.clients client).released (r, block)) is.region_is
    (subst (λ b. Contains (state.clients client).released (is.own.region, b)) is.block_is has)))).0)

-- no block of a client that takes steps is released
pub active_keeps : (state : State) (client region block : ℕ) → AllHaveTheirOwn state.clients
    → (state.clients client).service ≡ Active → Contains (state.clients client).released (region, block) → ⊥
unfolding AllHaveTheirOwn
active_keeps state client region block own active has =
    none_has (region, block) (subst (λ list. Contains list (region, block)) ((own client).released active) has)
  where
    none_has : (one : ℕ × ℕ) → Contains [] one → ⊥
    none_has one has = omega (arith, has.1)

pub clearer_and_marker : (state : State) (client other class of_other : ℕ) (given : Given) (change : BitChange) (j : ℕ)
    → IsSound state → AllHaveTheirOwn state.clients → (state.clients client).service ≡ Active
    → (state.clients other).service ≡ Active → (state.clients client).clearing ≡ Under class given change
    → IsMarked (blocks_of (state.clients other).stock of_other) (region_of given.object) (block_of given.object) j
    → client ≡ other
unfolding OwnsAt
clearer_and_marker state client other class of_other given change j sound own active active' clears marked =
    one_owner (block_words state.view state.words (region_of given.object) (block_of given.object)) client other class of_other
    (clearer_owns state client class given change sound own active clears).0
    (marks_owned state other of_other (region_of given.object) (block_of given.object) j sound
    (active_keeps state other (region_of given.object) (block_of given.object) own active') marked)

-- ---- the theorem

pub under_clears : (class : ℕ) (given : Given) (change : BitChange) → Under class given change ≡ NotClearing → ⊥
under_clears class given change is = cc

clearer_active : (view : Viewed) (events : List Event) → IsView view → IsAllowed (opening view) events
    → (client class : ℕ) (given : Given) (change : BitChange)
    → ((run (opening view) events).clients client).clearing ≡ Under class given change
    → ((run (opening view) events).clients client).service ≡ Active
clearer_active view events is allowed client class given change clears =
    (clearers_inside view events is allowed client (λ none. under_clears class given change (sym clears ∙ none))).0

pub cleared_once : (view : Viewed) (events : List Event) → IsView view → IsAllowed (opening view) events
    → (client other class of_other : ℕ) (given of_given : Given) (change of_change : BitChange)
    → ((run (opening view) events).clients client).clearing ≡ Under class given change
    → ((run (opening view) events).clients other).clearing ≡ Under of_other of_given of_change
    → object_of class given ≡ object_of of_other of_given → client ≡ other
cleared_once view events is allowed client other class of_other given of_given change of_change clears clears' =
    two_clearers (run (opening view) events) client other class of_other given of_given change of_change
    (IsSound-run (opening view) events allowed (IsSound-opening view is))
    (own-run (opening view) events allowed (IsSound-opening view is) (own-opening view))
    (clearer_active view events is allowed client class given change clears)
    (clearer_active view events is allowed other of_other of_given of_change clears') clears clears'

pub cleared_marked : (view : Viewed) (events : List Event) → IsView view → IsAllowed (opening view) events
    → (client other class of_other : ℕ) (given : Given) (change : BitChange) (j : ℕ)
    → ((run (opening view) events).clients client).clearing ≡ Under class given change
    → ((run (opening view) events).clients other).service ≡ Active
    → IsMarked (blocks_of ((run (opening view) events).clients other).stock of_other) (region_of given.object)
    (block_of given.object) j → client ≡ other
cleared_marked view events is allowed client other class of_other given change j clears active =
    clearer_and_marker (run (opening view) events) client other class of_other given change j
    (IsSound-run (opening view) events allowed (IsSound-opening view is))
    (own-run (opening view) events allowed (IsSound-opening view is) (own-opening view))
    (clearer_active view events is allowed client class given change clears) active clears
