-- The theorem on classes: a granted block keeps its class, and an object that is taken is of the class of its block.
use Rattle.std.proofs.Common.{◌≡◌, ◌≢◌, ℕ, zero, suc, ◌-◌, ◌%◌, ◌<◌, ◌≤◌, inl, inr, List, [], ◌∷◌, ◌++◌, refl, sym, ◌∙◌, ap, subst, arith}
use Rattle.std.proofs.lemmas.Bool.{cases_eq, cond_both}
use Rattle.std.specs.Prelude.{slice_set}
use Rattle.block_claims.specs.Claims.{primary_of, released as free_word}
use Rattle.machine.proofs.ObjectNamesLemmas.{names_object-says}
use Rattle.machine.specs.declared.bit_change.Changed.{Changed}
use Rattle.machine.specs.BitChange as bits
use Rattle.machine.specs.BitChange.{BitChange}
use Rattle.machine.specs.EpochRead.{IsView}
use Rattle.machine.specs.ObjectNames.{IsObject, Object, bitmap_of, block_of, number_of}
use Rattle.machine.specs.Turn.{Turn}
use Rattle.object_form.specs.declared.classes.TheConstants.{CLASSES}
use Rattle.pointer_fields.specs.Pointer.{region_of, unit_of}
use Rattle.object_form.specs.Class.{units_of}
use Rattle.machine.specs.Places.{primary_place}
use Rattle.region_view.specs.Layout.{BlockWord as block_word}
use Rattle.region_view.specs.Placed.{Viewed}
use Rattle.region_view.specs.Sizes.{Sizes}
use Rattle.verb_words.specs.Words.{word_at}
use Rattle.object_division.specs.Allowed.{IsAllowed, MayHappen}
use Rattle.object_division.specs.Claims.{IsGranted, IsOfClass, IsOpen, IsOpenTo, block_word_of}
use Rattle.object_division.specs.Client.{Active, Cleared, Clearing, Named, NotClearing, Releasing, Retired, Returning, Service, Taken, Under, Untaken, Use, is_same}
use Rattle.object_division.specs.Run.{Begin, Choose, Clear, ClearNext, End, Event, Name, Release, ReleaseNext, Renew, Retire, Return, ReturnNext, Seek, State, answered, cleared_next, happens, named, object_of, opening, released_next, returned_next, returning, run, use_after_clearing, use_after_setting, with_use}
use Rattle.object_division.specs.Seen.{IsApart}
use Rattle.object_division.proofs.BlockLemmas.{IsSound-happens, IsSound-opening, IsSound-run}
use Rattle.object_division.proofs.BlockWordLemmas.{block_words, primary-block_words}
use Rattle.object_division.proofs.ClassWordLemmas.{class-once, class-released, class-unused, opened-released}
use Rattle.object_division.proofs.EventLemmas.{led_sought}
use Rattle.object_division.proofs.MovedLemmas.{KeepsClass, KeepsClass-same, SameBlocks-equal}
use Rattle.object_division.proofs.OwnLemmas.{AllHaveTheirOwn, bitmap_same, clearer_owns, own-happens, own-opening}
use Rattle.object_division.proofs.SeekLemmas.{KeepsClass-written}
use Rattle.object_division.proofs.Soundness.{IsSound, IsSoundClearing, IsSoundUse}
use Rattle.object_division.proofs.StepLemmas.{SameBlocks-change, SameBlocks-moved_on, is_same-true, object_block, released_written}

-- ---- any step

KeepsClass-none : (view : Viewed) (words : List (List ℕ)) → KeepsClass view words words
KeepsClass-none view words = KeepsClass-same view words words (SameBlocks-equal view words words refl)

cleared-class : (state : State) (number : ℕ) (clearing : Clearing) → IsView state.view → IsSoundClearing state.view clearing
    → KeepsClass state.view state.words (cleared_next state number clearing).words
cleared-class state number NotClearing is sound = KeepsClass-none state.view state.words
cleared-class state number (Cleared class given) is sound = KeepsClass-none state.view state.words
cleared-class state number (Under class given change) is sound =
    KeepsClass-same state.view state.words (cleared_next state number (Under class given change)).words
    (SameBlocks-change state.view state.words change is sound.1)

returned-class : (state : State) (object : Object) (use_of : Use) → IsView state.view → IsSoundUse state.view object use_of
    → KeepsClass state.view state.words (returned_next state object use_of).words
returned-class state object Untaken is sound = KeepsClass-none state.view state.words
returned-class state object (Taken client) is sound = KeepsClass-none state.view state.words
returned-class state object (Named client namer) is sound = KeepsClass-none state.view state.words
returned-class state object (Returning client namer change) is sound =
    KeepsClass-same state.view state.words (returned_next state object (Returning client namer change)).words
    (SameBlocks-change state.view state.words change is sound.1)

released-class : (state : State) (number : ℕ) (service : Service) → (state.clients number).service ≡ service → IsSound state
    → KeepsClass state.view state.words (released_next state number service).words
released-class state number Active is sound = KeepsClass-none state.view state.words
released-class state number Retired is sound = KeepsClass-none state.view state.words
released-class state number (Releasing region block class replicas) is sound =
    let old = (sound.clients number).releases region block class replicas is in
    let words = block_words state.view state.words region block in
    KeepsClass-written state.view state.words (released_next state number (Releasing region block class replicas)).words region
    block (slice_set words replicas (free_word class))
    (released_written state number region block class replicas sound is)
    (λ other below. (
      class-released words number class replicas other old.2.0 old.2.1 below,
      opened-released words number class replicas other old.2.0 old.2.1 below,
    ))

keeps-happens : (state : State) (event : Event) → MayHappen state event → IsSound state
    → KeepsClass state.view state.words (happens state event).words
keeps-happens state (Begin client) may sound =
    KeepsClass-same state.view state.words (happens state (Begin client)).words
    (SameBlocks-moved_on state client sound.is_view)
keeps-happens state (End client) may sound =
    KeepsClass-same state.view state.words (happens state (End client)).words
    (SameBlocks-moved_on state client sound.is_view)
keeps-happens state (Choose client class) may sound = KeepsClass-none state.view state.words
keeps-happens state (Seek client) may sound = (led_sought state client sound may.0.active may.1).classes
keeps-happens state (Clear client class) may sound = KeepsClass-none state.view state.words
keeps-happens state (ClearNext client) may sound =
    cleared-class state client (state.clients client).clearing sound.is_view (sound.clients client).clearing
keeps-happens state (Renew client) may sound = KeepsClass-none state.view state.words
keeps-happens state (Name client object) may sound = KeepsClass-none state.view state.words
keeps-happens state (Return client object look) may sound = KeepsClass-none state.view state.words
keeps-happens state (ReturnNext client object) may sound =
    returned-class state object (state.uses object) sound.is_view (sound.uses object)
keeps-happens state (Retire client) may sound = KeepsClass-none state.view state.words
keeps-happens state (Release client region block class) may sound = KeepsClass-none state.view state.words
keeps-happens state (ReleaseNext client) may sound =
    released-class state client (state.clients client).service refl sound

-- the view is always the same
cleared-view : (state : State) (number : ℕ) (clearing : Clearing) → (cleared_next state number clearing).view ≡ state.view
cleared-view state number NotClearing = refl
cleared-view state number (Cleared class given) = refl
cleared-view state number (Under class given change) = refl

returned-view : (state : State) (object : Object) (use_of : Use) → (returned_next state object use_of).view ≡ state.view
returned-view state object Untaken = refl
returned-view state object (Taken client) = refl
returned-view state object (Named client namer) = refl
returned-view state object (Returning client namer change) = refl

released-view : (state : State) (number : ℕ) (service : Service) → (released_next state number service).view ≡ state.view
released-view state number Active = refl
released-view state number Retired = refl
released-view state number (Releasing region block class replicas) = refl

pub view-happens : (state : State) (event : Event) → (happens state event).view ≡ state.view
view-happens state (Begin client) = refl
view-happens state (End client) = refl
view-happens state (Choose client class) = refl
view-happens state (Seek client) = refl
view-happens state (Clear client class) = refl
view-happens state (ClearNext client) = cleared-view state client (state.clients client).clearing
view-happens state (Renew client) = refl
view-happens state (Name client object) = refl
view-happens state (Return client object look) = refl
view-happens state (ReturnNext client object) = returned-view state object (state.uses object)
view-happens state (Retire client) = refl
view-happens state (Release client region block class) = refl
view-happens state (ReleaseNext client) = released-view state client (state.clients client).service

pub view-run : (state : State) (events : List Event) → (run state events).view ≡ state.view
view-run state [] = refl
view-run state (event ∷ events) = view-run (happens state event) events ∙ view-happens state event

-- ---- objects of granted blocks

unfoldable pub HasClass : Viewed → List (List ℕ) → Object → Type 0
HasClass view words object =
    IsOfClass (primary_of (block_words view words (region_of object.pointer) (block_of object.pointer))) object.class

HasClass-kept : (view : Viewed) (words new : List (List ℕ)) (object : Object) → KeepsClass view words new
    → IsObject view.shape object → HasClass view words object → HasClass view new object
unfolding HasClass KeepsClass
HasClass-kept view words new object keeps is has =
    (keeps (region_of object.pointer) (block_of object.pointer) object.class (object_block view object is) is.class).0 has

HasClass-happens : (state : State) (event : Event) (object : Object) → MayHappen state event → IsSound state
    → IsObject state.view.shape object → HasClass state.view state.words object
    → HasClass (happens state event).view (happens state event).words object
HasClass-happens state event object may sound is has =
    subst (λ v. HasClass v (happens state event).words object) (sym (view-happens state event))
    (HasClass-kept state.view state.words (happens state event).words object (keeps-happens state event may sound) is has)

HasClass-run : (state : State) (events : List Event) (object : Object) → IsAllowed state events → IsSound state
    → IsObject state.view.shape object → HasClass state.view state.words object
    → HasClass (run state events).view (run state events).words object
HasClass-run state [] object allowed sound is has = has
HasClass-run state (event ∷ events) object allowed sound is has =
    HasClass-run (happens state event) events object allowed.1 (IsSound-happens state event allowed.0 sound)
    (subst (λ (v : Viewed). IsObject v.shape object) (sym (view-happens state event)) is)
    (HasClass-happens state event object allowed.0 sound is has)

-- the word on the primary is that of the list
pub IsGranted-has : (state : State) (object : Object) → IsView state.view → IsObject state.view.shape object
    → HasClass state.view state.words object → IsGranted state object
unfolding HasClass
IsGranted-has state object is_view is has =
    subst (λ w. IsOfClass w object.class)
    (primary-block_words state.view state.words (region_of object.pointer) (block_of object.pointer) is_view
    (object_block state.view object is)) has

pub HasClass-granted : (state : State) (object : Object) → IsView state.view → IsObject state.view.shape object
    → IsGranted state object → HasClass state.view state.words object
unfolding HasClass
HasClass-granted state object is_view is granted =
    subst (λ w. IsOfClass w object.class)
    (sym (primary-block_words state.view state.words (region_of object.pointer) (block_of object.pointer) is_view
    (object_block state.view object is))) granted

-- the first steps, and the ones after them
pub allowed_parts : (state : State) (events later : List Event) → IsAllowed state (events ++ later)
    → IsAllowed state events × IsAllowed (run state events) later
allowed_parts state [] later allowed = (tt, allowed)
allowed_parts state (event ∷ events) later allowed =
    let rest = allowed_parts (happens state event) events later allowed.1 in
    ((allowed.0, rest.0), rest.1)

pub granted_kept : (view : Viewed) (events later : List Event) → IsView view → IsAllowed (opening view) (events ++ later)
    → (object : Object) → IsObject view.shape object → IsGranted (run (opening view) events) object
    → IsGranted (run (run (opening view) events) later) object
granted_kept view events later is allowed object is_object granted =
    let parts = allowed_parts (opening view) events later allowed in
    let state = run (opening view) events in
    let sound = IsSound-run (opening view) events parts.0 (IsSound-opening view is) in
    let here : IsObject state.view.shape object =
    subst (λ (v : Viewed). IsObject v.shape object) (sym (view-run (opening view) events)) is_object in
    let there : IsObject (run state later).view.shape object =
    subst (λ (v : Viewed). IsObject v.shape object) (sym (view-run state later)) here in
    IsGranted-has (run state later) object (IsSound-run state later parts.1 sound).is_view there
    (HasClass-run state later object parts.1 sound here (HasClass-granted state object sound.is_view here granted))

-- ---- objects of blocks that are unused or granted

unfoldable pub HasOpen : Viewed → List (List ℕ) → Object → Type 0
HasOpen view words object =
    IsOpenTo (primary_of (block_words view words (region_of object.pointer) (block_of object.pointer))) object.class

pub HasOpen-happens : (state : State) (event : Event) (object : Object) → MayHappen state event → IsSound state
    → IsObject state.view.shape object → HasOpen (happens state event).view (happens state event).words object
    → HasOpen state.view state.words object
unfolding HasOpen KeepsClass
HasOpen-happens state event object may sound is has =
    (keeps-happens state event may sound (region_of object.pointer) (block_of object.pointer) object.class
    (object_block state.view object is) is.class).1
    (subst (λ v. HasOpen v (happens state event).words object) (view-happens state event) has)

HasOpen-run : (state : State) (events : List Event) (object : Object) → IsAllowed state events → IsSound state
    → IsObject state.view.shape object → HasOpen (run state events).view (run state events).words object
    → HasOpen state.view state.words object
HasOpen-run state [] object allowed sound is has = has
HasOpen-run state (event ∷ events) object allowed sound is has =
    HasOpen-happens state event object allowed.0 sound is
    (HasOpen-run (happens state event) events object allowed.1 (IsSound-happens state event allowed.0 sound)
    (subst (λ (v : Viewed). IsObject v.shape object) (sym (view-happens state event)) is) has)

pub open_before : (view : Viewed) (events later : List Event) → IsView view → IsAllowed (opening view) (events ++ later)
    → (object : Object) → IsObject view.shape object → IsOpen (run (run (opening view) events) later) object
    → IsOpen (run (opening view) events) object
unfolding HasOpen
open_before view events later is allowed object is_object open_after =
    let parts = allowed_parts (opening view) events later allowed in
    let state = run (opening view) events in
    let sound = IsSound-run (opening view) events parts.0 (IsSound-opening view is) in
    let here : IsObject state.view.shape object =
    subst (λ (v : Viewed). IsObject v.shape object) (sym (view-run (opening view) events)) is_object in
    let there : IsObject (run state later).view.shape object =
    subst (λ (v : Viewed). IsObject v.shape object) (sym (view-run state later)) here in
    let region = region_of object.pointer in
    let block = block_of object.pointer in
    let new = run state later in
    subst (λ w. IsOpenTo w object.class)
    (primary-block_words state.view state.words region block sound.is_view (object_block state.view object here))
    (HasOpen-run state later object parts.1 sound here
    (subst (λ w. IsOpenTo w object.class)
    (sym (primary-block_words new.view new.words region block (IsSound-run state later parts.1 sound).is_view
    (object_block new.view object there))) open_after))

-- ---- objects that are taken

unfoldable pub UsesHaveClass : State → Type 0
UsesHaveClass state = (object : Object) → state.uses object ≢ Untaken → HasClass state.view state.words object

pub used_object : (view : Viewed) (object : Object) (use_of : Use) → IsSoundUse view object use_of → use_of ≢ Untaken
    → IsObject view.shape object
used_object view object Untaken sound used = absurd (used refl)
used_object view object (Taken client) sound used = sound
used_object view object (Named client namer) sound used = sound
used_object view object (Returning client namer change) sound used = sound.0

-- who is in use then was so before
uses_before : (state : State) (event : Event) → MayHappen state event → IsSound state
    → ((object : Object) → (happens state event).uses object ≢ Untaken → state.uses object ≢ Untaken) → UsesHaveClass state
    → UsesHaveClass (happens state event)
unfolding UsesHaveClass
uses_before state event may sound before all object used =
    let old = before object used in
    HasClass-happens state event object may sound
    (used_object state.view object (state.uses object) (sound.uses object) old) (all object old)

pub with_use-before : (uses : Object → Use) (object : Object) (use_of : Use) → (use_of ≢ Untaken → uses object ≢ Untaken)
    → (other : Object) → with_use uses object use_of other ≢ Untaken → uses other ≢ Untaken
with_use-before uses object use_of before other =
    cond_both (is_same object other) use_of (uses other) (λ u. u ≢ Untaken → uses other ≢ Untaken)
    (λ same. subst (λ o. use_of ≢ Untaken → uses o ≢ Untaken) (is_same-true object other same) before)
    (λ apart used. used)

pub returned-before : (state : State) (object : Object) (use_of : Use) → state.uses object ≡ use_of
    → (other : Object) → (returned_next state object use_of).uses other ≢ Untaken → state.uses other ≢ Untaken
returned-before state object Untaken is other used = used
returned-before state object (Taken client) is other used = used
returned-before state object (Named client namer) is other used = used
returned-before state object (Returning client namer change) is other used =
    let t = bits.turn change (answered state (bits.next change)) in
    with_use-before state.uses object (use_after_setting client namer t t.told)
    (λ later untaken. no_return (sym is ∙ untaken)) other used
  where
    no_return : Returning client namer change ≡ Untaken → ⊥
    no_return same = cc

-- what a client clears it owns
cleared-uses : (state : State) (number : ℕ) (clearing : Clearing) → IsSound state → AllHaveTheirOwn state.clients
    → (state.clients number).service ≡ Active → (state.clients number).clearing ≡ clearing
    → UsesHaveClass state → UsesHaveClass (cleared_next state number clearing)
unfolding UsesHaveClass HasClass
cleared-uses state number NotClearing sound own active is all other = all other
cleared-uses state number (Cleared class given) sound own active is all other = all other
cleared-uses state number (Under class given change) sound own active is all other =
    cond_both (is_same object other) (use_after_clearing number t.told (state.uses object)) (state.uses other)
    (λ u. u ≢ Untaken → HasClass state.view new other)
    (λ same used.
    subst (HasClass state.view new) (is_same-true object other same)
    (HasClass-kept state.view state.words new object keeps (record { class = clears.0.below; named = clears.0.object })
    here))
    (λ apart used.
    HasClass-kept state.view state.words new other keeps
    (used_object state.view other (state.uses other) (sound.uses other) used) (all other used))
  where
    object : Object
    object = object_of class given

    t : Turn BitChange Changed
    t = bits.turn change (answered state (bits.next change))

    new : List (List ℕ)
    new = (cleared_next state number (Under class given change)).words

    clears : IsSoundClearing state.view (Under class given change)
    clears = subst (λ c. IsSoundClearing state.view c) is (sound.clients number).clearing

    keeps : KeepsClass state.view state.words new
    keeps = cleared-class state number (Under class given change) sound.is_view clears

    here : HasClass state.view state.words object
    here = inr (number, (clearer_owns state number class given change sound own active is).0.primary)

pub uses-happens : (state : State) (event : Event) → MayHappen state event → IsSound state → AllHaveTheirOwn state.clients
    → UsesHaveClass state → UsesHaveClass (happens state event)
uses-happens state (Begin client) may sound own all = uses_before state (Begin client) may sound (λ object used. used) all
uses-happens state (End client) may sound own all = uses_before state (End client) may sound (λ object used. used) all
uses-happens state (Choose client class) may sound own all =
    uses_before state (Choose client class) may sound (λ object used. used) all
uses-happens state (Seek client) may sound own all = uses_before state (Seek client) may sound (λ object used. used) all
uses-happens state (Clear client class) may sound own all =
    uses_before state (Clear client class) may sound (λ object used. used) all
uses-happens state (ClearNext client) may sound own all =
    cleared-uses state client (state.clients client).clearing sound own may.0.active refl all
uses-happens state (Renew client) may sound own all = uses_before state (Renew client) may sound (λ object used. used) all
uses-happens state (Name client object) may sound own all =
    uses_before state (Name client object) may sound
    (with_use-before state.uses object (named client (state.uses object)) (λ used is. used (ap (named client) is))) all
uses-happens state (Return client object look) may sound own all =
    uses_before state (Return client object look) may sound
    (with_use-before state.uses object (returning state.view object look (state.uses object))
    (λ used is. used (ap (returning state.view object look) is))) all
uses-happens state (ReturnNext client object) may sound own all =
    uses_before state (ReturnNext client object) may sound (returned-before state object (state.uses object) refl) all
uses-happens state (Retire client) may sound own all = uses_before state (Retire client) may sound (λ object used. used) all
uses-happens state (Release client region block class) may sound own all =
    uses_before state (Release client region block class) may sound (λ object used. used) all
uses-happens state (ReleaseNext client) may sound own all =
    uses_before state (ReleaseNext client) may sound (released-before state client (state.clients client).service) all
  where
    released-before : (state : State) (number : ℕ) (service : Service) (object : Object)
        → (released_next state number service).uses object ≢ Untaken → state.uses object ≢ Untaken
    released-before state number Active object used = used
    released-before state number Retired object used = used
    released-before state number (Releasing region block class replicas) object used = used

uses-run : (state : State) (events : List Event) → IsAllowed state events → IsSound state → AllHaveTheirOwn state.clients
    → UsesHaveClass state → UsesHaveClass (run state events)
uses-run state [] allowed sound own all = all
uses-run state (event ∷ events) allowed sound own all =
    uses-run (happens state event) events allowed.1 (IsSound-happens state event allowed.0 sound)
    (own-happens state event allowed.0 sound own) (uses-happens state event allowed.0 sound own all)

pub uses-opening : (view : Viewed) → UsesHaveClass (opening view)
unfolding UsesHaveClass
uses-opening view object used = absurd (used refl)

pub taken_granted : (view : Viewed) (events : List Event) → IsView view → IsAllowed (opening view) events → (object : Object)
    → (run (opening view) events).uses object ≢ Untaken → IsGranted (run (opening view) events) object
unfolding UsesHaveClass
taken_granted view events is allowed object used =
    let state = run (opening view) events in
    let sound = IsSound-run (opening view) events allowed (IsSound-opening view is) in
    let all = uses-run (opening view) events allowed (IsSound-opening view is) (own-opening view) (uses-opening view) in
    IsGranted-has state object sound.is_view
    (used_object state.view object (state.uses object) (sound.uses object) used) (all object used)

-- ---- two objects of granted blocks

-- an object's pointer is told by its block, its number there and its class
same_pointer : (sizes : Sizes) (class one other : ℕ) → class < CLASSES → (unit_of one - 16) % units_of class ≡ 0
    → (unit_of other - 16) % units_of class ≡ 0 → 16 ≤ unit_of one → 16 ≤ unit_of other → region_of one ≡ region_of other
    → block_of one ≡ block_of other → number_of one class ≡ number_of other class → one ≡ other
same_pointer sizes zero one other below whole whole' first first' region block number = omega arith
same_pointer sizes (suc zero) one other below whole whole' first first' region block number = omega arith
same_pointer sizes (suc (suc zero)) one other below whole whole' first first' region block number = omega arith
same_pointer sizes (suc (suc (suc zero))) one other below whole whole' first first' region block number = omega arith
same_pointer sizes (suc (suc (suc (suc zero)))) one other below whole whole' first first' region block number = omega arith
same_pointer sizes (suc (suc (suc (suc (suc zero))))) one other below whole whole' first first' region block number = omega arith
same_pointer sizes (suc (suc (suc (suc (suc (suc class)))))) one other below whole whole' first first' region block number =
    absurd (omega arith)

pub granted_apart : (state : State) (one other : Object) → IsObject state.view.shape one → IsObject state.view.shape other
    → one ≢ other → IsGranted state one → IsGranted state other → IsApart one other
granted_apart state one other is is' apart granted granted' =
    elim (cases_eq (number_of one.pointer one.class) (number_of other.pointer other.class)) [
      | inr differ ↦ inr differ
      | inl numbers ↦ inl (λ same. apart (same_object numbers same))
    ]
  where
    same_object : number_of one.pointer one.class ≡ number_of other.pointer other.class
        → bitmap_of one.pointer ≡ bitmap_of other.pointer → one ≡ other
    same_object numbers same =
        let both = bitmap_same (region_of one.pointer) (block_of one.pointer) (region_of other.pointer) (block_of other.pointer) same in
        let At : ℕ → ℕ → Type 0 = λ r b.
        IsOfClass (word_at state.words (primary_place state.view (block_word r b))) other.class in
        let also : At (region_of one.pointer) (block_of one.pointer) =
        subst (λ r. At r (block_of one.pointer)) (sym both.0)
        (subst (λ b. At (region_of other.pointer) b) (sym both.1) granted') in
        let classes : one.class ≡ other.class =
        class-once (block_word_of state one) one.class other.class is.class is'.class granted also in
        let says = names_object-says state.view.shape one.class one.pointer is.named in
        let says' = names_object-says state.view.shape other.class other.pointer is'.named in
        let pointers : one.pointer ≡ other.pointer =
        same_pointer state.view.shape one.class one.pointer other.pointer is.class says.whole
        (subst (λ c. (unit_of other.pointer - 16) % units_of c ≡ 0) (sym classes) says'.whole) says.first says'.first both.0 both.1
        (subst (λ c. number_of one.pointer one.class ≡ number_of other.pointer c) (sym classes) numbers) in
        λ i. record { pointer = pointers i; class = classes i }

-- an object of an unused block has another bit than one of a granted block
pub unused_apart : (state : State) (one other : Object) → block_word_of state one ≡ 0 → IsGranted state other
    → IsApart one other
unused_apart state one other unused granted =
    inl
    (λ same.
    let both = bitmap_same (region_of one.pointer) (block_of one.pointer) (region_of other.pointer) (block_of other.pointer) same in
    let At : ℕ → ℕ → Type 0 = λ r b.
    IsOfClass (word_at state.words (primary_place state.view (block_word r b))) other.class in
    class-unused (block_word_of state one) other.class unused
    (subst (λ r. At r (block_of one.pointer)) (sym both.0) (subst (λ b. At (region_of other.pointer) b) (sym both.1) granted)))

pub open_apart : (state : State) (one other : Object) → IsObject state.view.shape one → IsObject state.view.shape other
    → one ≢ other → IsOpen state one → IsGranted state other → IsApart one other
open_apart state one other is is' apart (inl unused) granted = unused_apart state one other unused granted
open_apart state one other is is' apart (inr also) granted = granted_apart state one other is is' apart also granted
