-- While a block that its claim has found unused is written to backups, none of its objects is taken.
use Rattle.std.proofs.Common.{◌≡◌, ◌≢◌, ℕ, true, inl, inr, List, [], ◌∷◌, refl, ap, sym, ◌∙◌, subst}
use Rattle.std.proofs.lemmas.Bool.{cond_both}
use Rattle.block_claims.proofs.Soundness.{IsOwner, IsSoundStage}
use Rattle.block_claims.proofs.WordLemmas.{owned-same}
use Rattle.block_claims.specs.Claims.{primary_of}
use Rattle.machine.specs.declared.bit_change.Changed.{Changed}
use Rattle.machine.specs.declared.choosing.Took.{Took}
use Rattle.machine.specs.declared.choosing.Took.TheVariants as took
use Rattle.machine.specs.BitChange as bits
use Rattle.machine.specs.BitChange.{BitChange}
use Rattle.machine.specs.Choosing.{IsAt, IsChoosing, begins, block_at, next, region_at, turn, verb_at, word_at_block}
use Rattle.machine.specs.EpochRead.{IsView}
use Rattle.machine.specs.ObjectNames.{Object, block_of}
use Rattle.machine.specs.Places.{primary_place}
use Rattle.machine.specs.Stock.{Claim, Rest, Spread, Stock, view_of}
use Rattle.machine.specs.Turn.{Turn}
use Rattle.pointer_fields.specs.Pointer.{region_of}
use Rattle.region_view.specs.Placed.{Viewed}
use Rattle.reuse_grace.proofs.Soundness.{at_updated}
use Rattle.reuse_grace.specs.Stock.{updated}
use Rattle.verb_words.specs.Verb.{place_of}
use Rattle.verb_words.specs.Words.{word_at}
use Rattle.object_division.specs.Allowed.{IsAllowed, MayHappen}
use Rattle.object_division.specs.Claims.{IsOfClass}
use Rattle.object_division.specs.Client.{Active, Cleared, Clearing, Client, Given, Named, NotClearing, Releasing, Retired, Returning, Service, Taken, Under, Untaken, Use, is_same}
use Rattle.object_division.specs.Marks.{ComesFrom, IsClaiming, IsRipe}
use Rattle.object_division.specs.Run.{Begin, Choose, Clear, ClearNext, End, Event, Name, Release, ReleaseNext, Renew, Retire, Return, ReturnNext, Seek, State, answered, cleared_next, clearing_after, clearing_of, happens, named, object_of, opening, released_next, renewed, returned_next, returning, run, service_after, told, use_after_clearing, with_use}
use Rattle.object_division.proofs.BlockLemmas.{IsSound-happens, IsSound-opening}
use Rattle.object_division.proofs.BlockWordLemmas.{IsBlockOf, block_words}
use Rattle.object_division.proofs.ClassLemmas.{HasClass, UsesHaveClass, returned-before, uses-happens, uses-opening, with_use-before}
use Rattle.object_division.proofs.ClassWordLemmas.{class-unused}
use Rattle.object_division.proofs.EventLemmas.{here_found}
use Rattle.object_division.proofs.GrownLemmas.{begins-plain, own_of}
use Rattle.object_division.proofs.MovedLemmas.{here_within}
use Rattle.object_division.proofs.NewBlockLemmas.{AllClaimNew, ClaimsNew, new-happens, new-opening}
use Rattle.object_division.proofs.OwnLemmas.{AllHaveTheirOwn, ClearsOwn, IsGiven, class_at, clearer_owns, own-happens, own-opening, releasing_active, retired_active, served_on}
use Rattle.object_division.proofs.Soundness.{IsSound, here_words, stage_at}
use Rattle.object_division.proofs.StepLemmas.{is_same-true}
use Rattle.object_division.proofs.UnusedBlockLemmas.{spread_plain, turn-comes}

-- no object of the block at the position is taken, where the block was unused and is written to backups
abbrev pub SpreadsUntaken : Stock → (Object → Use) → Type 0
SpreadsUntaken stock uses =
    (backup : ℕ) → stock.phase ≡ Spread true backup → (object : Object) → uses object ≢ Untaken
    → region_of object.pointer ≡ region_at stock → block_of object.pointer ≡ block_at stock → ⊥

unfoldable pub AllSpreadUntaken : (ℕ → Client) → (Object → Use) → Type 0
AllSpreadUntaken clients uses =
    (number : ℕ) → (clients number).service ≡ Active → SpreadsUntaken (clients number).stock uses

-- what is needed of a state
pub record IsKept (state : State) : Type 0 where
  pub sound : IsSound state
  pub own : AllHaveTheirOwn state.clients
  pub classes : UsesHaveClass state
  pub new : AllClaimNew state.clients
  pub spreads : AllSpreadUntaken state.clients state.uses

-- ---- an object that is cleared is of a block that its client has gained

no_cleared : (state : State) (number class : ℕ) (given : Given) (change : BitChange) → IsSound state
    → AllHaveTheirOwn state.clients → AllClaimNew state.clients → (state.clients number).service ≡ Active
    → (state.clients number).clearing ≡ Under class given change → (other backup : ℕ)
    → (state.clients other).service ≡ Active → (state.clients other).stock.phase ≡ Spread true backup
    → region_of given.object ≡ region_at (state.clients other).stock
    → block_of given.object ≡ block_at (state.clients other).stock → ⊥
unfolding AllHaveTheirOwn AllClaimNew ClaimsNew
no_cleared state number class given change sound own new active clears other backup active_other spreads region block =
    new number claims class ripe.own ripe.has (sym ripe.region ∙ region_here) (sym ripe.block ∙ block_here)
  where
    stock : Stock
    stock = (state.clients other).stock

    At : ℕ → ℕ → Type 0
    At r b = IsOwner (block_words state.view state.words r b) number class

    clearer : At (region_at stock) (block_at stock)
    clearer =
        subst (λ r. At r (block_at stock)) region
        (subst (λ b. At (region_of given.object) b) block
        (clearer_owns state number class given change sound own active clears).0)

    claimer : IsOwner (here_words state.view state.words stock) other stock.class
    claimer =
        (subst (λ p. IsSoundStage (here_words state.view state.words stock) other (stage_at p stock)) spreads
        ((sound.clients other).claims active_other)).0

    same : other ≡ number
    same =
        (owned-same other number stock.class class claimer.client_within claimer.class_within clearer.client_within
        clearer.class_within (sym claimer.primary ∙ clearer.primary)).0

    claims : IsClaiming (state.clients number).stock.phase
    claims = subst (λ n. IsClaiming (state.clients n).stock.phase) same (subst (λ p. IsClaiming p) (sym spreads) tt)

    region_here : region_of given.object ≡ region_at (state.clients number).stock
    region_here = subst (λ n. region_of given.object ≡ region_at (state.clients n).stock) same region

    block_here : block_of given.object ≡ block_at (state.clients number).stock
    block_here = subst (λ n. block_of given.object ≡ block_at (state.clients n).stock) same block

    is : IsGiven (class_at (state.clients number).stock class) class given
    is = subst (λ c. ClearsOwn (state.clients number).stock c) clears (own number).clearing

    ripe : IsRipe (own_of (state.clients number).stock class) class given.object
    ripe = (own number).reserves class given.object is.reserve

-- ---- the steps

updated_spread : (clients : ℕ → Client) (number : ℕ) (client : Client) (uses : Object → Use) → AllSpreadUntaken clients uses
    → (client.service ≡ Active → SpreadsUntaken client.stock uses) → AllSpreadUntaken (updated clients number client) uses
unfolding AllSpreadUntaken
updated_spread clients number client uses all here other =
    at_updated (λ (c : Client). c.service ≡ Active → SpreadsUntaken c.stock uses) clients number client other (λ same. here)
    (λ apart. all other)

-- nothing is taken that was not
fewer_used : (clients : ℕ → Client) (uses new : Object → Use) → ((object : Object) → new object ≢ Untaken → uses object ≢ Untaken)
    → AllSpreadUntaken clients uses → AllSpreadUntaken clients new
unfolding AllSpreadUntaken
fewer_used clients uses new before all number active backup spreads object used region block =
    all number active backup spreads object (before object used) region block

told_spread : (client : Client) (stock : Stock) (answer : Took) (uses : Object → Use)
    → (client.service ≡ Active → SpreadsUntaken stock uses)
    → (told client stock answer).service ≡ Active → SpreadsUntaken (told client stock answer).stock uses
told_spread client stock took.Going uses here = here
told_spread client stock (took.Have object next_object) uses here = here
told_spread client stock (took.NoSpace class awaited begin) uses here = here
told_spread client stock (took.Refused node) uses here = here

-- the claim found the block unused, so nothing of it is taken: what is taken has the class of its block
pub no_used : (state : State) (number : ℕ) → IsSound state → UsesHaveClass state → (state.clients number).stock.phase ≢ Rest
    → (state.clients number).stock.phase ≡ Claim 0
    → word_at state.words (place_of (next (state.clients number).stock)) ≡ 0
    → (object : Object) → state.uses object ≢ Untaken
    → region_of object.pointer ≡ region_at (state.clients number).stock
    → block_of object.pointer ≡ block_at (state.clients number).stock → ⊥
unfolding UsesHaveClass HasClass
no_used state number sound classes works claims found object used region block =
    class-unused (primary_of (here_words state.view state.words stock)) object.class (here ∙ zero) has
  where
    stock : Stock
    stock = (state.clients number).stock

    is : IsChoosing state.view number stock.class stock
    is = (sound.clients number).choosing works

    within : IsBlockOf state.view (region_at stock) (block_at stock)
    within = here_within state.view number stock.class stock is (subst (λ p. IsAt p stock) claims is.phase)

    here : primary_of (here_words state.view state.words stock)
        ≡ word_at state.words (primary_place (view_of stock) (word_at_block stock))
    here = here_found state.view state.words number stock is.ready within

    zero : word_at state.words (primary_place (view_of stock) (word_at_block stock)) ≡ 0
    zero = subst (λ p. word_at state.words (place_of (verb_at p stock)) ≡ 0) claims found

    Has : ℕ → ℕ → Type 0
    Has r b = IsOfClass (primary_of (block_words state.view state.words r b)) object.class

    has : Has (region_at stock) (block_at stock)
    has =
        subst (λ r. Has r (block_at stock)) region
        (subst (λ b. Has (region_of object.pointer) b) block (classes object used))

sought_spread : (state : State) (number : ℕ) → IsSound state → UsesHaveClass state → (state.clients number).stock.phase ≢ Rest
    → SpreadsUntaken (state.clients number).stock state.uses
    → SpreadsUntaken (turn (state.clients number).stock (answered state (next (state.clients number).stock))).state state.uses
sought_spread state number sound classes works old backup spreads object used region block =
    elim comes.before [
      | inl before ↦ old before.0 before.1 object used (region ∙ comes.region) (block ∙ comes.block)
      | inr claim ↦
          no_used state number sound classes works claim.0 claim.1 object used (region ∙ comes.region) (block ∙ comes.block)
    ]
  where
    stock : Stock
    stock = (state.clients number).stock

    found : ℕ
    found = word_at state.words (place_of (next stock))

    comes : ComesFrom stock stock.phase found (turn stock (answered state (next stock))).state
    comes = turn-comes stock stock.phase found backup refl ((sound.clients number).choosing works).phase spreads

renewed_spread : (client : Client) (clearing : Clearing) (uses : Object → Use)
    → (client.service ≡ Active → SpreadsUntaken client.stock uses)
    → (renewed client clearing).service ≡ Active → SpreadsUntaken (renewed client clearing).stock uses
renewed_spread client NotClearing uses here = here
renewed_spread client (Under class given change) uses here = here
renewed_spread client (Cleared class given) uses here = here

cleared_spread : (state : State) (number : ℕ) (clearing : Clearing) → IsKept state → (state.clients number).service ≡ Active
    → (state.clients number).clearing ≡ clearing
    → AllSpreadUntaken (cleared_next state number clearing).clients (cleared_next state number clearing).uses
unfolding AllSpreadUntaken
cleared_spread state number NotClearing kept active is = kept.spreads
cleared_spread state number (Cleared class given) kept active is = kept.spreads
cleared_spread state number (Under class given change) kept active is =
    updated_spread state.clients number (record (state.clients number) { clearing = clearing_after class given t t.told }) uses all
    (all number)
  where
    t : Turn BitChange Changed
    t = bits.turn change (answered state (bits.next change))

    object : Object
    object = object_of class given

    use_of : Use
    use_of = use_after_clearing number t.told (state.uses object)

    uses : Object → Use
    uses = with_use state.uses object use_of

    all : AllSpreadUntaken state.clients uses
    all other active_other backup spreads one used region block =
        cond_both (is_same object one) use_of (state.uses one) (λ u. u ≢ Untaken → ⊥)
        (λ same taken_now.
        let object_is = is_same-true object one same in
        no_cleared state number class given change kept.sound kept.own kept.new active is other backup active_other spreads
        (ap (λ (o : Object). region_of o.pointer) object_is ∙ region)
        (ap (λ (o : Object). block_of o.pointer) object_is ∙ block))
        (λ apart taken_before. kept.spreads other active_other backup spreads one taken_before region block)
        used

returned_spread : (state : State) (object : Object) (use_of : Use) → state.uses object ≡ use_of
    → AllSpreadUntaken state.clients state.uses
    → AllSpreadUntaken (returned_next state object use_of).clients (returned_next state object use_of).uses
returned_spread state object Untaken is all = all
returned_spread state object (Taken client) is all = all
returned_spread state object (Named client namer) is all = all
returned_spread state object (Returning client namer change) is all =
    fewer_used state.clients state.uses (returned_next state object (Returning client namer change)).uses
    (returned-before state object (Returning client namer change) is) all

released_spread : (state : State) (number : ℕ) (service : Service) → AllSpreadUntaken state.clients state.uses
    → AllSpreadUntaken (released_next state number service).clients (released_next state number service).uses
released_spread state number Active all = all
released_spread state number Retired all = all
released_spread state number (Releasing region block class replicas) all =
    updated_spread state.clients number
    (record (state.clients number) { service = service_after state.view region block class replicas }) state.uses all
    (λ active. absurd (served_on state.view region block class replicas active))

spread-happens : (state : State) (event : Event) → MayHappen state event → IsKept state
    → AllSpreadUntaken (happens state event).clients (happens state event).uses
unfolding AllSpreadUntaken
spread-happens state (Begin client) may kept = kept.spreads
spread-happens state (End client) may kept = kept.spreads
spread-happens state (Choose number class) may kept =
    let client = state.clients number in
    let t = begins client.stock state.view.mask class in
    updated_spread state.clients number (told client t.state t.told) state.uses kept.spreads
    (told_spread client t.state t.told state.uses
    (λ active backup spreads. spread_plain t.state.phase true backup (begins-plain client.stock state.view.mask class).phase spreads))
spread-happens state (Seek number) may kept =
    let client = state.clients number in
    let t = turn client.stock (answered state (next client.stock)) in
    updated_spread state.clients number (told client t.state t.told) state.uses kept.spreads
    (told_spread client t.state t.told state.uses
    (λ active. sought_spread state number kept.sound kept.classes may.1 (kept.spreads number active)))
spread-happens state (Clear number class) may kept =
    let client = state.clients number in
    updated_spread state.clients number (record client { clearing = clearing_of state.view class (client.given class) }) state.uses
    kept.spreads (kept.spreads number)
spread-happens state (ClearNext number) may kept =
    cleared_spread state number (state.clients number).clearing kept may.0.active refl
spread-happens state (Renew number) may kept =
    let client = state.clients number in
    updated_spread state.clients number (renewed client client.clearing) state.uses kept.spreads
    (renewed_spread client client.clearing state.uses (kept.spreads number))
spread-happens state (Name client object) may kept =
    fewer_used state.clients state.uses (happens state (Name client object)).uses
    (with_use-before state.uses object (named client (state.uses object)) (λ used is. used (ap (named client) is))) kept.spreads
spread-happens state (Return client object look) may kept =
    fewer_used state.clients state.uses (happens state (Return client object look)).uses
    (with_use-before state.uses object (returning state.view object look (state.uses object))
    (λ used is. used (ap (returning state.view object look) is))) kept.spreads
spread-happens state (ReturnNext client object) may kept = returned_spread state object (state.uses object) refl kept.spreads
spread-happens state (Retire number) may kept =
    updated_spread state.clients number (record (state.clients number) { service = Retired }) state.uses kept.spreads
    (λ active. absurd (retired_active active))
spread-happens state (Release number region block class) may kept =
    let client = state.clients number in
    updated_spread state.clients number
    (record client { service = Releasing region block class 0; released = (region, block) ∷ client.released }) state.uses
    kept.spreads (λ active. absurd (releasing_active region block class 0 active))
spread-happens state (ReleaseNext number) may kept = released_spread state number (state.clients number).service kept.spreads

-- ---- along the steps

pub IsKept-happens : (state : State) (event : Event) → MayHappen state event → IsKept state → IsKept (happens state event)
IsKept-happens state event may kept =
    record {
      sound = IsSound-happens state event may kept.sound;
      own = own-happens state event may kept.sound kept.own;
      classes = uses-happens state event may kept.sound kept.own kept.classes;
      new = new-happens state event may kept.sound kept.new;
      spreads = spread-happens state event may kept;
    }

pub IsKept-run : (state : State) (events : List Event) → IsAllowed state events → IsKept state → IsKept (run state events)
IsKept-run state [] allowed kept = kept
IsKept-run state (event ∷ events) allowed kept =
    IsKept-run (happens state event) events allowed.1 (IsKept-happens state event allowed.0 kept)

pub IsKept-opening : (view : Viewed) → IsView view → IsKept (opening view)
unfolding AllSpreadUntaken
IsKept-opening view is =
    record {
      sound = IsSound-opening view is;
      own = own-opening view;
      classes = uses-opening view;
      new = new-opening view;
      spreads = λ number active backup spreads object used region block. used refl;
    }

-- ---- the theorem

-- what is not otherwise is untaken
pub untaken : (use_of : Use) → (use_of ≢ Untaken → ⊥) → use_of ≡ Untaken
untaken Untaken never = refl
untaken (Taken client) never = absurd (never (λ is. cc))
untaken (Named client namer) never = absurd (never (λ is. cc))
untaken (Returning client namer change) never = absurd (never (λ is. cc))

pub spreads_untaken : (view : Viewed) (events : List Event) → IsView view → IsAllowed (opening view) events
    → (client backup : ℕ) → ((run (opening view) events).clients client).service ≡ Active
    → ((run (opening view) events).clients client).stock.phase ≡ Spread true backup → (object : Object)
    → region_of object.pointer ≡ region_at ((run (opening view) events).clients client).stock
    → block_of object.pointer ≡ block_at ((run (opening view) events).clients client).stock
    → (run (opening view) events).uses object ≡ Untaken
unfolding AllSpreadUntaken
spreads_untaken view events is allowed client backup active spreads object region block =
    let state = run (opening view) events in
    let kept = IsKept-run (opening view) events allowed (IsKept-opening view is) in
    untaken (state.uses object) (λ used. kept.spreads client active backup spreads object used region block)
