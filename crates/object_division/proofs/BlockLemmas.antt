-- The theorem on blocks: who has gained one owns it on every replica, and is the only one.
use Rattle.std.proofs.Common.{◌≡◌, ℕ, suc, zero, ◌-◌, ◌<◌, ◌≤◌, List, [], ◌∷◌, length, get_or, Some, None, refl, sym, ◌∙◌, ap, subst, arith, inl, inr}
use Rattle.std.specs.Prelude.{Contains, slice_index, slice_index_or}
use Rattle.std.proofs.lemmas.Bool.{cases_lt}
use Rattle.std.proofs.lemmas.List.{get_or-replicate, get_or_past}
use Rattle.block_claims.proofs.Soundness.{IsOwner, IsSoundWords}
use Rattle.block_claims.proofs.WordLemmas.{owned-same}
use Rattle.machine.proofs.StockLemmas.{first_stock-is}
use Rattle.machine.specs.EpochRead.{IsView}
use Rattle.machine.specs.Places.{replica_count, written_place}
use Rattle.machine.specs.Stock.{ClassStock, OwnBlock, first_stock, no_stock}
use Rattle.machine_world.proofs.StandingLemmas.{HasPlace-inside, first_world-stands}
use Rattle.machine_world.specs.World.{first_world}
use Rattle.object_form.specs.declared.classes.TheConstants.{CLASSES}
use Rattle.region_view.specs.Layout.{BlockWord as block_word, HasWord, NodeWord, position_of}
use Rattle.region_view.specs.Opening.{first_node, first_words_of}
use Rattle.region_view.specs.Placed.{Viewed}
use Rattle.region_view.specs.Sizes.{Sizes}
use Rattle.verb_words.specs.Words.{word_at, words_on}
use Rattle.object_division.specs.Allowed.{IsAllowed, MayHappen}
use Rattle.object_division.specs.Claims.{IsGained, IsOwnedBy}
use Rattle.object_division.specs.Client.{Active, Given, Releasing, first_client}
use Rattle.object_division.specs.Run.{Begin, Choose, Clear, ClearNext, End, Event, Name, Release, ReleaseNext, Renew, Retire, Return, ReturnNext, Seek, State, happens, opening, run}
use Rattle.object_division.proofs.BlockWordLemmas.{block_count, block_words, block_words-at, length-block_words, block_count-some}
use Rattle.object_division.proofs.EventLemmas.{IsSound-chosen, IsSound-sought}
use Rattle.object_division.proofs.PlaceLemmas.{written_place-is, written_place-node}
use Rattle.object_division.proofs.Soundness.{IsSound, IsSoundClient}
use Rattle.object_division.proofs.StepLemmas.{IsSound-cleared_next, IsSound-clearing, IsSound-moved_on, IsSound-named, IsSound-release, IsSound-released_next, IsSound-renewed, IsSound-retired, IsSound-returned_next, IsSound-returning}

-- ---- the opening

words_on-first : (sizes : Sizes) (node : ℕ) → 1 ≤ node → node ≤ sizes.nodes
    → words_on (first_words_of sizes) node ≡ first_node sizes
words_on-first sizes zero least most = absurd (omega arith)
words_on-first sizes (suc node) least most = get_or-replicate sizes.nodes node (first_node sizes) [] (omega arith)

-- a word of a memory node is the same on each of them
pub first_word : (view : Viewed) (word : NodeWord) (i : ℕ) → IsView view → HasWord view.shape word → i < replica_count view word
    → word_at (first_words_of view.shape) (written_place view word i)
    ≡ get_or (first_node view.shape) (position_of view.shape word) 0
first_word view word i is has inside =
    let node = written_place-node view word i is.limits has inside in
    ap (λ (list : List ℕ). get_or list (written_place view word i).at 0)
    (words_on-first view.shape (written_place view word i).node node.least node.most)
    ∙ ap (λ at. get_or (first_node view.shape) at 0) (λ k. (written_place-is view word i inside k).at)

-- words that are the same are sound
IsSoundWords-same : (words : List ℕ) (word : ℕ) → 0 < length words
    → ((place : ℕ) → place < length words → slice_index words place ≡ word) → IsSoundWords words
IsSoundWords-same words word some same =
    record { some = some; alike = λ place within. inl (same place within ∙ sym (same (length words - 1) (omega arith))) }

pub first_stocks : (class : ℕ) (sizes : Sizes) (number : ℕ)
    → slice_index_or (first_stock number sizes).classes class no_stock ≡ no_stock
first_stocks class sizes number =
    elim (cases_lt class CLASSES) [
      | inl below ↦ get_or-replicate CLASSES class no_stock no_stock below
      | inr past ↦ get_or_past (first_stock number sizes).classes class no_stock past
    ]

has_none : {A : Type 0} (own : OwnBlock) → Contains [] own → A
has_none own has = absurd (omega (arith, has.1))

IsSoundClient-first : (view : Viewed) (words : List (List ℕ)) (number : ℕ)
    → IsSoundClient view words number (first_client view.shape number)
IsSoundClient-first view words number =
    record {
      stock = first_stock-is view.shape number;
      choosing = λ works. absurd (works refl);
      gained = λ class own has kept.
          has_none own (subst (λ (c : ClassStock). Contains c.own own) (first_stocks class view.shape number) has);
      claims = λ active. tt;
      releases = λ region block class replicas is. absurd (active_releases region block class replicas is);
      given = λ class given is. absurd (none_given given is);
      clearing = tt;
    }
  where
    active_releases : (region block class replicas : ℕ) → Active ≡ Releasing region block class replicas → ⊥
    active_releases region block class replicas is = cc

    none_given : (given : Given) → None ≡ Some given → ⊥
    none_given given is = cc

pub IsSound-opening : (view : Viewed) → IsView view → IsSound (opening view)
IsSound-opening view is =
    record {
      is_view = is;
      places = λ place inside. HasPlace-inside (first_world view.shape) place (first_world-stands view.shape is.limits) inside;
      blocks = λ region block within.
          let words = block_words view (first_words_of view.shape) region block in
          let long = length-block_words view (first_words_of view.shape) region block in
          IsSoundWords-same words (get_or (first_node view.shape) (position_of view.shape (block_word region block)) 0)
          (omega (arith, long, block_count-some view region block is within))
          (λ place inside.
          let below : place < block_count view region block = omega (arith, long, inside) in
          block_words-at view (first_words_of view.shape) region block place below
          ∙ first_word view (block_word region block) place is
          (within.region_within.0, within.region_within.1, within.block_within) below);
      clients = λ number. IsSoundClient-first view (first_words_of view.shape) number;
      uses = λ object. tt;
    }

-- ---- any step

pub IsSound-happens : (state : State) (event : Event) → MayHappen state event → IsSound state → IsSound (happens state event)
IsSound-happens state (Begin client) may sound = IsSound-moved_on state client sound
IsSound-happens state (End client) may sound = IsSound-moved_on state client sound
IsSound-happens state (Choose client class) may sound = IsSound-chosen state client class sound may.0.active may.1
IsSound-happens state (Seek client) may sound = IsSound-sought state client sound may.0.active may.1
IsSound-happens state (Clear client class) may sound = IsSound-clearing state client class sound
IsSound-happens state (ClearNext client) may sound =
    IsSound-cleared_next state client (state.clients client).clearing sound (sound.clients client).clearing
IsSound-happens state (Renew client) may sound = IsSound-renewed state client sound
IsSound-happens state (Name client object) may sound = IsSound-named state client object sound
IsSound-happens state (Return client object look) may sound = IsSound-returning state object look sound
IsSound-happens state (ReturnNext client object) may sound =
    IsSound-returned_next state object (state.uses object) sound (sound.uses object)
IsSound-happens state (Retire client) may sound = IsSound-retired state client sound
IsSound-happens state (Release client region block class) may sound = IsSound-release state client region block class sound may
IsSound-happens state (ReleaseNext client) may sound =
    IsSound-released_next state client (state.clients client).service refl sound

pub IsSound-run : (state : State) (events : List Event) → IsAllowed state events → IsSound state → IsSound (run state events)
IsSound-run state [] allowed sound = sound
IsSound-run state (event ∷ events) allowed sound =
    IsSound-run (happens state event) events allowed.1 (IsSound-happens state event allowed.0 sound)

-- ---- the theorem

pub gained_soundly : (state : State) (client class : ℕ) (own : OwnBlock) → IsSound state → IsGained state client class own
    → IsOwnedBy state client class own.region own.block
gained_soundly state client class own sound gained replica inside =
    let stage = (sound.clients client).gained class own gained.gained gained.kept in
    sym (block_words-at state.view state.words own.region own.block replica inside)
    ∙ stage.1 replica (omega (arith, inside, length-block_words state.view state.words own.region own.block))

pub gained_owned : (view : Viewed) (events : List Event) → IsView view → IsAllowed (opening view) events
    → (client class : ℕ) (own : OwnBlock) → IsGained (run (opening view) events) client class own
    → IsOwnedBy (run (opening view) events) client class own.region own.block
gained_owned view events is allowed client class own =
    gained_soundly (run (opening view) events) client class own
    (IsSound-run (opening view) events allowed (IsSound-opening view is))

pub gained_once : (view : Viewed) (events : List Event) → IsView view → IsAllowed (opening view) events
    → (client other class of_other : ℕ) (own of_own : OwnBlock) → IsGained (run (opening view) events) client class own
    → IsGained (run (opening view) events) other of_other of_own
    → own.region ≡ of_own.region → own.block ≡ of_own.block → client ≡ other
gained_once view events is allowed client other class of_other own of_own gained also regions blocks =
    let state = run (opening view) events in
    let sound = IsSound-run (opening view) events allowed (IsSound-opening view is) in
    let one = ((sound.clients client).gained class own gained.gained gained.kept).0 in
    let two = ((sound.clients other).gained of_other of_own also.gained also.kept).0 in
    let here : IsOwner (block_words state.view state.words of_own.region of_own.block) client class =
    subst (λ r. IsOwner (block_words state.view state.words r of_own.block) client class) regions
    (subst (λ b. IsOwner (block_words state.view state.words own.region b) client class) blocks one) in
    (owned-same client other class of_other here.client_within here.class_within two.client_within two.class_within
    (sym here.primary ∙ two.primary)).0
