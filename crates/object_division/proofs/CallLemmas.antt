-- Bits are changed inside calls: whoever changes one takes steps, and its begin word is odd.
use Rattle.std.proofs.Common.{◌≡◌, ◌≢◌, ℕ, ◌+◌, ◌-◌, ◌%◌, ◌<◌, ◌≤◌, ◌==◌, ◌⊎◌, true, false, inl, inr, List, [], ◌∷◌, ◌++◌, refl, sym, ◌∙◌, ap, subst, arith}
use Rattle.std.proofs.lemmas.Bool.{cases_eq, cond_both}
use Rattle.machine.proofs.ChoosingLemmas.{held_view}
use Rattle.machine.proofs.ObjectNamesLemmas.{bitmap_of-has}
use Rattle.machine.specs.declared.bit_change.Changed.{Changed}
use Rattle.machine.specs.declared.bit_change.Changed.TheVariants as changed
use Rattle.machine.specs.declared.choosing.Took.{Took}
use Rattle.machine.specs.declared.choosing.Took.TheVariants as took
use Rattle.machine.specs.BitChange as bits
use Rattle.machine.specs.BitChange.{BitChange, IsBitChange, bit_change_of}
use Rattle.machine.specs.Choosing.{IsAt, IsChoosing, block_at, region_at, begins, next, turn, verb_at, word_at_block}
use Rattle.machine.specs.EpochRead.{IsView}
use Rattle.machine.specs.ObjectNames.{Object, bitmap_of}
use Rattle.machine.specs.Places.{control, replica_count, written_place}
use Rattle.machine.specs.Stock.{AskFirst, Ask, Claim, Phase, ReadBitmap, ReadBlock, Rest, Scan, Spread, Stock, WriteHead}
use Rattle.machine.specs.Turn.{Turn}
use Rattle.object_form.specs.declared.classes.TheConstants.{CLASSES}
use Rattle.region_view.proofs.ControlLemmas.{control_position-apart}
use Rattle.region_view.specs.Control.{Begin as begin_of, Head}
use Rattle.region_view.specs.Layout.{BlockWord as block_word, HasWord, NodeWord}
use Rattle.region_view.specs.Placed.{Viewed}
use Rattle.reuse_grace.proofs.Soundness.{at_updated}
use Rattle.reuse_grace.specs.Stock.{updated}
use Rattle.verb_words.proofs.AppliedLemmas.{word_at-words_after-other}
use Rattle.verb_words.specs.declared.verbs.Place.{Place}
use Rattle.verb_words.specs.declared.verbs.Verb.{Verb}
use Rattle.verb_words.specs.declared.verbs.Verb.TheVariants.{Write}
use Rattle.verb_words.specs.Applied.{words_after}
use Rattle.verb_words.specs.Verb.{place_of}
use Rattle.verb_words.specs.Words.{word_at}
use Rattle.object_division.specs.Allowed.{ChangesNothing, IsActive, IsAllowed, MayHappen}
use Rattle.object_division.specs.Client.{Active, Cleared, Clearing, Client, Named, NotClearing, Releasing, Retired, Returning, Service, Taken, Under, Untaken, Use, is_same}
use Rattle.object_division.specs.Run.{Begin, Choose, Clear, ClearNext, End, Event, Name, Release, ReleaseNext, Renew, Retire, Return, ReturnNext, Seek, State, answered, begin_word, cleared_next, clearing_after, clearing_of, happens, is_inside, named, object_of, opening, release_verb, released_next, renewed, returned_next, returning, run, service_after, told, use_after_clearing, use_after_setting, with_use}
use Rattle.object_division.proofs.BitStepLemmas.{object_held, place_held, replica_held}
use Rattle.object_division.proofs.BlockLemmas.{IsSound-happens, IsSound-opening, IsSound-run}
use Rattle.object_division.proofs.BlockWordLemmas.{block_count, block_count-some, length-block_words, words_after-read}
use Rattle.object_division.proofs.ClassLemmas.{view-happens}
use Rattle.object_division.proofs.EventLemmas.{here_primary}
use Rattle.object_division.proofs.MovedLemmas.{here_within}
use Rattle.object_division.proofs.OwnLemmas.{allowed_last}
use Rattle.object_division.proofs.PlaceLemmas.{control-apart, primary_place-last}
use Rattle.object_division.proofs.SeekLemmas.{count_held}
use Rattle.object_division.proofs.Soundness.{IsSound, IsSoundClearing, IsSoundUse}
use Rattle.object_division.proofs.StepLemmas.{change_place, release_place}

-- ---- begin words

-- no client has another begin word
pub SameBegins : List (List ℕ) → List (List ℕ) → Type 0
SameBegins words new =
    (client : ℕ) → 1 ≤ client → client ≤ 64
    → word_at new (control (begin_of client)) ≡ word_at words (control (begin_of client))

SameBegins-equal : (words new : List (List ℕ)) → new ≡ words → SameBegins words new
unfolding SameBegins
SameBegins-equal words new same client least most = ap (λ w. word_at w (control (begin_of client))) same

-- a verb at a memory node
SameBegins-node : (view : Viewed) (words : List (List ℕ)) (verb : Verb) (word : NodeWord) (i : ℕ) → IsView view
    → HasWord view.shape word → i < replica_count view word → place_of verb ≡ written_place view word i
    → SameBegins words (words_after words verb false)
unfolding SameBegins
SameBegins-node view words verb word i is has inside at client least most =
    word_at-words_after-other words verb false (control (begin_of client))
    (λ same. control-apart view word i (begin_of client) is.limits has inside (sym at ∙ sym same))

no_head : (client other class : ℕ) → begin_of client ≡ Head other class → ⊥
no_head client other class is = cc

SameBegins-head : (words : List (List ℕ)) (verb : Verb) (other class : ℕ) → 1 ≤ other → other ≤ 64 → class < CLASSES
    → place_of verb ≡ control (Head other class) → SameBegins words (words_after words verb false)
unfolding SameBegins
SameBegins-head words verb other class least' most' below at client least most =
    word_at-words_after-other words verb false (control (begin_of client))
    (λ same.
    no_head client other class
    (control_position-apart (begin_of client) (Head other class) (least, most) (least', most', omega (arith, below))
    (ap (λ (place : Place). place.at) (same ∙ at))))

begins-sought : (view : Viewed) (words : List (List ℕ)) (number : ℕ) (stock : Stock) (phase : Phase)
    → IsChoosing view number stock.class stock → IsAt phase stock
    → SameBegins words (words_after words (verb_at phase stock) false)
begins-sought view words number stock Rest is at =
    SameBegins-equal words (words_after words (verb_at Rest stock) false) (words_after-read words (place_of (verb_at Rest stock)))
begins-sought view words number stock AskFirst is at =
    SameBegins-equal words (words_after words (verb_at AskFirst stock) false)
    (words_after-read words (place_of (verb_at AskFirst stock)))
begins-sought view words number stock (Scan own) is at =
    SameBegins-equal words (words_after words (verb_at (Scan own) stock) false)
    (words_after-read words (place_of (verb_at (Scan own) stock)))
begins-sought view words number stock (Ask client) is at =
    SameBegins-equal words (words_after words (verb_at (Ask client) stock) false)
    (words_after-read words (place_of (verb_at (Ask client) stock)))
begins-sought view words number stock ReadBlock is at =
    SameBegins-equal words (words_after words (verb_at ReadBlock stock) false)
    (words_after-read words (place_of (verb_at ReadBlock stock)))
begins-sought view words number stock (Claim word) is at =
    let within = here_within view number stock.class stock is at in
    let region = region_at stock in
    let block = block_at stock in
    let some = block_count-some view region block is.ready.is_view within in
    SameBegins-node view words (verb_at (Claim word) stock) (block_word region block) (block_count view region block - 1)
    is.ready.is_view (within.region_within.0, within.region_within.1, within.block_within) (omega (arith, some))
    (here_primary view number stock is.ready ∙ primary_place-last view (block_word region block))
begins-sought view words number stock (Spread unused backup) is at =
    let within = here_within view number stock.class stock is at.0 in
    SameBegins-node view words (verb_at (Spread unused backup) stock) (word_at_block stock) backup is.ready.is_view
    (within.region_within.0, within.region_within.1, within.block_within)
    (omega (arith, at.1, count_held view number stock is.ready))
    (ap (λ (v : Viewed). written_place v (word_at_block stock) backup) (held_view view number stock.class stock is.ready))
begins-sought view words number stock ReadBitmap is at =
    SameBegins-equal words (words_after words (verb_at ReadBitmap stock) false)
    (words_after-read words (place_of (verb_at ReadBitmap stock)))
begins-sought view words number stock WriteHead is at =
    let owner = is.ready.is_stock.owner in
    SameBegins-head words (verb_at WriteHead stock) stock.client stock.class
    (omega (arith, owner, is.ready.number.0)) (omega (arith, owner, is.ready.number.1, is.ready.is_view.limits.clients))
    is.ready.below refl

begins-change : (view : Viewed) (words : List (List ℕ)) (change : BitChange) → IsView view → IsBitChange view change
    → SameBegins words (words_after words (bits.next change) false)
begins-change view words change is_view is =
    SameBegins-node view words (bits.next change) (bitmap_of change.object.pointer) change.replica is_view
    (bitmap_of-has view.shape change.object (object_held view change is)) (replica_held view change is)
    (change_place change change.phase ∙ place_held view change is)

begins-cleared : (state : State) (number : ℕ) (clearing : Clearing) → IsView state.view → IsSoundClearing state.view clearing
    → SameBegins state.words (cleared_next state number clearing).words
begins-cleared state number NotClearing is sound = SameBegins-equal state.words state.words refl
begins-cleared state number (Cleared class given) is sound = SameBegins-equal state.words state.words refl
begins-cleared state number (Under class given change) is sound = begins-change state.view state.words change is sound.1

begins-returned : (state : State) (object : Object) (use_of : Use) → IsView state.view → IsSoundUse state.view object use_of
    → SameBegins state.words (returned_next state object use_of).words
begins-returned state object Untaken is sound = SameBegins-equal state.words state.words refl
begins-returned state object (Taken client) is sound = SameBegins-equal state.words state.words refl
begins-returned state object (Named client namer) is sound = SameBegins-equal state.words state.words refl
begins-returned state object (Returning client namer change) is sound =
    begins-change state.view state.words change is sound.1

begins-released : (state : State) (number : ℕ) (service : Service) → (state.clients number).service ≡ service → IsSound state
    → SameBegins state.words (released_next state number service).words
begins-released state number Active is sound = SameBegins-equal state.words state.words refl
begins-released state number Retired is sound = SameBegins-equal state.words state.words refl
begins-released state number (Releasing region block class replicas) is sound =
    let old = (sound.clients number).releases region block class replicas is in
    SameBegins-node state.view state.words (release_verb state.view number region block class replicas) (block_word region block)
    replicas sound.is_view (old.0.region_within.0, old.0.region_within.1, old.0.block_within)
    (omega (arith, old.2.1, length-block_words state.view state.words region block))
    (release_place state.view number region block class replicas)

begin_same : (client other : ℕ) → begin_of client ≡ begin_of other → client ≡ other
begin_same client other is = cc

-- another client's begin word is written
begins-moved : (state : State) (number client : ℕ) → 1 ≤ number → number ≤ 64 → 1 ≤ client → client ≤ 64 → number ≢ client
    → word_at (words_after state.words (Write (control (begin_of number)) (begin_word state number + 1)) false)
    (control (begin_of client))
    ≡ begin_word state client
begins-moved state number client least' most' least most apart =
    word_at-words_after-other state.words (Write (control (begin_of number)) (begin_word state number + 1)) false
    (control (begin_of client))
    (λ same.
    apart
    (sym
    (begin_same client number
    (control_position-apart (begin_of client) (begin_of number) (least, most) (least', most')
    (ap (λ (place : Place). place.at) same)))))

-- the event begins or ends a call of the client
IsOwnCall : Event → ℕ → Type 0
IsOwnCall (Begin number) client = number ≡ client
IsOwnCall (End number) client = number ≡ client
IsOwnCall other client = ⊥

begin_word-happens : (state : State) (event : Event) (client : ℕ) → MayHappen state event → IsSound state → 1 ≤ client
    → client ≤ 64 → (IsOwnCall event client → ⊥) → begin_word (happens state event) client ≡ begin_word state client
unfolding SameBegins IsOwnCall
begin_word-happens state (Begin number) client may sound least most other =
    begins-moved state number client may.0.number.0 (omega (arith, may.0.number.1, sound.is_view.limits.clients)) least most other
begin_word-happens state (End number) client may sound least most other =
    begins-moved state number client may.0.number.0 (omega (arith, may.0.number.1, sound.is_view.limits.clients)) least most other
begin_word-happens state (Choose number class) client may sound least most other = refl
begin_word-happens state (Seek number) client may sound least most other =
    let stock = (state.clients number).stock in
    let is = (sound.clients number).choosing may.1 in
    begins-sought state.view state.words number stock stock.phase is is.phase client least most
begin_word-happens state (Clear number class) client may sound least most other = refl
begin_word-happens state (ClearNext number) client may sound least most other =
    begins-cleared state number (state.clients number).clearing sound.is_view (sound.clients number).clearing client least most
begin_word-happens state (Renew number) client may sound least most other = refl
begin_word-happens state (Name number object) client may sound least most other = refl
begin_word-happens state (Return number object look) client may sound least most other = refl
begin_word-happens state (ReturnNext number object) client may sound least most other =
    begins-returned state object (state.uses object) sound.is_view (sound.uses object) client least most
begin_word-happens state (Retire number) client may sound least most other = refl
begin_word-happens state (Release number region block class) client may sound least most other = refl
begin_word-happens state (ReleaseNext number) client may sound least most other =
    begins-released state number (state.clients number).service refl sound client least most

pub begins_stay : (view : Viewed) (events : List Event) (event : Event) → IsView view
    → IsAllowed (opening view) (events ++ event ∷ []) → (client : ℕ) → 1 ≤ client → client ≤ view.shape.clients
    → event ≢ Begin client → event ≢ End client
    → begin_word (happens (run (opening view) events) event) client ≡ begin_word (run (opening view) events) client
unfolding IsOwnCall
begins_stay view events event is allowed client least most no_begin no_end =
    let both = allowed_last (opening view) events event allowed in
    let sound = IsSound-run (opening view) events both.0 (IsSound-opening view is) in
    begin_word-happens (run (opening view) events) event client both.1 sound least (omega (arith, most, is.limits.clients))
    (no_call event no_begin no_end)
  where
    no_call : (one : Event) → one ≢ Begin client → one ≢ End client → IsOwnCall one client → ⊥
    no_call (Begin number) begin end same = begin (ap (λ n. Begin n) same)
    no_call (End number) begin end same = end (ap (λ n. End n) same)
    no_call (Choose number class) begin end is_call = is_call
    no_call (Seek number) begin end is_call = is_call
    no_call (Clear number class) begin end is_call = is_call
    no_call (ClearNext number) begin end is_call = is_call
    no_call (Renew number) begin end is_call = is_call
    no_call (Name number object) begin end is_call = is_call
    no_call (Return number object look) begin end is_call = is_call
    no_call (ReturnNext number object) begin end is_call = is_call
    no_call (Retire number) begin end is_call = is_call
    no_call (Release number region block class) begin end is_call = is_call
    no_call (ReleaseNext number) begin end is_call = is_call

-- ---- who changes a bit

-- the client takes steps, and is inside a call
abbrev pub InCall : State → ℕ → Type 0
InCall state client = IsActive state client × (is_inside state client ≡ true)

-- the client clears a bit, or sets one
abbrev pub Changes : State → ℕ → Type 0
Changes state client =
    ((state.clients client).clearing ≢ NotClearing)
    ⊎ ((object : Object) × (taker : ℕ) × (change : BitChange) × (state.uses object ≡ Returning taker client change))

unfoldable pub AllInCalls : State → Type 0
AllInCalls state = (client : ℕ) → Changes state client → InCall state client

inside_outside : {A : Type 0} (state : State) (client other : ℕ) → client ≡ other → is_inside state client ≡ false
    → is_inside state other ≡ true → A
inside_outside state client other same outside inside =
    absurd (both (sym outside ∙ (ap (is_inside state) same ∙ inside)))
  where
    both : false ≡ true → ⊥
    both is = cc

InCall-kept : (state new : State) (client : ℕ) → new.view ≡ state.view
    → (new.clients client).service ≡ (state.clients client).service → begin_word new client ≡ begin_word state client
    → InCall state client → InCall new client
InCall-kept state new client views serves begins is = (
  record {
    number = subst (λ (v : Viewed). (1 ≤ client) × (client ≤ v.shape.clients)) (sym views) is.0.number;
    active = serves ∙ is.0.active;
  },
  ap (λ w. w % 2 == 1) begins ∙ is.1,
)

-- an event after which whoever changes a bit was inside a call before, and keeps its service and its begin word
AllInCalls-after : (state : State) (event : Event) → MayHappen state event → IsSound state
    → ((client : ℕ) → Changes (happens state event) client → InCall state client)
    → ((client : ℕ) → InCall state client → Changes (happens state event) client
    → ((happens state event).clients client).service ≡ (state.clients client).service)
    → ((client : ℕ) → InCall state client → Changes (happens state event) client → IsOwnCall event client → ⊥)
    → AllInCalls (happens state event)
unfolding AllInCalls
AllInCalls-after state event may sound was serves calls client changes =
    let before = was client changes in
    InCall-kept state (happens state event) client (view-happens state event) (serves client before changes)
    (begin_word-happens state event client may sound before.0.number.0
    (omega (arith, before.0.number.1, sound.is_view.limits.clients)) (calls client before changes)) before

-- who sets the bit of an object then did so before, or is this client
abbrev SettersBefore : State → (Object → Use) → ℕ → Type 0
SettersBefore state uses number =
    (of : Object) (taker client : ℕ) (change : BitChange) → uses of ≡ Returning taker client change
    → ((one : Object) × (other : ℕ) × (before : BitChange) × (state.uses one ≡ Returning other client before)) ⊎ (number ≡ client)

-- a client inside a call moves
acting : (state : State) (event : Event) (number : ℕ) → MayHappen state event → IsSound state → AllInCalls state
    → InCall state number
    → ((client : ℕ) → number ≢ client → ((happens state event).clients client).clearing ≡ (state.clients client).clearing)
    → ((client : ℕ) → ((happens state event).clients client).service ≡ (state.clients client).service)
    → SettersBefore state (happens state event).uses number → ((client : ℕ) → IsOwnCall event client → ⊥)
    → AllInCalls (happens state event)
unfolding AllInCalls
acting state event number may sound all inside clearings services setters calls =
    AllInCalls-after state event may sound was (λ client before changes. services client) (λ client before changes. calls client)
  where
    was : (client : ℕ) → Changes (happens state event) client → InCall state client
    was client (inl clears) =
        elim (cases_eq number client) [
          | inl same ↦ subst (λ n. InCall state n) same inside
          | inr apart ↦ all client (inl (λ is. clears (clearings client apart ∙ is)))
        ]
    was client (inr sets) =
        elim (setters sets.0 sets.1 client sets.2 sets.3) [
          | inl before ↦ all client (inr before)
          | inr same ↦ subst (λ n. InCall state n) same inside
        ]

-- a client that is in no call moves
resting : (state : State) (event : Event) (number : ℕ) → MayHappen state event → IsSound state → AllInCalls state
    → (InCall state number → ⊥)
    → ((client : ℕ) → ((happens state event).clients client).clearing ≡ (state.clients client).clearing)
    → ((client : ℕ) → number ≢ client → ((happens state event).clients client).service ≡ (state.clients client).service)
    → (happens state event).uses ≡ state.uses → ((client : ℕ) → IsOwnCall event client → ⊥)
    → AllInCalls (happens state event)
unfolding AllInCalls
resting state event number may sound all outside clearings services uses calls =
    AllInCalls-after state event may sound was
    (λ client before changes. services client (λ same. outside (subst (λ n. InCall state n) (sym same) before)))
    (λ client before changes. calls client)
  where
    was : (client : ℕ) → Changes (happens state event) client → InCall state client
    was client (inl clears) = all client (inl (λ is. clears (clearings client ∙ is)))
    was client (inr sets) =
        all client
        (inr (sets.0, sets.1, sets.2, ap (λ (u : Object → Use). u sets.0) (sym uses) ∙ sets.3))

-- a client that is replaced
clearing_apart : (state : State) (number : ℕ) (later : Client) (client : ℕ) → number ≢ client
    → (updated state.clients number later client).clearing ≡ (state.clients client).clearing
clearing_apart state number later client apart =
    at_updated (λ (c : Client). c.clearing ≡ (state.clients client).clearing) state.clients number later client
    (λ same. absurd (apart same)) (λ differs. refl)

service_apart : (state : State) (number : ℕ) (later : Client) (client : ℕ) → number ≢ client
    → (updated state.clients number later client).service ≡ (state.clients client).service
service_apart state number later client apart =
    at_updated (λ (c : Client). c.service ≡ (state.clients client).service) state.clients number later client
    (λ same. absurd (apart same)) (λ differs. refl)

clearing_kept : (state : State) (number : ℕ) (later : Client) → later.clearing ≡ (state.clients number).clearing → (client : ℕ)
    → (updated state.clients number later client).clearing ≡ (state.clients client).clearing
clearing_kept state number later kept client =
    at_updated (λ (c : Client). c.clearing ≡ (state.clients client).clearing) state.clients number later client
    (λ is. kept ∙ ap (λ n. (state.clients n).clearing) is) (λ apart. refl)

service_kept : (state : State) (number : ℕ) (later : Client) → later.service ≡ (state.clients number).service → (client : ℕ)
    → (updated state.clients number later client).service ≡ (state.clients client).service
service_kept state number later kept client =
    at_updated (λ (c : Client). c.service ≡ (state.clients client).service) state.clients number later client
    (λ is. kept ∙ ap (λ n. (state.clients n).service) is) (λ apart. refl)

told-service : (client : Client) (stock : Stock) (answer : Took) → (told client stock answer).service ≡ client.service
told-service client stock took.Going = refl
told-service client stock (took.Have object next_object) = refl
told-service client stock (took.NoSpace class awaited begin) = refl
told-service client stock (took.Refused node) = refl

renewed-service : (client : Client) (clearing : Clearing) → (renewed client clearing).service ≡ client.service
renewed-service client NotClearing = refl
renewed-service client (Under class given change) = refl
renewed-service client (Cleared class given) = refl

-- ---- uses

same_setters : (state : State) (number : ℕ) → SettersBefore state state.uses number
same_setters state number of taker client change is = inl (of, taker, change, is)

-- one use becomes another
setters_with : (state : State) (number : ℕ) (object : Object) (use_of : Use)
    → ((taker client : ℕ) (change : BitChange) → use_of ≡ Returning taker client change
    → ((other : ℕ) × (before : BitChange) × (state.uses object ≡ Returning other client before)) ⊎ (number ≡ client))
    → SettersBefore state (with_use state.uses object use_of) number
setters_with state number object use_of before of taker client change =
    cond_both (is_same object of) use_of (state.uses of)
    (λ u. u ≡ Returning taker client change
    → ((one : Object) × (other : ℕ) × (was : BitChange) × (state.uses one ≡ Returning other client was)) ⊎ (number ≡ client))
    (λ same is.
    elim (before taker client change is) [
      | inl old ↦ inl (object, old.0, old.1, old.2)
      | inr own ↦ inr own
    ])
    (λ apart is. inl (of, taker, change, is))

named_setter : (namer of other taker client : ℕ) (change : BitChange) → Named of other ≡ Returning taker client change → ⊥
named_setter namer of other taker client change is = cc

taken_setter : (of taker client : ℕ) (change : BitChange) → Taken of ≡ Returning taker client change → ⊥
taken_setter of taker client change is = cc

untaken_setter : (taker client : ℕ) (change : BitChange) → Untaken ≡ Returning taker client change → ⊥
untaken_setter taker client change is = cc

same_setter : (taker client of other : ℕ) (one change : BitChange) → Returning taker client one ≡ Returning of other change
    → client ≡ other
same_setter taker client of other one change is = cc

named-before : (namer : ℕ) (use_of : Use) (taker client : ℕ) (change : BitChange)
    → named namer use_of ≡ Returning taker client change → use_of ≡ Returning taker client change
named-before namer Untaken taker client change is = is
named-before namer (Taken of) taker client change is = absurd (named_setter namer of namer taker client change is)
named-before namer (Named of other) taker client change is = is
named-before namer (Returning of other one) taker client change is = is

returned-setters : (state : State) (object : Object) (use_of : Use) (number : ℕ) → state.uses object ≡ use_of
    → SettersBefore state (returned_next state object use_of).uses number
returned-setters state object Untaken number is = same_setters state number
returned-setters state object (Taken client) number is = same_setters state number
returned-setters state object (Named client namer) number is = same_setters state number
returned-setters state object (Returning of namer one) number is =
    setters_with state number object (use_after_setting of namer t t.told)
    (λ taker client change. by t.told taker client change)
  where
    t : Turn BitChange Changed
    t = bits.turn one (answered state (bits.next one))

    by : (answer : Changed) (taker client : ℕ) (change : BitChange)
        → use_after_setting of namer t answer ≡ Returning taker client change
        → ((other : ℕ) × (before : BitChange) × (state.uses object ≡ Returning other client before)) ⊎ (number ≡ client)
    by changed.Going taker client change same =
        inl (of, one, is ∙ ap (λ n. Returning of n one) (same_setter of namer taker client t.state change same))
    by changed.Whole taker client change same = absurd (untaken_setter taker client change same)
    by (changed.Refused node) taker client change same =
        inl (of, one, is ∙ ap (λ n. Returning of n one) (same_setter of namer taker client t.state change same))

cleared-setters : (state : State) (number : ℕ) (clearing : Clearing)
    → SettersBefore state (cleared_next state number clearing).uses number
cleared-setters state number NotClearing = same_setters state number
cleared-setters state number (Cleared class given) = same_setters state number
cleared-setters state number (Under class given one) =
    setters_with state number object (use_after_clearing number t.told (state.uses object))
    (λ taker client change. by t.told taker client change)
  where
    object : Object
    object = object_of class given

    t : Turn BitChange Changed
    t = bits.turn one (answered state (bits.next one))

    by : (answer : Changed) (taker client : ℕ) (change : BitChange)
        → use_after_clearing number answer (state.uses object) ≡ Returning taker client change
        → ((other : ℕ) × (before : BitChange) × (state.uses object ≡ Returning other client before)) ⊎ (number ≡ client)
    by changed.Going taker client change same = inl (taker, change, same)
    by changed.Whole taker client change same = absurd (taken_setter number taker client change same)
    by (changed.Refused node) taker client change same = inl (taker, change, same)

cleared-clearing : (state : State) (number : ℕ) (clearing : Clearing) (client : ℕ) → number ≢ client
    → ((cleared_next state number clearing).clients client).clearing ≡ (state.clients client).clearing
cleared-clearing state number NotClearing client apart = refl
cleared-clearing state number (Cleared class given) client apart = refl
cleared-clearing state number (Under class given one) client apart =
    let t = bits.turn one (answered state (bits.next one)) in
    clearing_apart state number (record (state.clients number) { clearing = clearing_after class given t t.told }) client apart

cleared-service : (state : State) (number : ℕ) (clearing : Clearing) (client : ℕ)
    → ((cleared_next state number clearing).clients client).service ≡ (state.clients client).service
cleared-service state number NotClearing client = refl
cleared-service state number (Cleared class given) client = refl
cleared-service state number (Under class given one) client =
    let t = bits.turn one (answered state (bits.next one)) in
    service_kept state number (record (state.clients number) { clearing = clearing_after class given t t.told }) refl client

returned-clients : (state : State) (object : Object) (use_of : Use) → (returned_next state object use_of).clients ≡ state.clients
returned-clients state object Untaken = refl
returned-clients state object (Taken client) = refl
returned-clients state object (Named client namer) = refl
returned-clients state object (Returning client namer change) = refl

released-clearing : (state : State) (number : ℕ) (service : Service) (client : ℕ)
    → ((released_next state number service).clients client).clearing ≡ (state.clients client).clearing
released-clearing state number Active client = refl
released-clearing state number Retired client = refl
released-clearing state number (Releasing region block class replicas) client =
    clearing_kept state number
    (record (state.clients number) { service = service_after state.view region block class replicas }) refl client

released-service : (state : State) (number : ℕ) (service : Service) (client : ℕ) → number ≢ client
    → ((released_next state number service).clients client).service ≡ (state.clients client).service
released-service state number Active client apart = refl
released-service state number Retired client apart = refl
released-service state number (Releasing region block class replicas) client apart =
    service_apart state number
    (record (state.clients number) { service = service_after state.view region block class replicas }) client apart

released-uses : (state : State) (number : ℕ) (service : Service) → (released_next state number service).uses ≡ state.uses
released-uses state number Active = refl
released-uses state number Retired = refl
released-uses state number (Releasing region block class replicas) = refl

-- ---- any step

nothing_changes : (state : State) (number client : ℕ) → ChangesNothing state number → number ≡ client → Changes state client → ⊥
nothing_changes state number client nothing same (inl clears) =
    clears (subst (λ n. (state.clients n).clearing ≡ NotClearing) same nothing.clearing)
nothing_changes state number client nothing same (inr sets) =
    nothing.setting sets.0 sets.1 sets.2
    (subst (λ n. state.uses sets.0 ≡ Returning sets.1 n sets.2) (sym same) sets.3)

retired_outside : (state : State) (number : ℕ) → (state.clients number).service ≡ Retired → InCall state number → ⊥
retired_outside state number retired inside = never (sym retired ∙ inside.0.active)
  where
    never : Retired ≡ Active → ⊥
    never is = cc

releasing_outside : (state : State) (number region block class replicas : ℕ)
    → (state.clients number).service ≡ Releasing region block class replicas → InCall state number → ⊥
releasing_outside state number region block class replicas releasing inside = never (sym releasing ∙ inside.0.active)
  where
    never : Releasing region block class replicas ≡ Active → ⊥
    never is = cc

pub calls-happens : (state : State) (event : Event) → MayHappen state event → IsSound state → AllInCalls state
    → AllInCalls (happens state event)
unfolding AllInCalls IsOwnCall
calls-happens state (Begin number) may sound all =
    AllInCalls-after state (Begin number) may sound all (λ client before changes. refl)
    (λ client before changes same. inside_outside state number client same may.1 before.1)
calls-happens state (End number) may sound all =
    AllInCalls-after state (End number) may sound all (λ client before changes. refl)
    (λ client before changes same. nothing_changes state number client may.2 same changes)
calls-happens state (Choose number class) may sound all =
    let client = state.clients number in
    let t = begins client.stock state.view.mask class in
    acting state (Choose number class) number may sound all (may.0.active, may.0.inside)
    (clearing_apart state number (told client t.state t.told))
    (service_kept state number (told client t.state t.told) (told-service client t.state t.told)) (same_setters state number)
    (λ other is. is)
calls-happens state (Seek number) may sound all =
    let client = state.clients number in
    let t = turn client.stock (answered state (next client.stock)) in
    acting state (Seek number) number may sound all (may.0.active, may.0.inside)
    (clearing_apart state number (told client t.state t.told))
    (service_kept state number (told client t.state t.told) (told-service client t.state t.told)) (same_setters state number)
    (λ other is. is)
calls-happens state (Clear number class) may sound all =
    let later = record (state.clients number) { clearing = clearing_of state.view class ((state.clients number).given class) } in
    acting state (Clear number class) number may sound all (may.0.active, may.0.inside) (clearing_apart state number later)
    (service_kept state number later refl) (same_setters state number) (λ other is. is)
calls-happens state (ClearNext number) may sound all =
    let clearing = (state.clients number).clearing in
    acting state (ClearNext number) number may sound all (may.0, may.1) (cleared-clearing state number clearing)
    (cleared-service state number clearing) (cleared-setters state number clearing) (λ other is. is)
calls-happens state (Renew number) may sound all =
    let client = state.clients number in
    let later = renewed client client.clearing in
    acting state (Renew number) number may sound all (may.0, may.1) (clearing_apart state number later)
    (service_kept state number later (renewed-service client client.clearing)) (same_setters state number) (λ other is. is)
calls-happens state (Name number object) may sound all =
    acting state (Name number object) number may sound all (may.0.active, may.0.inside) (λ client apart. refl) (λ client. refl)
    (setters_with state number object (named number (state.uses object))
    (λ taker client change is. inl (taker, change, named-before number (state.uses object) taker client change is)))
    (λ other is. is)
calls-happens state (Return number object look) may sound all =
    acting state (Return number object look) number may sound all (may.0.active, may.0.inside) (λ client apart. refl)
    (λ client. refl)
    (setters_with state number object (returning state.view object look (state.uses object))
    (λ taker client change is.
    inr
    (same_setter may.1.0 number taker client (bit_change_of state.view object true look) change
    (ap (returning state.view object look) (sym may.1.1) ∙ is))))
    (λ other is. is)
calls-happens state (ReturnNext number object) may sound all =
    let clients = returned-clients state object (state.uses object) in
    acting state (ReturnNext number object) number may sound all (may.0.active, may.0.inside)
    (λ client apart. ap (λ (c : ℕ → Client). (c client).clearing) clients)
    (λ client. ap (λ (c : ℕ → Client). (c client).service) clients)
    (returned-setters state object (state.uses object) number refl) (λ other is. is)
calls-happens state (Retire number) may sound all =
    let later = record (state.clients number) { service = Retired } in
    resting state (Retire number) number may sound all (λ inside. inside_outside state number number refl may.1 inside.1)
    (clearing_kept state number later refl) (service_apart state number later) refl (λ other is. is)
calls-happens state (Release number region block class) may sound all =
    let later = record (state.clients number) {
      service = Releasing region block class 0;
      released = (region, block) ∷ (state.clients number).released;
    } in
    resting state (Release number region block class) number may sound all (retired_outside state number may.2)
    (clearing_kept state number later refl) (service_apart state number later) refl (λ other is. is)
calls-happens state (ReleaseNext number) may sound all =
    let service = (state.clients number).service in
    resting state (ReleaseNext number) number may sound all
    (releasing_outside state number may.0 may.1 may.2 may.3 may.4) (released-clearing state number service)
    (released-service state number service) (released-uses state number service) (λ other is. is)

calls-run : (state : State) (events : List Event) → IsAllowed state events → IsSound state → AllInCalls state
    → AllInCalls (run state events)
calls-run state [] allowed sound all = all
calls-run state (event ∷ events) allowed sound all =
    calls-run (happens state event) events allowed.1 (IsSound-happens state event allowed.0 sound)
    (calls-happens state event allowed.0 sound all)

pub calls-opening : (view : Viewed) → AllInCalls (opening view)
unfolding AllInCalls
calls-opening view client (inl clears) = absurd (clears refl)
calls-opening view client (inr sets) = absurd (untaken_setter sets.1 client sets.2 sets.3)

pub clearers_inside : (view : Viewed) (events : List Event) → IsView view → IsAllowed (opening view) events → (client : ℕ)
    → ((run (opening view) events).clients client).clearing ≢ NotClearing
    → ((run (opening view) events).clients client).service ≡ Active × (is_inside (run (opening view) events) client ≡ true)
unfolding AllInCalls
clearers_inside view events is allowed client clears =
    let in_call = calls-run (opening view) events allowed (IsSound-opening view is) (calls-opening view) client (inl clears) in
    (in_call.0.active, in_call.1)

pub setters_inside : (view : Viewed) (events : List Event) → IsView view → IsAllowed (opening view) events → (client taker : ℕ)
    (object : Object) (change : BitChange) → (run (opening view) events).uses object ≡ Returning taker client change
    → ((run (opening view) events).clients client).service ≡ Active × (is_inside (run (opening view) events) client ≡ true)
unfolding AllInCalls
setters_inside view events is allowed client taker object change sets =
    let in_call = calls-run (opening view) events allowed (IsSound-opening view is) (calls-opening view) client
    (inr (object, taker, change, sets)) in
    (in_call.0.active, in_call.1)
