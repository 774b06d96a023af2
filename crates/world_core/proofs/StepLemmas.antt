-- A client's verb: what the program notes of it is what the world's ledger has.
use Rattle.std.proofs.Common.{◌≡◌, ℕ, ◌<◌, ◌==◌, ◌-◌, if◌then◌else◌, ◌↔◌, Bool, true, false, ◌&&◌, List, [], ◌∷◌, length, get_or, Option, Some, None, refl, sym, ap, ◌∙◌}
use Rattle.std.specs.Option.{option_map_or}
use Rattle.std.specs.Prelude.{not, nat_lt, slice_get, slice_index_or}
use Rattle.std.proofs.lemmas.List.{get_or_default}
use Rattle.kv_ops.specs.Ahead.{is_ending, is_searching}
use Rattle.kv_ops.specs.Causes.{Returns}
use Rattle.machine.specs.Client.{own_object, told}
use Rattle.machine.specs.declared.client_call.Outcome.{Outcome}
use Rattle.machine.specs.declared.client_call.Step.{Step}
use Rattle.machine.specs.declared.client_call.Step.TheVariants as step
use Rattle.machine.specs.SlotWrite.{SlotWrite}
use Rattle.machine.specs.Stage.{Client, Stage, Idle, Start, ReadEpoch, Pause, Paused, LostNode, Seek, Fetch, Choose, Clear, Body, Find, ReadVersion, Log, WriteSlot, AwaitRound, TestKey, Resolve, Free, Return, End}
use Rattle.machine_world.specs.Calls.{reply_of}
use Rattle.machine_world.specs.Events.{moments_of}
use Rattle.machine_world.specs.Ledger.{Caller, caller_of, final_of, is_word, reads_slot, winner_rank, with_final, with_holder, with_read, with_return, with_taking}
use Rattle.machine_world.specs.World.{Ledger, nobody}
use Rattle.map_model.specs.Trace.{Returned}
use Rattle.region_view.specs.Sizes.{Sizes}
use Rattle.verb_words.proofs.WordsLemmas.{with_word-word_at}
use Rattle.verb_words.specs.Applied.{is_refused, words_after}
use Rattle.verb_words.specs.Verb.{place_of}
use Rattle.verb_words.specs.declared.verbs.Answer.{Answer}
use Rattle.verb_words.specs.declared.verbs.Place.{Place}
use Rattle.verb_words.specs.declared.verbs.Verb.{Verb}
use Rattle.verb_words.specs.declared.verbs.Verb.TheVariants.{Read}
use Rattle.world_core.specs.Dues.{HasRankToReturn, IsReturning, decision_for, has_own_in_stock, may_take, moments_told, with_decided, with_returning, word_to_replace}
use Rattle.world_core.specs.Steps.{client_in, ledger_for}
use Rattle.world_core.specs.declared.dues.Decision.{Decision}
use Rattle.world_core.specs.declared.dues.Returning.{Returning}
use Rattle.world_ledger.proofs.ReturnLemmas.{with_returned-outcome}
use Rattle.world_ledger.proofs.StockLemmas.{in_stock-other}
use Rattle.world_ledger.specs.Kept.{has_rank, has_rank_if, with_taking_of}
use Rattle.world_ledger.specs.Returns.{returned_of, with_returned}
use Rattle.world_ledger.specs.Seen.{may_bear_on_stock}

-- the slot and the fresh word of a write that is at its final swap
abbrev pub swap_of : Option SlotWrite → Option (ℕ × ℕ)
swap_of write = option_map_or (λ w. Some (w.slot, w.fresh)) write None

pub with_decided-final : (sizes : Sizes) (before now : List (List ℕ)) (event : ℕ) (caller : Caller) (write : Option SlotWrite) (ledger : Ledger)
    → with_decided sizes (word_to_replace sizes before (decision_for caller (swap_of write))) now event (decision_for caller (swap_of write)) ledger
    ≡ with_final sizes before now event caller write ledger
with_decided-final sizes before now event caller None ledger = refl
with_decided-final sizes before now event caller (Some write) ledger = refl

pub with_own-taking : (sizes : Sizes) (before now : List (List ℕ)) (client : Client) (ledger : Ledger)
    → with_taking_of sizes client.client client.object (has_own_in_stock sizes before client) (has_own_in_stock sizes now client) ledger
    ≡ with_taking sizes before now client ledger
with_own-taking sizes before now client ledger = by (client.object == 0) refl
  where
    by : (t : Bool) → (client.object == 0) ≡ t
        → with_taking_of sizes client.client client.object (has_own_in_stock sizes before client) (has_own_in_stock sizes now client) ledger
        ≡ with_taking sizes before now client ledger
    by true none = rw none refl
    by false some = rw some refl

-- where a verb may not change whether the object is in stock, nothing is to be noted of it
pub with_watched-taking : (sizes : Sizes) (before now : List (List ℕ)) (client : Client) (watches : Bool) (ledger : Ledger)
    → (watches ≡ false → has_own_in_stock sizes before client ≡ has_own_in_stock sizes now client)
    → with_taking_of sizes client.client client.object (watches && has_own_in_stock sizes before client) (watches && has_own_in_stock sizes now client) ledger
    ≡ with_taking sizes before now client ledger
with_watched-taking sizes before now client true ledger stays = with_own-taking sizes before now client ledger
with_watched-taking sizes before now client false ledger stays =
    ap (λ t. if t then with_holder sizes ledger client.object client.client else ledger) (never (client.object == 0) false)
    ∙ sym (ap (λ t. if t then with_holder sizes ledger client.object client.client else ledger) (nothing (client.object == 0) (has_own_in_stock sizes now client)))
    ∙ ap (λ was. with_taking_of sizes client.client client.object was (has_own_in_stock sizes now client) ledger) (sym (stays refl))
    ∙ with_own-taking sizes before now client ledger
  where
    never : (none is : Bool) → (not none && (false && not is)) ≡ false
    never true is = refl
    never false is = refl

    nothing : (none is : Bool) → (not none && (is && not is)) ≡ false
    nothing true is = refl
    nothing false true = refl
    nothing false false = refl

-- a verb that may not take the object leaves it in stock, or out of it
pub own_in_stock-other : (sizes : Sizes) (nodes : List (List ℕ)) (client : Client) (verb : Verb) (refuse : Bool) → may_take sizes client (place_of verb) ≡ false
    → has_own_in_stock sizes nodes client ≡ has_own_in_stock sizes (words_after nodes verb refuse) client
own_in_stock-other sizes nodes client verb refuse may_not = by (client.object == 0) refl
  where
    by : (t : Bool) → (client.object == 0) ≡ t → has_own_in_stock sizes nodes client ≡ has_own_in_stock sizes (words_after nodes verb refuse) client
    by true none = rw none refl
    by false some =
        let bears_not : may_bear_on_stock sizes client.object (place_of verb) ≡ false =
        sym (ap (λ t. if t then false else may_bear_on_stock sizes client.object (place_of verb)) some) ∙ may_not in
        rw some (sym (in_stock-other sizes nodes verb refuse (own_object client) bears_not))

-- the same of what is at hand of a verb
pub own_stays : (sizes : Sizes) (before now : List (List ℕ)) (client : Client) (verb : Verb) (refuse : Bool) (place : Place) (watches : Bool)
    → place ≡ place_of verb → watches ≡ may_take sizes client place → now ≡ words_after before verb refuse → watches ≡ false
    → has_own_in_stock sizes before client ≡ has_own_in_stock sizes now client
own_stays sizes before now client verb refuse place watches at is leads not_so =
    own_in_stock-other sizes before client verb refuse (ap (may_take sizes client) (sym at) ∙ sym is ∙ not_so)
    ∙ ap (λ nodes. has_own_in_stock sizes nodes client) (sym leads)

-- a call that may end has no swap due
pub ending-decides_nothing : (stage : Stage) → is_ending stage ≡ true → final_of stage ≡ None
ending-decides_nothing End is = refl
ending-decides_nothing Idle is = absurd cc
ending-decides_nothing Start is = absurd cc
ending-decides_nothing ReadEpoch is = absurd cc
ending-decides_nothing (Pause word kept) is = absurd cc
ending-decides_nothing (Paused word kept) is = absurd cc
ending-decides_nothing (LostNode node kept) is = absurd cc
ending-decides_nothing (Seek search) is = absurd cc
ending-decides_nothing (Fetch reading) is = absurd cc
ending-decides_nothing Choose is = absurd cc
ending-decides_nothing (Clear change) is = absurd cc
ending-decides_nothing (Body write) is = absurd cc
ending-decides_nothing (Find search) is = absurd cc
ending-decides_nothing (ReadVersion word) is = absurd cc
ending-decides_nothing (Log write) is = absurd cc
ending-decides_nothing (WriteSlot write) is = absurd cc
ending-decides_nothing (AwaitRound write) is = absurd cc
ending-decides_nothing (TestKey test) is = absurd cc
ending-decides_nothing (Resolve resolving) is = absurd cc
ending-decides_nothing (Free change) is = absurd cc
ending-decides_nothing (Return change) is = absurd cc

-- a search neither ends the call nor decides a slot
pub searching-ends_nothing : (stage : Stage) → is_searching stage ≡ true → is_ending stage ≡ false
searching-ends_nothing (Seek search) is = refl
searching-ends_nothing (Find search) is = refl
searching-ends_nothing Idle is = absurd cc
searching-ends_nothing Start is = absurd cc
searching-ends_nothing ReadEpoch is = absurd cc
searching-ends_nothing (Pause word kept) is = absurd cc
searching-ends_nothing (Paused word kept) is = absurd cc
searching-ends_nothing (LostNode node kept) is = absurd cc
searching-ends_nothing (Fetch reading) is = absurd cc
searching-ends_nothing Choose is = absurd cc
searching-ends_nothing (Clear change) is = absurd cc
searching-ends_nothing (Body write) is = absurd cc
searching-ends_nothing (ReadVersion word) is = absurd cc
searching-ends_nothing (Log write) is = absurd cc
searching-ends_nothing (WriteSlot write) is = absurd cc
searching-ends_nothing (AwaitRound write) is = absurd cc
searching-ends_nothing (TestKey test) is = absurd cc
searching-ends_nothing (Resolve resolving) is = absurd cc
searching-ends_nothing (Free change) is = absurd cc
searching-ends_nothing (Return change) is = absurd cc
searching-ends_nothing End is = absurd cc

pub searching-decides_nothing : (stage : Stage) → is_searching stage ≡ true → final_of stage ≡ None
searching-decides_nothing (Seek search) is = refl
searching-decides_nothing (Find search) is = refl
searching-decides_nothing Idle is = absurd cc
searching-decides_nothing Start is = absurd cc
searching-decides_nothing ReadEpoch is = absurd cc
searching-decides_nothing (Pause word kept) is = absurd cc
searching-decides_nothing (Paused word kept) is = absurd cc
searching-decides_nothing (LostNode node kept) is = absurd cc
searching-decides_nothing (Fetch reading) is = absurd cc
searching-decides_nothing Choose is = absurd cc
searching-decides_nothing (Clear change) is = absurd cc
searching-decides_nothing (Body write) is = absurd cc
searching-decides_nothing (ReadVersion word) is = absurd cc
searching-decides_nothing (Log write) is = absurd cc
searching-decides_nothing (WriteSlot write) is = absurd cc
searching-decides_nothing (AwaitRound write) is = absurd cc
searching-decides_nothing (TestKey test) is = absurd cc
searching-decides_nothing (Resolve resolving) is = absurd cc
searching-decides_nothing (Free change) is = absurd cc
searching-decides_nothing (Return change) is = absurd cc
searching-decides_nothing End is = absurd cc

-- a reading leaves the words as they are
pub words_after-read : (words : List (List ℕ)) (place : Place) (refuse : Bool) → words_after words (Read place) refuse ≡ words
words_after-read words place refuse = by (is_refused words (Read place) refuse) refl
  where
    by : (t : Bool) → is_refused words (Read place) refuse ≡ t → words_after words (Read place) refuse ≡ words
    by true refused = rw refused refl
    by false carried = rw carried (with_word-word_at words place)

-- where no bit is looked at, no object is taken
pub untaken : (sizes : Sizes) (client pointer : ℕ) (ledger : Ledger) → with_taking_of sizes client pointer false false ledger ≡ ledger
untaken sizes client pointer ledger = ap (λ t. if t then with_holder sizes ledger pointer client else ledger) (never (pointer == 0))
  where
    never : (none : Bool) → (not none && (false && not false)) ≡ false
    never true = refl
    never false = refl

-- a call ends only at the verb that may end it, and as it was to return
abbrev pub EndsAsTold : Client → Step → Type 0
EndsAsTold client told = (outcome : Outcome) → told ≡ step.Ended outcome → (is_ending client.stage ≡ true) × (outcome ≡ client.outcome)

pub with_returning-return : (client : Client) (returning : Option Returning) (told : Step) (event : ℕ) (ledger : Ledger) → IsReturning client returning → EndsAsTold client told
    → with_returning returning told event ledger ≡ with_return client told event ledger
with_returning-return client None step.Going event ledger is ends = refl
with_returning-return client None (step.NotYet why) event ledger is ends = refl
with_returning-return client None (step.Ended outcome) event ledger is ends = let known = ends outcome refl in absurd cc
with_returning-return client (Some returning) step.Going event ledger is ends = refl
with_returning-return client (Some returning) (step.NotYet why) event ledger is ends = refl
with_returning-return client (Some returning) (step.Ended outcome) event ledger is ends =
    let known = ends outcome refl in
    ap (λ returned. with_returned returned outcome event ledger) (is.1 ∙ ap (returned_of client) (sym known.1)) ∙ with_returned-outcome client outcome event ledger

pub moments-told : (client : Client) (returning : Option Returning) (told : Step) → IsReturning client returning → EndsAsTold client told
    → moments_told returning told ≡ moments_of client told
moments-told client None step.Going is ends = refl
moments-told client None (step.NotYet why) is ends = refl
moments-told client None (step.Ended outcome) is ends = let known = ends outcome refl in absurd cc
moments-told client (Some returning) step.Going is ends = refl
moments-told client (Some returning) (step.NotYet why) is ends = refl
moments-told client (Some returning) (step.Ended outcome) is ends =
    let known = ends outcome refl in
    ap (λ moment. moment ∷ []) (is.2 ∙ ap (λ result. Returned client.client client.number (reply_of client result)) (sym known.1))

pub ended-ends : (client : Client) (answer : Answer) (told : Step) → ((outcome : Outcome) → (told ≡ step.Ended outcome) ↔ Returns client answer outcome) → EndsAsTold client told
ended-ends client answer told causes outcome is =
    let why = (causes outcome).0 is in
    (ap is_ending why.0, why.2)

-- What is noted of a verb.

decided-read : (event : ℕ) (client : Client) (answer : Answer) (ledger : Ledger) → (with_read event client answer ledger).decided ≡ ledger.decided
decided-read event client answer ledger = by (reads_slot client.stage && is_word answer) refl
  where
    by : (t : Bool) → (reads_slot client.stage && is_word answer) ≡ t → (with_read event client answer ledger).decided ≡ ledger.decided
    by true reads = rw reads refl
    by false not_so = rw not_so refl

decided-taking : (sizes : Sizes) (client pointer : ℕ) (was is : Bool) (ledger : Ledger) → (with_taking_of sizes client pointer was is ledger).decided ≡ ledger.decided
decided-taking sizes client pointer was is ledger = by (not (pointer == 0) && (was && not is)) refl
  where
    by : (t : Bool) → (not (pointer == 0) && (was && not is)) ≡ t → (with_taking_of sizes client pointer was is ledger).decided ≡ ledger.decided
    by true takes = rw takes refl
    by false not_so = rw not_so refl

has_rank-same : (one other : Ledger) (at : ℕ × ℕ) → one.decided ≡ other.decided → has_rank other at ≡ true → has_rank one at ≡ true
has_rank-same one other at same is =
    ap (λ decided. option_map_or (λ winner. nat_lt winner.beaten winner_rank) (slice_get (slice_index_or decided at.0 []) (at.1 - 1)) true) same ∙ is

has_rank_if-always : (ledger : Ledger) (beaten : Option (ℕ × ℕ)) → ((slot version : ℕ) → has_rank ledger (slot, version) ≡ true) → has_rank_if ledger beaten ≡ true
has_rank_if-always ledger None ranks = refl
has_rank_if-always ledger (Some at) ranks = ranks at.0 at.1

-- what is noted of a client's verb before the client is told: the slot that it has read, the decision, and whether it has
-- taken its object
pub record IsNoted (sizes : Sizes) (before now : List (List ℕ)) (event : ℕ) (client : Client) (answer : Answer) (first taken : Ledger) : Type 0 where
  pub swap : Option (ℕ × ℕ)
  pub is_swap : swap ≡ swap_of (final_of client.stage)
  pub decision : Option Decision
  pub is_decision : decision ≡ decision_for (caller_of client) swap
  pub word : ℕ
  pub is_word : word ≡ word_to_replace sizes before decision
  pub number : ℕ
  pub is_number : number ≡ client.client
  pub pointer : ℕ
  pub is_pointer : pointer ≡ client.object
  pub watches : Bool
  pub stays : watches ≡ false → has_own_in_stock sizes before client ≡ has_own_in_stock sizes now client
  pub was : Bool
  pub is_was : was ≡ (watches && has_own_in_stock sizes before client)
  pub has : Bool
  pub is_has : has ≡ (watches && has_own_in_stock sizes now client)
  pub read : Ledger
  pub reads : read ≡ with_read event client answer first
  pub decided : Ledger
  pub decides : decided ≡ with_decided sizes word now event decision read
  pub takes : taken ≡ with_taking_of sizes number pointer was has decided

pub returning-has_rank : (sizes : Sizes) (before now : List (List ℕ)) (event : ℕ) (client : Client) (answer : Answer) (returning : Option Returning) (first taken : Ledger)
    → IsNoted sizes before now event client answer first taken → ((slot version : ℕ) → has_rank first (slot, version) ≡ true) → IsReturning client returning
    → HasRankToReturn taken returning
returning-has_rank sizes before now event client answer None first taken noted ranks due = tt
returning-has_rank sizes before now event client answer (Some returning) first taken noted ranks due =
    let none : noted.decision ≡ None = noted.is_decision ∙ ap (decision_for (caller_of client)) (noted.is_swap ∙ ap swap_of (ending-decides_nothing client.stage due.0)) in
    let same : noted.decided ≡ noted.read = noted.decides ∙ ap (λ decision. with_decided sizes noted.word now event decision noted.read) none in
    let all : taken.decided ≡ first.decided =
    ap (λ l. l.decided) noted.takes ∙ decided-taking sizes noted.number noted.pointer noted.was noted.has noted.decided
    ∙ ap (λ l. l.decided) (same ∙ noted.reads) ∙ decided-read event client answer first in
    has_rank_if-always taken returning.returned.beaten (λ slot version. has_rank-same taken first (slot, version) all (ranks slot version))

-- a decision that was due is noted as the world notes a final swap
pub decided-noted : (sizes : Sizes) (before now : List (List ℕ)) (event : ℕ) (caller : Caller) (write : Option SlotWrite) (swap : Option (ℕ × ℕ)) (decision : Option Decision) (word : ℕ) (first last : Ledger)
    → swap ≡ swap_of write → decision ≡ decision_for caller swap → word ≡ word_to_replace sizes before decision → last ≡ with_decided sizes word now event decision first
    → last ≡ with_final sizes before now event caller write first
decided-noted sizes before now event caller write swap decision word first last is_swap is_decision is_word decides =
    decides
    ∙ ap (λ w. with_decided sizes w now event decision first) is_word
    ∙ ap (λ d. with_decided sizes (word_to_replace sizes before d) now event d first) (is_decision ∙ ap (decision_for caller) is_swap)
    ∙ with_decided-final sizes before now event caller write first

noted-decided : (sizes : Sizes) (before now : List (List ℕ)) (event : ℕ) (client : Client) (answer : Answer) (first taken : Ledger) → (noted : IsNoted sizes before now event client answer first taken)
    → noted.decided ≡ with_final sizes before now event (caller_of client) (final_of client.stage) (with_read event client answer first)
noted-decided sizes before now event client answer first taken noted =
    decided-noted sizes before now event (caller_of client) (final_of client.stage) noted.swap noted.decision noted.word noted.read noted.decided noted.is_swap noted.is_decision noted.is_word noted.decides
    ∙ ap (with_final sizes before now event (caller_of client) (final_of client.stage)) noted.reads

pub ledger-noted : (sizes : Sizes) (before now : List (List ℕ)) (event : ℕ) (client : Client) (answer : Answer) (told_of : Step) (returning : Option Returning) (first taken last : Ledger)
    → IsNoted sizes before now event client answer first taken → IsReturning client returning → EndsAsTold client told_of → told_of ≡ told client answer
    → last ≡ with_returning returning told_of event taken
    → last ≡ ledger_for sizes before now event client answer first
ledger-noted sizes before now event client answer told_of returning first taken last noted due ends tells returns =
    returns
    ∙ with_returning-return client returning told_of event taken due ends
    ∙ ap (λ t. with_return client t event taken) tells
    ∙ ap (with_return client (told client answer) event)
    (noted.takes
    ∙ (λ i. with_taking_of sizes (noted.is_number i) (noted.is_pointer i) (noted.is_was i) (noted.is_has i) noted.decided)
    ∙ with_watched-taking sizes before now client noted.watches noted.decided noted.stays
    ∙ ap (with_taking sizes before now client) (noted-decided sizes before now event client answer first taken noted))

-- The client at a place.

pub found-client : (sizes : Sizes) (clients : List Client) (at : ℕ) (found : Client) → at < length clients → found ≡ get_or clients at found → found ≡ client_in sizes clients at
found-client sizes clients at found within is = is ∙ get_or_default clients at found (nobody sizes) within
