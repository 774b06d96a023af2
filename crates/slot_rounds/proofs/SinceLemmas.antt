-- A word that has been unused since the oldest write under way began is fresh: it is no expected word, since
-- each write under way expects a word that was deciding when it began.
use Rattle.std.proofs.Common.{◌≡◌, ℕ, ◌<◌, List, [], ◌∷◌, ◌++◌, length, refl, sym, ◌∙◌, ap, subst, inl, inr, append_assoc, append-nil}
use Rattle.slot_rounds.specs.Slot.{answer}
use Rattle.slot_rounds.specs.Write.{Write, Writer, Idle, Writing, begun, verb_of, after_at}
use Rattle.slot_rounds.specs.Run.{State, Event, Begin, Step, Leave, Quit, Copy, Install, opening, put, broken_off, stepped, happens, run}
use Rattle.slot_rounds.specs.Allowed.{MayHappen, IsAllowed}
use Rattle.slot_rounds.specs.Since.{IsUnderWay, StaysUnderWay, IsUnusedSince, MayHappenSince, IsAllowedSince}
use Rattle.slot_rounds.specs.Claims.{HoldsAlong}
use Rattle.slot_rounds.proofs.MovedLemmas.{writing_put}
use Rattle.slot_rounds.proofs.EventLemmas.{idle_writes, still_writing}
use Rattle.slot_rounds.proofs.RoundLemmas.{expected-happens, HoldsAlong-opening}

-- ---- one event more

pub run-more : (state : State) (events : List Event) (event : Event)
    → run state (events ++ event ∷ []) ≡ happens (run state events) event
run-more state [] event = refl
run-more state (first ∷ events) event = run-more (happens state first) events event

StaysUnderWay-more : (state : State) (events : List Event) (event : Event) (number : ℕ) → StaysUnderWay state events number
    → IsUnderWay ((happens (run state events) event).writers number) → StaysUnderWay state (events ++ event ∷ []) number
StaysUnderWay-more state [] event number stays last = (stays, last)
StaysUnderWay-more state (first ∷ events) event number stays last =
    (stays.0, StaysUnderWay-more (happens state first) events event number stays.1 last)

-- ---- where a write began

-- a moment at which the word was deciding, and since which the writer has had a write under way
pub record HasOrigin (start : State) (past : List Event) (number : ℕ) (word : ℕ) : Type 0 where
  pub before : List Event
  pub later : List Event
  pub split : past ≡ before ++ later
  pub stays : StaysUnderWay (run start before) later number
  pub primary : (run start before).slot.primary ≡ word

-- each write under way has such a moment for its expected word
abbrev pub HaveOrigins : State → List Event → Type 0
HaveOrigins start past =
    (number : ℕ) (write : Write) → (run start past).writers number ≡ Writing write → HasOrigin start past number write.expected

IsUnderWay-writing : (writer : Writer) (write : Write) → writer ≡ Writing write → IsUnderWay writer
IsUnderWay-writing writer write is = subst IsUnderWay (sym is) tt

-- an unused word is fresh
pub MayHappen-since : (start : State) (past : List Event) (event : Event) → HaveOrigins start past
    → MayHappenSince start past event → MayHappen (run start past) event
MayHappen-since start past (Begin number expected fresh) origins may =
    let unused : IsUnusedSince start past fresh = may.2 in (
      may.0,
      may.1,
      record {
        absent = unused.now.absent;
        written = unused.now.written;
        expected = λ other write is same.
            let origin = origins other write is in
            (unused.since origin.before origin.later other origin.split origin.stays).absent.primary (same ∙ sym origin.primary);
      },
    )
MayHappen-since start past (Step number) origins may = may
MayHappen-since start past (Leave number) origins may = may
MayHappen-since start past (Quit number) origins may = may
MayHappen-since start past (Copy place word) origins may = may
MayHappen-since start past (Install backups word) origins may = may

-- ---- who begins

-- where one writer has moved, another who was at rest is so still
begins-put : (state : State) (number : ℕ) (writer : Writer) (one : ℕ) (write : Write) → state.writers one ≡ Idle
    → put state.writers number writer one ≡ Writing write → (state.writers number ≡ Idle) × (writer ≡ Writing write)
begins-put state number writer one write idle is =
    elim (writing_put state.writers number writer one write is) [
      | inl here ↦ (subst (λ n. state.writers n ≡ Idle) (sym here.0) idle, here.1)
      | inr there ↦ absurd (idle_writes write (sym idle ∙ there.1))
    ]

begins-stepped : (state : State) (number : ℕ) (writer : Writer) → state.writers number ≡ writer
    → (one : ℕ) (write : Write) → state.writers one ≡ Idle → (stepped state number writer).writers one ≡ Writing write → ⊥
begins-stepped state number Idle here one write idle is = idle_writes write (sym idle ∙ is)
begins-stepped state number (Writing mine) here one write idle is =
    let moved = begins-put state number
    (after_at mine.phase (length state.slot.backups) mine (answer state.slot (verb_of mine))) one write idle is in
    idle_writes mine (sym moved.0 ∙ here)

begins-broken_off : (writer : Writer) (write : Write) → writer ≡ Idle → broken_off writer ≡ Writing write → ⊥
begins-broken_off writer write idle is = idle_writes write (sym (ap broken_off idle) ∙ is)

-- who was at rest and writes now expects the deciding word
pub begins : (state : State) (event : Event) → MayHappen state event → (one : ℕ) (write : Write) → state.writers one ≡ Idle
    → (happens state event).writers one ≡ Writing write → (happens state event).slot.primary ≡ write.expected
begins state (Begin number expected fresh) may one write idle is =
    let moved = begins-put state number (Writing (begun expected fresh)) one write idle is in
    let same : begun expected fresh ≡ write = cc (moved.1) in
    sym may.1 ∙ ap (λ (w : Write). w.expected) same
begins state (Step number) may one write idle is =
    absurd (begins-stepped state number (state.writers number) refl one write idle is)
begins state (Leave number) may one write idle is =
    let moved = begins-put state number (broken_off (state.writers number)) one write idle is in
    absurd (begins-broken_off (state.writers number) write moved.0 moved.1)
begins state (Quit number) may one write idle is =
    absurd (idle_writes write (begins-put state number Idle one write idle is).1)
begins state (Copy place word) may one write idle is = absurd (idle_writes write (sym idle ∙ is))
begins state (Install backups word) may one write idle is =
    absurd (idle_writes write (sym idle ∙ (still_writing word (state.writers one) write is).0))

-- ---- the moments stay

HasOrigin-more : (start : State) (past : List Event) (event : Event) (number word : ℕ) → HasOrigin start past number word
    → IsUnderWay ((happens (run start past) event).writers number) → HasOrigin start (past ++ event ∷ []) number word
HasOrigin-more start past event number word origin last =
    record {
      before = origin.before;
      later = origin.later ++ event ∷ [];
      split = ap (λ es. es ++ event ∷ []) origin.split ∙ append_assoc origin.before origin.later (event ∷ []);
      stays =
          StaysUnderWay-more (run start origin.before) origin.later event number origin.stays
          (subst (λ s. IsUnderWay ((happens s event).writers number))
          (ap (run start) origin.split ∙ run-append start origin.before origin.later) last);
      primary = origin.primary;
    }
  where
    run-append : (state : State) (first second : List Event) → run state (first ++ second) ≡ run (run state first) second
    run-append state [] second = refl
    run-append state (one ∷ first) second = run-append (happens state one) first second

HasOrigin-writer : (start : State) (past : List Event) (event : Event) → HaveOrigins start past
    → MayHappen (run start past) event → (number : ℕ) (writer : Writer) → (run start past).writers number ≡ writer
    → (write : Write) → (happens (run start past) event).writers number ≡ Writing write
    → HasOrigin start (past ++ event ∷ []) number write.expected
HasOrigin-writer start past event origins may number Idle was write is =
    record {
      before = past ++ event ∷ [];
      later = [];
      split = sym (append-nil (past ++ event ∷ []));
      stays = subst (λ s. IsUnderWay (s.writers number)) (sym (run-more start past event))
          (IsUnderWay-writing ((happens (run start past) event).writers number) write is);
      primary = ap (λ (s : State). s.slot.primary) (run-more start past event)
          ∙ begins (run start past) event may number write was is;
    }
HasOrigin-writer start past event origins may number (Writing old) was write is =
    subst (HasOrigin start (past ++ event ∷ []) number) (sym (expected-happens (run start past) event may number old write was is))
    (HasOrigin-more start past event number old.expected (origins number old was)
    (IsUnderWay-writing ((happens (run start past) event).writers number) write is))

HaveOrigins-more : (start : State) (past : List Event) (event : Event) → HaveOrigins start past
    → MayHappen (run start past) event → HaveOrigins start (past ++ event ∷ [])
HaveOrigins-more start past event origins may number write is =
    let now : (happens (run start past) event).writers number ≡ Writing write =
    subst (λ (s : State). s.writers number ≡ Writing write) (run-more start past event) is in
    HasOrigin-writer start past event origins may number ((run start past).writers number) refl write now

-- ---- along a list of events

pub IsAllowed-since : (start : State) (past events : List Event) → HaveOrigins start past → IsAllowedSince start past events
    → IsAllowed (run start past) events
IsAllowed-since start past [] origins allowed = tt
IsAllowed-since start past (event ∷ events) origins allowed =
    let may = MayHappen-since start past event origins allowed.0 in (
      may,
      subst (λ s. IsAllowed s events) (run-more start past event)
          (IsAllowed-since start (past ++ event ∷ []) events (HaveOrigins-more start past event origins may) allowed.1),
    )

pub HoldsAlong-since : (backups word : ℕ) (events : List Event) → 0 < backups
    → IsAllowedSince (opening backups word) [] events → HoldsAlong (opening backups word) events
HoldsAlong-since backups word events some allowed =
    HoldsAlong-opening backups word events some
    (IsAllowed-since (opening backups word) [] events (λ number write is. absurd (idle_writes write is)) allowed)
