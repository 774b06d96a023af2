-- A word that has been unused since the oldest write under way began is fresh for the small machine: it is no expected word
-- either, since each write under way expects a word that was deciding when it began.
use Rattle.std.proofs.Common.{◌≡◌, ◌<◌, ℕ, List, [], ◌∷◌, ◌++◌, Option, Some, None, refl, sym, ◌∙◌, ap, subst, arith, append_assoc, append-nil}
use Rattle.machine.specs.Places.{backup_count}
use Rattle.machine.specs.SlotWrite.{SlotWrite}
use Rattle.slot_rounds.specs.Allowed as allowed
use Rattle.slot_rounds.specs.Run as rounds
use Rattle.slot_rounds.specs.Write.{Write, Idle, Writing}
use Rattle.slot_rounds.proofs.RoundLemmas.{expected-happens}
use Rattle.slot_rounds.proofs.SinceLemmas.{begins}
use Rattle.slot_runs.specs.Run.{State, Event, Begin, Step, backup_word, deciding, happens, run}
use Rattle.slot_runs.specs.Allowed.{IsUnderWay, IsUnused, IsUnusedSince, MayHappen, StaysUnderWay}
use Rattle.slot_runs.proofs.FamilyLemmas.{at_listing, length-listing}
use Rattle.slot_runs.proofs.HappensLemmas.{seen-happens}
use Rattle.slot_runs.proofs.Seen.{event_seen, state_seen, write_seen, writer_seen}
use Rattle.slot_runs.proofs.Standing.{IsGood}

-- ---- one event more

pub run-more : (state : State) (events : List Event) (event : Event) → run state (events ++ event ∷ []) ≡ happens (run state events) event
run-more state [] event = refl
run-more state (first ∷ events) event = run-more (happens state first) events event

run-append : (state : State) (first second : List Event) → run state (first ++ second) ≡ run (run state first) second
run-append state [] second = refl
run-append state (one ∷ first) second = run-append (happens state one) first second

StaysUnderWay-more : (state : State) (events : List Event) (event : Event) (writer : ℕ) → StaysUnderWay state events writer
    → IsUnderWay ((happens (run state events) event).writers writer) → StaysUnderWay state (events ++ event ∷ []) writer
StaysUnderWay-more state [] event writer stays last = (stays, last)
StaysUnderWay-more state (first ∷ events) event writer stays last =
    (stays.0, StaysUnderWay-more (happens state first) events event writer stays.1 last)

-- ---- where a write began

-- a moment at which the word was deciding, and since which the writer has had a write under way
pub record HasOrigin (start : State) (past : List Event) (writer word : ℕ) : Type 0 where
  pub before : List Event
  pub later : List Event
  pub split : past ≡ before ++ later
  pub stays : StaysUnderWay (run start before) later writer
  pub decided : deciding (run start before) ≡ word

-- each write under way has such a moment for its expected word
abbrev pub HaveOrigins : State → List Event → Type 0
HaveOrigins start past =
    (writer : ℕ) (write : SlotWrite) → (run start past).writers writer ≡ Some write → HasOrigin start past writer write.expect

is_under_way : (mine : Option SlotWrite) (write : SlotWrite) → mine ≡ Some write → IsUnderWay mine
is_under_way mine write is = subst IsUnderWay (sym is) tt

HasOrigin-more : (start : State) (past : List Event) (event : Event) (writer word : ℕ) → HasOrigin start past writer word
    → IsUnderWay ((happens (run start past) event).writers writer) → HasOrigin start (past ++ event ∷ []) writer word
HasOrigin-more start past event writer word origin last =
    record {
      before = origin.before;
      later = origin.later ++ event ∷ [];
      split = ap (λ es. es ++ event ∷ []) origin.split ∙ append_assoc origin.before origin.later (event ∷ []);
      stays =
          StaysUnderWay-more (run start origin.before) origin.later event writer origin.stays
          (subst (λ s. IsUnderWay ((happens s event).writers writer))
          (ap (run start) origin.split ∙ run-append start origin.before origin.later) last);
      decided = origin.decided;
    }

-- what an event makes of a writer, in the small machine
writes_seen : (state : State) (event : Event) → IsGood state → (writer : ℕ) (write : SlotWrite)
    → (happens state event).writers writer ≡ Some write
    → (rounds.happens (state_seen state) (event_seen event)).writers writer ≡ Writing (write_seen write)
writes_seen state event good writer write is =
    ap (λ (s : rounds.State). s.writers writer) (sym (seen-happens state event good)) ∙ ap writer_seen is

HasOrigin-writer : (start : State) (past : List Event) (event : Event) → HaveOrigins start past → IsGood (run start past)
    → allowed.MayHappen (state_seen (run start past)) (event_seen event)
    → (writer : ℕ) (mine : Option SlotWrite) → (run start past).writers writer ≡ mine
    → (write : SlotWrite) → (happens (run start past) event).writers writer ≡ Some write
    → HasOrigin start (past ++ event ∷ []) writer write.expect
HasOrigin-writer start past event origins good may writer None was write is =
    record {
      before = past ++ event ∷ [];
      later = [];
      split = sym (append-nil (past ++ event ∷ []));
      stays = subst (λ s. IsUnderWay (s.writers writer)) (sym (run-more start past event))
          (is_under_way ((happens (run start past) event).writers writer) write is);
      decided = ap deciding (run-more start past event)
          ∙ (ap (λ (s : rounds.State). s.slot.primary) (seen-happens (run start past) event good)
          ∙ begins (state_seen (run start past)) (event_seen event) may writer (write_seen write) (ap writer_seen was)
          (writes_seen (run start past) event good writer write is));
    }
HasOrigin-writer start past event origins good may writer (Some old) was write is =
    let kept : write.expect ≡ old.expect =
    expected-happens (state_seen (run start past)) (event_seen event) may writer (write_seen old) (write_seen write)
    (ap writer_seen was) (writes_seen (run start past) event good writer write is) in
    subst (HasOrigin start (past ++ event ∷ []) writer) (sym kept)
    (HasOrigin-more start past event writer old.expect (origins writer old was)
    (is_under_way ((happens (run start past) event).writers writer) write is))

pub HaveOrigins-more : (start : State) (past : List Event) (event : Event) → HaveOrigins start past → IsGood (run start past)
    → allowed.MayHappen (state_seen (run start past)) (event_seen event) → HaveOrigins start (past ++ event ∷ [])
HaveOrigins-more start past event origins good may writer write is =
    let now : (happens (run start past) event).writers writer ≡ Some write =
    subst (λ (s : State). s.writers writer ≡ Some write) (run-more start past event) is in
    HasOrigin-writer start past event origins good may writer ((run start past).writers writer) refl write now

-- ---- what may happen, in the small machine

-- no replica holds an unused word
IsAbsent-seen : (state : State) (word : ℕ) → IsUnused state word → allowed.IsAbsent (state_seen state).slot word
IsAbsent-seen state word unused =
    let count = backup_count state.view state.slot in
    record {
      primary = unused.primary;
      backups = λ place within is.
          let inside : place < count = omega (arith, length-listing (backup_word state) count) in
          unused.backups place inside (is ∙ at_listing (backup_word state) count place inside);
    }

-- what holds of each write of a run holds of each that the small machine has
each_seen : (mine : Option SlotWrite) (P : Write → Type 0) → ((write : SlotWrite) → mine ≡ Some write → P (write_seen write))
    → (other : Write) → writer_seen mine ≡ Writing other → P other
each_seen None P each other is = absurd cc
each_seen (Some write) P each other is = let same : write_seen write ≡ other = cc (is) in subst P same (each write refl)

idle_seen : (mine : Option SlotWrite) → mine ≡ None → writer_seen mine ≡ Idle
idle_seen mine is = ap writer_seen is

pub MayHappen-seen : (start : State) (past : List Event) (event : Event) → HaveOrigins start past → MayHappen start past event
    → allowed.MayHappen (state_seen (run start past)) (event_seen event)
MayHappen-seen start past (Begin writer expect fresh) origins may =
    let state : State = run start past in
    let unused : IsUnusedSince start past fresh = may.2 in (
      idle_seen (state.writers writer) may.0,
      may.1,
      record {
        absent = IsAbsent-seen state fresh unused.now;
        written = λ number. each_seen (state.writers number) (λ w. fresh ≡ w.fresh → ⊥) (unused.now.written number);
        expected = λ number. each_seen (state.writers number) (λ w. fresh ≡ w.expected → ⊥)
            (λ write is same.
            let origin = origins number write is in
            (unused.since origin.before origin.later number origin.split origin.stays).primary (same ∙ sym origin.decided));
      },
    )
MayHappen-seen start past (Step writer) origins may = tt
