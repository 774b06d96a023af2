-- The theorem on rounds: a sound state stays sound at each event, and what is claimed of an event holds.
use Rattle.std.proofs.Common.{◌≡◌, ◌≢◌, ℕ, ◌+◌, ◌<◌, ◌==◌, ◌⊎◌, Bool, true, false, if◌then◌else◌, List, [], ◌∷◌, length, drop, slice_index, refl, sym, ◌∙◌, ap, subst, inl, inr, eq-eqb}
use Rattle.std.proofs.lemmas.Bool.{cases_eq, cond_both}
use Rattle.slot_rounds.specs.Slot.{Slot, SwapBackup, apply, decided, swapped, answer}
use Rattle.slot_rounds.specs.Write.{Phase, Gathering, Mending, Checking, Deciding, Waiting, Left, Write, Writer, Idle, Writing, Told, Going, Won, Unchanged, Changed, after_at, told_at, begun, left, with_listed, word_after, with_phase, mend_from, verb_of}
use Rattle.slot_rounds.specs.Run.{State, Event, Begin, Step, Leave, Quit, Copy, Install, put, opening, broken_off, stepped, told_to, happens, told, run}
use Rattle.slot_rounds.specs.Allowed.{MayHappen, IsAllowed}
use Rattle.slot_rounds.specs.Claims.{IsEverywhere, IsFinalSwap, IsInstalled, Decides, StayEnded, Holds, HoldsAlong}
use Rattle.slot_rounds.proofs.Soundness.{IsMendedTo, IsSound}
use Rattle.slot_rounds.proofs.MovedLemmas.{writing_put}
use Rattle.slot_rounds.proofs.HeldLemmas.{IsKnown-held}
use Rattle.slot_rounds.proofs.StepLemmas.{IsSound-stepped, round_of, written}
use Rattle.slot_rounds.proofs.EventLemmas.{IsSound-opening, IsSound-begun, IsSound-broken_off, IsSound-quit, IsSound-copied, IsSound-installed, still_writing, idle_writes}

-- ---- a sound state stays sound

pub IsSound-happens : (state : State) (event : Event) → MayHappen state event → IsSound state → IsSound (happens state event)
IsSound-happens state (Begin number expected fresh) may sound = IsSound-begun state number expected fresh sound may
IsSound-happens state (Step number) may sound = IsSound-stepped state number (state.writers number) refl sound
IsSound-happens state (Leave number) may sound = IsSound-broken_off state number (state.writers number) refl sound
IsSound-happens state (Quit number) may sound = IsSound-quit state number (state.writers number) refl sound may
IsSound-happens state (Copy place word) may sound = IsSound-copied state place word sound may
IsSound-happens state (Install backups word) may sound = IsSound-installed state backups word sound may

-- ---- how the deciding word changes

-- a swap of a backup leaves the primary
primary-swap_backup : (slot : Slot) (place old new : ℕ) → (apply slot (SwapBackup place old new)).primary ≡ slot.primary
primary-swap_backup slot place old new =
    cond_both (slice_index slot.backups place == old) (swapped slot place old new) slot
    (λ (s : Slot). s.primary ≡ slot.primary) (λ _. refl) (λ _. refl)

final-changes : (phase : Phase) (expected fresh : ℕ) (list : List ℕ) (state : State) (number : ℕ)
    → (stepped state number (Writing (written expected fresh list phase))).slot.primary ≢ state.slot.primary → phase ≡ Deciding
final-changes Gathering expected fresh list state number changes =
    absurd (changes (primary-swap_backup state.slot (length list) expected fresh))
final-changes (Mending place) expected fresh list state number changes =
    absurd (changes (primary-swap_backup state.slot place (slice_index list place) fresh))
final-changes Checking expected fresh list state number changes = absurd (changes refl)
final-changes Deciding expected fresh list state number changes = refl
final-changes Waiting expected fresh list state number changes = absurd (changes refl)
final-changes Left expected fresh list state number changes = absurd (changes refl)

final-step : (state : State) (number : ℕ) (writer : Writer) → state.writers number ≡ writer
    → (stepped state number writer).slot.primary ≢ state.slot.primary → IsFinalSwap state (Step number)
final-step state number Idle is changes = absurd (changes refl)
final-step state number (Writing write) is changes =
    record {
      number = number;
      write = write;
      step = refl;
      writes = is;
      last = final-changes write.phase write.expected write.fresh write.list state number changes;
    }

changes : (state : State) (event : Event) → IsSound state → MayHappen state event
    → (happens state event).slot.primary ≢ state.slot.primary → IsFinalSwap state event ⊎ IsInstalled state event
changes state (Begin number expected fresh) sound may other = absurd (other refl)
changes state (Step number) sound may other = inl (final-step state number (state.writers number) refl other)
changes state (Leave number) sound may other = absurd (other refl)
changes state (Quit number) sound may other = absurd (other refl)
changes state (Copy place word) sound may other = absurd (other refl)
changes state (Install backups word) sound may other =
    elim (IsKnown-held state sound word may.1) [
      | inl primary ↦ absurd (other primary)
      | inr of ↦
          inr (record {
            number = of.number;
            write = of.write;
            backups = backups;
            install = ap (Install backups) (sym of.fresh);
            writes = of.writes;
            round = of.round;
          })
    ]

-- ---- who has won

read-not_won : (test : Bool) (one : Told) (other : ℕ) → (one ≡ Won → ⊥) → (if test then one else Changed other) ≡ Won → ⊥
read-not_won true one other not_won is = not_won is
read-not_won false one other not_won is = cc

won-phase : (phase : Phase) (write : Write) (found : ℕ) → told_at phase write found ≡ Won → phase ≡ Deciding
won-phase Gathering write found is = absurd (cc)
won-phase (Mending place) write found is = absurd (cc)
won-phase Checking write found is = absurd (read-not_won (found == write.expected) Going found (λ going. cc) is)
won-phase Deciding write found is = refl
won-phase Waiting write found is = absurd (read-not_won (found == write.expected) Unchanged found (λ unchanged. cc) is)
won-phase Left write found is = absurd (read-not_won (found == write.expected) Going found (λ going. cc) is)

going_won : Going ≡ Won → ⊥
going_won is = cc

won-step : (state : State) (number : ℕ) (writer : Writer) → state.writers number ≡ writer
    → told_to state.slot writer ≡ Won → IsFinalSwap state (Step number)
won-step state number Idle is won = absurd (going_won won)
won-step state number (Writing write) is won =
    record { number = number; write = write; step = refl; writes = is; last = won-phase write.phase write _ won }

won : (state : State) (event : Event) → told state event ≡ Won → IsFinalSwap state event
won state (Begin number expected fresh) is = absurd (going_won is)
won state (Step number) is = won-step state number (state.writers number) refl is
won state (Leave number) is = absurd (going_won is)
won state (Quit number) is = absurd (going_won is)
won state (Copy place word) is = absurd (going_won is)
won state (Install backups word) is = absurd (going_won is)

-- ---- what a final swap does

Decides-last : (state : State) (number expected fresh : ℕ) (list : List ℕ) → IsSound state
    → state.writers number ≡ Writing (written expected fresh list Deciding)
    → Decides state (Step number) (written expected fresh list Deciding)
Decides-last state number expected fresh list sound is =
    let write_sound = sound.each number (written expected fresh list Deciding) is in
    let round : expected ≡ state.slot.primary = round_of state.slot (written expected fresh list Deciding) write_sound write_sound.late in
    let mended : IsMendedTo state.slot fresh list (length state.slot.backups) = write_sound.now round in
    let slot_is : (happens state (Step number)).slot ≡ decided state.slot fresh =
    ap (λ w. (stepped state number w).slot) is ∙ rw (eq-eqb state.slot.primary expected (sym round)) in
    record {
      found = sym round;
      made = ap (λ (s : Slot). s.primary) slot_is;
      changed = write_sound.apart;
      full = mended.full;
      wins = sym mended.wins;
      everywhere = subst (λ s. IsEverywhere s fresh) (sym slot_is) (λ place within. mended.below place within within);
      told = ap (told_to state.slot) is;
    }

pub Decides-final : (state : State) (event : Event) → IsSound state → (swap : IsFinalSwap state event) → Decides state event swap.write
Decides-final state event sound swap =
    let write = swap.write in
    let last : write ≡ written write.expected write.fresh write.list Deciding =
    ap (written write.expected write.fresh write.list) swap.last in
    let decides = Decides-last state swap.number write.expected write.fresh write.list sound (swap.writes ∙ ap Writing last) in
    let so : Decides state (Step swap.number) write = subst (Decides state (Step swap.number)) (sym last) decides in
    subst (λ e. Decides state e write) (sym swap.step) so

-- ---- rounds that have ended

expected-same : (one other : Write) → Writing one ≡ Writing other → other.expected ≡ one.expected
expected-same one other is = let same : one ≡ other = cc in ap (λ (w : Write). w.expected) (sym same)

expected-read : (test : Bool) (one other : Write) → (if test then Writing one else Idle) ≡ Writing other
    → other.expected ≡ one.expected
expected-read true one other is = expected-same one other is
expected-read false one other is = absurd (idle_writes other is)

expected-after : (phase : Phase) (backups : ℕ) (write : Write) (found : ℕ) (other : Write)
    → after_at phase backups write found ≡ Writing other → other.expected ≡ write.expected
expected-after Gathering backups write found other is =
    expected-same (with_listed backups write (word_after write found)) other is
expected-after (Mending place) backups write found other is =
    expected-same (with_phase write (mend_from write.fresh (place + 1) (drop (place + 1) write.list))) other is
expected-after Checking backups write found other is =
    expected-read (found == write.expected) (with_phase write (mend_from write.fresh 0 write.list)) other is
expected-after Deciding backups write found other is = absurd (idle_writes other is)
expected-after Waiting backups write found other is = expected-read (found == write.expected) write other is
expected-after Left backups write found other is =
    expected-read (found == write.expected) (begun write.expected write.fresh) other is

-- where one writer has moved, each write keeps its expected word if that writer's does
expected-put : (state : State) (number : ℕ) (writer : Writer) (one : ℕ) (write other : Write)
    → ((later : Write) → state.writers number ≡ Writing later → writer ≡ Writing other → other.expected ≡ later.expected)
    → state.writers one ≡ Writing write → put state.writers number writer one ≡ Writing other → other.expected ≡ write.expected
expected-put state number writer one write other keeps is other_is =
    elim (writing_put state.writers number writer one other other_is) [
      | inl here ↦ keeps write (subst (λ n. state.writers n ≡ Writing write) (sym here.0) is) here.1
      | inr there ↦ expected-same write other (sym is ∙ there.1)
    ]

expected-stepped : (state : State) (number : ℕ) (writer : Writer) → state.writers number ≡ writer
    → (one : ℕ) (write other : Write) → state.writers one ≡ Writing write
    → (stepped state number writer).writers one ≡ Writing other → other.expected ≡ write.expected
expected-stepped state number Idle here one write other is other_is = expected-same write other (sym is ∙ other_is)
expected-stepped state number (Writing mine) here one write other is other_is =
    expected-put state number (after_at mine.phase (length state.slot.backups) mine (answer state.slot (verb_of mine)))
    one write other
    (λ later later_is after.
    expected-after mine.phase (length state.slot.backups) mine (answer state.slot (verb_of mine)) other after
    ∙ expected-same later mine (sym later_is ∙ here))
    is other_is

expected-broken_off : (writer : Writer) (other later : Write) → writer ≡ Writing later → broken_off writer ≡ Writing other
    → other.expected ≡ later.expected
expected-broken_off Idle other later is other_is = absurd (idle_writes later is)
expected-broken_off (Writing mine) other later is other_is =
    expected-same (left mine) other other_is ∙ expected-same later mine (sym is)

-- a write under way keeps its expected word
pub expected-happens : (state : State) (event : Event) → MayHappen state event → (one : ℕ) (write other : Write)
    → state.writers one ≡ Writing write → (happens state event).writers one ≡ Writing other → other.expected ≡ write.expected
expected-happens state (Begin number expected fresh) may one write other is other_is =
    expected-put state number (Writing (begun expected fresh)) one write other
    (λ later later_is _. absurd (idle_writes later (sym may.0 ∙ later_is))) is other_is
expected-happens state (Step number) may one write other is other_is =
    expected-stepped state number (state.writers number) refl one write other is other_is
expected-happens state (Leave number) may one write other is other_is =
    expected-put state number (broken_off (state.writers number)) one write other
    (λ later later_is after. expected-broken_off (state.writers number) other later later_is after) is other_is
expected-happens state (Quit number) may one write other is other_is =
    expected-put state number Idle one write other (λ later later_is after. absurd (idle_writes other after)) is other_is
expected-happens state (Copy place word) may one write other is other_is = expected-same write other (sym is ∙ other_is)
expected-happens state (Install backups word) may one write other is other_is =
    expected-same write other (sym is ∙ (still_writing word (state.writers one) other other_is).0)

-- a word that becomes the deciding one is expected by no write
not_expected : (state : State) (event : Event) → IsSound state → MayHappen state event
    → (happens state event).slot.primary ≢ state.slot.primary
    → (one : ℕ) (write : Write) → state.writers one ≡ Writing write → write.expected ≢ (happens state event).slot.primary
not_expected state event sound may other one write is same =
    elim (changes state event sound may other) [
      | inl swap ↦
          let made = (Decides-final state event sound swap).made in
          sound.unexpected swap.number one swap.write write swap.writes is (sym (same ∙ made))
      | inr installed ↦
          let made : (happens state event).slot.primary ≡ installed.write.fresh =
          ap (λ e. (happens state e).slot.primary) installed.install in
          sound.unexpected installed.number one installed.write write installed.writes is (sym (same ∙ made))
    ]

ended : (state : State) (event : Event) → IsSound state → MayHappen state event → StayEnded state (happens state event)
ended state event sound may one write other is other_is late same =
    let kept = expected-happens state event may one write other is other_is in
    elim (cases_eq (happens state event).slot.primary state.slot.primary) [
      | inl stays ↦ late (sym kept ∙ (same ∙ stays))
      | inr differs ↦ not_expected state event sound may differs one write is (sym kept ∙ same)
    ]

pub holds : (state : State) (event : Event) → MayHappen state event → IsSound state → Holds state event
holds state event may sound =
    let later = IsSound-happens state event may sound in
    record {
      changes = changes state event sound may;
      won = won state event;
      decides = Decides-final state event sound;
      few = λ number write is late. (later.each number write is).few late;
      ended = ended state event sound may;
    }

-- ---- along a list of events

pub IsSound-run : (state : State) (events : List Event) → IsSound state → IsAllowed state events → IsSound (run state events)
IsSound-run state [] sound allowed = sound
IsSound-run state (event ∷ events) sound allowed =
    IsSound-run (happens state event) events (IsSound-happens state event allowed.0 sound) allowed.1

pub HoldsAlong-sound : (state : State) (events : List Event) → IsSound state → IsAllowed state events → HoldsAlong state events
HoldsAlong-sound state [] sound allowed = tt
HoldsAlong-sound state (event ∷ events) sound allowed = (
  holds state event allowed.0 sound,
  HoldsAlong-sound (happens state event) events (IsSound-happens state event allowed.0 sound) allowed.1,
)

pub HoldsAlong-opening : (backups word : ℕ) (events : List Event) → 0 < backups
    → IsAllowed (opening backups word) events → HoldsAlong (opening backups word) events
HoldsAlong-opening backups word events some allowed =
    HoldsAlong-sound (opening backups word) events (IsSound-opening backups word some) allowed
