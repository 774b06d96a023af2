-- A slot write stays one, and its verbs go to places of the pool.
use Rattle.std.proofs.Common.{◌≡◌, ℕ, ◌+◌, ◌*◌, ◌<◌, ◌≤◌, ◌==◌, Bool, true, false, List, [], ◌∷◌, ◌++◌, length, drop, refl, subst, arith, length-append, length-drop}
use Rattle.std.proofs.lemmas.Bool.Decides.{nat_tests}
use Rattle.machine.specs.EpochRead.{IsView}
use Rattle.machine.specs.Places.{IsInPool, backup_count}
use Rattle.machine.specs.SlotWrite.{IsAt, IsSlotWrite, Phase, Gather, Mend, Check, Final, Wait, SlotWrite, gathered, judged, listed, mend_from, next, on_verdict, slot_write_of, turn, turn_at, verb_at}
use Rattle.machine.proofs.PlacesLemmas.{backup_count-some, slot_backup-inside, slot_primary-inside}
use Rattle.region_view.specs.Placed.{Viewed}
use Rattle.snapshot_rules.specs.declared.rules.Verdict.{Verdict}
use Rattle.snapshot_rules.specs.declared.rules.Verdict.TheVariants.{All, Most, CheckLeast, Lose}
use Rattle.verb_words.specs.declared.verbs.Answer.{Answer}
use Rattle.verb_words.specs.declared.verbs.Answer.TheVariants.{Word, Done, Lost}
use Rattle.verb_words.specs.Verb.{place_of}

pub slot_write_of-is : (view : Viewed) (slot expect fresh : ℕ) → IsView view → slot < 24 * view.shape.groups → IsSlotWrite view (slot_write_of view slot expect fresh)
slot_write_of-is view slot expect fresh is below = record {
  held = refl;
  is_view = is;
  slot = below;
  list = omega arith;
  phase = backup_count-some view slot is;
}

-- what is mended is listed
mend_from-is : (fresh k backups : ℕ) (list words : List ℕ) → k + length words ≤ length list → IsAt (mend_from fresh k words) fresh list backups
mend_from-is fresh k backups list [] within = tt
mend_from-is fresh k backups list (word ∷ words) within = by (word == fresh) refl (mend_from-is fresh (k + 1) backups list words (omega arith))
  where
    by : (t : Bool) → (word == fresh) ≡ t → IsAt (mend_from fresh (k + 1) words) fresh list backups → IsAt (mend_from fresh k (word ∷ words)) fresh list backups
    by true is rest = rw is rest
    by false is rest = rw is (omega arith)

on_verdict-is : (verdict : Verdict) (fresh backups : ℕ) (list : List ℕ) → judged list fresh ≡ verdict → IsAt (on_verdict verdict fresh list) fresh list backups
on_verdict-is All fresh backups list is = tt
on_verdict-is Most fresh backups list is = mend_from-is fresh 0 backups list list (omega arith)
on_verdict-is CheckLeast fresh backups list is = is
on_verdict-is Lose fresh backups list is = is

-- the same write at another phase
at_phase : (view : Viewed) (write : SlotWrite) (phase : Phase) → IsSlotWrite view write
    → IsAt phase write.fresh write.list (backup_count write.view write.slot) → IsSlotWrite view (record write { phase = phase })
at_phase view write phase is at = record { held = is.held; is_view = is.is_view; slot = is.slot; list = is.list; phase = at }

-- one more word is listed
gathered-is : (view : Viewed) (write : SlotWrite) (list : List ℕ) → IsSlotWrite view write → write.phase ≡ Gather
    → length list ≤ backup_count write.view write.slot → IsSlotWrite view (gathered write list)
gathered-is view write list is gathers within = by (length list == backup_count write.view write.slot) refl
  where
    by : (t : Bool) → (length list == backup_count write.view write.slot) ≡ t → IsSlotWrite view (gathered write list)
    by true full = rw full (record {
      held = is.held;
      is_view = is.is_view;
      slot = is.slot;
      list = within;
      phase = on_verdict-is (judged list write.fresh) write.fresh (backup_count write.view write.slot) list refl;
    })
    by false more = rw more (record {
      held = is.held;
      is_view = is.is_view;
      slot = is.slot;
      list = within;
      phase = rw gathers (grind (arith, nat_tests));
    })

turn_at-is : (view : Viewed) (write : SlotWrite) (phase : Phase) (found : ℕ) → write.phase ≡ phase → IsSlotWrite view write → IsSlotWrite view (turn_at phase write found).state
turn_at-is view write Gather found at is =
    let P : Phase → Type 0 = λ p. IsAt p write.fresh write.list (backup_count write.view write.slot) in
    let room : length write.list < backup_count write.view write.slot = subst P at is.phase in
    gathered-is view write (write.list ++ listed write found ∷ []) is at (omega (arith, length-append write.list (listed write found ∷ [])))
turn_at-is view write (Mend backup) found at is =
    let P : Phase → Type 0 = λ p. IsAt p write.fresh write.list (backup_count write.view write.slot) in
    let room : backup < length write.list = subst P at is.phase in
    at_phase view write _ is (mend_from-is write.fresh (backup + 1) (backup_count write.view write.slot) write.list (drop (backup + 1) write.list)
    (omega (arith, length-drop (backup + 1) write.list)))
turn_at-is view write Check found at is = by (found == write.expect) refl
  where
    by : (t : Bool) → (found == write.expect) ≡ t → IsSlotWrite view (turn_at Check write found).state
    by true same = rw same (at_phase view write _ is (mend_from-is write.fresh 0 (backup_count write.view write.slot) write.list write.list (omega arith)))
    by false other = rw other is
turn_at-is view write Final found at is = is
turn_at-is view write Wait found at is = by (found == write.expect) refl
  where
    by : (t : Bool) → (found == write.expect) ≡ t → IsSlotWrite view (turn_at Wait write found).state
    by true same = rw same is
    by false other = rw other is

-- a slot write stays one, whatever is answered
pub turn-is : (view : Viewed) (write : SlotWrite) (answer : Answer) → IsSlotWrite view write → IsSlotWrite view (turn write answer).state
turn-is view write (Word found) is = turn_at-is view write write.phase found refl is
turn-is view write Done is = is
turn-is view write Lost is = is

verb_at-inside : (view : Viewed) (write : SlotWrite) (phase : Phase) → write.phase ≡ phase → IsSlotWrite view write → IsInPool write.view.shape (place_of (verb_at phase write))
verb_at-inside view write Gather at is =
    let P : Phase → Type 0 = λ p. IsAt p write.fresh write.list (backup_count write.view write.slot) in
    slot_backup-inside write.view write.slot (length write.list) is.is_view is.slot (subst P at is.phase)
verb_at-inside view write (Mend backup) at is =
    let P : Phase → Type 0 = λ p. IsAt p write.fresh write.list (backup_count write.view write.slot) in
    let room : backup < length write.list = subst P at is.phase in
    slot_backup-inside write.view write.slot backup is.is_view is.slot (omega (arith, is.list))
verb_at-inside view write Check at is = slot_primary-inside write.view write.slot is.is_view is.slot
verb_at-inside view write Final at is = slot_primary-inside write.view write.slot is.is_view is.slot
verb_at-inside view write Wait at is = slot_primary-inside write.view write.slot is.is_view is.slot

-- its verb goes to a place of the pool
pub next-inside : (view : Viewed) (write : SlotWrite) → IsSlotWrite view write → IsInPool view.shape (place_of (next write))
next-inside view write is =
    let P : Viewed → Type 0 = λ v. IsInPool v.shape (place_of (next write)) in
    subst P is.held (verb_at-inside view write write.phase refl is)
