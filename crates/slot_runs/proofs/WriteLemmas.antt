-- What an answer makes of a slot write is what the small machine makes of its write.
use Rattle.std.proofs.Common.{◌≡◌, ℕ, ◌+◌, ◌==◌, Bool, true, false, if◌then◌else◌, List, [], ◌∷◌, ◌++◌, length, drop, Option, refl, ◌∙◌, ap}
use Rattle.machine.specs.declared.slot_write.Wrote.{Wrote}
use Rattle.machine.specs.declared.slot_write.Wrote.TheVariants as wrote
use Rattle.machine.specs.Places.{backup_count}
use Rattle.machine.specs.SlotWrite as machine
use Rattle.machine.specs.SlotWrite.{Phase, Gather, Mend, Check, Final, Wait, SlotWrite, turn_at}
use Rattle.machine.specs.Turn.{Turn}
use Rattle.region_view.specs.Placed.{Viewed}
use Rattle.slot_rounds.specs.Write as small
use Rattle.slot_rounds.specs.Write.{Writer, Idle, Writing, after_at, told_at}
use Rattle.snapshot_rules.specs.declared.rules.Verdict.{Verdict}
use Rattle.snapshot_rules.specs.declared.rules.Verdict.TheVariants.{All, Most, CheckLeast, Lose}
use Rattle.slot_runs.specs.Run.{under_way}
use Rattle.slot_runs.proofs.Seen.{phase_seen, told_seen, write_seen, writer_seen}

-- a slot write by its fields
abbrev pub written : Viewed → ℕ → ℕ → ℕ → List ℕ → Phase → SlotWrite
written view slot expect fresh list phase =
    record { view = view; slot = slot; expect = expect; fresh = fresh; list = list; phase = phase }

-- what is left of a write after a turn
abbrev pub left_by : Turn SlotWrite Wrote → Option SlotWrite
left_by turn = under_way turn.told turn.state

mend_from-seen : (fresh backup : ℕ) (words : List ℕ)
    → phase_seen (machine.mend_from fresh backup words) ≡ small.mend_from fresh backup words
mend_from-seen fresh backup [] = refl
mend_from-seen fresh backup (word ∷ words) = by (word == fresh) (mend_from-seen fresh (backup + 1) words)
  where
    by : (test : Bool) → phase_seen (machine.mend_from fresh (backup + 1) words) ≡ small.mend_from fresh (backup + 1) words
        → phase_seen (if test then machine.mend_from fresh (backup + 1) words else Mend backup)
        ≡ (if test then small.mend_from fresh (backup + 1) words else small.Mending backup)
    by true rest = rest
    by false rest = refl

on_verdict-seen : (verdict : Verdict) (fresh : ℕ) (list : List ℕ)
    → phase_seen (machine.on_verdict verdict fresh list) ≡ small.on_verdict verdict fresh list
on_verdict-seen All fresh list = refl
on_verdict-seen Most fresh list = mend_from-seen fresh 0 list
on_verdict-seen CheckLeast fresh list = refl
on_verdict-seen Lose fresh list = refl

judged-seen : (list : List ℕ) (fresh : ℕ) → machine.judged list fresh ≡ small.judged list fresh
unfolding machine.judged small.judged
judged-seen list fresh = refl

-- a write in a phase, in the small machine
seen_in : ℕ → ℕ → List ℕ → small.Phase → Writer
seen_in expect fresh list phase = Writing (record { expected = expect; fresh = fresh; list = list; phase = phase })

gathered-seen : (view : Viewed) (slot expect fresh : ℕ) (list longer : List ℕ)
    → Writing (write_seen (machine.gathered (written view slot expect fresh list Gather) longer))
    ≡ Writing (record { expected = expect; fresh = fresh; list = longer; phase = small.gathered (backup_count view slot) fresh longer })
unfolding seen_in
gathered-seen view slot expect fresh list longer = by (length longer == backup_count view slot)
  where
    by : (test : Bool)
        → Writing (write_seen (if test then written view slot expect fresh longer (machine.on_verdict (machine.judged longer fresh) fresh longer) else written view slot expect fresh longer Gather))
        ≡ Writing (record { expected = expect; fresh = fresh; list = longer; phase = if test then small.on_verdict (small.judged longer fresh) fresh longer else small.Gathering })
    by true = ap (seen_in expect fresh longer) (on_verdict-seen (machine.judged longer fresh) fresh longer ∙ ap (λ v. small.on_verdict v fresh longer) (judged-seen longer fresh))
    by false = refl

-- the write that is left
pub after_seen : (view : Viewed) (slot expect fresh : ℕ) (list : List ℕ) (phase : Phase) (found : ℕ)
    → writer_seen (left_by (turn_at phase (written view slot expect fresh list phase) found))
    ≡ after_at (phase_seen phase) (backup_count view slot) (write_seen (written view slot expect fresh list phase)) found
unfolding seen_in
after_seen view slot expect fresh list Gather found =
    gathered-seen view slot expect fresh list (list ++ machine.listed (written view slot expect fresh list Gather) found ∷ [])
after_seen view slot expect fresh list (Mend backup) found =
    ap (seen_in expect fresh list) (mend_from-seen fresh (backup + 1) (drop (backup + 1) list))
after_seen view slot expect fresh list Check found = by (found == expect)
  where
    by : (test : Bool)
        → writer_seen (left_by (if test then machine.goes (written view slot expect fresh list (machine.mend_from fresh 0 list)) else machine.tells (written view slot expect fresh list Check) (wrote.Changed found)))
        ≡ (if test then Writing (record { expected = expect; fresh = fresh; list = list; phase = small.mend_from fresh 0 list }) else Idle)
    by true = ap (seen_in expect fresh list) (mend_from-seen fresh 0 list)
    by false = refl
after_seen view slot expect fresh list Final found = refl
after_seen view slot expect fresh list Wait found = by (found == expect)
  where
    by : (test : Bool)
        → writer_seen (left_by (if test then machine.tells (written view slot expect fresh list Wait) (wrote.Unchanged found) else machine.tells (written view slot expect fresh list Wait) (wrote.Changed found)))
        ≡ (if test then Writing (write_seen (written view slot expect fresh list Wait)) else Idle)
    by true = refl
    by false = refl

-- what it tells
pub told_seen_at : (phase : Phase) (write : SlotWrite) (found : ℕ)
    → told_seen (turn_at phase write found).told ≡ told_at (phase_seen phase) (write_seen write) found
told_seen_at Gather write found = refl
told_seen_at (Mend backup) write found = refl
told_seen_at Check write found = by (found == write.expect)
  where
    by : (test : Bool)
        → told_seen (if test then machine.goes (record write { phase = machine.mend_from write.fresh 0 write.list }) else machine.tells write (wrote.Changed found)).told
        ≡ (if test then small.Going else small.Changed found)
    by true = refl
    by false = refl
told_seen_at Final write found = refl
told_seen_at Wait write found = by (found == write.expect)
  where
    by : (test : Bool)
        → told_seen (if test then machine.tells write (wrote.Unchanged found) else machine.tells write (wrote.Changed found)).told
        ≡ (if test then small.Unchanged else small.Changed found)
    by true = refl
    by false = refl
