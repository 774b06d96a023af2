-- A write of one slot on all its replicas, after the SNAPSHOT protocol of FUSEE (FAST 2023).
use Rattle.std.specs.Prelude.{◌≡◌, ℕ, ◌+◌, ◌*◌, ◌<◌, ◌≤◌, ◌==◌, if◌then◌else◌, List, [], ◌∷◌, ◌++◌, length, drop, slice_index}
use Rattle.machine.specs.declared.slot_write.Wrote.{Wrote}
use Rattle.machine.specs.declared.slot_write.Wrote.TheVariants.{Going, Won, Changed, Unchanged, Refused}
use Rattle.machine.specs.EpochRead.{IsView}
use Rattle.machine.specs.Places.{backup_count, slot_backup, slot_primary}
use Rattle.machine.specs.Turn.{Turn}
use Rattle.region_view.specs.Placed.{Viewed}
use Rattle.snapshot_rules.specs.declared.rules.Verdict.{Verdict}
use Rattle.snapshot_rules.specs.declared.rules.Verdict.TheVariants.{All, Most, CheckLeast, Lose}
use Rattle.snapshot_rules.specs.Verdict.{verdict_of}
use Rattle.verb_words.specs.declared.verbs.Answer.{Answer}
use Rattle.verb_words.specs.declared.verbs.Answer.TheVariants.{Word, Done, Lost}
use Rattle.verb_words.specs.declared.verbs.Verb.{Verb}
use Rattle.verb_words.specs.declared.verbs.Verb.TheVariants.{Read, Swap}
use Rattle.verb_words.specs.Verb.{place_of}

-- Gather: puts its word on the next backup. Mend: puts it on a backup that has another writer's. Check: reads the
-- primary before it mends, since its word is the least of several. Final: puts its word on the primary. Wait: reads
-- the primary until the winner has changed it
pub data Phase : Type 0 where
  Gather : Phase
  Mend : (backup : ℕ) → Phase
  Check : Phase
  Final : Phase
  Wait : Phase

-- the list has the words found on the backups, its own where it was put
pub record SlotWrite : Type 0 where
  pub view : Viewed
  pub slot : ℕ
  pub expect : ℕ
  pub fresh : ℕ
  pub list : List ℕ
  pub phase : Phase

abbrev pub slot_write_of : Viewed → ℕ → ℕ → ℕ → SlotWrite
slot_write_of view slot expect fresh =
    record { view = view; slot = slot; expect = expect; fresh = fresh; list = []; phase = Gather }

abbrev pub verb_at : Phase → SlotWrite → Verb
verb_at Gather write = Swap (slot_backup write.view write.slot (length write.list)) write.expect write.fresh
verb_at (Mend backup) write = Swap (slot_backup write.view write.slot backup) (slice_index write.list backup) write.fresh
verb_at Check write = Read (slot_primary write.view write.slot)
verb_at Final write = Swap (slot_primary write.view write.slot) write.expect write.fresh
verb_at Wait write = Read (slot_primary write.view write.slot)

abbrev pub next : SlotWrite → Verb
next write = verb_at write.phase write

abbrev pub goes : SlotWrite → Turn SlotWrite Wrote
goes write = record { state = write; told = Going }

abbrev pub tells : SlotWrite → Wrote → Turn SlotWrite Wrote
tells write told = record { state = write; told = told }

-- the next backup that has another word than this one, of those from a number on that have these words
abbrev pub mend_from : ℕ → ℕ → List ℕ → Phase
mend_from fresh backup [] = Final
mend_from fresh backup (word ∷ words) = if word == fresh then mend_from fresh (backup + 1) words else Mend backup

-- what the list says of a word
unfoldable pub judged : List ℕ → ℕ → Verdict
judged list fresh = verdict_of list fresh

abbrev pub on_verdict : Verdict → ℕ → List ℕ → Phase
on_verdict All fresh list = Final
on_verdict Most fresh list = mend_from fresh 0 list
on_verdict CheckLeast fresh list = Check
on_verdict Lose fresh list = Wait

-- once all backups have answered, the list is judged
abbrev pub gathered : SlotWrite → List ℕ → SlotWrite
gathered write list =
    if length list == backup_count write.view write.slot
    then record write { list = list; phase = on_verdict (judged list write.fresh) write.fresh list }
    else record write { list = list }

-- the word that a backup has after the swap
abbrev pub listed : SlotWrite → ℕ → ℕ
listed write found = if found == write.expect then write.fresh else found

abbrev pub turn_at : Phase → SlotWrite → ℕ → Turn SlotWrite Wrote
turn_at Gather write found = goes (gathered write (write.list ++ listed write found ∷ []))
turn_at (Mend backup) write found = goes (record write { phase = mend_from write.fresh (backup + 1) (drop (backup + 1) write.list) })
turn_at Check write found =
    if found == write.expect
    then goes (record write { phase = mend_from write.fresh 0 write.list })
    else tells write (Changed found)
turn_at Final write found = tells write Won
turn_at Wait write found = if found == write.expect then tells write (Unchanged found) else tells write (Changed found)

abbrev pub turn : SlotWrite → Answer → Turn SlotWrite Wrote
turn write (Word found) = turn_at write.phase write found
turn write Done = goes write
turn write Lost = tells write (Refused (place_of (next write)).node)

-- what holds of a phase, given the write's word, what is listed and how many backups there are: the word is put on the
-- next backup, or mended on one whose word is listed; it is the least of several words, or it has lost
abbrev pub IsAt : Phase → ℕ → List ℕ → ℕ → Type 0
IsAt Gather fresh list backups = length list < backups
IsAt (Mend backup) fresh list backups = backup < length list
IsAt Check fresh list backups = judged list fresh ≡ CheckLeast
IsAt Final fresh list backups = Unit {0}
IsAt Wait fresh list backups = judged list fresh ≡ Lose

-- what holds of each slot write under a view
pub record IsSlotWrite (view : Viewed) (write : SlotWrite) : Type 0 where
  pub held : write.view ≡ view
  pub is_view : IsView write.view
  pub slot : write.slot < 24 * write.view.shape.groups
  pub list : length write.list ≤ backup_count write.view write.slot
  pub phase : IsAt write.phase write.fresh write.list (backup_count write.view write.slot)
