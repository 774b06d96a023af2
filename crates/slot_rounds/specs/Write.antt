-- A write of one slot by one writer, verb by verb.
use Rattle.std.specs.Prelude.{ℕ, ◌+◌, ◌==◌, if◌then◌else◌, List, [], ◌∷◌, ◌++◌, length, drop, slice_index}
use Rattle.snapshot_rules.specs.declared.rules.Verdict.{Verdict}
use Rattle.snapshot_rules.specs.declared.rules.Verdict.TheVariants.{All, Most, CheckLeast, Lose}
use Rattle.snapshot_rules.specs.Verdict.{verdict_of}
use Rattle.slot_rounds.specs.Slot.{Verb, SwapBackup, ReadPrimary, SwapPrimary}

-- how far a write has come
pub data Phase : Type 0 where
  -- it swaps the backups from the expected word to its own, one after the other
  Gathering : Phase
  -- it has won, and swaps this backup from the listed word to its own
  Mending : ℕ → Phase
  -- its word is the least, and it looks whether the round still goes on
  Checking : Phase
  -- every backup has its word, and it swaps the primary
  Deciding : Phase
  -- it has lost, and looks whether the deciding word has changed
  Waiting : Phase
  -- it was broken off
  Left : Phase

-- a write that is under way
pub record Write : Type 0 where
  -- the word that it replaces
  pub expected : ℕ
  -- the word that it writes
  pub fresh : ℕ
  -- what it knows of each backup that it has swapped
  pub list : List ℕ
  pub phase : Phase

-- a writer: at rest, or with a write under way
pub data Writer : Type 0 where
  Idle : Writer
  Writing : Write → Writer

-- what a writer is told by a verb or a change
pub data Told : Type 0 where
  Going : Told
  -- its word was made the deciding one
  Won : Told
  -- the deciding word is still the expected one
  Unchanged : Told
  -- the deciding word is this one, which is not the expected one
  Changed : ℕ → Told

-- the write at its beginning
abbrev pub begun : ℕ → ℕ → Write
begun expected fresh = record { expected = expected; fresh = fresh; list = []; phase = Gathering }

abbrev pub with_phase : Write → Phase → Write
with_phase write phase =
    record { expected = write.expected; fresh = write.fresh; list = write.list; phase = phase }

-- a write that is broken off gives up its list
abbrev pub left : Write → Write
left write = record { expected = write.expected; fresh = write.fresh; list = []; phase = Left }

-- the next verb of a write
abbrev pub verb_at : Phase → Write → Verb
verb_at Gathering write = SwapBackup (length write.list) write.expected write.fresh
verb_at (Mending place) write = SwapBackup place (slice_index write.list place) write.fresh
verb_at Checking write = ReadPrimary
verb_at Deciding write = SwapPrimary write.expected write.fresh
verb_at Waiting write = ReadPrimary
verb_at Left write = ReadPrimary

abbrev pub verb_of : Write → Verb
verb_of write = verb_at write.phase write

-- the phase of a winner that has this part of its list still before it, from this place on: the next
-- backup with another word than its own is mended, and at the end the primary is swapped
abbrev pub mend_from : ℕ → ℕ → List ℕ → Phase
mend_from fresh place [] = Deciding
mend_from fresh place (word ∷ rest) = if word == fresh then mend_from fresh (place + 1) rest else Mending place

-- the phase once the full list was judged
abbrev pub on_verdict : Verdict → ℕ → List ℕ → Phase
on_verdict All fresh list = Deciding
on_verdict Most fresh list = mend_from fresh 0 list
on_verdict CheckLeast fresh list = Checking
on_verdict Lose fresh list = Waiting

-- what the full list says of a word
unfoldable pub judged : List ℕ → ℕ → Verdict
judged list fresh = verdict_of list fresh

-- the phase with this list: once it has a word of each of so many backups, it is judged
abbrev pub gathered : ℕ → ℕ → List ℕ → Phase
gathered backups fresh list =
    if length list == backups then on_verdict (judged list fresh) fresh list else Gathering

-- the write once it knows this word of the next backup, of so many
abbrev pub with_listed : ℕ → Write → ℕ → Write
with_listed backups write word =
    record {
      expected = write.expected;
      fresh = write.fresh;
      list = write.list ++ word ∷ [];
      phase = gathered backups write.fresh (write.list ++ word ∷ []);
    }

-- the word that a backup has after a swap that found this one
abbrev pub word_after : Write → ℕ → ℕ
word_after write found = if found == write.expected then write.fresh else found

-- what becomes of a write, of a slot with so many backups, whose verb has found this word
abbrev pub after_at : Phase → ℕ → Write → ℕ → Writer
after_at Gathering backups write found = Writing (with_listed backups write (word_after write found))
after_at (Mending place) backups write found =
    Writing (with_phase write (mend_from write.fresh (place + 1) (drop (place + 1) write.list)))
after_at Checking backups write found =
    if found == write.expected then Writing (with_phase write (mend_from write.fresh 0 write.list)) else Idle
after_at Deciding backups write found = Idle
after_at Waiting backups write found = if found == write.expected then Writing write else Idle
after_at Left backups write found =
    if found == write.expected then Writing (begun write.expected write.fresh) else Idle

-- what its writer is told
abbrev pub told_at : Phase → Write → ℕ → Told
told_at Gathering write found = Going
told_at (Mending place) write found = Going
told_at Checking write found = if found == write.expected then Going else Changed found
told_at Deciding write found = Won
told_at Waiting write found = if found == write.expected then Unchanged else Changed found
told_at Left write found = if found == write.expected then Going else Changed found
