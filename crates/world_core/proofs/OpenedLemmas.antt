-- Where a settling opens the next view.
use Rattle.std.proofs.Common.{◌≡◌, ℕ, ◌+◌, ◌==◌, Bool, true, false, length, Option, Some, None, if◌then◌else◌, nat_lt, refl, sym, ap, ◌∙◌}
use Rattle.std.proofs.lemmas.Bool.{false≢true}
use Rattle.machine.specs.declared.settling.Settled.{Settled}
use Rattle.machine.specs.declared.settling.Settled.TheVariants.{Going, Opened, NotYet}
use Rattle.machine.specs.Copying.{copied_words, sources_of}
use Rattle.machine.specs.EpochRead.{leaves_none_bare, open_mask}
use Rattle.machine.specs.Settling.{Phase, ReadEpoch, Seal, ReadBegin, ReadPause, ReadStatus, ReadWord, WriteWord, Open, Settling, after_client, is_out, next_word, old_mask, on_begin, on_epoch, on_pause, on_status, opened_word, targets, turn, turn_at, waits, with_status, writes_from}
use Rattle.machine.specs.Turn.{Turn}
use Rattle.machine_world.specs.Events.{opens}
use Rattle.verb_words.specs.declared.verbs.Answer.{Answer}
use Rattle.verb_words.specs.declared.verbs.Answer.TheVariants.{Word, Done, Lost}

-- the turn opens no view
abbrev GoesOn : Turn Settling Settled → Type 0
GoesOn turned = opens turned.told ≡ false

either : (t : Bool) (one other : Turn Settling Settled) → GoesOn one → GoesOn other → GoesOn (if t then one else other)
either true one other first second = first
either false one other first second = second

after_client-goes : (settling : Settling) (client : ℕ) → GoesOn (after_client settling client)
after_client-goes settling client = either (nat_lt client settling.shape.clients) _ _ refl refl

epoch-goes : (settling : Settling) (found : ℕ) → GoesOn (on_epoch settling found)
epoch-goes settling found = by (open_mask settling.shape found) refl
  where
    by : (mask : Option ℕ) → open_mask settling.shape found ≡ mask → GoesOn (on_epoch settling found)
    by None none = rw none refl
    by (Some mask) some = rw some refl

begin-goes : (settling : Settling) (client found : ℕ) → GoesOn (on_begin settling client found)
begin-goes settling client found = either (is_out settling client found) _ _ (after_client-goes settling client) refl

pause-goes : (settling : Settling) (client begin found : ℕ) → GoesOn (on_pause settling client begin found)
pause-goes settling client begin found = either (found == settling.sealed) _ _ (after_client-goes settling client) refl

status-goes : (settling : Settling) (node live found : ℕ) → GoesOn (on_status settling node live found)
status-goes settling node live found =
    let now = with_status live node found in
    either (nat_lt node settling.shape.nodes) _ _ refl (either (leaves_none_bare settling.shape (sources_of (old_mask settling) now)) _ _ refl refl)

word-goes : (settling : Settling) → GoesOn (next_word settling)
word-goes settling =
    either (nat_lt (settling.offset + 1) (copied_words settling.shape settling.region)) _ _ refl (either (nat_lt settling.region settling.shape.regions) _ _ refl refl)

writes-goes : (settling : Settling) (word target : ℕ) → GoesOn (writes_from settling word target)
writes-goes settling word target = either (nat_lt target (length (targets settling))) _ _ refl (word-goes settling)

-- what a view that is opened says of the turn
abbrev IsOpening : Phase → Settling → Answer → ℕ → Type 0
IsOpening phase settling answer word = (phase ≡ Open) × (answer ≡ Done) × (word ≡ opened_word settling)

never : (turned : Turn Settling Settled) (word : ℕ) → GoesOn turned → turned.told ≡ Opened word → ⊥
never turned word goes is = false≢true (sym goes ∙ ap opens is)

opened-by : (phase : Phase) (settling : Settling) (answer : Answer) (word : ℕ) → (turn_at phase settling answer).told ≡ Opened word → IsOpening phase settling answer word
opened-by ReadEpoch settling (Word found) word is = absurd (never (on_epoch settling found) word (epoch-goes settling found) is)
opened-by ReadEpoch settling Done word is = absurd cc
opened-by ReadEpoch settling Lost word is = absurd cc
opened-by Seal settling (Word found) word is = absurd cc
opened-by Seal settling Done word is = absurd cc
opened-by Seal settling Lost word is = absurd cc
opened-by (ReadBegin client) settling (Word found) word is = absurd (never (on_begin settling client found) word (begin-goes settling client found) is)
opened-by (ReadBegin client) settling Done word is = absurd cc
opened-by (ReadBegin client) settling Lost word is = absurd cc
opened-by (ReadPause client begin) settling (Word found) word is = absurd (never (on_pause settling client begin found) word (pause-goes settling client begin found) is)
opened-by (ReadPause client begin) settling Done word is = absurd cc
opened-by (ReadPause client begin) settling Lost word is = absurd cc
opened-by (ReadStatus node live) settling (Word found) word is = absurd (never (on_status settling node live found) word (status-goes settling node live found) is)
opened-by (ReadStatus node live) settling Done word is = absurd cc
opened-by (ReadStatus node live) settling Lost word is = absurd cc
opened-by ReadWord settling (Word found) word is = absurd (never (writes_from settling found 0) word (writes-goes settling found 0) is)
opened-by ReadWord settling Done word is = absurd cc
opened-by ReadWord settling Lost word is = absurd cc
opened-by (WriteWord next target) settling (Word found) word is = absurd cc
opened-by (WriteWord next target) settling Done word is = absurd (never (writes_from settling next (target + 1)) word (writes-goes settling next (target + 1)) is)
opened-by (WriteWord next target) settling Lost word is = absurd cc
opened-by Open settling (Word found) word is = absurd cc
opened-by Open settling Done word is = (refl, refl, cc)
opened-by Open settling Lost word is = absurd cc

-- a settling tells that the next view is open only where it has written that view's epoch word
pub opened-at : (settling : Settling) (answer : Answer) (word : ℕ) → (turn settling answer).told ≡ Opened word → (settling.phase ≡ Open) × (answer ≡ Done) × (word ≡ opened_word settling)
opened-at settling answer word is = opened-by settling.phase settling answer word is

-- and there it does
pub opened-of : (settling : Settling) (answer : Answer) → settling.phase ≡ Open → answer ≡ Done → (turn settling answer).told ≡ Opened (opened_word settling)
opened-of settling answer phase done = λ i. (turn_at (phase i) settling (done i)).told

-- whether it does, as the world asks
pub opens-at : (settling : Settling) (answer : Answer) → opens (turn settling answer).told ≡ true → (settling.phase ≡ Open) × (answer ≡ Done)
opens-at settling answer is = by (turn settling answer).told refl
  where
    by : (told : Settled) → (turn settling answer).told ≡ told → (settling.phase ≡ Open) × (answer ≡ Done)
    by Going goes = absurd (false≢true (sym (ap opens goes) ∙ is))
    by (Opened word) opened = let at = opened-at settling answer word opened in (at.0, at.1)
    by (NotYet client begin) waits = absurd (false≢true (sym (ap opens waits) ∙ is))
