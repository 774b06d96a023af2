-- A slot write under way stays so.
use Rattle.std.proofs.Common.{◌≡◌, ◌≢◌, ℕ, ◌+◌, ◌*◌, ◌==◌, ◌<◌, ◌≤◌, Bool, true, false, List, [], ◌∷◌, ◌++◌, drop, get_or, length, map, refl, sym, ap, ◌∙◌, subst, arith, if◌then◌else◌, length-append, eq-eqb}
use Rattle.std.proofs.lemmas.List.{drop_more, length-drop, length-map}
use Rattle.std.proofs.lemmas.Bool.{false≢true}
use Rattle.std.proofs.lemmas.Bool.Decides.{Decides-eqb}
use Rattle.machine.specs.Places.{backup_count, slot_homes_of}
use Rattle.machine.specs.SlotWrite.{IsAt, SlotWrite, Phase, Gather, Mend, Check, Final, Wait, goes, judged, listed, mend_from, on_verdict, slot_write_of, tells, turn, turn_at}
use Rattle.machine.proofs.PlacesLemmas.{backup_count-some, slot_homes_of-more}
use Rattle.machine.proofs.SlotWriteLemmas.{slot_write_of-is}
use Rattle.machine.specs.EpochRead.{IsView}
use Rattle.machine.specs.declared.slot_write.Wrote.TheVariants.{Changed, Unchanged}
use Rattle.verb_words.specs.declared.verbs.Answer.{Answer}
use Rattle.verb_words.specs.declared.verbs.Answer.TheVariants.{Word, Done, Lost}
use Rattle.region_view.specs.Placed.{Viewed}
use Rattle.region_view.specs.Places.{slot_places_of}
use Rattle.snapshot_rules.specs.declared.rules.Verdict.{Verdict}
use Rattle.snapshot_rules.specs.declared.rules.Verdict.TheVariants.{All, Most, CheckLeast, Lose}
use Rattle.snapshot_write.specs.States.{IsFull, IsHeld, IsJudged, IsUnderWay, pair_of}
use Rattle.snapshot_write.proofs.PlaceLemmas.{slot_homes_of-few, slot_homes_of-places}

-- a slot write with another list and another phase
abbrev pub with : SlotWrite → List ℕ → Phase → SlotWrite
with write list phase = record write { list = list; phase = phase }

-- whatever is mended next, it is a backup of the list that has another word
pub mend_from-at : (write : SlotWrite) (backup : ℕ) (words : List ℕ) → words ≡ drop backup write.list → backup ≤ length write.list → IsFull write → judged write.list write.fresh ≢ Lose → IsJudged (mend_from write.fresh backup words) write
mend_from-at write backup [] left within full wins = (full, wins)
mend_from-at write backup (word ∷ words) left within full wins = by (word == write.fresh) refl (mend_from-at write (backup + 1) words (ap (drop 1) same) (omega (arith, long)) full wins)
  where
    long : backup < length write.list
    long = let some = ap length left in omega (arith, length-drop backup write.list)

    same : word ∷ words ≡ get_or write.list backup 0 ∷ drop (backup + 1) write.list
    same = left ∙ drop_more write.list backup 0 long

    by : (t : Bool) → (word == write.fresh) ≡ t → IsJudged (mend_from write.fresh (backup + 1) words) write → IsJudged (if t then mend_from write.fresh (backup + 1) words else Mend backup) write
    by true is later = later
    by false is later = (full, wins, long, λ listed. false≢true (sym is ∙ eq-eqb word write.fresh (ap (λ l. get_or l 0 0) same ∙ listed)))

mend_at : (write : SlotWrite) (backup : ℕ) → backup ≤ length write.list → IsFull write → judged write.list write.fresh ≢ Lose → IsJudged (mend_from write.fresh backup (drop backup write.list)) write
mend_at write backup within = mend_from-at write backup (drop backup write.list) refl within

verdict_at : (write : SlotWrite) (verdict : Verdict) → judged write.list write.fresh ≡ verdict → IsFull write → IsJudged (on_verdict verdict write.fresh write.list) write
verdict_at write All is full = (full, λ lost. cc)
verdict_at write Most is full = mend_from-at write 0 write.list refl (omega arith) full (λ lost. cc)
verdict_at write CheckLeast is full = (full, is)
verdict_at write Lose is full = (full, is)

-- what a phase needs of the list
at_of : (phase : Phase) (write : SlotWrite) → IsJudged phase write → (length write.list ≤ backup_count write.view write.slot) × IsAt phase write.fresh write.list (backup_count write.view write.slot)
at_of Gather write is = (omega arith, is)
at_of (Mend backup) write is = (omega (arith, is.0), is.2)
at_of Check write is = (omega (arith, is.0), is.1)
at_of Final write is = (omega (arith, is.0), tt)
at_of Wait write is = (omega (arith, is.0), is.1)

-- the facts of a slot write that stay
IsSet : SlotWrite → Type 0
IsSet write = IsView write.view × (write.slot < 24 * write.view.shape.groups)

in_phase : (write : SlotWrite) (list : List ℕ) (phase : Phase) → IsSet write → IsJudged phase (with write list phase) → IsUnderWay (with write list phase)
unfolding IsSet
in_phase write list phase set is =
    let at = at_of phase (with write list phase) is in
    record { state = record { held = refl; is_view = set.0; slot = set.1; list = at.0; phase = at.1 }; phase = is }

gathered_at : (write : SlotWrite) (list : List ℕ) (test : Bool) → (length list == backup_count write.view write.slot) ≡ test → IsSet write → length list ≤ backup_count write.view write.slot
    → IsUnderWay (if test then with write list (on_verdict (judged list write.fresh) write.fresh list) else with write list Gather)
gathered_at write list true is set within =
    let full = (Decides-eqb (length list) (backup_count write.view write.slot)).0 is in
    in_phase write list _ set (verdict_at (with write list (on_verdict (judged list write.fresh) write.fresh list)) (judged list write.fresh) refl full)
gathered_at write list false is set within =
    let other : length list ≢ backup_count write.view write.slot = λ same. false≢true (sym is ∙ eq-eqb (length list) (backup_count write.view write.slot) same) in
    in_phase write list Gather set (omega arith)

check_at : (write : SlotWrite) (found : ℕ) (test : Bool) → IsSet write → IsJudged Check write
    → IsUnderWay (if test then goes (with write write.list (mend_from write.fresh 0 write.list)) else tells (with write write.list Check) (Changed found)).state
check_at write found true set at = in_phase write write.list _ set (mend_from-at (with write write.list (mend_from write.fresh 0 write.list)) 0 write.list refl (omega arith) at.0 (λ lost. differ (sym at.1 ∙ lost)))
  where
    differ : CheckLeast ≢ Lose
    differ = λ same. cc
check_at write found false set at = in_phase write write.list Check set at

wait_at : (write : SlotWrite) (found : ℕ) (test : Bool) → IsSet write → IsJudged Wait write
    → IsUnderWay (if test then tells (with write write.list Wait) (Unchanged found) else tells (with write write.list Wait) (Changed found)).state
wait_at write found true set at = in_phase write write.list Wait set at
wait_at write found false set at = in_phase write write.list Wait set at

row : (phase : Phase) (write : SlotWrite) (found : ℕ) → IsSet write → IsJudged phase write → IsUnderWay (turn_at phase (with write write.list phase) found).state
row Gather write found set at =
    let word : ℕ = listed write found in
    gathered_at write (write.list ++ word ∷ []) _ refl set (omega (arith, length-append write.list (word ∷ [])))
row (Mend backup) write found set at = in_phase write write.list _ set (mend_at (with write write.list (mend_from write.fresh (backup + 1) (drop (backup + 1) write.list))) (backup + 1) (omega (arith, at.2)) at.0 at.1)
row Check write found set at = check_at write found (found == write.expect) set at
row Final write found set at = in_phase write write.list Final set at
row Wait write found set at = wait_at write found (found == write.expect) set at

-- a slot write under way stays so, whatever is answered
pub turn_at-kept : (write : SlotWrite) (found : ℕ) → IsUnderWay write → IsUnderWay (turn_at write.phase write found).state
unfolding IsSet
turn_at-kept write found is = row write.phase write found (is.state.is_view, is.state.slot) is.phase

pub turn-kept : (write : SlotWrite) (answer : Answer) → IsUnderWay write → IsUnderWay (turn write answer).state
turn-kept write (Word found) is = turn_at-kept write found is
turn-kept write Done is = is
turn-kept write Lost is = is

-- a slot write is under way when it begins
pub begun-under_way : (view : Viewed) (slot expect fresh : ℕ) → IsView view → slot < 24 * view.shape.groups → IsUnderWay (slot_write_of view slot expect fresh)
begun-under_way view slot expect fresh is below = record { state = slot_write_of-is view slot expect fresh is below; phase = backup_count-some view slot is }

-- ---- with the places at hand

in_phase-held : (write : SlotWrite) (list : List ℕ) (phase : Phase) (places : List (ℕ × ℕ)) → IsHeld write places → IsJudged phase (with write list phase) → IsHeld (with write list phase) places
unfolding IsSet
in_phase-held write list phase places held at = record {
  under_way = in_phase write list phase (held.under_way.state.is_view, held.under_way.state.slot) at;
  places_are = held.places_are;
  long = held.long;
  some = held.some;
  few = held.few;
}

pub begun-held : (view : Viewed) (slot expect fresh : ℕ) (places : List (ℕ × ℕ)) → IsView view → slot < 24 * view.shape.groups → places ≡ slot_places_of view slot
    → IsHeld (slot_write_of view slot expect fresh) places
begun-held view slot expect fresh places is below are =
    let some = slot_homes_of-more view slot is in
    let same : places ≡ map (pair_of view.shape) (slot_homes_of view slot) = are ∙ sym (slot_homes_of-places view slot) in
    record {
      under_way = begun-under_way view slot expect fresh is below;
      places_are = same;
      long = ap length same ∙ length-map (slot_homes_of view slot) (pair_of view.shape);
      some = some;
      few = slot_homes_of-few view slot is.limits;
    }

-- once its list is full, a write goes on by what that says
pub judged-held : (write : SlotWrite) (list : List ℕ) (phase : Phase) (places : List (ℕ × ℕ)) → IsHeld write places → length list ≡ backup_count write.view write.slot → phase ≡ on_verdict (judged list write.fresh) write.fresh list
    → IsHeld (with write list phase) places
judged-held write list phase places held full is = in_phase-held write list phase places held (subst (λ p. IsJudged p (with write list phase)) (sym is) (verdict_at (with write list phase) (judged list write.fresh) refl full))

wins-from : (write : SlotWrite) (verdict : Verdict) → judged write.list write.fresh ≡ verdict → verdict ≢ Lose → judged write.list write.fresh ≢ Lose
wins-from write verdict is other lost = other (sym is ∙ lost)

-- a write that mends, or that has read the expected word, mends the next
pub mend-held : (write : SlotWrite) (backup : ℕ) (phase : Phase) (places : List (ℕ × ℕ)) → IsHeld write places → write.phase ≡ Mend backup → phase ≡ mend_from write.fresh (backup + 1) (drop (backup + 1) write.list)
    → IsHeld (with write write.list phase) places
mend-held write backup phase places held was is =
    let at = subst (λ p. IsJudged p write) was held.under_way.phase in
    in_phase-held write write.list phase places held (subst (λ p. IsJudged p (with write write.list phase)) (sym is) (mend_at (with write write.list phase) (backup + 1) (omega (arith, at.2)) at.0 at.1))

pub check-held : (write : SlotWrite) (phase : Phase) (places : List (ℕ × ℕ)) → IsHeld write places → write.phase ≡ Check → phase ≡ mend_from write.fresh 0 (drop 0 write.list)
    → IsHeld (with write write.list phase) places
check-held write phase places held was is =
    let at = subst (λ p. IsJudged p write) was held.under_way.phase in
    in_phase-held write write.list phase places held (subst (λ p. IsJudged p (with write write.list phase)) (sym is) (mend_at (with write write.list phase) 0 (omega arith) at.0 (wins-from write CheckLeast at.1 (λ same. cc))))
