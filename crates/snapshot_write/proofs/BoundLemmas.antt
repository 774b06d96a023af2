-- How many verbs a slot write takes.
use Rattle.std.proofs.Common.{◌≡◌, ◌≢◌, ℕ, zero, suc, ◌+◌, ◌-◌, ◌*◌, ◌==◌, ◌<◌, ◌≤◌, Bool, true, false, not, cond, List, [], ◌∷◌, ◌++◌, drop, get_or, length, refl, sym, ap, subst, ◌∙◌, arith, if◌then◌else◌, length-append, eq-eqb, ne_eqb}
use Rattle.std.specs.Prelude.{Contains}
use Rattle.std.proofs.lemmas.Bool.{false≢true}
use Rattle.std.proofs.lemmas.Bool.Decides.{Decides-eqb}
use Rattle.std.proofs.lemmas.List.{drop_more, length-drop}
use Rattle.std.proofs.lemmas.List.Sums.{count_by-le-length, sum_by-cons}
use Rattle.machine.specs.declared.slot_write.Wrote.TheVariants.{Going, Changed, Unchanged}
use Rattle.machine.specs.EpochRead.{IsView}
use Rattle.machine.specs.Places.{backup_count}
use Rattle.machine.specs.SlotWrite.{SlotWrite, Phase, Gather, Mend, Check, Final, Wait, goes, judged, listed, mend_from, on_verdict, slot_write_of, tells, turn, turn_at}
use Rattle.region_view.specs.Placed.{Viewed}
use Rattle.snapshot_rules.proofs.VerdictLemmas.{winner-from_CheckLeast}
use Rattle.snapshot_rules.proofs.WinnerLemmas.{Contains-winner}
use Rattle.snapshot_rules.specs.declared.rules.Verdict.{Verdict}
use Rattle.snapshot_rules.specs.declared.rules.Verdict.TheVariants.{All, Most, CheckLeast, Lose}
use Rattle.snapshot_write.proofs.StateLemmas.{begun-under_way, turn-kept, with}
use Rattle.snapshot_write.specs.Bound.{GoesOn, others, verbs_left, verbs_left_at}
use Rattle.snapshot_write.specs.States.{IsJudged, IsUnderWay}
use Rattle.verb_words.specs.declared.verbs.Answer.TheVariants.{Word}

-- ---- how many words are not this one

others-cons : (word first : ℕ) (rest : List ℕ) → others word (first ∷ rest) ≡ cond (not (first == word)) 1 0 + others word rest
others-cons word first rest = sum_by-cons (λ other. cond (not (other == word)) 1 0) first rest

others-le-length : (word : ℕ) (list : List ℕ) → others word list ≤ length list
others-le-length word list = count_by-le-length (λ other. not (other == word)) list

others-same : (word first : ℕ) (rest : List ℕ) → first ≡ word → others word (first ∷ rest) ≡ others word rest
others-same word first rest same = others-cons word first rest ∙ rw (eq-eqb first word same) (omega arith)

others-more : (word first : ℕ) (rest : List ℕ) → first ≢ word → others word (first ∷ rest) ≡ 1 + others word rest
others-more word first rest other = others-cons word first rest ∙ rw (ne_eqb first word other) refl

-- a list that has a word has fewer others than words
others-fewer : (word : ℕ) (list : List ℕ) (k d : ℕ) → k < length list → get_or list k d ≡ word → others word list < length list
others-fewer word [] k d within is = absurd (omega arith)
others-fewer word (first ∷ rest) zero d within is = omega (arith, others-same word first rest is, others-le-length word rest)
others-fewer word (first ∷ rest) (suc k) d within is = by (first == word) refl (others-fewer word rest k d (omega arith) is)
  where
    by : (t : Bool) → (first == word) ≡ t → others word rest < length rest → others word (first ∷ rest) < length (first ∷ rest)
    by true same later = omega (arith, others-same word first rest ((Decides-eqb first word).0 same))
    by false other later = omega (arith, others-more word first rest (λ same. false≢true (sym other ∙ eq-eqb first word same)))

-- ---- what is left once the list is full

mends_left : (write : SlotWrite) (backup : ℕ) (words : List ℕ) → words ≡ drop backup write.list → verbs_left_at (mend_from write.fresh backup words) write ≤ others write.fresh words + 1
mends_left write backup [] left = omega arith
mends_left write backup (word ∷ words) left = by (word == write.fresh) refl (mends_left write (backup + 1) words rest)
  where
    long : backup < length write.list
    long = let some = ap length left in omega (arith, length-drop backup write.list)

    rest : words ≡ drop (backup + 1) write.list
    rest = ap (drop 1) (left ∙ drop_more write.list backup 0 long)

    by : (t : Bool) → (word == write.fresh) ≡ t → verbs_left_at (mend_from write.fresh (backup + 1) words) write ≤ others write.fresh words + 1
        → verbs_left_at (if t then mend_from write.fresh (backup + 1) words else Mend backup) write ≤ others write.fresh (word ∷ words) + 1
    by true same later = omega (arith, others-same write.fresh word words ((Decides-eqb word write.fresh).0 same))
    by false other later = let all = ap (others write.fresh) left in omega (arith, all)

fewer_from_least : (list : List ℕ) (fresh : ℕ) → 0 < length list → judged list fresh ≡ CheckLeast → others fresh list < length list
unfolding judged
fewer_from_least list fresh some is =
    let has : Contains list fresh = subst (Contains list) (sym (winner-from_CheckLeast list fresh is)) (Contains-winner list some) in
    others-fewer fresh list has.0 fresh has.1 has.2

judged_left : (write : SlotWrite) (verdict : Verdict) → judged write.list write.fresh ≡ verdict → 0 < length write.list → verbs_left_at (on_verdict verdict write.fresh write.list) write ≤ length write.list + 1
judged_left write All is some = omega arith
judged_left write Most is some = omega (arith, mends_left write 0 write.list refl, others-le-length write.fresh write.list)
judged_left write CheckLeast is some = omega (arith, fewer_from_least write.list write.fresh some is)
judged_left write Lose is some = omega arith

-- ---- each answer takes one

gathered_left : (write : SlotWrite) (list : List ℕ) (test : Bool) → (length list == backup_count write.view write.slot) ≡ test → length list ≡ length write.list + 1 → length write.list < backup_count write.view write.slot
    → verbs_left (if test then with write list (on_verdict (judged list write.fresh) write.fresh list) else with write list Gather) < 2 * backup_count write.view write.slot + 1 - length write.list
gathered_left write list true is more room =
    let full = (Decides-eqb (length list) (backup_count write.view write.slot)).0 is in
    let next : SlotWrite = with write list (on_verdict (judged list write.fresh) write.fresh list) in
    let bound : verbs_left next ≤ length list + 1 = judged_left next (judged list write.fresh) refl (omega arith) in
    let fewer : verbs_left next < 2 * backup_count write.view write.slot + 1 - length write.list = omega arith in
    fewer
gathered_left write list false is more room = omega arith

-- the same write, on its way to the next mend
abbrev mending : SlotWrite → ℕ → SlotWrite
mending write backup = with write write.list (mend_from write.fresh backup (drop backup write.list))

mended_left : (write : SlotWrite) (backup : ℕ) → backup < length write.list → get_or write.list backup 0 ≢ write.fresh
    → verbs_left (mending write (backup + 1)) < others write.fresh (drop backup write.list) + 1
mended_left write backup within other =
    let all = ap (others write.fresh) (drop_more write.list backup 0 within) in
    let one = others-more write.fresh (get_or write.list backup 0) (drop (backup + 1) write.list) other in
    let bound : verbs_left (mending write (backup + 1)) ≤ others write.fresh (drop (backup + 1) write.list) + 1 = mends_left (mending write (backup + 1)) (backup + 1) (drop (backup + 1) write.list) refl in
    omega arith

checked_left : (write : SlotWrite) (found : ℕ) (test : Bool) → (if test then goes (with write write.list (mend_from write.fresh 0 write.list)) else tells (with write write.list Check) (Changed found)).told ≡ Going
    → verbs_left (if test then goes (with write write.list (mend_from write.fresh 0 write.list)) else tells (with write write.list Check) (Changed found)).state < 1 + others write.fresh write.list + 1
checked_left write found true told =
    let next : SlotWrite = with write write.list (mend_from write.fresh 0 write.list) in
    let bound : verbs_left next ≤ others write.fresh write.list + 1 = mends_left next 0 write.list refl in
    let fewer : verbs_left next < 1 + others write.fresh write.list + 1 = omega arith in
    fewer
checked_left write found false told = absurd cc

never_goes : (found : ℕ) (write : SlotWrite) (test : Bool) → (if test then tells write (Unchanged found) else tells write (Changed found)).told ≢ Going
never_goes found write true told = cc
never_goes found write false told = cc

falls_at : (phase : Phase) (write : SlotWrite) (found : ℕ) → IsJudged phase write → (turn_at phase (with write write.list phase) found).told ≡ Going → verbs_left (turn_at phase (with write write.list phase) found).state < verbs_left_at phase write
falls_at Gather write found at told =
    let list : List ℕ = write.list ++ listed write found ∷ [] in
    gathered_left write list _ refl (omega (arith, length-append write.list (listed write found ∷ []))) at
falls_at (Mend backup) write found at told = mended_left write backup at.2 at.3
falls_at Check write found at told = checked_left write found (found == write.expect) told
falls_at Final write found at told = absurd cc
falls_at Wait write found at told = absurd (never_goes found (with write write.list Wait) (found == write.expect) told)

-- each answer at which a write goes on takes one of the verbs that are left
pub verbs_left-falls : (write : SlotWrite) (word : ℕ) → IsUnderWay write → (turn write (Word word)).told ≡ Going → verbs_left (turn write (Word word)).state < verbs_left write
verbs_left-falls write word is told = falls_at write.phase write word is.phase told

some_left : (phase : Phase) (write : SlotWrite) → IsJudged phase write → 0 < verbs_left_at phase write
some_left Gather write at = omega arith
some_left (Mend backup) write at = omega arith
some_left Check write at = omega arith
some_left Final write at = omega arith
some_left Wait write at = omega arith

few : (write : SlotWrite) (words : List ℕ) → IsUnderWay write → GoesOn write words → length words < verbs_left write
few write [] is on = some_left write.phase write is.phase
few write (word ∷ words) is on = omega (arith, few (turn write (Word word)).state words (turn-kept write (Word word) is) on.1, verbs_left-falls write word is on.0)

pub few_verbs : (view : Viewed) (slot expect fresh : ℕ) (words : List ℕ) → IsView view → slot < 24 * view.shape.groups → GoesOn (slot_write_of view slot expect fresh) words → length words ≤ 2 * backup_count view slot
few_verbs view slot expect fresh words is below on = omega (arith, few (slot_write_of view slot expect fresh) words (begun-under_way view slot expect fresh is below) on)
