-- What a write knows once its list is full: a write of the present round that does not lose has the
-- winner of the first words; a write whose round has ended does not win.
use Rattle.std.proofs.Common.{◌≡◌, ℕ, ◌+◌, ◌*◌, ◌<◌, ◌≤◌, ◌==◌, List, [], ◌∷◌, ◌++◌, length, drop, slice_index, refl, sym, ◌∙◌, ap, subst, arith, inl, inr, length-drop, drop-drop, get_or-drop}
use Rattle.std.proofs.lemmas.Bool.{cond_both, cases_lt, eqb-true, eqb-false, cases_eq}
use Rattle.std.proofs.lemmas.List.Elements.{All-contains}
use Rattle.snapshot_rules.specs.declared.rules.Verdict.{Verdict}
use Rattle.snapshot_rules.specs.declared.rules.Verdict.TheVariants.{All, Most, CheckLeast, Lose}
use Rattle.snapshot_rules.specs.Winner.{times, winner}
use Rattle.snapshot_rules.specs.Verdict.{verdict_of}
use Rattle.snapshot_rules.proofs.WinnerLemmas.{winner-majority}
use Rattle.snapshot_rules.proofs.VerdictLemmas.{constant-from_All, IsMajority-from_Most, winner-from_All, winner-from_Most, winner-from_CheckLeast, winner-from_Lose}
use Rattle.slot_rounds.specs.Slot.{Slot}
use Rattle.slot_rounds.specs.Write.{Gathering, Mending, mend_from, on_verdict, judged, gathered}
use Rattle.slot_rounds.specs.Claims.{IsFull}
use Rattle.slot_rounds.proofs.ListLemmas.{Contains-slice_index, times-constant, at_push}
use Rattle.slot_rounds.proofs.MendedLemmas.{winner-mended}
use Rattle.slot_rounds.proofs.Soundness.{IsSoundSlot, IsListed, AllListed, IsMendedTo, HasFewWords, IsSoundNow, IsSoundLate}

-- the list goes on with a word that is listed rightly
pub AllListed-push : (slot : Slot) (fresh : ℕ) (list : List ℕ) (word : ℕ) → AllListed slot fresh list
    → IsListed slot fresh (length list) word → AllListed slot fresh (list ++ word ∷ [])
AllListed-push slot fresh list word all here place within =
    at_push (λ w. IsListed slot fresh place w) list place word within
    (λ is. subst (λ p. IsListed slot fresh p word) (sym is) here)
    (λ before. all place before)

-- where a list of the slot's length says what it does of each backup, each backup has a first word
pub full-from_listed : (slot : Slot) (fresh : ℕ) (list : List ℕ) → IsSoundSlot slot → length list ≡ length slot.backups
    → AllListed slot fresh list → IsFull slot
full-from_listed slot fresh list sound long all place within = (all place (omega (arith, sound.long))).taken

-- it has the winner of the first words
pub winner-listed : (slot : Slot) (fresh : ℕ) (list : List ℕ) → IsSoundSlot slot → length list ≡ length slot.backups
    → AllListed slot fresh list → winner list ≡ winner slot.firsts
winner-listed slot fresh list sound long all =
    winner-mended slot.firsts list (omega (arith, sound.some, sound.long)) (long ∙ sym sound.long)
    (λ place within. elim (all place within).known [ inl first ↦ inl first | inr won ↦ inr won.1 ])

-- a write that has not lost has won: its word is the winner, and the backups hold what is listed
pub IsMendedTo-judged : (slot : Slot) (fresh : ℕ) (list : List ℕ) → IsSoundSlot slot → length list ≡ length slot.backups
    → AllListed slot fresh list → fresh ≡ winner list → IsMendedTo slot fresh list 0
IsMendedTo-judged slot fresh list sound long all wins =
    let first_wins : winner slot.firsts ≡ fresh = sym (wins ∙ winner-listed slot fresh list sound long all) in
    record {
      long = long;
      full = full-from_listed slot fresh list sound long all;
      wins = first_wins;
      below = λ other below within. absurd (omega arith);
      rest = λ other above within.
          elim (all other (omega (arith, long))).still [
            | inl is ↦ is
            | inr lost ↦ absurd (lost.1 first_wins)
          ];
    }

-- one backup more is mended, which has the word already
IsMendedTo-more : (slot : Slot) (fresh : ℕ) (list : List ℕ) (place : ℕ) → IsMendedTo slot fresh list place
    → slice_index list place ≡ fresh → IsMendedTo slot fresh list (place + 1)
IsMendedTo-more slot fresh list place mended is =
    record {
      long = mended.long;
      full = mended.full;
      wins = mended.wins;
      below = λ other below within.
          elim (cases_eq other place) [
            | inl same ↦ subst (λ p. slice_index slot.backups p ≡ fresh) (sym same) (here (subst (λ p. p < length slot.backups) same within))
            | inr apart ↦ mended.below other (omega arith) within
          ];
      rest = λ other above within. mended.rest other (omega arith) within;
    }
  where
    here : place < length slot.backups → slice_index slot.backups place ≡ fresh
    here within = mended.rest place (omega arith) within ∙ is

-- the place after which a winner goes on
pub IsSoundNow-mend_from : (slot : Slot) (fresh : ℕ) (list : List ℕ) (rest : List ℕ) (place : ℕ) → rest ≡ drop place list
    → IsMendedTo slot fresh list place → IsSoundNow (mend_from fresh place rest) slot fresh list
IsSoundNow-mend_from slot fresh list [] place is mended =
    let past : length list ≤ place = omega (arith, length-drop place list, ap length is) in
    record {
      long = mended.long;
      full = mended.full;
      wins = mended.wins;
      below = λ other below within. mended.below other (omega (arith, mended.long, past)) within;
      rest = λ other above within. absurd (omega arith);
    }
IsSoundNow-mend_from slot fresh list (word ∷ rest) place is mended =
    let within : place < length slot.backups = omega (arith, length-drop place list, ap length is, mended.long) in
    let listed : slice_index list place ≡ word = at_drop place list word rest is in
    let later : rest ≡ drop (place + 1) list = ap (drop 1) is ∙ drop-drop 1 place list in
    cond_both (word == fresh) (mend_from fresh (place + 1) rest) (Mending place) (λ phase. IsSoundNow phase slot fresh list)
    (λ same.
    IsSoundNow-mend_from slot fresh list rest (place + 1) later
    (IsMendedTo-more slot fresh list place mended (listed ∙ eqb-true word fresh same)))
    (λ other. (within, mended))
  where
    at_drop : (n : ℕ) (words : List ℕ) (one : ℕ) (others : List ℕ) → one ∷ others ≡ drop n words → slice_index words n ≡ one
    at_drop n words one others same =
        let there = get_or-drop n words 0 0 in
        let here : slice_index (drop n words) 0 ≡ one = ap (λ ws. slice_index ws 0) (sym same) in
        let zero_more : n + 0 ≡ n = omega arith in
        subst (λ p. slice_index words p ≡ one) zero_more (sym there ∙ here)

-- a full list of a write of this round is judged
IsSoundNow-on_verdict : (verdict : Verdict) (slot : Slot) (fresh : ℕ) (list : List ℕ) → IsSoundSlot slot
    → length list ≡ length slot.backups → AllListed slot fresh list → verdict_of list fresh ≡ verdict
    → IsSoundNow (on_verdict verdict fresh list) slot fresh list
IsSoundNow-on_verdict All slot fresh list sound long all is =
    let mended = IsMendedTo-judged slot fresh list sound long all (winner-from_All list fresh (omega (arith, sound.some)) is) in
    record {
      long = mended.long;
      full = mended.full;
      wins = mended.wins;
      below = λ other below within.
          mended.rest other (omega arith) within
          ∙ All-contains (λ w. w ≡ fresh) list (slice_index list other) (constant-from_All list fresh is)
          (Contains-slice_index list other (omega (arith, long)));
      rest = λ other above within. absurd (omega arith);
    }
IsSoundNow-on_verdict Most slot fresh list sound long all is =
    IsSoundNow-mend_from slot fresh list list 0 refl
    (IsMendedTo-judged slot fresh list sound long all (winner-from_Most list fresh is))
IsSoundNow-on_verdict CheckLeast slot fresh list sound long all is =
    IsMendedTo-judged slot fresh list sound long all (winner-from_CheckLeast list fresh is)
IsSoundNow-on_verdict Lose slot fresh list sound long all is =
    elim (cases_lt (length list) (2 * times fresh list)) [
      | inl most ↦ absurd (winner-from_Lose list fresh is (sym (winner-majority fresh list most)))
      | inr few ↦ omega (arith, few, long)
    ]

-- a write of this round goes on with its list
pub IsSoundNow-gathered : (slot : Slot) (count : ℕ) (fresh : ℕ) (list : List ℕ) → IsSoundSlot slot → count ≡ length slot.backups
    → length list ≤ count → AllListed slot fresh list → IsSoundNow (gathered count fresh list) slot fresh list
unfolding judged
IsSoundNow-gathered slot count fresh list sound is short all =
    cond_both (length list == count) (on_verdict (judged list fresh) fresh list) Gathering
    (λ phase. IsSoundNow phase slot fresh list)
    (λ full.
    IsSoundNow-on_verdict (verdict_of list fresh) slot fresh list sound
    (eqb-true (length list) count full ∙ is) all refl)
    (λ less. (omega (arith, eqb-false (length list) count less, is, short), all))

-- a full list with few own words is judged
IsSoundLate-on_verdict : (verdict : Verdict) (slot : Slot) (fresh : ℕ) (list : List ℕ) → 0 < length list
    → length list ≡ length slot.backups → HasFewWords slot fresh list → verdict_of list fresh ≡ verdict
    → IsSoundLate (on_verdict verdict fresh list) slot list
IsSoundLate-on_verdict All slot fresh list some long few is =
    let constant = constant-from_All list fresh is in
    let count = times-constant fresh list (λ place within.
    All-contains (λ w. w ≡ fresh) list (slice_index list place) constant (Contains-slice_index list place within)) in
    absurd (omega (arith, count, few, long, some))
IsSoundLate-on_verdict Most slot fresh list some long few is =
    absurd (omega (arith, IsMajority-from_Most list fresh is, few, long))
IsSoundLate-on_verdict CheckLeast slot fresh list some long few is = tt
IsSoundLate-on_verdict Lose slot fresh list some long few is = tt

-- a write whose round has ended goes on with its list
pub IsSoundLate-gathered : (slot : Slot) (count : ℕ) (fresh : ℕ) (list : List ℕ) → 0 < length list → count ≡ length slot.backups
    → length list ≤ count → HasFewWords slot fresh list → IsSoundLate (gathered count fresh list) slot list
unfolding judged
IsSoundLate-gathered slot count fresh list some is short few =
    cond_both (length list == count) (on_verdict (judged list fresh) fresh list) Gathering
    (λ phase. IsSoundLate phase slot list)
    (λ full.
    IsSoundLate-on_verdict (verdict_of list fresh) slot fresh list some
    (eqb-true (length list) count full ∙ is) few refl)
    (λ less. omega (arith, eqb-false (length list) count less, is, short))
