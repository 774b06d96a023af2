-- What the verdict on a word says of the winner: the word is the winner exactly where it does not lose.
use Rattle.std.proofs.Common.{◌≡◌, ◌≢◌, ℕ, ◌<◌, Bool, true, false, ◌==◌, ◌&&◌, List, length, Option, Some, None, refl, sym, ◌∙◌, subst, if◌then◌else◌}
use Rattle.std.specs.Prelude.{Contains, is_none, unwrap_or}
use Rattle.std.specs.List.{All as AllOf}
use Rattle.std.specs.Cmp.{first_so, second_so}
use Rattle.std.proofs.lemmas.Bool.Decides.{Decides-eqb}
use Rattle.std.proofs.lemmas.List.Elements.{All-weaker}
use Rattle.std.proofs.lemmas.List.Sums.{AllPass-from_list_all}
use Rattle.snapshot_rules.specs.declared.rules.Verdict.{Verdict}
use Rattle.snapshot_rules.specs.declared.rules.Verdict.TheVariants.{All, Most, CheckLeast, Lose}
use Rattle.snapshot_rules.specs.Winner.{IsMajority, is_majority, majority_of, least, winner}
use Rattle.snapshot_rules.specs.Verdict.{is_constant, verdict_of}
use Rattle.snapshot_rules.proofs.WinnerLemmas.{IsMajority-from_test, is_majority-majority, IsMajority-majority_of, no_majority, winner-majority, winner-no_majority, winner-constant, Contains-winner}

-- the verdict by its three tests
by_tests : Bool → Bool → Bool → Verdict
by_tests all most lowest = if all then All else if most then Most else if lowest then CheckLeast else Lose

all_so : (all most lowest : Bool) → by_tests all most lowest ≡ All → all ≡ true
unfolding by_tests
all_so true most lowest is = refl
all_so false true lowest is = cc
all_so false false true is = cc
all_so false false false is = cc

most_so : (all most lowest : Bool) → by_tests all most lowest ≡ Most → most ≡ true
unfolding by_tests
most_so true most lowest is = cc
most_so false true lowest is = refl
most_so false false true is = cc
most_so false false false is = cc

least_so : (all most lowest : Bool) → by_tests all most lowest ≡ CheckLeast → lowest ≡ true
unfolding by_tests
least_so true most lowest is = cc
least_so false true lowest is = cc
least_so false false true is = refl
least_so false false false is = cc

lose_so : (all most lowest : Bool)
    → by_tests all most lowest ≡ Lose → (most ≡ false) × (lowest ≡ false)
unfolding by_tests
lose_so true most lowest is = cc
lose_so false true lowest is = cc
lose_so false false true is = cc
lose_so false false false is = (refl, refl)

-- whether no word is the majority and the least is this one
is_least : List ℕ → ℕ → Bool
is_least list mine = is_none (majority_of list) && (least list == mine)

by_tests-is : (list : List ℕ) (mine : ℕ)
    → verdict_of list mine ≡ by_tests (is_constant mine list) (is_majority mine list) (is_least list mine)
unfolding by_tests is_least
by_tests-is list mine = refl

-- ---- what each verdict says

-- `All`: each word of the list is mine
pub constant-from_All : (list : List ℕ) (mine : ℕ)
    → verdict_of list mine ≡ All → AllOf (λ word. word ≡ mine) list
constant-from_All list mine is =
    let every = all_so (is_constant mine list) _ _ (sym (by_tests-is list mine) ∙ is) in
    All-weaker (λ word. (word == mine) ≡ true) (λ word. word ≡ mine)
    (λ word passes. (Decides-eqb word mine).0 passes) list
    (AllPass-from_list_all (λ word. word == mine) list every)

-- `Most`: mine is the majority
pub IsMajority-from_Most : (list : List ℕ) (mine : ℕ)
    → verdict_of list mine ≡ Most → IsMajority mine list
IsMajority-from_Most list mine is =
    IsMajority-from_test mine list (most_so _ (is_majority mine list) _ (sym (by_tests-is list mine) ∙ is))

least_test : (list : List ℕ) (mine : ℕ)
    → verdict_of list mine ≡ CheckLeast → (is_none (majority_of list) ≡ true) × (least list ≡ mine)
unfolding is_least
least_test list mine is =
    let both = least_so _ _ (is_least list mine) (sym (by_tests-is list mine) ∙ is) in
    let none = first_so (is_none (majority_of list)) (least list == mine) both in
    let same = second_so (is_none (majority_of list)) (least list == mine) both in
    (none, (Decides-eqb (least list) mine).0 same)

none_so : (o : Option ℕ) → is_none o ≡ true → o ≡ None
none_so (Some w) is = cc
none_so None is = refl

-- `CheckLeast`: no word is the majority
pub no_majority-from_CheckLeast : (list : List ℕ) (mine : ℕ)
    → verdict_of list mine ≡ CheckLeast → (word : ℕ) → IsMajority word list → ⊥
no_majority-from_CheckLeast list mine is word =
    no_majority list word (none_so (majority_of list) (least_test list mine is).0)

-- `CheckLeast`: mine is the least
pub least-from_CheckLeast : (list : List ℕ) (mine : ℕ)
    → verdict_of list mine ≡ CheckLeast → least list ≡ mine
least-from_CheckLeast list mine is = (least_test list mine is).1

-- ---- a word that does not lose is the winner

pub winner-from_All : (list : List ℕ) (mine : ℕ)
    → 0 < length list → verdict_of list mine ≡ All → mine ≡ winner list
winner-from_All list mine some is = sym (winner-constant mine list some (constant-from_All list mine is))

pub winner-from_Most : (list : List ℕ) (mine : ℕ) → verdict_of list mine ≡ Most → mine ≡ winner list
winner-from_Most list mine is = sym (winner-majority mine list (IsMajority-from_Most list mine is))

pub winner-from_CheckLeast : (list : List ℕ) (mine : ℕ)
    → verdict_of list mine ≡ CheckLeast → mine ≡ winner list
winner-from_CheckLeast list mine is =
    sym (winner-no_majority list (no_majority-from_CheckLeast list mine is) ∙ least-from_CheckLeast list mine is)

lost_or : (list : List ℕ) (mine : ℕ) (verdict : Verdict)
    → 0 < length list → verdict_of list mine ≡ verdict → mine ≢ winner list → verdict ≡ Lose
lost_or list mine All some is other = absurd (other (winner-from_All list mine some is))
lost_or list mine Most some is other = absurd (other (winner-from_Most list mine is))
lost_or list mine CheckLeast some is other = absurd (other (winner-from_CheckLeast list mine is))
lost_or list mine Lose some is other = refl

-- a word that is not the winner loses
pub verdict_of-other : (list : List ℕ) (mine : ℕ)
    → 0 < length list → mine ≢ winner list → verdict_of list mine ≡ Lose
verdict_of-other list mine some other = lost_or list mine (verdict_of list mine) some refl other

-- a word that does not stand in the list loses
pub verdict_of-absent : (list : List ℕ) (mine : ℕ)
    → 0 < length list → (Contains list mine → ⊥) → verdict_of list mine ≡ Lose
verdict_of-absent list mine some absent =
    verdict_of-other list mine some
    (λ is. absurd (absent (subst (Contains list) (sym is) (Contains-winner list some))))

not_both : (list : List ℕ) (mine : ℕ) (o : Option ℕ)
    → majority_of list ≡ o → is_majority mine list ≡ false → (is_none o && (least list == mine)) ≡ false
    → mine ≢ unwrap_or o (least list)
not_both list mine (Some w) is fails lowest same =
    let test = is_majority-majority w list (IsMajority-majority_of list w is) in
    let passes : is_majority mine list ≡ true = subst (λ word. is_majority word list ≡ true) (sym same) test in
    cc
not_both list mine None is fails lowest same =
    let passes : (least list == mine) ≡ true = (Decides-eqb (least list) mine).1 (sym same) in
    cc

-- a word that loses is not the winner
pub winner-from_Lose : (list : List ℕ) (mine : ℕ) → verdict_of list mine ≡ Lose → mine ≢ winner list
unfolding is_least
winner-from_Lose list mine is =
    let tests = lose_so _ (is_majority mine list) (is_least list mine) (sym (by_tests-is list mine) ∙ is) in
    not_both list mine (majority_of list) refl tests.0 tests.1
