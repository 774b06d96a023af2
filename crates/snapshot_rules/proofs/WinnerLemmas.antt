-- What the winner of a list is: its majority word, which is the only one, else its least word.
use Rattle.std.proofs.Common.{◌≡◌, ◌≢◌, ℕ, ◌+◌, ◌*◌, ◌<◌, ◌≤◌, min, Bool, true, false, cond, ◌==◌, inl, inr, ◌⊎◌, List, [], ◌∷◌, length, fold, find, Option, Some, None, refl, ap, subst, arith, replicate}
use Rattle.std.specs.Prelude.{All, Contains, unwrap_or}
use Rattle.std.proofs.lemmas.Bool.{cases_Bool, cases_lt}
use Rattle.std.proofs.lemmas.Bool.Decides.{eqb_tells, Decides-ltb, nat_tests}
use Rattle.std.proofs.lemmas.List.Elements.{All-contains, All-cons, All-nil, All-replicate, Contains-append_right, Contains-append_cases}
use Rattle.std.proofs.lemmas.List.Sums.{count_by-le-length, sum_by-cons}
use Rattle.snapshot_rules.specs.Winner.{times, IsMajority, is_majority, majority_of, least, winner}

-- ---- a word of a list

-- a word is the first of a list, or one of the rest
pub Contains-cons_cases : (first : ℕ) (rest : List ℕ) (word : ℕ)
    → Contains (first ∷ rest) word → (first ≡ word) ⊎ Contains rest word
Contains-cons_cases first rest word has =
    elim (Contains-append_cases (first ∷ []) rest word has) [
      | inl one ↦ inl (the_one one)
      | inr later ↦ inr later
    ]
  where
    the_one : Contains (first ∷ []) word → first ≡ word
    the_one one = let at : one.0 ≡ 0 = omega (arith, one.1) in rw at at one.2

-- the first word of a list stands in it
pub Contains-first : (first : ℕ) (rest : List ℕ) → Contains (first ∷ rest) first
Contains-first first rest = (0, omega arith, refl)

-- ---- how often a word stands in a list

times-cons : (word first : ℕ) (rest : List ℕ)
    → times word (first ∷ rest) ≡ cond (first == word) 1 0 + times word rest
times-cons word first rest = sum_by-cons (λ other. cond (other == word) 1 0) first rest

-- no word stands in a list more often than the list is long
pub times-le-length : (word : ℕ) (list : List ℕ) → times word list ≤ length list
times-le-length word list = count_by-le-length (λ other. other == word) list

-- two words share the places of a list
pub times_apart : (one other : ℕ) (list : List ℕ)
    → one ≢ other → times one list + times other list ≤ length list
times_apart one other [] apart = omega arith
times_apart one other (first ∷ rest) apart =
    grind (arith, nat_tests, times_apart one other rest apart, times-cons one first rest, times-cons other first rest)

-- a word that is counted in a list stands in it
pub Contains-from_times : (word : ℕ) (list : List ℕ) → 0 < times word list → Contains list word
Contains-from_times word [] some = absurd (omega arith)
Contains-from_times word (first ∷ rest) some =
    elim (eqb_tells first word) [
      | inl same ↦ subst (Contains (first ∷ rest)) same.1 (Contains-first first rest)
      | inr apart ↦
          let later : 0 < times word rest = grind (arith, times-cons word first rest, apart.0) in
          Contains-append_right (first ∷ []) rest word (Contains-from_times word rest later)
    ]

-- ---- the majority

-- at most one word is the majority of a list
pub IsMajority-unique : (one other : ℕ) (list : List ℕ)
    → IsMajority one list → IsMajority other list → one ≡ other
IsMajority-unique one other list most_one most_other =
    elim (eqb_tells one other) [
      | inl same ↦ same.1
      | inr apart ↦ absurd (omega (arith, times_apart one other list apart.1))
    ]

-- the majority of a list stands in it
pub Contains-majority : (word : ℕ) (list : List ℕ) → IsMajority word list → Contains list word
Contains-majority word list most = Contains-from_times word list (omega arith)

-- the test says whether a word is the majority
pub IsMajority-from_test : (word : ℕ) (list : List ℕ)
    → is_majority word list ≡ true → IsMajority word list
IsMajority-from_test word list passes = (Decides-ltb (length list) (2 * times word list)).0 passes

pub is_majority-majority : (word : ℕ) (list : List ℕ)
    → IsMajority word list → is_majority word list ≡ true
is_majority-majority word list most = (Decides-ltb (length list) (2 * times word list)).1 most

-- what is found passes the test and stands in the list
found : (test : ℕ → Bool) (list : List ℕ) (word : ℕ)
    → find test list ≡ Some word → (test word ≡ true) × Contains list word
found test [] word is = cc
found test (first ∷ rest) word is =
    elim (cases_Bool (test first)) [
      | inl passes ↦
          let at : Some first ≡ Some word = rw passes at is in
          let same : first ≡ word = cc in
          (subst (λ w. test w ≡ true) same passes, subst (Contains (first ∷ rest)) same (Contains-first first rest))
      | inr fails ↦
          let later : find test rest ≡ Some word = rw fails at is in
          let rec = found test rest word later in
          (rec.0, Contains-append_right (first ∷ []) rest word rec.1)
    ]

-- where nothing is found, no word of the list passes the test
missed : (test : ℕ → Bool) (list : List ℕ) (word : ℕ)
    → find test list ≡ None → Contains list word → test word ≡ false
missed test [] word none has = absurd (omega (arith, has.1))
missed test (first ∷ rest) word none has =
    elim (cases_Bool (test first)) [
      | inl passes ↦ let at : Some first ≡ None = rw passes at none in cc
      | inr fails ↦
          let later : find test rest ≡ None = rw fails at none in
          elim (Contains-cons_cases first rest word has) [
            | inl same ↦ subst (λ w. test w ≡ false) same fails
            | inr has ↦ missed test rest word later has
          ]
    ]

-- what is found is the majority
pub IsMajority-majority_of : (list : List ℕ) (word : ℕ)
    → majority_of list ≡ Some word → IsMajority word list
IsMajority-majority_of list word is =
    IsMajority-from_test word list (found (λ w. is_majority w list) list word is).0

-- where none is found, no word is the majority
pub no_majority : (list : List ℕ) (word : ℕ) → majority_of list ≡ None → IsMajority word list → ⊥
no_majority list word none most =
    let has = Contains-majority word list most in
    let fails : is_majority word list ≡ false = missed (λ w. is_majority w list) list word none has in
    let passes = is_majority-majority word list most in
    cc

majority_or : (list : List ℕ) (o : Option ℕ) (word : ℕ)
    → majority_of list ≡ o → IsMajority word list → o ≡ Some word
majority_or list (Some w) word is most = ap Some (IsMajority-unique w word list (IsMajority-majority_of list w is) most)
majority_or list None word is most = absurd (no_majority list word is most)

-- the majority is found
pub majority_of-majority : (word : ℕ) (list : List ℕ)
    → IsMajority word list → majority_of list ≡ Some word
majority_of-majority word list most = majority_or list (majority_of list) word refl most

none_or : (list : List ℕ) (o : Option ℕ)
    → majority_of list ≡ o → ((word : ℕ) → IsMajority word list → ⊥) → o ≡ None
none_or list (Some w) is none = absurd (none w (IsMajority-majority_of list w is))
none_or list None is none = refl

-- where no word is the majority, none is found
pub majority_of-none : (list : List ℕ)
    → ((word : ℕ) → IsMajority word list → ⊥) → majority_of list ≡ None
majority_of-none list none = none_or list (majority_of list) refl none

-- ---- the least word

least_le : (so_far : ℕ) (rest : List ℕ) → fold min so_far rest ≤ so_far
least_le so_far [] = omega arith
least_le so_far (next ∷ rest) = omega (arith, least_le (min so_far next) rest)

least_le_each : (so_far : ℕ) (rest : List ℕ) (word : ℕ)
    → Contains rest word → fold min so_far rest ≤ word
least_le_each so_far [] word has = absurd (omega (arith, has.1))
least_le_each so_far (next ∷ rest) word has =
    elim (Contains-cons_cases next rest word has) [
      | inl same ↦ omega (arith, least_le (min so_far next) rest)
      | inr later ↦ least_le_each (min so_far next) rest word later
    ]

least_stands : (so_far : ℕ) (rest : List ℕ) → Contains (so_far ∷ rest) (fold min so_far rest)
least_stands so_far [] = Contains-first so_far []
least_stands so_far (next ∷ rest) =
    let rec = least_stands (min so_far next) rest in
    let now = fold min (min so_far next) rest in
    elim (Contains-cons_cases (min so_far next) rest now rec) [
      | inl first ↦
          elim (cases_lt so_far next) [
            | inl below ↦
                let is : so_far ≡ now = omega (arith, first) in
                subst (Contains (so_far ∷ next ∷ rest)) is (Contains-first so_far (next ∷ rest))
            | inr above ↦
                let is : next ≡ now = omega (arith, first) in
                subst (Contains (so_far ∷ next ∷ rest)) is
                (Contains-append_right (so_far ∷ []) (next ∷ rest) next (Contains-first next rest))
          ]
      | inr later ↦ Contains-append_right (so_far ∷ next ∷ []) rest now later
    ]

-- the least word of a list is at most each word of it
pub least-le : (list : List ℕ) (word : ℕ) → Contains list word → least list ≤ word
least-le [] word has = absurd (omega (arith, has.1))
least-le (first ∷ rest) word has =
    elim (Contains-cons_cases first rest word has) [
      | inl same ↦ omega (arith, least_le first rest)
      | inr later ↦ least_le_each first rest word later
    ]

-- the least word of a list stands in it
pub Contains-least : (list : List ℕ) → 0 < length list → Contains list (least list)
Contains-least [] some = absurd (omega arith)
Contains-least (first ∷ rest) some = least_stands first rest

-- a word of a list that is at most each word of it is the least
pub least-is : (list : List ℕ) (word : ℕ)
    → Contains list word → ((other : ℕ) → Contains list other → word ≤ other) → least list ≡ word
least-is list word has below =
    let some : 0 < length list = omega (arith, has.1) in
    omega (arith, least-le list word has, below (least list) (Contains-least list some))

-- ---- the winner

-- where a word is the majority of a list, it is the winner
pub winner-majority : (word : ℕ) (list : List ℕ) → IsMajority word list → winner list ≡ word
winner-majority word list most = ap (λ o. unwrap_or o (least list)) (majority_of-majority word list most)

-- where no word is, the least is the winner
pub winner-no_majority : (list : List ℕ)
    → ((word : ℕ) → IsMajority word list → ⊥) → winner list ≡ least list
winner-no_majority list none = ap (λ o. unwrap_or o (least list)) (majority_of-none list none)

stands_or : (list : List ℕ) (o : Option ℕ)
    → majority_of list ≡ o → 0 < length list → Contains list (unwrap_or o (least list))
stands_or list (Some w) is some = Contains-majority w list (IsMajority-majority_of list w is)
stands_or list None is some = Contains-least list some

-- the winner of a list stands in it
pub Contains-winner : (list : List ℕ) → 0 < length list → Contains list (winner list)
Contains-winner list some = stands_or list (majority_of list) refl some

-- the winner of a list of one word over and over is that word
pub winner-constant : (word : ℕ) (list : List ℕ)
    → 0 < length list → All (λ other. other ≡ word) list → winner list ≡ word
winner-constant word list some same =
    All-contains (λ other. other ≡ word) list (winner list) same (Contains-winner list some)

pub winner-replicate : (n word : ℕ)
    → 0 < length (replicate n word) → winner (replicate n word) ≡ word
winner-replicate n word some =
    winner-constant word (replicate n word) some (All-replicate (λ other. other ≡ word) n word refl)

-- the winner of a list of one word
pub winner-single : (word : ℕ) → winner (word ∷ []) ≡ word
winner-single word =
    winner-constant word (word ∷ []) (omega arith)
    (All-cons (λ other. other ≡ word) word [] refl (All-nil (λ other. other ≡ word)))
