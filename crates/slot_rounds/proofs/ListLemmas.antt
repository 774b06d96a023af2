-- Reading a list after one place of it was set, or after a word was added; how often a word stands in it.
use Rattle.std.proofs.Common.{◌≡◌, ◌≢◌, ℕ, suc, ◌<◌, ◌≤◌, cond, ◌==◌, List, [], ◌∷◌, ◌++◌, length, slice_index, slice_set, replicate, refl, sym, arith, inl, inr, get_or-set_other, get_or-set_same, length-append}
use Rattle.std.specs.Prelude.{Contains}
use Rattle.std.proofs.lemmas.Bool.{cases_eq}
use Rattle.std.proofs.lemmas.Bool.Decides.{eqb_tells, nat_tests}
use Rattle.std.proofs.lemmas.List.{get_or_append_left, get_or_push, get_or-replicate, get_or_default}
use Rattle.std.proofs.lemmas.List.Sums.{sum_by-cons, sum_by-append}
use Rattle.snapshot_rules.specs.Winner.{times}

-- what holds of the new word where it was set, and elsewhere of the word that was there, holds of the word
-- that is there now
pub at_set : (P : ℕ → Type 0) (words : List ℕ) (place other new : ℕ) → place < length words
    → (other ≡ place → P new) → (other ≢ place → P (slice_index words other))
    → P (slice_index (slice_set words place new) other)
at_set P words place other new within here there =
    elim (cases_eq other place) [
      | inl same ↦ rw (same, get_or-set_same words place new 0 within) (here same)
      | inr apart ↦ rw (get_or-set_other words place other new 0 apart) (there apart)
    ]

-- the same of a word that was added at the end
pub at_push : (P : ℕ → Type 0) (words : List ℕ) (other new : ℕ) → other < length (words ++ new ∷ [])
    → (other ≡ length words → P new) → (other < length words → P (slice_index words other))
    → P (slice_index (words ++ new ∷ []) other)
at_push P words other new within here there =
    elim (cases_eq other (length words)) [
      | inl same ↦ rw (get_or_push words new 0 other (sym same)) (here same)
      | inr apart ↦
          let before : other < length words = omega (arith, length-append words (new ∷ [])) in
          rw (get_or_append_left words (new ∷ []) 0 other before) (there before)
    ]

-- a list of one word over and over has it at each place
pub slice_index-replicate : (count word place : ℕ) → place < count → slice_index (replicate count word) place ≡ word
slice_index-replicate count word place within = get_or-replicate count place word 0 within

-- the word at a place of a list stands in it
pub Contains-slice_index : (words : List ℕ) (place : ℕ) → place < length words → Contains words (slice_index words place)
Contains-slice_index words place within =
    (place, within, get_or_default words place (slice_index words place) 0 within)

-- a word that stands in a list is at some place of it
pub place_of_Contains : (words : List ℕ) (word : ℕ) → Contains words word
    → (place : ℕ) × (place < length words) × (slice_index words place ≡ word)
place_of_Contains words word has =
    (has.0, has.1, rw (get_or_default words has.0 0 word has.1) has.2)

-- where each place of a list that has the word has it in another list too, it stands there as often
pub times-le : (word : ℕ) (part whole : List ℕ) → length part ≤ length whole
    → ((place : ℕ) → place < length part → slice_index part place ≡ word → slice_index whole place ≡ word)
    → times word part ≤ times word whole
times-le word [] whole short same = omega arith
times-le word (one ∷ part) [] short same = absurd (omega arith)
times-le word (one ∷ part) (other ∷ whole) short same =
    let rest = times-le word part whole (omega arith) (λ place within is. same (suc place) (omega arith) is) in
    let count_part = sum_by-cons (λ w. cond (w == word) 1 0) one part in
    let count_whole = sum_by-cons (λ w. cond (w == word) 1 0) other whole in
    elim (eqb_tells one word) [
      | inl is ↦
          let so : other ≡ word = same 0 (omega arith) is.1 in
          grind (arith, nat_tests, rest, count_part, count_whole, so)
      | inr apart ↦ grind (arith, nat_tests, rest, count_part, count_whole, apart.0)
    ]

-- a word that stands at each place of a list stands in it as often as the list is long
pub times-constant : (word : ℕ) (words : List ℕ)
    → ((place : ℕ) → place < length words → slice_index words place ≡ word) → times word words ≡ length words
times-constant word [] same = refl
times-constant word (one ∷ rest) same =
    let later = times-constant word rest (λ place within. same (suc place) (omega arith)) in
    let first : one ≡ word = same 0 (omega arith) in
    grind (arith, nat_tests, later, sum_by-cons (λ w. cond (w == word) 1 0) one rest, first)

-- another word that is added to a list is not counted
pub times-push_other : (word other : ℕ) (words : List ℕ) → other ≢ word
    → times word (words ++ other ∷ []) ≡ times word words
times-push_other word other words apart =
    let count = sum_by-append (λ w. cond (w == word) 1 0) words (other ∷ []) in
    grind (arith, nat_tests, count, apart)
