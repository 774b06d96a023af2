-- A list in which some words were replaced by the winner has the same winner.
use Rattle.std.proofs.Common.{◌≡◌, ◌≢◌, ℕ, ◌<◌, ◌≤◌, ◌⊎◌, true, false, List, length, slice_index, sym, ◌∙◌, subst, arith, inl, inr}
use Rattle.std.specs.Prelude.{Contains}
use Rattle.std.proofs.lemmas.Bool.{cases_Bool, cases_eq}
use Rattle.snapshot_rules.specs.Winner.{IsMajority, is_majority, least, winner}
use Rattle.snapshot_rules.proofs.WinnerLemmas.{IsMajority-from_test, is_majority-majority, winner-majority, winner-no_majority, Contains-winner, least-le, least-is}
use Rattle.slot_rounds.proofs.ListLemmas.{Contains-slice_index, place_of_Contains, times-le}

-- each word of a list is the one of another list at its place, or that list's winner
abbrev pub IsMendedList : List ℕ → List ℕ → Type 0
IsMendedList firsts list =
    (place : ℕ) → place < length list
    → (slice_index list place ≡ slice_index firsts place) ⊎ (slice_index list place ≡ winner firsts)

-- where the winner is no majority, no word is
no_majority-from_winner : (words : List ℕ) → is_majority (winner words) words ≡ false
    → (word : ℕ) → IsMajority word words → ⊥
no_majority-from_winner words less word most =
    let wins : winner words ≡ word = winner-majority word words most in
    let test : is_majority (winner words) words ≡ true = is_majority-majority (winner words) words (rw wins most) in
    cc

module _ (firsts list : List ℕ) (some : 0 < length firsts) (same : length list ≡ length firsts)
    (mended : IsMendedList firsts list) where
  -- where a first word is the winner, the listed word is too
  winner_listed : (place : ℕ) → place < length firsts → slice_index firsts place ≡ winner firsts
      → slice_index list place ≡ winner firsts
  winner_listed place within is =
      elim (mended place (omega arith)) [ inl first ↦ first ∙ is | inr won ↦ won ]

  -- a listed word that is not the winner is the first word
  first_listed : (word place : ℕ) → word ≢ winner firsts → place < length list → slice_index list place ≡ word
      → slice_index firsts place ≡ word
  first_listed word place other within is =
      elim (mended place within) [ inl first ↦ sym first ∙ is | inr won ↦ absurd (other (sym is ∙ won)) ]

  majority_listed : (word : ℕ) → word ≢ winner firsts → IsMajority word list → ⊥
  majority_listed word other most =
      let fewer = times-le word list firsts (omega arith) (λ place within is. first_listed word place other within is) in
      let majority : IsMajority word firsts = omega (arith, fewer) in
      other (sym (winner-majority word firsts majority))

  winner_stands : Contains list (winner firsts)
  winner_stands =
      let at = place_of_Contains firsts (winner firsts) (Contains-winner firsts some) in
      let is : slice_index list at.0 ≡ winner firsts = winner_listed at.0 at.1 at.2 in
      subst (Contains list) is (Contains-slice_index list at.0 (omega (arith, at.1)))

  winner_is_least : is_majority (winner firsts) firsts ≡ false → (word : ℕ) → Contains list word → winner firsts ≤ word
  winner_is_least less word has =
      let at = place_of_Contains list word has in
      let least_first : winner firsts ≡ least firsts = winner-no_majority firsts (no_majority-from_winner firsts less) in
      elim (mended at.0 at.1) [
        | inl first ↦
            let below : least firsts ≤ slice_index firsts at.0 =
            least-le firsts (slice_index firsts at.0) (Contains-slice_index firsts at.0 (omega (arith, at.1))) in
            omega (arith, least_first, below, at.2, first)
        | inr won ↦ omega (arith, won, at.2)
      ]

  -- the list has the winner of the first words
  pub winner-mended : winner list ≡ winner firsts
  winner-mended =
      elim (cases_Bool (is_majority (winner firsts) firsts)) [
        | inl most ↦
            let majority = IsMajority-from_test (winner firsts) firsts most in
            let more = times-le (winner firsts) firsts list (omega arith) (λ place within is. winner_listed place within is) in
            winner-majority (winner firsts) list (omega (arith, majority, more))
        | inr less ↦
            elim (cases_eq (winner list) (winner firsts)) [
              | inl is ↦ is
              | inr other ↦
                  let none : (word : ℕ) → IsMajority word list → ⊥ = λ word most.
                  majority_listed word (λ is. other (winner-majority word list most ∙ is)) most in
                  winner-no_majority list none
                  ∙ least-is list (winner firsts) winner_stands (λ word has. winner_is_least less word has)
            ]
      ]
