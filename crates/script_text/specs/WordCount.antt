-- How many words a line has.
use Rattle.std.specs.Prelude.{◌≡◌, ℕ, List, [], ◌∷◌, length, Option, Some, None}
use Rattle.std.specs.Borrow.{Bor}

-- the one word there is
abbrev pub IsOnly : List (List ℕ) → Option (Bor (List ℕ)) → Type 0
IsOnly words (Some word) = words ≡ word.now ∷ []
IsOnly words None = length words ≡ 1 → ⊥

-- the two words there are
abbrev pub AreTwo : List (List ℕ) → Option (Bor (List ℕ) × Bor (List ℕ)) → Type 0
AreTwo words (Some both) = words ≡ both.0.now ∷ both.1.now ∷ []
AreTwo words None = length words ≡ 2 → ⊥

-- the three words there are
abbrev pub AreThree : List (List ℕ) → Option (Bor (List ℕ) × Bor (List ℕ) × Bor (List ℕ)) → Type 0
AreThree words (Some all) = words ≡ all.0.now ∷ all.1.now ∷ all.2.now ∷ []
AreThree words None = length words ≡ 3 → ⊥
