-- A list that is read from its front, one part at a time.
use Rattle.std.specs.Prelude.{◌≡◌, ℕ, ◌+◌, ◌<◌, ◌≤◌, List, ◌∷◌, length}

-- the first of the parts of the whole, and a rest that has the others
pub record IsCut (parts_of : List ℕ → List (List ℕ)) (whole first rest : List ℕ) : Type 0 where
  pub parts : parts_of whole ≡ first ∷ parts_of rest
  pub shorter : length rest < length whole
  pub within : length first + length rest ≤ length whole
