-- How many bytes some lines or words have.
use Rattle.std.specs.Prelude.{ℕ, List, length}
use Rattle.std.specs.List.{sum_by}

abbrev pub bytes_in : List (List ℕ) → ℕ
bytes_in pieces = sum_by (λ piece. length piece) pieces
