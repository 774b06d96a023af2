-- Counts of faults: whole numbers that never fall, and that stand still at 2^64 - 1.
use Rattle.std.specs.Prelude.{◌≡◌, ℕ, ◌+◌, ◌-◌, ◌^◌, ◌≤◌, min}

-- one fault more
abbrev pub one_more : ℕ → ℕ
one_more count = min (count + 1) (2 ^ 64 - 1)

-- the count is greater now than before, or stands at its last value
abbrev pub Rose : ℕ → ℕ → Type 0
Rose before now = one_more before ≤ now

-- an end that cannot fail is such an end still, and its count is as it was
abbrev pub IsSteady : {E : Type 0} → (E → Type 0) → (E → ℕ) → E → E → Type 0
IsSteady cannot_fail faults before now = cannot_fail before → cannot_fail now × (faults now ≡ faults before)
