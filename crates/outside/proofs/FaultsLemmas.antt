-- Counts of faults over several calls.
use Rattle.std.proofs.Common.{◌≡◌, ℕ, ◌-◌, ◌^◌, ◌<◌, ◌∙◌, arith}
use Rattle.outside.specs.Faults.{Rose}

-- an end that can't fail has the same count after one call and after another
pub steady_then : {A B C : Type 0} (first second third : ℕ) → (A → B × (second ≡ first)) → (B → C × (third ≡ second)) → A → C × (third ≡ first)
steady_then first second third before after steady =
    let one = before steady in
    let two = after one.0 in
    (two.0, two.1 ∙ one.1)

-- a count that stayed below its last value did not rise
pub not_risen : (before now : ℕ) → before < 2 ^ 64 - 1 → now ≡ before → Rose before now → ⊥
not_risen before now below same rose = omega arith
