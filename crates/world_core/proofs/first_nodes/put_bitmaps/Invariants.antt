use Rattle.std.proofs.Common.{◌≡◌, ◌-◌, ◌^◌, ◌≤◌, ℕ, List, ◌++◌, length, replicate}
use Rattle.world_core.proofs.first_nodes.put_bitmaps.Given as goal

pub record IsPut (now old : List ℕ) (at block : ℕ) : Type 0 where
  pub size : length now ≡ length old
  pub words : (front : List ℕ) (rest : ℕ) → old ≡ front ++ replicate rest 0 → length front ≡ at → block ≤ rest
      → now ≡ front ++ replicate block (2 ^ 64 - 1) ++ replicate (rest - block) 0

abbrev pub invariant-loop-block : goal.invariant-loop-block
invariant-loop-block l = IsPut l.words l.fn.words l.at l.block
