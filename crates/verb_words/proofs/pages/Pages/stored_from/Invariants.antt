use Rattle.std.proofs.Common.{◌≡◌, ℕ, List, ◌-◌, ◌<◌, ◌≤◌, slice_index}
use Rattle.verb_words.proofs.pages.Pages.stored_from.Given as goal

pub record AreZeros (words : List ℕ) (from at count : ℕ) : Type 0 where
  pub least : from ≤ at
  pub zeros : (other : ℕ) → from ≤ other → other < at → other < count → slice_index words other ≡ 0

abbrev pub invariant-loop-at : goal.invariant-loop-at
invariant-loop-at l = AreZeros l.self l.from l.at l.count

abbrev pub decreases-loop-at : goal.decreases-loop-at
decreases-loop-at l = l.count - l.at
