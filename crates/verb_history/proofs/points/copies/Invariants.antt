-- What was copied so far and what is left are all.
use Rattle.std.proofs.Common.{◌≡◌, ◌++◌, drop, map}
use Rattle.verb_history.proofs.points.copies.Given as goal

abbrev pub invariant-loop-one : goal.invariant-loop-one
invariant-loop-one l = l.list.items ++ map (λ one. one.now.entry) (drop l.one-index l.order) ≡ map (λ one. one.now.entry) l.fn.order
