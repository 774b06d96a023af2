use Rattle.std.proofs.Common.{◌≡◌, ◌*◌, ◌++◌, replicate}
use Rattle.region_view.specs.Opening.{copies, first_region}
use Rattle.region_view.proofs.opening.node_words.Given as goal

abbrev pub invariant-loop : goal.invariant-loop
invariant-loop l = l.words.items ≡ replicate (48 * l.shape.groups) 0 ++ copies l.counter (first_region l.shape)
