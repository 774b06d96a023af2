use Rattle.std.proofs.Common.{◌≡◌, ◌∷◌, map, replicate}
use Rattle.region_view.specs.Opening.{first_control, first_node}
use Rattle.region_view.proofs.opening.first_words.Given as goal

abbrev pub invariant-loop : goal.invariant-loop
invariant-loop l = map (λ list. list.items) l.lists.items ≡ first_control l.shape ∷ replicate l.counter (first_node l.shape)
