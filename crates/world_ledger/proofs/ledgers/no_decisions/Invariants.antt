use Rattle.std.proofs.Common.{◌≡◌, [], map, replicate, vec_items}
use Rattle.world_ledger.proofs.ledgers.no_decisions.Given as goal

abbrev pub invariant-loop : goal.invariant-loop
invariant-loop l = map vec_items l.decided.items ≡ replicate l.counter []
