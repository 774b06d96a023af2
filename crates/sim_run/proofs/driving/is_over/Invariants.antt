use Rattle.std.proofs.Common.{◌≡◌, ◌+◌, ◌-◌}
use Rattle.std.specs.List.{list_all, range_with_len}
use Rattle.sim_meaning.specs.Driver.{is_through}
use Rattle.sim_run.proofs.driving.is_over.Given as goal

abbrev pub invariant-loop-client : goal.invariant-loop-client
invariant-loop-client l =
    list_all (is_through l.numbers l.simulator.counted.world) (range_with_len 1 l.numbers.clients)
    ≡ list_all (is_through l.numbers l.simulator.counted.world) (range_with_len l.client (l.numbers.clients + 1 - l.client))
