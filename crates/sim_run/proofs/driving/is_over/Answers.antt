use Rattle.std.proofs.Common.{◌+◌, ◌-◌, ◌&&◌, ap, ◌∙◌, arith}
use Rattle.std.specs.List.{list_all, range_with_len}
use Rattle.sim_meaning.specs.Driver.{is_through}
use Rattle.sim_run.proofs.CourseLemmas.{through-one}
use Rattle.sim_run.proofs.driving.is_over.Goals as goal

pub loop-client-preserved : goal.loop-client-preserved
loop-client-preserved c =
    let numbers = c.args.numbers.now in
    let world = c.args.simulator.now.counted.world in
    let client = c.loop-client.client in
    c.loop-client.invariant
    ∙ through-one numbers world client (numbers.clients + 1 - client) (numbers.clients + 1 - (client + 1)) c.is_through.result (omega (arith, c.loop-client-test.true)) (omega arith) c.is_through.ensures
    ∙ ap (λ t. t && list_all (is_through numbers world) (range_with_len (client + 1) (numbers.clients + 1 - (client + 1)))) c.if-not-is_through.false
