use Rattle.std.proofs.Common.{sym, ◌∙◌}
use Rattle.sim_run.proofs.CourseLemmas.{on-ok}
use Rattle.sim_run.proofs.TakesLemmas.{lawful-if, row-taken, row-unless}
use Rattle.sim_run.specs.Counted.{event_of}
use Rattle.sim_run.proofs.counted_world.CountedWorld.take_up_to.Goals as goal

pub returns-then-not-may_take : goal.returns-then-not-may_take
returns-then-not-may_take c =
    row-unless c.args.self.now (event_of c.args.taker) c.args.most c.may_take.result c.may_take.ensures c.if-not-may_take.true

pub take-requires-clause-lawful : goal.take-requires-clause-lawful
take-requires-clause-lawful c = lawful-if c.args.self.now.world (event_of c.args.taker) c.may_take.result c.may_take.ensures c.if-not-may_take.false

pub returns : goal.returns
returns c =
    let lawful = lawful-if c.args.self.now.world (event_of c.args.taker) c.may_take.result c.may_take.ensures c.if-not-may_take.false in
    on-ok c.take.result (λ is. is ∙ sym (row-taken c.args.self.now (event_of c.args.taker) c.args.most lawful)) c.take.ensures
