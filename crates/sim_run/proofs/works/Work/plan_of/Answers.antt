use Rattle.std.proofs.Common.{◌∙◌, arith}
use Rattle.sim_run.proofs.PlanLemmas.{plan-at, plans-length}
use Rattle.sim_run.proofs.works.Work.plan_of.Goals as goal

pub index-requires : goal.index-requires
index-requires c = omega (arith, plans-length c.args.self.now c.requires.planned, c.requires.least, c.requires.most)

pub returns : goal.returns
returns c = c.as_slice.ensures.value ∙ plan-at c.args.self.now c.args.client c.index.result.now c.requires.planned c.requires.least c.requires.most c.index.ensures
