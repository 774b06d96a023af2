use Rattle.std.proofs.Common.{sym, ap, subst, ◌∙◌, arith}
use Rattle.sim_meaning.specs.Driver.{awaits_recovery}
use Rattle.sim_run.proofs.EventLemmas.{awaits-next, none-left}
use Rattle.sim_run.specs.Counted.{Counted, NoneAwaits}
use Rattle.sim_run.proofs.counted_world.CountedWorld.finds_stopped.Goals as goal

pub loop-i-preserved : goal.loop-i-preserved
loop-i-preserved c =
    awaits-next c.args.self.now.world c.loop-i.i c.in-Ok.client c.in-Ok.ensures.1 (sym c.awaits_recovery.ensures ∙ c.if-awaits_recovery.false) c.loop-i.invariant

pub returns : goal.returns
returns c = λ none.
    let same = ap (λ (counted : Counted). counted.world) c.self.view_is in
    subst NoneAwaits same
    (none-left c.self.inside.world _ _ _ _ c.self.invariant
    (λ other less. ap (λ world. awaits_recovery world other) same ∙ c.loop-i.invariant other (omega (arith, less, c.loop-i-test.false, c.len-i-end.ensures))))
