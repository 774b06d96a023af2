use Rattle.std.proofs.Common.{ap, subst, ◌∙◌}
use Rattle.client_recovery.specs.Progresses.{IsKept}
use Rattle.client_recovery.proofs.CauseLemmas.{done-iff, lost-iff, sealed-iff, unchanged-iff}
use Rattle.client_recovery.proofs.TurnLemmas.{after-kept}
use Rattle.machine.specs.declared.recovery.Recovering.{Recovering}
use Rattle.machine.specs.Recovery.{turn}
use Rattle.machine.specs.RecoveryStage.{Recovery}
use Rattle.machine.specs.Turn.{Turn}
use Rattle.client_recovery.proofs.recovery.Recovery.after.Goals as goal

pub invariant_of-self : goal.invariant_of-self
invariant_of-self c = after-kept c.self.inside.progress c.after.new.self c.after.result c.args.answer c.self.invariant c.after.ensures

pub returns-clause-sealed : goal.returns-clause-sealed
returns-clause-sealed c = λ word. sealed-iff c.args.self.now c.args.answer c.after.result word (subst IsKept c.self.view_is c.self.invariant)
    (ap (λ (t : Turn Recovery Recovering). t.told) c.after.ensures ∙ ap (λ r. (turn r c.args.answer).told) c.self.view_is)

pub returns-clause-lost : goal.returns-clause-lost
returns-clause-lost c = λ node. lost-iff c.args.self.now c.args.answer c.after.result node (subst IsKept c.self.view_is c.self.invariant)
    (ap (λ (t : Turn Recovery Recovering). t.told) c.after.ensures ∙ ap (λ r. (turn r c.args.answer).told) c.self.view_is)

pub returns-clause-unchanged : goal.returns-clause-unchanged
returns-clause-unchanged c = λ slot word. unchanged-iff c.args.self.now c.args.answer c.after.result slot word (subst IsKept c.self.view_is c.self.invariant)
    (ap (λ (t : Turn Recovery Recovering). t.told) c.after.ensures ∙ ap (λ r. (turn r c.args.answer).told) c.self.view_is)

pub returns-clause-recovered : goal.returns-clause-recovered
returns-clause-recovered c = done-iff c.args.self.now c.args.answer c.after.result (subst IsKept c.self.view_is c.self.invariant)
    (ap (λ (t : Turn Recovery Recovering). t.told) c.after.ensures ∙ ap (λ r. (turn r c.args.answer).told) c.self.view_is)
