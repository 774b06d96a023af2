use Rattle.std.proofs.Common.{◌≡◌, sym, ap, subst, ◌∙◌}
use Rattle.std.specs.Prelude.{◌↔◌}
use Rattle.kv_ops.specs.Ahead.{is_searching}
use Rattle.kv_ops.specs.Callers.{client_of}
use Rattle.kv_ops.specs.Causes.{Returns}
use Rattle.kv_ops.specs.Standings.{IsHeld}
use Rattle.kv_ops.proofs.StageLemmas.{searching-searches}
use Rattle.kv_ops.proofs.ToldLemmas.{ended-exactly}
use Rattle.kv_ops.proofs.TurnedLemmas.{held-on}
use Rattle.machine.specs.declared.client_call.Step.{Step}
use Rattle.machine.specs.declared.client_call.Step.TheVariants.{Ended}
use Rattle.machine.specs.Client.{told}
use Rattle.machine.specs.Stage.{Client}
use Rattle.machine.specs.Turn.{Turn}
use Rattle.kv_ops.proofs.actor.Actor.after_search.Goals as goal

pub after_search-requires-clause-search : goal.after_search-requires-clause-search
after_search-requires-clause-search c = searching-searches (client_of c.self.inside.caller).stage (ap (λ (k : Client). is_searching k.stage) c.self.view_is ∙ c.requires)

pub invariant_of-self : goal.invariant_of-self
invariant_of-self c =
    subst IsHeld (sym (ap (λ (t : Turn Client Step). t.state) c.after_search.ensures)) (held-on (client_of c.self.inside.caller) c.args.answer c.self.invariant)

pub returns-clause-ended : goal.returns-clause-ended
returns-clause-ended c = λ result.
    let told_is = ap (λ (t : Turn Client Step). t.told) c.after_search.ensures ∙ ap (λ k. told k c.args.answer) c.self.view_is in
    let stands = (subst IsHeld c.self.view_is c.self.invariant).state in
    subst (λ (t : Step). (t ≡ Ended result) ↔ Returns c.args.self.now c.args.answer result) (sym told_is)
    (ended-exactly c.args.self.now.shape c.args.self.now.client c.args.self.now c.args.answer stands result)
