use Rattle.std.proofs.Common.{◌≡◌, ◌⊎◌, sym, ap, subst, ◌∙◌}
use Rattle.std.specs.Prelude.{◌↔◌}
use Rattle.kv_ops.specs.Callers.{client_of}
use Rattle.kv_ops.specs.Causes.{IsRefused, Returns, StaysLost, StaysSealed, StaysUnchanged}
use Rattle.kv_ops.specs.Standings.{IsHeld}
use Rattle.kv_ops.proofs.ToldLemmas.{ended-exactly, lost-exactly, sealed-exactly, unchanged-exactly}
use Rattle.kv_ops.proofs.TurnedLemmas.{held-on}
use Rattle.machine.specs.declared.client_call.Step.{Step}
use Rattle.machine.specs.declared.client_call.Step.TheVariants.{Ended, NotYet}
use Rattle.machine.specs.Client.{told}
use Rattle.machine.specs.Stage.{Client}
use Rattle.machine.specs.Standing.{IsClient}
use Rattle.machine.specs.Turn.{Turn}
use Rattle.verb_words.specs.declared.verbs.Why.TheVariants as why
use Rattle.kv_ops.proofs.actor.Actor.after.Goals as goal

pub invariant_of-self : goal.invariant_of-self
invariant_of-self c =
    subst IsHeld (sym (ap (λ (t : Turn Client Step). t.state) c.after.ensures)) (held-on (client_of c.self.inside.caller) c.args.answer c.self.invariant)

-- what is told, of the client that the clauses speak of
told-is : (c : goal.After-after) → c.after.result ≡ told c.args.self.now c.args.answer
told-is c = ap (λ (t : Turn Client Step). t.told) c.after.ensures ∙ ap (λ k. told k c.args.answer) c.self.view_is

stands : (c : goal.After-after) → IsClient c.args.self.now.shape c.args.self.now.client c.args.self.now
stands c = (subst IsHeld c.self.view_is c.self.invariant).state

pub returns-clause-ended : goal.returns-clause-ended
returns-clause-ended c = λ result.
    subst (λ (t : Step). (t ≡ Ended result) ↔ Returns c.args.self.now c.args.answer result) (sym (told-is c))
    (ended-exactly c.args.self.now.shape c.args.self.now.client c.args.self.now c.args.answer (stands c) result)

pub returns-clause-sealed : goal.returns-clause-sealed
returns-clause-sealed c = λ word.
    subst (λ (t : Step). (t ≡ NotYet (why.Sealed word)) ↔ StaysSealed c.args.self.now c.args.answer word) (sym (told-is c))
    (sealed-exactly c.args.self.now.shape c.args.self.now.client c.args.self.now c.args.answer (stands c) word)

pub returns-clause-lost : goal.returns-clause-lost
returns-clause-lost c = λ node.
    subst (λ (t : Step). (t ≡ NotYet (why.Lost node)) ↔ (IsRefused c.args.self.now c.args.answer node ⊎ StaysLost c.args.self.now c.args.answer node)) (sym (told-is c))
    (lost-exactly c.args.self.now.shape c.args.self.now.client c.args.self.now c.args.answer (stands c) node)

pub returns-clause-unchanged : goal.returns-clause-unchanged
returns-clause-unchanged c = λ slot word.
    subst (λ (t : Step). (t ≡ NotYet (why.Unchanged slot word)) ↔ StaysUnchanged c.args.self.now c.args.answer slot word) (sym (told-is c))
    (unchanged-exactly c.args.self.now.shape c.args.self.now.client c.args.self.now c.args.answer (stands c) slot word)
