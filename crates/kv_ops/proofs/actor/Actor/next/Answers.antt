use Rattle.std.proofs.Common.{sym, subst}
use Rattle.kv_ops.specs.Callers.{client_of}
use Rattle.machine.proofs.ClientTurnLemmas.{next-inside}
use Rattle.machine.specs.Places.{IsInPool}
use Rattle.machine.specs.Stage.{Client}
use Rattle.verb_words.specs.declared.verbs.Verb.{Verb}
use Rattle.verb_words.specs.Verb.{place_of}
use Rattle.kv_ops.proofs.actor.Actor.next.Goals as goal

pub returns-clause-inside : goal.returns-clause-inside
returns-clause-inside c =
    let client = client_of c.self.inside.caller in
    subst (λ (k : Client). IsInPool k.shape (place_of c.next.result)) c.self.view_is
    (subst (λ (v : Verb). IsInPool client.shape (place_of v)) (sym c.next.ensures) (next-inside client.shape client.client client c.self.invariant.state))
