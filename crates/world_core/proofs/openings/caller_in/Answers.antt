use Rattle.std.proofs.Common.{◌≡◌, IfOk, subst}
use Rattle.world_core.proofs.OpeningWorldLemmas.{caller_named}
use Rattle.world_core.proofs.openings.caller_in.Goals as goal

pub returns-in-Some-link_of : goal.returns-in-Some-link_of
returns-in-Some-link_of c =
    subst (λ named. IfOk c.caller_among.result (λ caller. caller ≡ named))
    (caller_named c.args.shape.now c.args.nodes.now c.args.clients.now c.args.settled.now c.args.word c.link_word_in_force.result c.in-Some.object c.in-Some-link_of.link c.in-Some.ensures.value c.link_word_in_force.ensures c.in-Some-link_of.ensures.value c.in-Some-link_of.ensures.found.0.client.0 c.requires.in_place)
    c.caller_among.ensures
