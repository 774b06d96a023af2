use Rattle.std.proofs.Common.{◌≡◌, ap, map, refl, subst, sym, ◌∙◌, None}
use Rattle.machine_world.specs.Events.{acts, step_of, verb_event}
use Rattle.machine_world.specs.Refusals.{refusal}
use Rattle.verb_history.specs.Moments.{moment_of}
use Rattle.world_core.specs.Fields.{world_of}
use Rattle.world_core.specs.Reached.{IsRun}
use Rattle.world_core.proofs.ActLemmas.{acted, acts-run, stepped}
use Rattle.world_core.proofs.ReadyLemmas.{run-can_step, run-ready, run-within}
use Rattle.world_core.proofs.worlds.World.take.Goals as goal

pub take_verb-requires-clause-ready : goal.take_verb-requires-clause-ready
take_verb-requires-clause-ready c =
    let world = world_of c.self.inside in
    run-ready world c.self.invariant

pub take_verb-requires-clause-client : goal.take_verb-requires-clause-client
take_verb-requires-clause-client c =
    let world = world_of c.self.inside in
    let allowed : refusal world (verb_event c.args.late c.args.client) ≡ None = ap (λ w. refusal w (verb_event c.args.late c.args.client)) c.self.view_is ∙ c.requires.allowed in
    let within = run-within c.args.late world c.self.inside.clients.items c.args.client allowed refl in
    run-can_step c.args.late world c.self.inside.clients.items c.args.client c.self.invariant allowed refl

pub invariant_of-self-2 : goal.invariant_of-self-2
invariant_of-self-2 c =
    let world = world_of c.self.inside in
    let allowed : refusal world (verb_event c.args.late c.args.client) ≡ None = ap (λ w. refusal w (verb_event c.args.late c.args.client)) c.self.view_is ∙ c.requires.allowed in
    let within = run-within c.args.late world c.self.inside.clients.items c.args.client allowed refl in
    subst IsRun (sym (acted c.args.late world c.self.inside.clients.items c.args.client c.take_verb.new.nodes c.take_verb.new.clients.items (map moment_of c.take_verb.new.trace.items) c.take_verb.new.ledger.ledger
    refl within.0 c.in_ok-taken.ensures.nodes c.in_ok-taken.ensures.clients c.in_ok-taken.ensures.trace c.in_ok-taken.ensures.ledger))
    (acts-run c.args.late world c.args.client allowed c.self.invariant)

pub returns-clause-taken : goal.returns-clause-taken
returns-clause-taken c =
    let world = world_of c.self.inside in
    let allowed : refusal world (verb_event c.args.late c.args.client) ≡ None = ap (λ w. refusal w (verb_event c.args.late c.args.client)) c.self.view_is ∙ c.requires.allowed in
    let within = run-within c.args.late world c.self.inside.clients.items c.args.client allowed refl in
    stepped c.args.late world c.self.inside.clients.items c.args.client c.in_ok-taken.taken.verb c.in_ok-taken.taken.answer c.in_ok-taken.taken.step refl within.0
    c.in_ok-taken.ensures.verb c.in_ok-taken.ensures.answer c.in_ok-taken.ensures.step
    ∙ ap (λ w. step_of c.args.late w c.args.client) c.self.view_is

pub returns-clause-world : goal.returns-clause-world
returns-clause-world c =
    let world = world_of c.self.inside in
    let allowed : refusal world (verb_event c.args.late c.args.client) ≡ None = ap (λ w. refusal w (verb_event c.args.late c.args.client)) c.self.view_is ∙ c.requires.allowed in
    let within = run-within c.args.late world c.self.inside.clients.items c.args.client allowed refl in
    acted c.args.late world c.self.inside.clients.items c.args.client c.take_verb.new.nodes c.take_verb.new.clients.items (map moment_of c.take_verb.new.trace.items) c.take_verb.new.ledger.ledger
    refl within.0 c.in_ok-taken.ensures.nodes c.in_ok-taken.ensures.clients c.in_ok-taken.ensures.trace c.in_ok-taken.ensures.ledger
    ∙ ap (λ w. acts c.args.late w c.args.client) c.self.view_is
