use Rattle.std.proofs.Common.{◌≡◌, ◌∷◌, ◌++◌, [], ◌+◌, ap, arith, length, map, refl, subst, sym, ◌∙◌, None}
use Rattle.machine_world.specs.Refusals.{refusal}
use Rattle.machine_world.specs.World.{client_at}
use Rattle.machine_world.specs.declared.events.Event.TheVariants as event
use Rattle.verb_history.specs.Moments.{moment_of}
use Rattle.world_core.specs.Fields.{world_of}
use Rattle.world_core.specs.Reached.{IsRun}
use Rattle.std.proofs.Common.{◌-◌}
use Rattle.std.proofs.lemmas.List.{map_push}
use Rattle.map_model.specs.Trace.{Invoked}
use Rattle.machine.specs.Client.{invoked, is_idle, refusal as refusal_of_call}
use Rattle.machine.specs.Stage.{Client}
use Rattle.machine_world.specs.Calls.{key_of, operation_of, value_of}
use Rattle.machine_world.specs.Events.{invokes}
use Rattle.machine_world.specs.declared.outcomes.Happened.TheVariants as happened
use Rattle.verb_history.specs.declared.moments.Moment.TheVariants as moment
use Rattle.world_core.proofs.ActLemmas.{own-client}
use Rattle.world_core.proofs.AllowedLemmas.{call-allowed}
use Rattle.world_core.proofs.EventLemmas.{call-taken, invoked-world, invokes-run}
use Rattle.world_core.proofs.StepLemmas.{found-client}
use Rattle.world_core.proofs.worlds.World.invoke.Goals as goal

pub invoke-requires-clause-idle : goal.invoke-requires-clause-idle
invoke-requires-clause-idle c =
    let world = world_of c.self.inside in
    let allowed : refusal world (event.Invoke c.args.client c.args.call) ≡ None = ap (λ w. refusal w (event.Invoke c.args.client c.args.call)) c.self.view_is ∙ c.requires.allowed in
    let known = call-allowed world c.args.client c.args.call allowed in
    let found = found-client c.self.inside.shape c.self.inside.clients.items (c.args.client - 1) c.index_mut-actor.result.now (omega (arith, known.0, known.1)) c.index_mut-actor.ensures.value in
    let own = found ∙ own-client world c.self.inside.clients.items c.args.client refl known.0 in
    ap is_idle own ∙ (call-taken world c.args.client c.args.call allowed).0

pub invoke-requires-clause-allowed : goal.invoke-requires-clause-allowed
invoke-requires-clause-allowed c =
    let world = world_of c.self.inside in
    let allowed : refusal world (event.Invoke c.args.client c.args.call) ≡ None = ap (λ w. refusal w (event.Invoke c.args.client c.args.call)) c.self.view_is ∙ c.requires.allowed in
    let known = call-allowed world c.args.client c.args.call allowed in
    let found = found-client c.self.inside.shape c.self.inside.clients.items (c.args.client - 1) c.index_mut-actor.result.now (omega (arith, known.0, known.1)) c.index_mut-actor.ensures.value in
    let own = found ∙ own-client world c.self.inside.clients.items c.args.client refl known.0 in
    ap (λ me. refusal_of_call me (length (key_of c.args.call)) (length (value_of c.args.call))) own ∙ (call-taken world c.args.client c.args.call allowed).1

pub invariant_of-self-2 : goal.invariant_of-self-2
invariant_of-self-2 c =
    let world = world_of c.self.inside in
    let allowed : refusal world (event.Invoke c.args.client c.args.call) ≡ None = ap (λ w. refusal w (event.Invoke c.args.client c.args.call)) c.self.view_is ∙ c.requires.allowed in
    let known = call-allowed world c.args.client c.args.call allowed in
    let found = found-client c.self.inside.shape c.self.inside.clients.items (c.args.client - 1) c.index_mut-actor.result.now (omega (arith, known.0, known.1)) c.index_mut-actor.ensures.value in
    let own = found ∙ own-client world c.self.inside.clients.items c.args.client refl known.0 in
    let told = ap (map moment_of) (c.push_reserved.ensures.items ∙ ap (λ list. list ++ moment.Invoked c.args.client c.number-number.result c.args.call ∷ []) c.reserve.ensures.items)
    ∙ map_push moment_of c.self.inside.trace.items (moment.Invoked c.args.client c.number-number.result c.args.call)
    ∙ ap (λ n. map moment_of c.self.inside.trace.items ++ Invoked c.args.client n c.args.call ∷ []) (c.number-number.ensures ∙ ap (λ (me : Client). me.number) c.invoke.ensures ∙ ap (λ (me : Client). me.number + 1) found) in
    let same = invoked-world world c.self.inside.clients.items c.args.client c.args.call c.invoke.new.actor (map moment_of c.push_reserved.new.self.items) refl known.0
    (c.invoke.ensures ∙ ap (λ me. invoked me (operation_of c.args.call) (key_of c.args.call) (value_of c.args.call)) found) told in
    subst IsRun (sym same) (invokes-run world c.args.client c.args.call allowed c.self.invariant)

pub returns-clause-happened : goal.returns-clause-happened
returns-clause-happened c =
    let world = world_of c.self.inside in
    let allowed : refusal world (event.Invoke c.args.client c.args.call) ≡ None = ap (λ w. refusal w (event.Invoke c.args.client c.args.call)) c.self.view_is ∙ c.requires.allowed in
    let known = call-allowed world c.args.client c.args.call allowed in
    let found = found-client c.self.inside.shape c.self.inside.clients.items (c.args.client - 1) c.index_mut-actor.result.now (omega (arith, known.0, known.1)) c.index_mut-actor.ensures.value in
    let own = found ∙ own-client world c.self.inside.clients.items c.args.client refl known.0 in
    ap happened.Invoked (c.number-number.ensures ∙ ap (λ (me : Client). me.number) c.invoke.ensures ∙ ap (λ (me : Client). me.number + 1) (own ∙ ap (λ w. client_at w c.args.client) c.self.view_is))

pub returns-clause-world : goal.returns-clause-world
returns-clause-world c =
    let world = world_of c.self.inside in
    let allowed : refusal world (event.Invoke c.args.client c.args.call) ≡ None = ap (λ w. refusal w (event.Invoke c.args.client c.args.call)) c.self.view_is ∙ c.requires.allowed in
    let known = call-allowed world c.args.client c.args.call allowed in
    let found = found-client c.self.inside.shape c.self.inside.clients.items (c.args.client - 1) c.index_mut-actor.result.now (omega (arith, known.0, known.1)) c.index_mut-actor.ensures.value in
    let own = found ∙ own-client world c.self.inside.clients.items c.args.client refl known.0 in
    let told = ap (map moment_of) (c.push_reserved.ensures.items ∙ ap (λ list. list ++ moment.Invoked c.args.client c.number-number.result c.args.call ∷ []) c.reserve.ensures.items)
    ∙ map_push moment_of c.self.inside.trace.items (moment.Invoked c.args.client c.number-number.result c.args.call)
    ∙ ap (λ n. map moment_of c.self.inside.trace.items ++ Invoked c.args.client n c.args.call ∷ []) (c.number-number.ensures ∙ ap (λ (me : Client). me.number) c.invoke.ensures ∙ ap (λ (me : Client). me.number + 1) found) in
    let same = invoked-world world c.self.inside.clients.items c.args.client c.args.call c.invoke.new.actor (map moment_of c.push_reserved.new.self.items) refl known.0
    (c.invoke.ensures ∙ ap (λ me. invoked me (operation_of c.args.call) (key_of c.args.call) (value_of c.args.call)) found) told in
    same ∙ ap (λ w. invokes w c.args.client c.args.call) c.self.view_is
