use Rattle.std.proofs.Common.{◌≡◌, ◌+◌, ◌-◌, None, refl, sym, ap, subst, ◌∙◌, append-nil, arith}
use Rattle.std.specs.Prelude.{OnOk, Ok, Err}
use Rattle.machine_world.specs.Refusals.{refusal}
use Rattle.machine_world.specs.World.{World}
use Rattle.outside.proofs.FaultsLemmas.{steady_then}
use Rattle.script_meaning.specs.Lines.{takes}
use Rattle.script_run.specs.Turns.{event_of, verb_told}
use Rattle.script_run.specs.Written.{Writes}
use Rattle.script_text.specs.OutputText.{text_of}
use Rattle.script_run.proofs.LeftLemmas.{left_ends, left_more, left_start, left_stops, left_writes}
use Rattle.script_run.proofs.TakesLemmas.{next-text, next-world, none_told, takes-cut, takes-ends-text, takes-ends-world, takes-none-text, takes-none-world}
use Rattle.script_run.proofs.TurnLemmas.{goes-on, happens-events}
use Rattle.script_run.proofs.verbs.take.Goals as goal

pub loop-taken-init : goal.loop-taken-init
loop-taken-init g c =
    let all : c.args.most - 0 ≡ c.args.most = omega arith in
    let event = event_of c.args.taker in
    let text = text_of (takes c.args.shows event 0 c.args.most c.args.world.now).lines in
    record {
      left = rw all (left_start (g.K.Sink.held c.args.sink.now) text);
      world = rw all refl;
      lawful = λ more. c.requires.lawful;
      events = omega arith;
      later = omega arith;
      steady = λ sure. (sure, refl);
    }

pub returns-in-Ok-true-clause-written : goal.returns-in-Ok-true-clause-written
returns-in-Ok-true-clause-written g c =
    let event = event_of c.args.taker in
    let world = c.loop-taken.world in
    let left = c.args.most - c.loop-taken.taken in
    let told = text_of (verb_told c.args.shows world event) in
    let ends = sym c.in-Ok-true.ensures.ends ∙ c.in-Ok-true.field-0-test in
    let cut = takes-ends-text c.args.shows event c.loop-taken.taken left world (omega arith) ends ∙ sym (append-nil told) in
    left_ends _ _ _ (left_more _ _ _ _ _ told _ cut c.loop-taken.invariant.left c.in-Ok-true.ensures.written)

pub returns-in-Ok-true-clause-world : goal.returns-in-Ok-true-clause-world
returns-in-Ok-true-clause-world g c =
    let left = c.args.most - c.loop-taken.taken in
    let ends = sym c.in-Ok-true.ensures.ends ∙ c.in-Ok-true.field-0-test in
    c.in-Ok-true.ensures.world
    ∙ sym (c.loop-taken.invariant.world ∙ takes-ends-world c.args.shows (event_of c.args.taker) c.loop-taken.taken left c.loop-taken.world (omega arith) ends)

pub returns-in-Err-clause-written : goal.returns-in-Err-clause-written
returns-in-Err-clause-written g c =
    let event = event_of c.args.taker in
    let world = c.loop-taken.world in
    let cut = takes-cut c.args.shows event c.loop-taken.taken (c.args.most - c.loop-taken.taken) world (omega arith) in
    left_stops _ _ _ _ _ _ c.in-Err.why _ _ (text_of (verb_told c.args.shows world event)) cut.0 cut.1 c.loop-taken.invariant.left c.loop-taken.invariant.later c.in-Err.ensures.written

pub loop-taken-preserved : goal.loop-taken-preserved
loop-taken-preserved g c =
    let event = event_of c.args.taker in
    let world = c.loop-taken.world in
    let now = c.take_one.new.world in
    let taken = c.loop-taken.taken in
    let left = c.args.most - taken in
    let rest : c.args.most - (taken + 1) ≡ left - 1 = omega arith in
    let is_now = c.in-Ok-false.ensures.world in
    let goes = sym c.in-Ok-false.ensures.ends ∙ c.in-Ok-false.field-0-test in
    let lawful = c.loop-taken.invariant.lawful c.loop-taken-test.true in
    let cut = next-text c.args.shows event taken left (c.args.most - (taken + 1)) world now (omega arith) goes rest is_now in
    let more = happens-events world event in
    let count = ap (λ (w : World). w.events) is_now in
    record {
      left = left_more _ _ _ _ _ (text_of (verb_told c.args.shows world event)) _ cut c.loop-taken.invariant.left c.in-Ok-false.ensures.written;
      world = c.loop-taken.invariant.world ∙ next-world c.args.shows event taken left (c.args.most - (taken + 1)) world now (omega arith) goes rest is_now;
      lawful = λ within. subst (λ w. refusal w event ≡ None) (sym is_now) (goes-on c.args.taker c.args.most taken world c.requires.lasts within lawful (none_told world event goes));
      events = omega (arith, c.loop-taken.invariant.events, more, count);
      later = omega (arith, c.loop-taken.invariant.later, c.in-Ok-false.ensures.later);
      steady = steady_then _ _ _ c.loop-taken.invariant.steady c.in-Ok-false.ensures.steady;
    }

pub returns-clause-written : goal.returns-clause-written
returns-clause-written g c =
    let event = event_of c.args.taker in
    let left = c.args.most - c.loop-taken.taken in
    let same = takes-none-text c.args.shows event c.loop-taken.taken left c.args.most c.actor.result c.loop-taken.world (omega arith) (omega arith) c.actor.ensures in
    left_writes g.K.Sink.held g.K.Sink.faults c.args.sink.now c.loop-taken.sink c.write_took.new.sink c.write_took.result _ _ c.loop-taken.invariant.left c.loop-taken.invariant.later
    (subst (λ t. Writes g.K.Sink.held g.K.Sink.faults c.loop-taken.sink c.write_took.new.sink c.write_took.result t) (sym same) c.write_took.ensures.written)

pub returns-clause-world : goal.returns-clause-world
returns-clause-world g c =
    let left = c.args.most - c.loop-taken.taken in
    let same = sym (c.loop-taken.invariant.world ∙ takes-none-world c.args.shows (event_of c.args.taker) c.loop-taken.taken left c.loop-taken.world (omega arith)) in
    elim c.write_took.result as (λ r. OnOk r (c.loop-taken.world ≡ (takes c.args.shows (event_of c.args.taker) 0 c.args.most c.args.world.now).world)) [
      | Ok u ↦ same
      | Err e ↦ tt
    ]
