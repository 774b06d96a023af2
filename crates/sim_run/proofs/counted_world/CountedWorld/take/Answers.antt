use Rattle.std.proofs.Common.{◌≡◌, ◌+◌, ◌-◌, refl, sym, ap, ◌∙◌, arith}
use Rattle.machine_world.specs.Refusals.{refusal}
use Rattle.sim_meaning.proofs.RoomLemmas.{happens-counted}
use Rattle.sim_run.proofs.TakesLemmas.{row-ends, row-goes, row-lawful, row-none, row_of}
use Rattle.sim_run.specs.Counted.{Counted, event_of}
use Rattle.sim_run.proofs.counted_world.CountedWorld.take.Goals as goal

pub loop-taken-init : goal.loop-taken-init
loop-taken-init c =
    let all : c.args.most - 0 ≡ c.args.most = omega arith in
    record { counted = rw all refl; lawful = c.requires.lawful; events = omega arith }

pub returns-then-told : goal.returns-then-told
returns-then-told c =
    let before = c.loop-taken.self in
    let ends = sym c.in_ok-told.ensures.told ∙ c.if-told.true in
    c.in_ok-told.ensures.counted
    ∙ sym (c.loop-taken.invariant.counted ∙ row-ends before (event_of c.args.taker) c.loop-taken.taken (c.args.most - c.loop-taken.taken) (omega arith) ends)

pub loop-taken-preserved : goal.loop-taken-preserved
loop-taken-preserved c =
    let before = c.loop-taken.self in
    let event = event_of c.args.taker in
    let taken = c.loop-taken.taken in
    let goes = sym c.in_ok-told.ensures.told ∙ c.if-told.false in
    let now = c.in_ok-told.ensures.counted in
    record {
      counted = c.loop-taken.invariant.counted
          ∙ row-goes before event taken (c.args.most - taken) (c.args.most - (taken + 1)) (omega arith) goes (omega arith)
          ∙ ap (λ (counted : Counted). row_of counted event (taken + 1) (c.args.most - (taken + 1))) (sym now);
      lawful = ap (λ (counted : Counted). refusal counted.world event) now ∙ row-lawful c.args.taker before.world c.loop-taken.invariant.lawful goes;
      events = omega (arith, c.loop-taken.invariant.events, ap (λ (counted : Counted). counted.world.events) now, happens-counted before.world event);
    }

pub returns : goal.returns
returns c =
    sym (c.loop-taken.invariant.counted ∙ row-none c.loop-taken.self (event_of c.args.taker) c.loop-taken.taken (c.args.most - c.loop-taken.taken) (omega (arith, c.loop-taken-test.false)))
