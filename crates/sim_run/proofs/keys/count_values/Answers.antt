use Rattle.std.proofs.Common.{◌≡◌, ◌-◌, ◌≤◌, drop, get_or, length, map, ap, sym, ◌∙◌, arith}
use Rattle.std.proofs.lemmas.List.{get_or-map, length-map}
use Rattle.map_model.specs.Held.{map_of}
use Rattle.sim_run.proofs.KeysLemmas.{decided-back, left-back, values-left}
use Rattle.sim_run.specs.Keys.{values_left}
use Rattle.sim_run.proofs.keys.count_values.Goals as goal

pub loop-i-preserved : goal.loop-i-preserved
loop-i-preserved c =
    let order = c.args.order.now in
    let entries = map (λ one. one.now.entry) order in
    let entry = (get_or order (c.loop-i.i - 1) c.index-order-i.result).now.entry in
    let within : c.loop-i.i ≤ length entries = omega (arith, c.loop-i.auto.i, length-map order (λ one. one.now.entry)) in
    let is = sym (get_or-map (λ one. one.now.entry) order (c.loop-i.i - 1) c.index-order-i.result entry (omega (arith, c.loop-i-test.true, c.loop-i.auto.i))) in
    record {
      decided = decided-back entries c.loop-i.i entry (map_of c.loop-i.decided) (map_of c.decide.new.decided) c.loop-i-test.true within is c.loop-i.invariant.decided c.in_ok-count.ensures.decided;
      count = left-back entries c.loop-i.i entry (map_of c.loop-i.decided) c.loop-i.count c.in_ok-count.field-0 c.loop-i-test.true within is c.loop-i.invariant.decided c.loop-i.invariant.count c.in_ok-count.ensures.stay;
      few = omega (arith, c.loop-i-test.true, c.loop-i.invariant.few, c.in_ok-count.ensures.few);
    }

pub returns : goal.returns
returns c =
    let entries = map (λ one. one.now.entry) c.args.order.now in
    let none : c.loop-i.i ≡ 0 = omega (arith, c.loop-i-test.false) in
    c.loop-i.invariant.count ∙ ap (λ n. values_left (drop n entries)) none ∙ values-left entries
