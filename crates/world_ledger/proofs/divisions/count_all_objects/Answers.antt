use Rattle.std.proofs.Common.{◌+◌, ◌*◌, ◌/◌, ◌%◌, ℕ, ap, arith, length, map, subst, sym, ◌∙◌}
use Rattle.std.specs.List.{flat_map, range_with_len}
use Rattle.machine_world.specs.Readings.{objects_in}
use Rattle.region_view.specs.Sizes.{Sizes}
use Rattle.world_ledger.proofs.DivisionLemmas.{at_most-more, granted-more, objects-more, objects_in-few, with_objects-append}
use Rattle.world_ledger.proofs.NamedUnitsLemmas.{has_unit-zeros}
use Rattle.world_ledger.specs.Divisions.{IsAtMost, block_at, with_objects}
use Rattle.world_ledger.specs.Seen.{words_seen}
use Rattle.world_ledger.proofs.divisions.count_all_objects.Goals as goal

pub add_named_units-requires-clause-none : goal.add_named_units-requires-clause-none
add_named_units-requires-clause-none c pointer = has_unit-zeros 4032 pointer

pub loop-position-preserved : goal.loop-position-preserved
loop-position-preserved c =
    let sizes = c.args.shape.now in
    let nodes = c.args.nodes.now in
    let world = words_seen sizes nodes in
    let p = c.loop-position.position in
    let f : ℕ → ℕ × ℕ = block_at sizes in
    let before = flat_map (objects_in world) (map f (range_with_len 0 p)) in
    let width = ap (λ (s : Sizes). s.blocks) c.shape.view_is in
    let here = c.count_objects.ensures ∙ (λ i. with_objects sizes nodes (objects_in world (1 + p / width i, p % width i)) c.loop-position.division) in
    let n = 4032 + 64 * p in
    let more = objects-more sizes nodes n (objects_in world (f p)) c.loop-position.division c.loop-position.invariant.few in
    record {
      counted =
          here
          ∙ ap (with_objects sizes nodes (objects_in world (f p))) c.loop-position.invariant.counted
          ∙ sym (with_objects-append sizes nodes before (objects_in world (f p)) c.args.division.now)
          ∙ sym (ap (λ l. with_objects sizes nodes l c.args.division.now) (granted-more world f p));
      few =
          at_most-more (n + length (objects_in world (f p))) (4032 + 64 * (p + 1)) c.count_objects.new.division (omega (arith, objects_in-few world (f p)))
          (subst (IsAtMost (n + length (objects_in world (f p)))) (sym here) more);
    }
