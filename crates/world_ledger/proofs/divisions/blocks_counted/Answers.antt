use Rattle.std.proofs.Common.{◌+◌, ◌/◌, ◌%◌, ℕ, ap, arith, map, subst, sym, ◌∙◌}
use Rattle.std.specs.List.{range_with_len}
use Rattle.std.proofs.lemmas.List.FromFn.{map-range_with_len_more}
use Rattle.machine_world.specs.Readings.{block_state}
use Rattle.machine_world.specs.World.{first_ledger}
use Rattle.region_view.specs.Sizes.{Sizes}
use Rattle.world_ledger.proofs.DivisionLemmas.{block-more, with_blocks-push}
use Rattle.world_ledger.specs.Divisions.{IsAtMost, block_at, no_division, with_block, with_blocks}
use Rattle.world_ledger.specs.Seen.{world_seen}
use Rattle.world_ledger.proofs.divisions.blocks_counted.Goals as goal

pub loop-position-preserved : goal.loop-position-preserved
loop-position-preserved c =
    let sizes = c.args.shape.now in
    let world = world_seen sizes c.args.nodes.now c.args.stopped.now c.args.recovered.now (first_ledger sizes) in
    let p = c.loop-position.position in
    let f : ℕ → ℕ × ℕ = block_at sizes in
    let blocks = map f (range_with_len 0 p) in
    let width = ap (λ (s : Sizes). s.blocks) c.shape.view_is in
    let state = c.block_state-state.ensures ∙ (λ i. block_state world (1 + p / width i) (p % width i)) in
    record {
      counted =
          c.count_block.ensures
          ∙ (λ i. with_block (state i) (c.loop-position.invariant.counted i))
          ∙ sym (with_blocks-push world blocks (f p) no_division)
          ∙ sym (ap (λ l. with_blocks world l no_division) (map-range_with_len_more f 0 p p (omega arith)));
      few = subst (IsAtMost (p + 1)) (sym c.count_block.ensures) (block-more p c.block_state-state.result c.loop-position.division c.loop-position.invariant.few);
    }
