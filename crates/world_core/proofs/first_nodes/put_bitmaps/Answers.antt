use Rattle.std.proofs.Common.{◌+◌, ◌-◌, ◌^◌, ap, length, ◌∙◌, refl, arith}
use Rattle.std.proofs.lemmas.List.{length-set}
use Rattle.world_core.proofs.FirstNodesLemmas.{one-put}
use Rattle.world_core.proofs.first_nodes.put_bitmaps.Goals as goal

pub loop-block-preserved : goal.loop-block-preserved
loop-block-preserved c =
    let words = c.loop-block.words in
    let at = c.args.at + c.loop-block.block in
    record {
      size = ap length c.set.ensures ∙ length-set words at (2 ^ 64 - 1) ∙ c.loop-block.invariant.size;
      words = λ front rest stand long room.
          one-put front words c.set.new.self c.args.at c.loop-block.block rest at (2 ^ 64 - 1)
          (c.loop-block.invariant.words front rest stand long (omega (arith, room))) long (omega (arith, room)) refl c.set.ensures;
    }
