use Rattle.std.proofs.Common.{sym, ◌∙◌, ◌++◌, ◌∷◌, [], arith}
use Rattle.std.proofs.lemmas.List.FromFn.{map-range_with_len_more}
use Rattle.machine_world.specs.Readings.{deciding_word}
use Rattle.world_core.proofs.openings.deciding_words.Goals as goal

pub loop-slot-preserved : goal.loop-slot-preserved
loop-slot-preserved c =
    c.in_ok-push.ensures.items
    ∙ (λ i. c.loop-slot.invariant i ++ c.deciding_word.ensures i ∷ [])
    ∙ sym (map-range_with_len_more (deciding_word c.args.shape.now c.args.nodes.now) 0 c.loop-slot.slot c.loop-slot.slot (omega arith))
