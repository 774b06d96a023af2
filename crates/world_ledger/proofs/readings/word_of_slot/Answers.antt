use Rattle.std.proofs.Common.{◌∙◌, refl, arith}
use Rattle.region_view.specs.Layout.{Slot}
use Rattle.world_ledger.proofs.ReadingLemmas.{has_word, is_in_force}
use Rattle.world_ledger.proofs.readings.word_of_slot.Goals as goal

pub word-requires : goal.word-requires
word-requires c =
    has_word c.args.shape.now c.args.nodes.now _ c.args.slot c.requires.whole c.requires.least c.requires.most (omega (arith, c.requires.slot))

pub returns : goal.returns
returns c =
    c.word.ensures
    ∙ is_in_force c.args.shape.now c.args.nodes.now (Slot c.args.slot) 0 c.args.slot _ c.args.slot refl refl c.requires.primary (omega arith)
