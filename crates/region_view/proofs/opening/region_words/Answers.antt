use Rattle.std.proofs.Common.{ap, ◌∙◌, arith}
use Rattle.region_view.specs.Opening.{first_region}
use Rattle.region_view.proofs.OpeningLemmas.{region_filled}
use Rattle.region_view.proofs.opening.region_words.Goals as goal

pub returns : goal.returns
returns c =
    region_filled c.shape.inside.blocks _ _ _ c.in_ok-words.words.items c.resize.new.self.items c.resize-2.new.self.items c.resize-3.new.self.items (omega arith)
    c.in_ok-words.ensures.items c.in_ok-words.ensures.len c.in_ok-resize.ensures.items c.in_ok-resize.ensures.len c.in_ok-resize-2.ensures.items c.in_ok-resize-2.ensures.len c.in_ok-resize-3.ensures.items
    ∙ ap first_region c.shape.view_is
