use Rattle.std.proofs.Common.{◌+◌, ◌-◌, ◌^◌, ◌∷◌, replicate, ap, ◌∙◌, arith}
use Rattle.region_view.specs.Sizes.{Sizes}
use Rattle.region_view.proofs.OpeningLemmas.{control_filled}
use Rattle.region_view.proofs.opening.control_words.Goals as goal

pub returns : goal.returns
returns c =
    control_filled c.shape.inside.nodes _ c.in_ok-words.words.items c.push.new.self.items c.resize.new.self.items (omega arith) c.in_ok-words.ensures.items
    c.in_ok-push.ensures.items (omega (arith, c.in_ok-push.ensures.len, c.in_ok-words.ensures.len)) c.in_ok-resize.ensures.items
    ∙ ap (λ (s : Sizes). (2 ^ 16 + (2 ^ s.nodes - 1)) ∷ replicate 1039 0) c.shape.view_is
