use Rattle.std.proofs.Common.{◌*◌, ◌++◌, replicate, sym, ap, ◌∙◌, append_assoc}
use Rattle.region_view.specs.Opening.{copies, first_region}
use Rattle.region_view.proofs.OpeningLemmas.{copies-more}
use Rattle.region_view.proofs.opening.node_words.Goals as goal

pub loop-preserved : goal.loop-preserved
loop-preserved c =
    let sizes = c.args.shape.now in
    let n = c.loop.counter in
    let front = replicate (48 * sizes.groups) 0 in
    let region = first_region sizes in
    c.in_ok-extend_from_slice.ensures.items
    ∙ ap (λ l. c.loop.words.items ++ l) c.requires
    ∙ ap (λ l. l ++ region) c.loop.invariant
    ∙ append_assoc front (copies n region) region
    ∙ ap (λ l. front ++ l) (sym (copies-more n region))
