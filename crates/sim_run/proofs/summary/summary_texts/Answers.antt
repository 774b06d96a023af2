use Rattle.std.proofs.Common.{[], ◌∷◌, ap, ◌∙◌}
use Rattle.std.specs.Prelude.{codes}
use Rattle.machine_world.specs.Ledger.{history_of}
use Rattle.machine_world.specs.Readings.{division_of}
use Rattle.sim_meaning.specs.Summary.{counted, open_in, values_after, words_text}
use Rattle.sim_run.proofs.SummaryLemmas.{lines-text}
use Rattle.sim_run.proofs.summary.summary_texts.Goals as goal

pub returns : goal.returns
returns c =
    let world = c.world-world.ensures in
    lines-text c.args.numbers.now c.args.counted.now.world c.args.counted.now.verbs c.returned.result c.open_in.result c.in_ok-keys.keys c.division-division.result
    c.in_ok-head.head c.in_ok-returned.returned c.in_ok-open.open c.in_ok-verbs.verbs c.in_ok-blocks.blocks c.in_ok-objects.objects c.in_ok-keys-2.keys c.in_ok-end.end
    c.returned.ensures (c.open_in.ensures ∙ ap open_in world) (c.in_ok-keys.ensures ∙ ap (λ w. values_after (history_of w)) world) (c.division-division.ensures ∙ ap division_of world)
    c.in_ok-head.ensures c.in_ok-returned.ensures c.in_ok-open.ensures
    (c.in_ok-verbs.ensures ∙ ap (λ n. words_text (counted (codes "verbs") (n ∷ []))) c.verbs.ensures)
    c.in_ok-blocks.ensures c.in_ok-objects.ensures c.in_ok-keys-2.ensures c.in_ok-end.ensures
