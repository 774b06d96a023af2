use Rattle.std.proofs.Common.{ap, arith, subst, sym, ◌∙◌}
use Rattle.std.specs.Prelude.{false}
use Rattle.verb_words.specs.Applied.{words_after}
use Rattle.verb_words.specs.Words.{HasPlace}
use Rattle.verb_words.specs.declared.verbs.Verb.TheVariants.{Write}
use Rattle.world_core.proofs.EventLemmas.{none-filled, one-filled, place-filled, whole-filled}
use Rattle.world_core.proofs.outside.fill_words.Goals as goal

pub loop-at-init : goal.loop-at-init
loop-at-init c = none-filled c.args.nodes.now c.args.node c.args.word c.requires.node

pub apply-requires : goal.apply-requires
apply-requires c =
    subst (λ nodes. HasPlace nodes (record { node = c.args.node; at = c.loop-at.at })) (sym c.loop-at.invariant)
    (place-filled c.args.nodes.now c.args.node c.loop-at.at c.args.word c.requires.node (omega (arith, c.requires.count, c.loop-at-test.true)))

pub loop-at-preserved : goal.loop-at-preserved
loop-at-preserved c =
    c.apply.ensures.words
    ∙ ap (λ nodes. words_after nodes (Write (record { node = c.args.node; at = c.loop-at.at }) c.args.word) false) c.loop-at.invariant
    ∙ one-filled c.args.nodes.now c.args.node c.loop-at.at c.args.word c.requires.node (omega (arith, c.requires.count, c.loop-at-test.true))

pub returns : goal.returns
returns c =
    c.loop-at.invariant ∙ whole-filled c.args.nodes.now c.args.node c.loop-at.at c.args.word (omega (arith, c.requires.count, c.loop-at-test.false, c.loop-at.auto.at-end))
