use Rattle.std.proofs.Common.{◌≡◌, take, ap, sym, ◌∙◌, arith}
use Rattle.std.specs.List.{list_any}
use Rattle.std.specs.String.{string_bytes}
use Rattle.std.proofs.Math.Seq.{take-length}
use Rattle.std.proofs.lemmas.Grind.{common_steps}
use Rattle.clap.proofs.WalkLemmas.{list_any-map}
use Rattle.fusee_top.specs.Options.{is_dashes}
use Rattle.fusee_top.proofs.OptionLemmas.{any_at, any_more}
use Rattle.fusee_top.proofs.options.has_dashes.Goals as goal

pub returns-then-is_dashes : goal.returns-then-is_dashes
returns-then-is_dashes c =
    let words = c.args.words.now in
    sym (any_at (λ word. is_dashes (string_bytes word)) words c.loop-word.word-index c.word-item.result c.loop-word-test.true c.word-item.is (sym c.is_dashes.ensures ∙ c.if-is_dashes.true))
    ∙ list_any-map is_dashes string_bytes words

pub loop-word-preserved : goal.loop-word-preserved
loop-word-preserved c =
    any_more (λ word. is_dashes (string_bytes word)) c.args.words.now c.loop-word.word-index c.word-item.result c.loop-word-test.true c.word-item.is c.loop-word.invariant (sym c.is_dashes.ensures ∙ c.if-is_dashes.false)

pub returns : goal.returns
returns c =
    let words = c.args.words.now in
    let whole : take c.loop-word.word-index words ≡ words = ap (λ n. take n words) (grind (arith, common_steps)) ∙ take-length words in
    sym (ap (list_any (λ word. is_dashes (string_bytes word))) (sym whole) ∙ c.loop-word.invariant) ∙ list_any-map is_dashes string_bytes words
