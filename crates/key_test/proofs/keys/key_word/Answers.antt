use Rattle.std.proofs.Common.{◌∙◌}
use Rattle.object_form.specs.Content.{word_from}
use Rattle.object_form.proofs.ContentLemmas.{from_le_bytes-same, word_from-rest}
use Rattle.key_test.proofs.keys.key_word.Goals as goal

pub returns : goal.returns
unfolding word_from
returns c = c.from_le_bytes.ensures ∙ from_le_bytes-same c.eight_bytes.result _ c.eight_bytes.ensures ∙ word_from-rest c.args.key.now c.args.index
