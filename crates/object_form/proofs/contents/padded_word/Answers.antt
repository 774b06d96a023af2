use Rattle.std.proofs.Common.{◌∙◌}
use Rattle.object_form.specs.Content.{word_from}
use Rattle.object_form.proofs.ContentLemmas.{from_le_bytes-same}
use Rattle.object_form.proofs.contents.padded_word.Goals as goal

pub returns : goal.returns
unfolding word_from
returns c = c.from_le_bytes.ensures ∙ from_le_bytes-same c.padded_bytes.result c.args.bytes.now c.padded_bytes.ensures
