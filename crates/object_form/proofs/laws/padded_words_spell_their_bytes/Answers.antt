use Rattle.object_form.proofs.ContentLemmas.{IsSpelled-padded_words-append}
use Rattle.object_form.proofs.laws.padded_words_spell_their_bytes.Goals as goal

pub returns : goal.returns
returns c = IsSpelled-padded_words-append
