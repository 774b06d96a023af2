use Rattle.object_form.proofs.MetaLemmas.{word_of_meta-inj, word_of_meta-lt}
use Rattle.object_form.proofs.laws.meta_words_say_one_meta.Goals as goal

pub returns-clause-one : goal.returns-clause-one
returns-clause-one c = word_of_meta-inj

pub returns-clause-size : goal.returns-clause-size
returns-clause-size c = word_of_meta-lt
