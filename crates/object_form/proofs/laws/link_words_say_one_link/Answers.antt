use Rattle.object_form.proofs.LinkLemmas.{word_of_link-inj, word_of_link-pos, word_of_link-lt}
use Rattle.object_form.proofs.laws.link_words_say_one_link.Goals as goal

pub returns-clause-one : goal.returns-clause-one
returns-clause-one c = word_of_link-inj

pub returns-clause-some : goal.returns-clause-some
returns-clause-some c = word_of_link-pos

pub returns-clause-size : goal.returns-clause-size
returns-clause-size c = word_of_link-lt
