use Rattle.kv_find.proofs.VerbLemmas.{first_slot-found, words_with_key-count}
use Rattle.kv_find.proofs.laws.a_key_in_its_first_slot_takes_few_verbs.Goals as goal

pub returns-clause-found : goal.returns-clause-found
returns-clause-found c = first_slot-found

pub returns-clause-verbs : goal.returns-clause-verbs
returns-clause-verbs c = words_with_key-count
