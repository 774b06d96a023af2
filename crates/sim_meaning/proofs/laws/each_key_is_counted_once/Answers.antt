use Rattle.sim_meaning.proofs.KeyLemmas.{keys_in-different, values-counted}
use Rattle.sim_meaning.proofs.laws.each_key_is_counted_once.Goals as goal

pub returns-clause-all : goal.returns-clause-all
returns-clause-all c = values-counted

pub returns-clause-once : goal.returns-clause-once
returns-clause-once c = keys_in-different
