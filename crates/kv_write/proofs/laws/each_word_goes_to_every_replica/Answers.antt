use Rattle.kv_write.proofs.DoneLemmas.{next-done, whole-done}
use Rattle.kv_write.proofs.laws.each_word_goes_to_every_replica.Goals as goal

pub returns-clause-each : goal.returns-clause-each
returns-clause-each c = next-done

pub returns-clause-whole : goal.returns-clause-whole
returns-clause-whole c = whole-done
