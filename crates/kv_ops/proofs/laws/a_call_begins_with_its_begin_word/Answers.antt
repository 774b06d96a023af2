use Rattle.std.proofs.Common.{refl}
use Rattle.kv_ops.proofs.KeptLemmas.{start-goes, start-once}
use Rattle.kv_ops.proofs.laws.a_call_begins_with_its_begin_word.Goals as goal

pub returns-clause-first : goal.returns-clause-first
returns-clause-first c = λ client operation key value. refl

pub returns-clause-goes_on : goal.returns-clause-goes_on
returns-clause-goes_on c = start-goes

pub returns-clause-once : goal.returns-clause-once
returns-clause-once c = start-once
