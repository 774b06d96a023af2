use Rattle.lease_core.proofs.GrammarLemmas.{fault_from_read, read_from_fault}
use Rattle.lease_core.proofs.laws.a_text_is_refused_by_its_first_fault.Goals as goal

pub returns : goal.returns
returns c = λ lines number kind. (fault_from_read 1 lines (number, kind), read_from_fault 1 lines (number, kind))
