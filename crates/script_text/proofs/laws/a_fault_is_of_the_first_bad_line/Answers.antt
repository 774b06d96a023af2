use Rattle.script_text.proofs.FirstFaultLemmas.{IsFirstFault-fault_of}
use Rattle.script_text.proofs.laws.a_fault_is_of_the_first_bad_line.Goals as goal

pub returns : goal.returns
returns c = λ text fault is. IsFirstFault-fault_of text fault is
