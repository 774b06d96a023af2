use Rattle.script_text.proofs.ScriptFormLemmas.{fault_of-means, means-no_fault}
use Rattle.script_text.proofs.laws.a_text_without_fault_means_a_script.Goals as goal

pub returns-clause-meant : goal.returns-clause-meant
returns-clause-meant c = λ text plan means. fault_of-means text plan means

pub returns-clause-faultless : goal.returns-clause-faultless
returns-clause-faultless c = λ text none. means-no_fault text none
