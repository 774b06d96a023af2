use Rattle.script_text.proofs.ScriptFormLemmas.{Means-unique}
use Rattle.script_text.proofs.laws.a_text_means_one_script.Goals as goal

pub returns : goal.returns
returns c = λ text plan other means too. Means-unique text plan other means too
