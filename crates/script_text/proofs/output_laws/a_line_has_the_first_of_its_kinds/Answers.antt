use Rattle.script_text.specs.OutputForm.{line_form}
use Rattle.script_text.proofs.FirstKindLemmas.{first_of_form}
use Rattle.script_text.proofs.output_laws.a_line_has_the_first_of_its_kinds.Goals as goal

pub returns : goal.returns
returns c = λ name words. first_of_form (line_form name words) words
