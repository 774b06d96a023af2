use Rattle.script_text.proofs.ShapeLemmas.{output_of-text_of}
use Rattle.script_text.proofs.output_laws.printed_outputs_are_read.Goals as goal

pub returns : goal.returns
returns c = output_of-text_of
