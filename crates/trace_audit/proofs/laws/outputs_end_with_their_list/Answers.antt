use Rattle.trace_audit.proofs.OutputLemmas.{output_ends}
use Rattle.trace_audit.proofs.laws.outputs_end_with_their_list.Goals as goal

pub returns : goal.returns
returns c = output_ends
