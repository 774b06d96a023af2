use Rattle.std.proofs.lemmas.Result.{IfOk-weaker}
use Rattle.fusee_top.proofs.ReadLemmas.{length-output_of}
use Rattle.fusee_top.proofs.audits.read_output.Goals as goal

pub returns-clause-few : goal.returns-clause-few
returns-clause-few c = IfOk-weaker c.parse_output.result _ _ (λ lines read. length-output_of c.args.text.now lines.items read) c.parse_output.ensures.lines
