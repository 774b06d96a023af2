use Rattle.std.proofs.Common.{arith}
use Rattle.std.proofs.lemmas.Grind.{common_steps}
use Rattle.fusee_top.proofs.OfflineLemmas.{Concludes-sized}
use Rattle.fusee_top.proofs.scripts.run_sized.Goals as goal

pub returns-clause-ends : goal.returns-clause-ends
returns-clause-ends g c = Concludes-sized _ c.args.script.now _ (grind (arith, common_steps)) c.print_script.ensures.ends
