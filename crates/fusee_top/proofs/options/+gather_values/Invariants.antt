use Rattle.std.proofs.Common.{length}
use Rattle.fusee_top.proofs.options.+gather_values.Given as goal

abbrev pub decreases-gather_values : goal.decreases-gather_values
decreases-gather_values l = length l.names.now
