-- Whether a task of the master goes on.
use Rattle.std.specs.Prelude.{Bool, true, false}
use Rattle.machine.specs.declared.joining.Joined.{Joined}
use Rattle.machine.specs.declared.joining.Joined.TheVariants as joined
use Rattle.machine.specs.declared.recovery.Recovering.{Recovering}
use Rattle.machine.specs.declared.recovery.Recovering.TheVariants as recovering

abbrev pub recovers_on : Recovering → Bool
recovers_on recovering.Going = true
recovers_on recovering.Recovered = false
recovers_on (recovering.NotYet reason) = false

abbrev pub joins_on : Joined → Bool
joins_on joined.Going = true
joins_on joined.Joined = false
joins_on (joined.NotYet reason) = false
