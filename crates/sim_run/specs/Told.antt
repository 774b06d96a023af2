-- What the answer to an event says.
use Rattle.std.specs.Prelude.{ℕ, Bool, true, false}
use Rattle.kv_ops.specs.Stepping.{is_ended}
use Rattle.machine.specs.declared.client_call.Step.{Step}
use Rattle.machine.specs.declared.client_call.Step.TheVariants as step
use Rattle.machine.specs.declared.joining.Joined.{Joined}
use Rattle.machine.specs.declared.joining.Joined.TheVariants as joined
use Rattle.machine.specs.declared.recovery.Recovering.{Recovering}
use Rattle.machine.specs.declared.recovery.Recovering.TheVariants as recovering
use Rattle.machine.specs.declared.settling.Settled.{Settled}
use Rattle.machine.specs.declared.settling.Settled.TheVariants as settled
use Rattle.machine_world.specs.declared.outcomes.Happened.{Happened}
use Rattle.machine_world.specs.declared.outcomes.Happened.TheVariants as happened

-- the number of a new call
abbrev pub number_in : Happened → ℕ
number_in (happened.Invoked number) = number
number_in other = 0

-- whether a call has returned by a verb
abbrev pub is_return_of : Happened → Bool
is_return_of (happened.Stepped seen step) = is_ended step
is_return_of other = false

-- whether a step says that something is told of it

abbrev pub tells_of_step : Step → Bool
tells_of_step step.Going = false
tells_of_step (step.Ended result) = true
tells_of_step (step.NotYet why) = true

abbrev pub tells_of_recovery : Recovering → Bool
tells_of_recovery recovering.Going = false
tells_of_recovery recovering.Recovered = true
tells_of_recovery (recovering.NotYet why) = true

abbrev pub tells_of_settling : Settled → Bool
tells_of_settling settled.Going = false
tells_of_settling (settled.Opened word) = true
tells_of_settling (settled.NotYet client begin) = true

abbrev pub tells_of_joining : Joined → Bool
tells_of_joining joined.Going = false
tells_of_joining joined.Joined = true
tells_of_joining (joined.NotYet why) = true

-- whether something is told of a verb
abbrev pub is_told_of : Happened → Bool
is_told_of (happened.Stepped seen step) = tells_of_step step
is_told_of (happened.Recovering seen step) = tells_of_recovery step
is_told_of (happened.Settling seen step) = tells_of_settling step
is_told_of (happened.Joining seen step) = tells_of_joining step
is_told_of other = false
