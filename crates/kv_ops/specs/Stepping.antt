-- Where a call stands, and what a step of it tells, as tests.
use Rattle.std.specs.Prelude.{Bool, true, false}
use Rattle.machine.specs.declared.client_call.Step.{Step}
use Rattle.machine.specs.declared.client_call.Step.TheVariants.{Ended}
use Rattle.machine.specs.Stage.{Stage, Start}

-- whether a step tells that the call returned
abbrev pub is_ended : Step → Bool
is_ended (Ended outcome) = true
is_ended step = false

-- whether the call's begin word is still to be written
abbrev pub is_start : Stage → Bool
is_start Start = true
is_start stage = false
