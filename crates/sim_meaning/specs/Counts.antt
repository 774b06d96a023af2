-- How many events a simulation may be.
use Rattle.std.specs.Prelude.{ℕ, ◌+◌, ◌*◌}
use Rattle.script_meaning.specs.Lines.{most_verbs}
use Rattle.sim_meaning.specs.Driver.{most_turns}
use Rattle.sim_meaning.specs.declared.numbers.Numbers.{Numbers}

-- a turn is an invocation, up to 64 verbs and an event more, a stop, a loss, and for the settling and each recovery an event
-- and the verbs of a line that goes on
abbrev pub events_of_turn : Numbers → ℕ
events_of_turn numbers = 68 + (1 + numbers.clients) * (most_verbs + 1)

-- all clients are registered, and then turns are taken
abbrev pub most_events : Numbers → ℕ
most_events numbers = numbers.clients + most_turns numbers * events_of_turn numbers
