-- Runs of events from the opening world.
use Rattle.std.specs.Prelude.{ℕ, ◌+◌, Bool, false, ◌==◌, if◌then◌else◌, List, [], ◌∷◌, is_none}
use Rattle.machine_world.specs.Events.{happens}
use Rattle.machine_world.specs.Refusals.{refusal}
use Rattle.machine_world.specs.World.{World, first_world}
use Rattle.machine_world.specs.declared.events.Event.{Event}
use Rattle.machine_world.specs.declared.events.Event.TheVariants.{Register, Invoke, Step, Late, Stop, Lose, Fill, Choose, Work}
use Rattle.region_view.specs.Sizes.{Sizes}

-- the world after events, from the first on
unfoldable pub run_from : World → List Event → World
run_from world [] = world
run_from world (event ∷ events) = run_from (happens world event) events

unfoldable pub run : Sizes → List Event → World
run sizes events = run_from (first_world sizes) events

-- whether an event is a verb of the client
abbrev pub is_verb_of : ℕ → Event → Bool
is_verb_of client (Step other) = other == client
is_verb_of client (Late other) = other == client
is_verb_of client Register = false
is_verb_of client (Invoke other call) = false
is_verb_of client (Stop other) = false
is_verb_of client (Lose node) = false
is_verb_of client (Fill node word) = false
is_verb_of client (Choose task) = false
is_verb_of client Work = false

-- how many verbs of the client an event is: one where it is such a verb and is not refused
abbrev pub verbs_at : World → ℕ → Event → ℕ
verbs_at world client event = if is_verb_of client event then (if is_none (refusal world event) then 1 else 0) else 0

-- how many verbs the client has taken
unfoldable pub verbs_from : World → ℕ → List Event → ℕ
verbs_from world client [] = 0
verbs_from world client (event ∷ events) = verbs_at world client event + verbs_from (happens world event) client events

unfoldable pub verbs_taken : Sizes → ℕ → List Event → ℕ
verbs_taken sizes client events = verbs_from (first_world sizes) client events
