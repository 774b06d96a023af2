-- What is printed of a simulation: how many calls have returned and how many have not, how many verbs were taken, where
-- blocks and objects stand, and how many keys have a value.
use Rattle.std.specs.Prelude.{ℕ, ◌+◌, Bool, true, false, not, if◌then◌else◌, List, [], ◌∷◌, ◌++◌, codes, count_by, bytes_eq, decimal, flat_map, is_none, is_some, map}
use Rattle.std.specs.List.{list_any}
use Rattle.machine_world.specs.Calls.{key_of}
use Rattle.machine_world.specs.Events.{happens}
use Rattle.machine_world.specs.Ledger.{history_of}
use Rattle.machine_world.specs.Readings.{has_returned}
use Rattle.machine_world.specs.Refusals.{refusal}
use Rattle.machine_world.specs.World.{World, first_world}
use Rattle.machine_world.specs.declared.events.Event.{Event}
use Rattle.machine_world.specs.declared.events.Event.TheVariants as event
use Rattle.map_model.specs.Map.{empty_map, map_after}
use Rattle.map_model.specs.Trace.{Moment, Invoked, Returned, Stopped}
use Rattle.map_model.specs.declared.entries.Entry.{Entry}
use Rattle.region_view.specs.Sizes.{Sizes}
use Rattle.script_meaning.specs.Shown.{division_lines}
use Rattle.script_text.specs.OutputText.{joined, line_words}
use Rattle.script_text.specs.declared.out_lines.OutLine.TheVariants.{End}
use Rattle.sim_meaning.specs.Driver.{Driven, returned_in, simulated_on, sizes_of}
use Rattle.sim_meaning.specs.declared.numbers.Numbers.{Numbers}

-- Calls.

abbrev pub is_open : World → Moment → Bool
is_open world (Invoked client number call) = not (has_returned world client number)
is_open world (Returned client number reply) = false
is_open world (Stopped client) = false

-- how many calls were invoked and have not returned
abbrev pub open_in : World → ℕ
open_in world = count_by (is_open world) world.trace

-- Verbs.

abbrev pub is_verb : Event → Bool
is_verb (event.Step client) = true
is_verb (event.Late client) = true
is_verb event.Work = true
is_verb event.Register = false
is_verb (event.Invoke client call) = false
is_verb (event.Stop client) = false
is_verb (event.Lose node) = false
is_verb (event.Fill node word) = false
is_verb (event.Choose task) = false

-- an event is a verb where it is one of a client or of the master and is not refused
abbrev pub verbs_at : World → Event → ℕ
verbs_at world event = if is_verb event then (if is_none (refusal world event) then 1 else 0) else 0

-- how many verbs all actors take by events
unfoldable pub verbs_in : World → List Event → ℕ
verbs_in world [] = 0
verbs_in world (event ∷ events) = verbs_at world event + verbs_in (happens world event) events

-- Keys.

abbrev pub has_key : List ℕ → Entry → Bool
has_key key entry = bytes_eq (key_of entry.call) key

-- the keys of entries, each once
abbrev pub keys_in : List Entry → List (List ℕ)
keys_in [] = []
keys_in (entry ∷ entries) =
    if list_any (has_key (key_of entry.call)) entries then keys_in entries else key_of entry.call ∷ keys_in entries

-- how many keys have a value in the map that the entries leave
abbrev pub values_after : List Entry → ℕ
values_after entries = count_by (λ key. is_some (map_after empty_map entries key)) (keys_in entries)

-- The lines, each by its words.

abbrev pub counted : List ℕ → List ℕ → List (List ℕ)
counted name numbers = name ∷ map decimal numbers

abbrev pub head_words : Numbers → List (List ℕ)
head_words numbers =
    counted (codes "sim") (numbers.seed ∷ numbers.clients ∷ numbers.calls ∷ numbers.stops ∷ numbers.losses ∷ [])

-- the lines for a world that was come to by so many verbs
abbrev pub summary_lines : Numbers → World → ℕ → List (List (List ℕ))
summary_lines numbers world verbs =
    head_words numbers
    ∷ counted (codes "returned") (returned_in world ∷ [])
    ∷ counted (codes "open") (open_in world ∷ [])
    ∷ counted (codes "verbs") (verbs ∷ [])
    ∷ map line_words (division_lines world)
    ++ counted (codes "keys") (values_after (history_of world) ∷ [])
    ∷ line_words End
    ∷ []

-- a line with its line feed
abbrev pub words_text : List (List ℕ) → List ℕ
words_text words = joined words ++ codes "\n"

abbrev pub summary_text : Numbers → World → ℕ → List ℕ
summary_text numbers world verbs = flat_map words_text (summary_lines numbers world verbs)

-- the summary of what a driver did from the opening of a pool on
abbrev pub summary_of : Sizes → Numbers → Driven → List ℕ
summary_of sizes numbers done = summary_text numbers done.driver.world (verbs_in (first_world sizes) done.events)

abbrev pub rendered_on : Sizes → Numbers → List ℕ
rendered_on sizes numbers = summary_of sizes numbers (simulated_on sizes numbers)

-- the text of a simulation
abbrev pub rendered : Numbers → List ℕ
rendered numbers = rendered_on (sizes_of numbers) numbers
