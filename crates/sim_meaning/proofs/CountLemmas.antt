-- How many events a driver makes.
use Rattle.std.proofs.Common.{◌≡◌, ℕ, zero, suc, ◌+◌, ◌*◌, ◌≤◌, Bool, true, false, List, [], ◌∷◌, ◌++◌, length, length-append, Option, Some, None, if◌then◌else◌, refl, sym, subst, arith}
use Rattle.std.specs.Option.{option_map_or}
use Rattle.std.specs.List.{range_with_len}
use Rattle.machine.specs.Client.{is_idle}
use Rattle.machine_world.specs.Refusals.{refusal}
use Rattle.machine_world.specs.World.{World, client_at}
use Rattle.machine_world.specs.declared.events.Event.{Event}
use Rattle.machine_world.specs.declared.events.Event.TheVariants as event
use Rattle.machine_world.specs.declared.outcomes.Refused.{Refused}
use Rattle.map_model.specs.declared.calls.Call.{Call}
use Rattle.rand_pcg.specs.Pcg.{pcg32}
use Rattle.region_view.specs.Sizes.{Sizes}
use Rattle.script_meaning.proofs.CountLemmas.{meaning-within}
use Rattle.script_meaning.specs.Lines.{Ran, calls, comes, most_verbs, only_calls, says_refused, unless_refused}
use Rattle.script_text.specs.declared.out_lines.OutLine.{OutLine}
use Rattle.script_text.specs.declared.out_lines.OutLine.TheVariants as out
use Rattle.script_text.specs.declared.scripts.Line.TheVariants as line
use Rattle.sim_meaning.specs.Counts.{most_events, events_of_turn}
use Rattle.sim_meaning.specs.Driver.{Driven, Driver, acts, awaits_recovery, carries_out, client_of, clients_of, does, first_driver, followed_by, invokes, is_loss_due, is_over, is_passed_over, is_to_stop, loses, loses_if_due, manages, most_turns, next_call, recovers, recovers_each, registers, rests, settles, simulated, simulated_on, sizes_of, steps, steps_and_stops, turn, turn_of, turns, verbs_of}
use Rattle.sim_meaning.specs.declared.numbers.Numbers.{Numbers}

-- what is done is so many events at most
abbrev pub IsWithin : ℕ → Driven → Type 0
IsWithin most done = length done.events ≤ most

-- these are so many events at most
abbrev pub IsFew : ℕ → Ran → Type 0
IsFew most ran = length ran.events ≤ most

rested : (driver : Driver) (most : ℕ) → IsWithin most (rests driver)
rested driver most = omega arith

followed : (first : Driven) (rest : Driver → Driven) (one more : ℕ) → IsWithin one first → ((now : Driver) → IsWithin more (rest now)) → IsWithin (one + more) (followed_by first rest)
followed first rest one more is after =
    let both : length (first.events ++ (rest first.driver).events) ≡ length first.events + length (rest first.driver).events = length-append first.events (rest first.driver).events in
    let few : length first.events ≤ one = is in
    let others : length (rest first.driver).events ≤ more = after first.driver in
    subst (λ count. count ≤ one + more) (sym both) (omega arith)

either : (test : Bool) (one other : Driven) (most : ℕ) → IsWithin most one → IsWithin most other → IsWithin most (if test then one else other)
either true one other most is is_other = is
either false one other most is is_other = is_other

wider : (done : Driven) (few most : ℕ) → few ≤ most → IsWithin few done → IsWithin most done
wider done few most within is = let those : length done.events ≤ few = is in omega arith

-- An event that may be refused is one event at most.

unless : (world : World) (reason : Option Refused) (does : Ran) → IsFew 1 does → IsFew 1 (option_map_or (says_refused world) reason does)
unless world None does is = is
unless world (Some reason) does is = omega arith

one_event : (world : World) (event : Event) (lines : List OutLine) → IsFew 1 (unless_refused world event (comes world event lines))
one_event world event lines = unless world (refusal world event) (comes world event lines) (omega arith)

pub registered-one : (driver : Driver) → IsWithin 1 (carries_out driver line.Register)
registered-one driver = one_event driver.world event.Register (out.Client (length driver.world.clients) ∷ [])

stopped-one : (driver : Driver) (client : ℕ) → IsWithin 1 (carries_out driver (line.Stop client))
stopped-one driver client = one_event driver.world (event.Stop client) (out.Stopped client ∷ [])

lost-one : (driver : Driver) (node : ℕ) → IsWithin 1 (carries_out driver (line.Lose node))
lost-one driver node = one_event driver.world (event.Lose node) (out.Lost node ∷ [])

called-one : (driver : Driver) (client : ℕ) (call : Call) → IsWithin 1 (does driver (only_calls driver.world client call))
called-one driver client call = one_event driver.world (event.Invoke client call) (calls driver.world client call).lines

-- A line is at most its verbs and one event.

pub stepped-within : (driver : Driver) (client verbs most : ℕ) → verbs ≤ most → IsWithin (most + 1) (carries_out driver (line.Step client verbs))
stepped-within driver client verbs most few =
    wider (carries_out driver (line.Step client verbs)) (verbs + 1) (most + 1) (omega arith) (meaning-within false driver.world (line.Step client verbs))

called_if : (driver : Driver) (client : ℕ) (next : Option Call) → IsWithin 1 (option_map_or (λ call. does driver (only_calls driver.world client call)) next (rests driver))
called_if driver client None = rested driver 1
called_if driver client (Some call) = called-one driver client call

pub invokes-within : (numbers : Numbers) (client : ℕ) (driver : Driver) → IsWithin 1 (invokes numbers client driver)
invokes-within numbers client driver =
    either (is_idle (client_at driver.world client))
    (option_map_or (λ call. does driver (only_calls driver.world client call)) (next_call numbers driver.world client) (rests driver)) (rests driver) 1
    (called_if driver client (next_call numbers driver.world client)) (rested driver 1)

verbs_of-few : (word : ℕ) → (verbs_of word 64 ≤ 64) × (verbs_of word 8 ≤ 64)
verbs_of-few word = (omega arith, omega arith)

steps_and_stops-within : (client verbs : ℕ) (driver : Driver) → verbs ≤ 64 → IsWithin 66 (steps_and_stops client verbs driver)
steps_and_stops-within client verbs driver few =
    followed (carries_out driver (line.Step client verbs)) (λ now. carries_out now (line.Stop client)) 65 1 (stepped-within driver client verbs 64 few)
    (λ now. stopped-one now client)

steps-within : (numbers : Numbers) (word client : ℕ) (driver : Driver) → IsWithin 66 (steps numbers word client driver)
steps-within numbers word client driver =
    let stopping = steps_and_stops client (verbs_of word 64) driver in
    let going = carries_out driver (line.Step client (verbs_of word 8)) in
    either (is_idle (client_at driver.world client)) (rests driver) (if is_to_stop numbers driver.world client then stopping else going) 66 (rested driver 66)
    (either (is_to_stop numbers driver.world client) stopping going 66 (steps_and_stops-within client (verbs_of word 64) driver (verbs_of-few word).0)
    (wider going 65 66 (omega arith) (stepped-within driver client (verbs_of word 8) 64 (verbs_of-few word).1)))

pub acts-within : (numbers : Numbers) (word client : ℕ) (driver : Driver) → IsWithin 67 (acts numbers word client driver)
acts-within numbers word client driver =
    either (is_passed_over numbers driver.world client) (rests driver) (followed_by (invokes numbers client driver) (steps numbers word client)) 67 (rested driver 67)
    (followed (invokes numbers client driver) (steps numbers word client) 1 66 (invokes-within numbers client driver) (steps-within numbers word client))

pub loses_if_due-within : (numbers : Numbers) (driver : Driver) → IsWithin 1 (loses_if_due numbers driver)
loses_if_due-within numbers driver =
    either (is_loss_due numbers driver) (loses driver) (rests driver) 1
    (lost-one (record driver { losses = driver.losses + 1; settling = true }) (driver.losses + 1)) (rested driver 1)

pub recovers-within : (client : ℕ) (driver : Driver) → IsWithin (most_verbs + 1) (recovers client driver)
recovers-within client driver =
    either (awaits_recovery driver.world client) (carries_out driver (line.Recover client)) (rests driver) (most_verbs + 1)
    (meaning-within false driver.world (line.Recover client)) (rested driver (most_verbs + 1))

recovers_each-within : (clients : List ℕ) (driver : Driver) → IsWithin (length clients * (most_verbs + 1)) (recovers_each clients driver)
recovers_each-within [] driver = rested driver 0
recovers_each-within (client ∷ clients) driver =
    wider (followed_by (recovers client driver) (recovers_each clients)) ((most_verbs + 1) + length clients * (most_verbs + 1)) (suc (length clients) * (most_verbs + 1)) (omega arith)
    (followed (recovers client driver) (recovers_each clients) (most_verbs + 1) (length clients * (most_verbs + 1)) (recovers-within client driver) (recovers_each-within clients))

range-length : (from count : ℕ) → length (range_with_len from count) ≡ count
range-length from zero = refl
range-length from (suc count) = let rest : length (range_with_len (from + 1) count) ≡ count = range-length (from + 1) count in omega arith

manages-within : (numbers : Numbers) (driver : Driver) → IsWithin ((1 + numbers.clients) * (most_verbs + 1)) (manages numbers driver)
manages-within numbers driver =
    let all : length (clients_of numbers) ≡ numbers.clients = range-length 1 numbers.clients in
    let most = (1 + numbers.clients) * (most_verbs + 1) in
    either driver.settling (settles driver) (recovers_each (clients_of numbers) driver) most
    (wider (settles driver) (most_verbs + 1) most (omega arith) (meaning-within false driver.world line.Settle))
    (wider (recovers_each (clients_of numbers) driver) (numbers.clients * (most_verbs + 1)) most (omega arith)
    (subst (λ count. IsWithin (count * (most_verbs + 1)) (recovers_each (clients_of numbers) driver)) all (recovers_each-within (clients_of numbers) driver)))

turn_of-within : (numbers : Numbers) (word : ℕ) (driver : Driver) → IsWithin (events_of_turn numbers) (turn_of numbers word driver)
turn_of-within numbers word driver =
    let acting = acts numbers word (client_of numbers word) driver in
    followed (followed_by acting (loses_if_due numbers)) (manages numbers) 68 ((1 + numbers.clients) * (most_verbs + 1))
    (followed acting (loses_if_due numbers) 67 1 (acts-within numbers word (client_of numbers word) driver) (loses_if_due-within numbers))
    (manages-within numbers)

pub turn-within : (numbers : Numbers) (driver : Driver) → IsWithin (events_of_turn numbers) (turn numbers driver)
turn-within numbers driver = turn_of-within numbers (pcg32 driver.generator).0 (record driver { generator = (pcg32 driver.generator).1 })

more_turns : (left each : ℕ) → each + left * each ≡ suc left * each
more_turns left each = omega arith

pub turns-within : (numbers : Numbers) (left : ℕ) (driver : Driver) → IsWithin (left * events_of_turn numbers) (turns numbers left driver)
unfolding turns
turns-within numbers zero driver = rested driver (zero * events_of_turn numbers)
turns-within numbers (suc left) driver =
    let all = suc left * events_of_turn numbers in
    either (is_over numbers driver) (rests driver) (followed_by (turn numbers driver) (turns numbers left)) all (rested driver all)
    (subst (λ most. IsWithin most (followed_by (turn numbers driver) (turns numbers left))) (more_turns left (events_of_turn numbers))
    (followed (turn numbers driver) (turns numbers left) (events_of_turn numbers) (left * events_of_turn numbers) (turn-within numbers driver) (turns-within numbers left)))

pub registers-within : (count : ℕ) (driver : Driver) → IsWithin count (registers count driver)
unfolding registers
registers-within zero driver = rested driver 0
registers-within (suc count) driver =
    wider (followed_by (carries_out driver line.Register) (registers count)) (1 + count) (suc count) (omega arith)
    (followed (carries_out driver line.Register) (registers count) 1 count (registered-one driver) (registers-within count))

pub simulated_on-within : (sizes : Sizes) (numbers : Numbers) → IsWithin (most_events numbers) (simulated_on sizes numbers)
simulated_on-within sizes numbers =
    followed (registers numbers.clients (first_driver sizes numbers)) (turns numbers (most_turns numbers)) numbers.clients (most_turns numbers * events_of_turn numbers)
    (registers-within numbers.clients (first_driver sizes numbers)) (turns-within numbers (most_turns numbers))

pub simulated-within : (numbers : Numbers) → IsWithin (most_events numbers) (simulated numbers)
simulated-within numbers = simulated_on-within (sizes_of numbers) numbers
