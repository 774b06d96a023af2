-- What a driver does is a run of events: its world is the one after them.
use Rattle.std.proofs.Common.{◌≡◌, ℕ, zero, suc, ◌+◌, Bool, true, false, List, [], ◌∷◌, Option, Some, None, if◌then◌else◌, refl, sym, ap, ◌∙◌}
use Rattle.std.specs.Option.{option_map_or}
use Rattle.machine.specs.Client.{is_idle}
use Rattle.machine_world.proofs.RunLemmas.{run_from-append}
use Rattle.machine_world.specs.Runs.{run, run_from}
use Rattle.machine_world.specs.World.{client_at}
use Rattle.map_model.specs.declared.calls.Call.{Call}
use Rattle.map_model.specs.declared.calls.Call.TheVariants as asks
use Rattle.rand_pcg.specs.Pcg.{pcg32}
use Rattle.region_view.specs.Sizes.{Sizes}
use Rattle.script_meaning.proofs.RunLemmas.{meaning-run}
use Rattle.script_meaning.specs.Lines.{only_calls}
use Rattle.script_text.specs.declared.scripts.CallText.TheVariants as call
use Rattle.script_text.specs.declared.scripts.Line.{Line}
use Rattle.script_text.specs.declared.scripts.Line.TheVariants as line
use Rattle.sim_meaning.specs.Driver.{Driven, Driver, acts, awaits_recovery, carries_out, client_of, clients_of, does, first_driver, followed_by, invokes, is_loss_due, is_over, is_passed_over, is_to_stop, loses, loses_if_due, manages, most_turns, next_call, recovers, recovers_each, registers, rests, settles, simulated, simulated_on, sizes_of, steps, steps_and_stops, turn, turn_of, turns, verbs_of}
use Rattle.sim_meaning.specs.declared.numbers.Numbers.{Numbers}

-- the world of what is done is the one after its events
abbrev pub IsRun : Driver → Driven → Type 0
IsRun driver done = done.driver.world ≡ run_from driver.world done.events

pub rested : (driver : Driver) → IsRun driver (rests driver)
unfolding run_from
rested driver = refl

pub carried : (driver : Driver) (line : Line) → IsRun driver (carries_out driver line)
carried driver line = meaning-run false driver.world line

pub followed : (driver : Driver) (first : Driven) (rest : Driver → Driven) → IsRun driver first → ((now : Driver) → IsRun now (rest now)) → IsRun driver (followed_by first rest)
followed driver first rest is after =
    after first.driver
    ∙ ap (λ now. run_from now (rest first.driver).events) is
    ∙ sym (run_from-append driver.world first.events (rest first.driver).events)

either : (driver : Driver) (test : Bool) (one other : Driven) → IsRun driver one → IsRun driver other → IsRun driver (if test then one else other)
either driver true one other is is_other = is
either driver false one other is is_other = is_other

-- a call that is invoked is a line of a script
called : (driver : Driver) (client : ℕ) (call : Call) → IsRun driver (does driver (only_calls driver.world client call))
called driver client (asks.Put key value) = carried driver (line.Call client (call.Put key value))
called driver client (asks.Get key) = carried driver (line.Call client (call.Get key))
called driver client (asks.Delete key) = carried driver (line.Call client (call.Delete key))

called_if : (driver : Driver) (client : ℕ) (next : Option Call) → IsRun driver (option_map_or (λ call. does driver (only_calls driver.world client call)) next (rests driver))
called_if driver client None = rested driver
called_if driver client (Some call) = called driver client call

pub invokes-run : (numbers : Numbers) (client : ℕ) (driver : Driver) → IsRun driver (invokes numbers client driver)
invokes-run numbers client driver =
    either driver (is_idle (client_at driver.world client))
    (option_map_or (λ call. does driver (only_calls driver.world client call)) (next_call numbers driver.world client) (rests driver)) (rests driver)
    (called_if driver client (next_call numbers driver.world client)) (rested driver)

steps_and_stops-run : (client verbs : ℕ) (driver : Driver) → IsRun driver (steps_and_stops client verbs driver)
steps_and_stops-run client verbs driver =
    followed driver (carries_out driver (line.Step client verbs)) (λ now. carries_out now (line.Stop client)) (carried driver (line.Step client verbs))
    (λ now. carried now (line.Stop client))

steps-run : (numbers : Numbers) (word client : ℕ) (driver : Driver) → IsRun driver (steps numbers word client driver)
steps-run numbers word client driver =
    let stopping = steps_and_stops client (verbs_of word 64) driver in
    let going = carries_out driver (line.Step client (verbs_of word 8)) in
    either driver (is_idle (client_at driver.world client)) (rests driver) (if is_to_stop numbers driver.world client then stopping else going) (rested driver)
    (either driver (is_to_stop numbers driver.world client) stopping going (steps_and_stops-run client (verbs_of word 64) driver) (carried driver (line.Step client (verbs_of word 8))))

pub acts-run : (numbers : Numbers) (word client : ℕ) (driver : Driver) → IsRun driver (acts numbers word client driver)
acts-run numbers word client driver =
    either driver (is_passed_over numbers driver.world client) (rests driver) (followed_by (invokes numbers client driver) (steps numbers word client)) (rested driver)
    (followed driver (invokes numbers client driver) (steps numbers word client) (invokes-run numbers client driver) (steps-run numbers word client))

pub loses_if_due-run : (numbers : Numbers) (driver : Driver) → IsRun driver (loses_if_due numbers driver)
loses_if_due-run numbers driver = either driver (is_loss_due numbers driver) (loses driver) (rests driver) (carried driver (line.Lose (driver.losses + 1))) (rested driver)

pub recovers-run : (client : ℕ) (driver : Driver) → IsRun driver (recovers client driver)
recovers-run client driver =
    either driver (awaits_recovery driver.world client) (carries_out driver (line.Recover client)) (rests driver) (carried driver (line.Recover client)) (rested driver)

recovers_each-run : (clients : List ℕ) (driver : Driver) → IsRun driver (recovers_each clients driver)
recovers_each-run [] driver = rested driver
recovers_each-run (client ∷ clients) driver = followed driver (recovers client driver) (recovers_each clients) (recovers-run client driver) (recovers_each-run clients)

manages-run : (numbers : Numbers) (driver : Driver) → IsRun driver (manages numbers driver)
manages-run numbers driver =
    either driver driver.settling (settles driver) (recovers_each (clients_of numbers) driver) (carried driver line.Settle) (recovers_each-run (clients_of numbers) driver)

turn_of-run : (numbers : Numbers) (word : ℕ) (driver : Driver) → IsRun driver (turn_of numbers word driver)
turn_of-run numbers word driver =
    let acting = acts numbers word (client_of numbers word) driver in
    followed driver (followed_by acting (loses_if_due numbers)) (manages numbers)
    (followed driver acting (loses_if_due numbers) (acts-run numbers word (client_of numbers word) driver) (loses_if_due-run numbers))
    (manages-run numbers)

pub turn-run : (numbers : Numbers) (driver : Driver) → IsRun driver (turn numbers driver)
turn-run numbers driver = turn_of-run numbers (pcg32 driver.generator).0 (record driver { generator = (pcg32 driver.generator).1 })

pub turns-run : (numbers : Numbers) (left : ℕ) (driver : Driver) → IsRun driver (turns numbers left driver)
unfolding turns
turns-run numbers zero driver = rested driver
turns-run numbers (suc left) driver =
    either driver (is_over numbers driver) (rests driver) (followed_by (turn numbers driver) (turns numbers left)) (rested driver)
    (followed driver (turn numbers driver) (turns numbers left) (turn-run numbers driver) (turns-run numbers left))

pub registers-run : (count : ℕ) (driver : Driver) → IsRun driver (registers count driver)
unfolding registers
registers-run zero driver = rested driver
registers-run (suc count) driver = followed driver (carries_out driver line.Register) (registers count) (carried driver line.Register) (registers-run count)

pub simulated_on-run : (sizes : Sizes) (numbers : Numbers) → (simulated_on sizes numbers).driver.world ≡ run sizes (simulated_on sizes numbers).events
unfolding run
simulated_on-run sizes numbers =
    followed (first_driver sizes numbers) (registers numbers.clients (first_driver sizes numbers)) (turns numbers (most_turns numbers))
    (registers-run numbers.clients (first_driver sizes numbers)) (turns-run numbers (most_turns numbers))

pub simulated-run : (numbers : Numbers) → (simulated numbers).driver.world ≡ run (sizes_of numbers) (simulated numbers).events
simulated-run numbers = simulated_on-run (sizes_of numbers) numbers
