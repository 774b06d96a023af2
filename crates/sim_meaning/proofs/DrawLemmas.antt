-- The parts of a turn draw no word, and no more nodes are lost than are to be.
use Rattle.std.proofs.Common.{◌≡◌, ℕ, ◌<◌, ◌≤◌, Bool, true, false, ◌&&◌, List, [], ◌∷◌, Option, Some, None, if◌then◌else◌, refl, ◌∙◌, arith}
use Rattle.std.specs.Prelude.{nat_le, nat_lt, not}
use Rattle.std.specs.Option.{option_map_or}
use Rattle.std.proofs.lemmas.Bool.{ltb-true}
use Rattle.machine.specs.Client.{is_idle}
use Rattle.machine_world.specs.World.{client_at}
use Rattle.map_model.specs.declared.calls.Call.{Call}
use Rattle.rand_pcg.specs.Pcg.{pcg32}
use Rattle.script_meaning.specs.Lines.{Ran, only_calls}
use Rattle.script_text.specs.declared.scripts.Line.TheVariants as line
use Rattle.sim_meaning.specs.Driver.{Driven, Driver, acts, awaits_recovery, calls_before_loss, carries_out, client_of, clients_of, does, followed_by, invokes, is_loss_due, is_passed_over, is_to_stop, loses, loses_if_due, manages, next_call, recovers, recovers_each, rests, returned_in, settles, steps, steps_and_stops, turn, turn_of, verbs_of}
use Rattle.sim_meaning.specs.declared.numbers.Numbers.{Numbers}

-- what stays so whatever the driver does
pub record IsKept (numbers : Numbers) (driver : Driver) (done : Driven) : Type 0 where
  pub generator : done.driver.generator ≡ driver.generator
  pub losses : driver.losses ≤ numbers.losses → done.driver.losses ≤ numbers.losses

rested : (numbers : Numbers) (driver : Driver) → IsKept numbers driver (rests driver)
rested numbers driver = record { generator = refl; losses = λ few. few }

did : (numbers : Numbers) (driver : Driver) (ran : Ran) → IsKept numbers driver (does driver ran)
did numbers driver ran = record { generator = refl; losses = λ few. few }

followed : (numbers : Numbers) (driver : Driver) (first : Driven) (rest : Driver → Driven) → IsKept numbers driver first → ((now : Driver) → IsKept numbers now (rest now)) → IsKept numbers driver (followed_by first rest)
followed numbers driver first rest kept after =
    record {
      generator = (after first.driver).generator ∙ kept.generator;
      losses = λ few. (after first.driver).losses (kept.losses few);
    }

either : (numbers : Numbers) (driver : Driver) (test : Bool) (one other : Driven) → (test ≡ true → IsKept numbers driver one) → IsKept numbers driver other → IsKept numbers driver (if test then one else other)
either numbers driver true one other kept kept_other = kept refl
either numbers driver false one other kept kept_other = kept_other

called_if : (numbers : Numbers) (driver : Driver) (client : ℕ) (next : Option Call) → IsKept numbers driver (option_map_or (λ call. does driver (only_calls driver.world client call)) next (rests driver))
called_if numbers driver client None = rested numbers driver
called_if numbers driver client (Some call) = did numbers driver (only_calls driver.world client call)

invokes-kept : (numbers : Numbers) (client : ℕ) (driver : Driver) → IsKept numbers driver (invokes numbers client driver)
invokes-kept numbers client driver =
    either numbers driver (is_idle (client_at driver.world client))
    (option_map_or (λ call. does driver (only_calls driver.world client call)) (next_call numbers driver.world client) (rests driver)) (rests driver)
    (λ idle. called_if numbers driver client (next_call numbers driver.world client)) (rested numbers driver)

steps-kept : (numbers : Numbers) (word client : ℕ) (driver : Driver) → IsKept numbers driver (steps numbers word client driver)
steps-kept numbers word client driver =
    let stopping = steps_and_stops client (verbs_of word 64) driver in
    let going = carries_out driver (line.Step client (verbs_of word 8)) in
    either numbers driver (is_idle (client_at driver.world client)) (rests driver) (if is_to_stop numbers driver.world client then stopping else going)
    (λ idle. rested numbers driver)
    (either numbers driver (is_to_stop numbers driver.world client) stopping going
    (λ stops. record { generator = refl; losses = λ few. few }) (record { generator = refl; losses = λ few. few }))

acts-kept : (numbers : Numbers) (word client : ℕ) (driver : Driver) → IsKept numbers driver (acts numbers word client driver)
acts-kept numbers word client driver =
    either numbers driver (is_passed_over numbers driver.world client) (rests driver) (followed_by (invokes numbers client driver) (steps numbers word client))
    (λ passed. rested numbers driver)
    (followed numbers driver (invokes numbers client driver) (steps numbers word client) (invokes-kept numbers client driver) (steps-kept numbers word client))

first_true : (one other : Bool) → (one && other) ≡ true → one ≡ true
first_true true other both = refl
first_true false other both = absurd cc

loses-kept : (numbers : Numbers) (driver : Driver) → driver.losses < numbers.losses → IsKept numbers driver (loses driver)
loses-kept numbers driver left = record { generator = refl; losses = λ few. omega arith }

loses_if_due-kept : (numbers : Numbers) (driver : Driver) → IsKept numbers driver (loses_if_due numbers driver)
loses_if_due-kept numbers driver =
    either numbers driver (is_loss_due numbers driver) (loses driver) (rests driver)
    (λ due. loses-kept numbers driver (ltb-true driver.losses numbers.losses
    (first_true (nat_lt driver.losses numbers.losses) (not driver.settling)
    (first_true (nat_lt driver.losses numbers.losses && not driver.settling) (nat_le (calls_before_loss numbers driver.losses) (returned_in driver.world)) due))))
    (rested numbers driver)

recovers-kept : (numbers : Numbers) (client : ℕ) (driver : Driver) → IsKept numbers driver (recovers client driver)
recovers-kept numbers client driver =
    either numbers driver (awaits_recovery driver.world client) (carries_out driver (line.Recover client)) (rests driver)
    (λ awaits. record { generator = refl; losses = λ few. few }) (rested numbers driver)

recovers_each-kept : (numbers : Numbers) (clients : List ℕ) (driver : Driver) → IsKept numbers driver (recovers_each clients driver)
recovers_each-kept numbers [] driver = rested numbers driver
recovers_each-kept numbers (client ∷ clients) driver =
    followed numbers driver (recovers client driver) (recovers_each clients) (recovers-kept numbers client driver) (recovers_each-kept numbers clients)

manages-kept : (numbers : Numbers) (driver : Driver) → IsKept numbers driver (manages numbers driver)
manages-kept numbers driver =
    either numbers driver driver.settling (settles driver) (recovers_each (clients_of numbers) driver)
    (λ settling. record { generator = refl; losses = λ few. few }) (recovers_each-kept numbers (clients_of numbers) driver)

turn_of-kept : (numbers : Numbers) (word : ℕ) (driver : Driver) → IsKept numbers driver (turn_of numbers word driver)
turn_of-kept numbers word driver =
    let acting = acts numbers word (client_of numbers word) driver in
    followed numbers driver (followed_by acting (loses_if_due numbers)) (manages numbers)
    (followed numbers driver acting (loses_if_due numbers) (acts-kept numbers word (client_of numbers word) driver) (loses_if_due-kept numbers))
    (manages-kept numbers)

-- a turn draws one word
pub turn-draws : (numbers : Numbers) (driver : Driver) → (turn numbers driver).driver.generator ≡ (pcg32 driver.generator).1
turn-draws numbers driver = (turn_of-kept numbers (pcg32 driver.generator).0 (record driver { generator = (pcg32 driver.generator).1 })).generator

-- after a turn no more nodes are lost than are to be
pub turn-losses : (numbers : Numbers) (driver : Driver) → driver.losses ≤ numbers.losses → (turn numbers driver).driver.losses ≤ numbers.losses
turn-losses numbers driver = (turn_of-kept numbers (pcg32 driver.generator).0 (record driver { generator = (pcg32 driver.generator).1 })).losses
