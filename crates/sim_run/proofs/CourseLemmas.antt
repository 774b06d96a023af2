-- The course of a simulation, piece by piece.
use Rattle.std.proofs.Common.{◌≡◌, ℕ, zero, suc, ◌+◌, ◌*◌, ◌-◌, ◌/◌, ◌^◌, ◌<◌, ◌≤◌, Bool, true, false, ◌&&◌, List, [], ◌∷◌, ◌++◌, length, Option, Some, None, if◌then◌else◌, refl, sym, ap, ◌∙◌, add_assoc, add-zero, arith}
use Rattle.std.proofs.Math.Nat.{mul_assoc, mul-le-mul}
use Rattle.std.specs.Prelude.{OnOk, Result, Ok, Err, is_none}
use Rattle.std.specs.List.{list_all, range_with_len}
use Rattle.std.specs.Option.{option_map_or}
use Rattle.machine_world.proofs.EventLemmas.{refused}
use Rattle.machine_world.specs.Refusals.{refusal}
use Rattle.machine_world.specs.Runs.{run_from}
use Rattle.machine.specs.Client.{is_idle}
use Rattle.machine_world.specs.World.{World, client_at}
use Rattle.map_model.specs.declared.calls.Call.{Call}
use Rattle.machine_world.specs.declared.events.Event.{Event}
use Rattle.machine_world.specs.declared.events.Event.TheVariants as event
use Rattle.machine_world.specs.declared.outcomes.Refused.{Refused}
use Rattle.rand_pcg.specs.Lcg.{Lcg}
use Rattle.rand_pcg.specs.Pcg.{pcg32}
use Rattle.region_view.specs.Sizes.{Sizes}
use Rattle.sim_plan.specs.Made.{seeded}
use Rattle.script_meaning.specs.Lines.{Ran, calls, comes, meaning, only_calls, says_refused, unless_refused}
use Rattle.script_text.specs.declared.out_lines.OutLine.{OutLine}
use Rattle.script_text.specs.declared.out_lines.OutLine.TheVariants as out
use Rattle.sim_meaning.proofs.CountLemmas.{IsWithin, registers-within}
use Rattle.sim_meaning.proofs.RoomLemmas.{run_from-counted}
use Rattle.sim_meaning.proofs.RunLemmas.{IsRun, acts-run, carried, followed, loses_if_due-run, recovers-run, registers-run, turn-run}
use Rattle.sim_meaning.proofs.VerbLemmas.{verbs_in-append}
use Rattle.sim_meaning.specs.Driver.{Driven, Driver, acts, awaits_recovery, carries_out, client_of, does, followed_by, invokes, is_over, is_through, loses_if_due, manages, most_turns, next_call, recovers, recovers_each, registers, rests, simulated_on, turn, turn_of, turns}
use Rattle.sim_meaning.specs.Summary.{is_verb, verbs_in}
use Rattle.sim_meaning.specs.declared.numbers.Numbers.{Numbers}
use Rattle.script_text.specs.declared.scripts.Line.TheVariants as line
use Rattle.sim_run.proofs.TakesLemmas.{counts-nothing, counts-one}
use Rattle.sim_run.specs.Counted.{Counted, NoneAwaits, after_event, counts, first_counted}
use Rattle.sim_run.specs.Course.{Course, first_course, goes}

pub on-ok : {T E P Q : Type 0} (result : Result T E) → (P → Q) → OnOk result P → OnOk result Q
on-ok (Ok value) f p = f p
on-ok (Err why) f p = tt

-- a course in which the world and its verbs are others
abbrev pub with_counted : Course → Counted → Course
with_counted course now = record { driver = record course.driver { world = now.world }; verbs = now.verbs }

abbrev pub counted_in : Course → Counted
counted_in course = record { world = course.driver.world; verbs = course.verbs }

-- nothing is done
pub goes-rests : (course : Course) → goes course (rests course.driver) ≡ course
unfolding verbs_in
goes-rests course = λ i. record { driver = course.driver; verbs = add-zero course.verbs i }

-- one thing is done after another
pub goes-followed : (course now : Course) (first : Driven) (rest : Driver → Driven) → IsRun course.driver first → now ≡ goes course first
    → goes course (followed_by first rest) ≡ goes now (rest now.driver)
goes-followed course now first rest is is_now =
    let next = rest first.driver in
    let count : course.verbs + verbs_in course.driver.world (first.events ++ next.events) ≡ (course.verbs + verbs_in course.driver.world first.events) + verbs_in first.driver.world next.events =
    ap (λ n. course.verbs + n) (verbs_in-append course.driver.world first.events next.events)
    ∙ sym (add_assoc course.verbs (verbs_in course.driver.world first.events) _)
    ∙ ap (λ world. (course.verbs + verbs_in course.driver.world first.events) + verbs_in world next.events) (sym is) in
    let both : goes course (followed_by first rest) ≡ goes (goes course first) next = λ i. record { driver = next.driver; verbs = count i } in
    both ∙ ap (λ (c : Course). goes c (rest c.driver)) (sym is_now)

-- what is carried out in the driver's world
pub goes-carried : (course : Course) (now : Counted) (ran : Ran) → now ≡ counts (counted_in course) ran → with_counted course now ≡ goes course (does course.driver ran)
goes-carried course now ran is = ap (with_counted course) is

-- an event that is no verb, and may be refused
pub counts-event : (before : Counted) (event : Event) (lines : List OutLine) → is_verb event ≡ false → counts before (unless_refused before.world event (comes before.world event lines)) ≡ after_event before event
counts-event before event lines none = by (refusal before.world event) refl
  where
    none_counted : (test other : Bool) → test ≡ false → before.verbs ≡ before.verbs + (if test then (if other then 1 else 0) else 0)
    none_counted test other is = rw is (sym (add-zero before.verbs))

    by : (reason : Option Refused) → refusal before.world event ≡ reason → counts before (unless_refused before.world event (comes before.world event lines)) ≡ after_event before event
    by None is = ap (λ reason. counts before (option_map_or (says_refused before.world) reason (comes before.world event lines))) is ∙ counts-one before event lines
    by (Some reason) is =
        ap (λ why. counts before (option_map_or (says_refused before.world) why (comes before.world event lines))) is
        ∙ counts-nothing before (says_refused before.world reason).lines
        ∙ (λ i. record { world = sym (refused before.world event reason is) i; verbs = none_counted (is_verb event) (is_none (refusal before.world event)) none i })

-- a test decides what is done
pub goes-if : (course now : Course) (test known : Bool) (one other : Driven) → test ≡ known → now ≡ goes course (if known then one else other) → now ≡ goes course (if test then one else other)
goes-if course now test known one other is done = done ∙ ap (λ t. goes course (if t then one else other)) (sym is)

-- Events.

-- how many events there are after what is done
pub goes-events : (course now : Course) (done : Driven) (most : ℕ) → IsRun course.driver done → IsWithin most done → now ≡ goes course done
    → now.driver.world.events ≤ course.driver.world.events + most
goes-events course now done most is few is_now =
    let counted : (run_from course.driver.world done.events).events ≤ course.driver.world.events + length done.events = run_from-counted course.driver.world done.events in
    let within : length done.events ≤ most = few in
    let same = ap (λ (c : Course). c.driver.world.events) is_now in
    let ran = ap (λ (world : World). world.events) is in
    omega (arith, counted, within, same, ran)

-- Registrations.

pub registers-none : (course : Course) (left : ℕ) → left ≡ 0 → goes course (registers left course.driver) ≡ course
unfolding registers
registers-none course left none = rw none (goes-rests course)

pub registers-one : (course : Course) (now : Counted) (left rest : ℕ) → 0 < left → rest ≡ left - 1 → now ≡ after_event (counted_in course) event.Register
    → goes course (registers left course.driver) ≡ goes (with_counted course now) (registers rest (with_counted course now).driver)
unfolding registers
registers-one course now zero rest more is is_now = absurd (omega arith)
registers-one course now (suc left) rest more is is_now =
    let one : rest ≡ left = omega (arith, is) in
    goes-followed course (with_counted course now) (carries_out course.driver line.Register) (registers left) (carried course.driver line.Register)
    (goes-carried course now (meaning false course.driver.world line.Register) (is_now ∙ sym (counts-event (counted_in course) event.Register (out.Client (length course.driver.world.clients) ∷ []) refl)))
    ∙ ap (λ n. goes (with_counted course now) (registers n (with_counted course now).driver)) (sym one)

-- Turns.

pub turns-none : (numbers : Numbers) (course : Course) (left : ℕ) → left ≡ 0 → goes course (turns numbers left course.driver) ≡ course
unfolding turns
turns-none numbers course left none = rw none (goes-rests course)

pub turns-over : (numbers : Numbers) (course : Course) (left : ℕ) → is_over numbers course.driver ≡ true → goes course (turns numbers left course.driver) ≡ course
unfolding turns
turns-over numbers course zero over = goes-rests course
turns-over numbers course (suc left) over = sym (goes-if course course (is_over numbers course.driver) true _ _ over (sym (goes-rests course)))

pub turns-one : (numbers : Numbers) (course now : Course) (left rest : ℕ) → 0 < left → rest ≡ left - 1 → is_over numbers course.driver ≡ false → now ≡ goes course (turn numbers course.driver)
    → goes course (turns numbers left course.driver) ≡ goes now (turns numbers rest now.driver)
unfolding turns
turns-one numbers course now zero rest more is over is_now = absurd (omega arith)
turns-one numbers course now (suc left) rest more is over is_now =
    let one : rest ≡ left = omega (arith, is) in
    ap (λ t. goes course (if t then rests course.driver else followed_by (turn numbers course.driver) (turns numbers left))) over
    ∙ goes-followed course now (turn numbers course.driver) (turns numbers left) (turn-run numbers course.driver) is_now
    ∙ ap (λ n. goes now (turns numbers n now.driver)) (sym one)

-- Ranges.

pub range-one : (from left rest : ℕ) → 0 < left → rest ≡ left - 1 → range_with_len from left ≡ from ∷ range_with_len (from + 1) rest
range-one from zero rest more is = absurd (omega arith)
range-one from (suc left) rest more is = let one : left ≡ rest = omega (arith, is) in ap (λ n. from ∷ range_with_len (from + 1) n) one

pub range-none : (from left : ℕ) → left ≡ 0 → range_with_len from left ≡ []
range-none from left none = rw none refl

-- Recoveries.

pub recovers-none : (clients : List ℕ) (course : Course) → NoneAwaits course.driver.world → goes course (recovers_each clients course.driver) ≡ course
recovers-none [] course none = goes-rests course
recovers-none (client ∷ clients) course none =
    goes-followed course course (recovers client course.driver) (recovers_each clients) (recovers-run client course.driver)
    (goes-if course course (awaits_recovery course.driver.world client) false _ _ (none client) (sym (goes-rests course)))
    ∙ recovers-none clients course none

pub recovers-left : (course : Course) (from left : ℕ) → left ≡ 0 → goes course (recovers_each (range_with_len from left) course.driver) ≡ course
recovers-left course from left none = ap (λ clients. goes course (recovers_each clients course.driver)) (range-none from left none) ∙ goes-rests course

pub recovers-one : (course now : Course) (from left rest : ℕ) → 0 < left → rest ≡ left - 1 → now ≡ goes course (recovers from course.driver)
    → goes course (recovers_each (range_with_len from left) course.driver) ≡ goes now (recovers_each (range_with_len (from + 1) rest) now.driver)
recovers-one course now from left rest more is is_now =
    ap (λ clients. goes course (recovers_each clients course.driver)) (range-one from left rest more is)
    ∙ goes-followed course now (recovers from course.driver) (recovers_each (range_with_len (from + 1) rest)) (recovers-run from course.driver) is_now

-- Clients that are through.

pub through-one : (numbers : Numbers) (world : World) (from left rest : ℕ) (test : Bool) → 0 < left → rest ≡ left - 1 → test ≡ is_through numbers world from
    → list_all (is_through numbers world) (range_with_len from left) ≡ (test && list_all (is_through numbers world) (range_with_len (from + 1) rest))
through-one numbers world from left rest test more is known =
    ap (list_all (is_through numbers world)) (range-one from left rest more is)
    ∙ ap (λ t. t && list_all (is_through numbers world) (range_with_len (from + 1) rest)) (sym known)

-- How many calls have to have returned before a loss.

pub due-at : (losses clients calls all parts : ℕ) → all ≡ clients * calls → (losses + 1) * all / (parts + 1) ≡ (losses + 1) * clients * calls / (parts + 1)
due-at losses clients calls all parts is = ap (λ n. n / (parts + 1)) (ap (λ n. (losses + 1) * n) is ∙ sym (mul_assoc (losses + 1) clients calls))

pub due-fits : (losses all : ℕ) → losses < 2 ^ 32 → all ≤ 100000 → (losses + 1) * all < 2 ^ 64
due-fits losses all few most =
    let one : losses + 1 ≤ 2 ^ 32 = omega arith in
    let both = mul-le-mul one most in
    omega (arith, both)

-- There is room for a turn more.

pub turn-room : (clients taken most each events : ℕ) → clients + most * each < 2 ^ 63 → taken < most → events ≤ clients + taken * each → events + each ≤ 2 ^ 63
turn-room clients taken most each events few more now =
    let next : taken + 1 ≤ most = omega arith in
    let both : (taken + 1) * each ≤ most * each = mul-le-mul next (refl-le each) in
    omega (arith, both, few, now)
  where
    refl-le : (n : ℕ) → n ≤ n
    refl-le n = omega arith

pub turn-events : (clients taken each before now : ℕ) → now ≤ before + each → before ≤ clients + taken * each → now ≤ clients + (taken + 1) * each
turn-events clients taken each before now more few = omega (arith, more, few)

pub recover-room : (before clients client events : ℕ) → before + clients * (2 ^ 32 + 1) ≤ 2 ^ 63 → 1 ≤ client → client < clients + 1 → events ≤ before + (client - 1) * (2 ^ 32 + 1) → events + (2 ^ 32 + 1) ≤ 2 ^ 63
recover-room before clients client events room least most few = omega (arith, room, least, most, few)

pub recover-events : (before client events now : ℕ) → 1 ≤ client → events ≤ before + (client - 1) * (2 ^ 32 + 1) → now ≤ events + (2 ^ 32 + 1) → now ≤ before + (client + 1 - 1) * (2 ^ 32 + 1)
recover-events before client events now least few more = omega (arith, least, few, more)

-- A turn, from the word that was drawn on.

abbrev pub drawn_from : Course → Lcg → Course
drawn_from before generator = record { driver = record before.driver { generator = generator }; verbs = before.verbs }

pub turn-pieces : (numbers : Numbers) (before acted lost now : Course) (word client : ℕ) (generator : Lcg) → (word, generator) ≡ pcg32 before.driver.generator → client ≡ client_of numbers word
    → acted ≡ goes (drawn_from before generator) (acts numbers word client (drawn_from before generator).driver)
    → lost ≡ goes acted (loses_if_due numbers acted.driver)
    → now ≡ goes lost (manages numbers lost.driver)
    → now ≡ goes before (turn numbers before.driver)
turn-pieces numbers before acted lost now word client generator drawn is_client is_acted is_lost is_now =
    let start = drawn_from before generator in
    let acting = acts numbers word client start.driver in
    let lost_so = is_lost ∙ sym (goes-followed start acted acting (loses_if_due numbers) (acts-run numbers word client start.driver) is_acted) in
    let run = followed start.driver acting (loses_if_due numbers) (acts-run numbers word client start.driver) (loses_if_due-run numbers) in
    is_now
    ∙ sym (goes-followed start lost (followed_by acting (loses_if_due numbers)) (manages numbers) run lost_so)
    ∙ ap (λ who. goes start (followed_by (followed_by (acts numbers word who start.driver) (loses_if_due numbers)) (manages numbers))) is_client
    ∙ ap (λ (p : ℕ × Lcg). goes before (turn_of numbers p.0 (record before.driver { generator = p.1 }))) drawn

-- Invocations.

abbrev called_if : Course → ℕ → Option Call → Driven
called_if before client next = option_map_or (λ call. does before.driver (only_calls before.driver.world client call)) next (rests before.driver)

pub invokes-none : (numbers : Numbers) (client : ℕ) (before : Course) → is_idle (client_at before.driver.world client) ≡ true → next_call numbers before.driver.world client ≡ None
    → before ≡ goes before (invokes numbers client before.driver)
invokes-none numbers client before idle none =
    goes-if before before (is_idle (client_at before.driver.world client)) true (called_if before client (next_call numbers before.driver.world client)) (rests before.driver) idle
    (sym (goes-rests before) ∙ ap (λ call. goes before (called_if before client call)) (sym none))

pub invokes-some : (numbers : Numbers) (client : ℕ) (before : Course) (call : Call) (now : Counted) → is_idle (client_at before.driver.world client) ≡ true → next_call numbers before.driver.world client ≡ Some call
    → now ≡ after_event (counted_in before) (event.Invoke client call) → with_counted before now ≡ goes before (invokes numbers client before.driver)
invokes-some numbers client before call now idle some is =
    goes-if before (with_counted before now) (is_idle (client_at before.driver.world client)) true (called_if before client (next_call numbers before.driver.world client)) (rests before.driver) idle
    (goes-carried before now (only_calls before.driver.world client call)
    (is ∙ sym (counts-event (counted_in before) (event.Invoke client call) (calls before.driver.world client call).lines refl))
    ∙ ap (λ next. goes before (called_if before client next)) (sym some))

-- The whole.

-- the course of a driver that has this world and generator, and has lost no node
abbrev pub course_from : Counted → Lcg → Course
course_from counted generator = record { driver = record { world = counted.world; generator = generator; losses = 0; settling = false }; verbs = counted.verbs }

pub started : (sizes : Sizes) (numbers : Numbers) (counted : Counted) (generator : Lcg) → counted ≡ first_counted sizes → generator ≡ seeded numbers.seed → course_from counted generator ≡ first_course sizes numbers
started sizes numbers counted generator is_counted is_generator = λ i. course_from (is_counted i) (is_generator i)

pub simulated-pieces : (sizes : Sizes) (numbers : Numbers) (start middle last : Course) → start ≡ first_course sizes numbers → middle ≡ goes start (registers numbers.clients start.driver)
    → last ≡ goes middle (turns numbers (most_turns numbers) middle.driver) → last ≡ goes (first_course sizes numbers) (simulated_on sizes numbers)
simulated-pieces sizes numbers start middle last is_start is_middle is_last =
    is_last
    ∙ sym (goes-followed start middle (registers numbers.clients start.driver) (turns numbers (most_turns numbers)) (registers-run numbers.clients start.driver) is_middle)
    ∙ ap (λ (course : Course). goes course (followed_by (registers numbers.clients course.driver) (turns numbers (most_turns numbers)))) is_start

pub registered-room : (sizes : Sizes) (numbers : Numbers) (start middle : Course) → start ≡ first_course sizes numbers → middle ≡ goes start (registers numbers.clients start.driver) → middle.driver.world.events ≤ numbers.clients
registered-room sizes numbers start middle is_start is_middle =
    let more = goes-events start middle (registers numbers.clients start.driver) numbers.clients (registers-run numbers.clients start.driver) (registers-within numbers.clients start.driver) is_middle in
    let none : start.driver.world.events ≡ 0 = ap (λ (course : Course). course.driver.world.events) is_start in
    omega (arith, more, none)
