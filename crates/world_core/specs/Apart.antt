-- What stands apart at a verb: all that it leaves as it was, and that what its actor makes of it depends on the actor and on
-- the answer alone.
use Rattle.std.specs.Prelude.{◌≡◌, ◌≢◌, ℕ, Bool, true, ◌++◌, length, map, Some}
use Rattle.machine.specs.Client.{after, told}
use Rattle.machine.specs.Joining as joinings
use Rattle.machine.specs.Recovery as recoveries
use Rattle.machine.specs.Settling as settlings
use Rattle.machine_world.specs.Events.{also_if, answer_of, is_recovered, joining_after, moments_of, recovery_after, settles_call, settling_after, verb_of, verb_of_task, with_task}
use Rattle.machine_world.specs.World.{Joins, Master, NoTask, Recovers, Settles, TaskState, World, client_at}
use Rattle.verb_words.specs.Applied.{answer_to}
use Rattle.verb_words.specs.Verb.{place_of}
use Rattle.verb_words.specs.Words.{word_at}
use Rattle.verb_words.specs.declared.verbs.Answer.{Answer}
use Rattle.verb_words.specs.declared.verbs.Place.{Place}
use Rattle.verb_words.specs.declared.verbs.Verb.{Verb}

-- no word of the nodes is another one now, but for the verb's
pub record ChangesOneWord (verb : Verb) (before now : World) : Type 0 where
  pub sizes : map length now.nodes ≡ map length before.nodes
  pub others : (place : Place) → place ≢ place_of verb → word_at now.nodes place ≡ word_at before.nodes place

-- a client's verb, which may be late, leads from one world to another: it changes no word but its own, no client but its own,
-- nothing of the master, and not who is stopped; the client and its moments follow from the client as it was and the answer
pub record StandsApart (late : Bool) (client : ℕ) (before now : World) : Type 0 where
  pub words : ChangesOneWord (verb_of before client) before now
  pub registered : length now.clients ≡ length before.clients
  pub others : (other : ℕ) → other ≢ client → client_at now other ≡ client_at before other
  pub master : now.master ≡ before.master
  pub own : client_at now client ≡ after (client_at before client) (answer_of late before client)
  pub trace : now.trace ≡ before.trace ++ moments_of (client_at before client) (told (client_at before client) (answer_of late before client))
  pub stopped : now.stopped ≡ before.stopped

-- the master after an answer to its task's verb
abbrev pub master_with : Master → TaskState → Answer → Master
master_with master NoTask answer = master
master_with master (Settles settling) answer =
    with_task master (settling_after (settlings.turn settling answer).state (settlings.turn settling answer).told)
master_with master (Recovers recovery) answer = record {
  task = recovery_after (recoveries.turn recovery answer).state (recoveries.turn recovery answer).told;
  won = also_if (recoveries.turn recovery answer).state.won recovery.client master.won;
  settled = also_if (settles_call recovery.stage answer) recovery.client master.settled;
  recovered = also_if (is_recovered (recoveries.turn recovery answer).told) recovery.client master.recovered;
}
master_with master (Joins joining) answer =
    with_task master (joining_after (joinings.turn joining answer).state (joinings.turn joining answer).told)

abbrev pub master_after : Master → Answer → Master
master_after master answer = master_with master master.task answer

-- a verb of the master leads from one world to another: it is that of the task, and changes no word but its own, no client, not
-- the trace, and not who is stopped; the master follows from the master as it was and the answer
pub record MasterStandsApart (before now : World) : Type 0 where
  pub verb : Verb
  pub is : verb_of_task before.master.task ≡ Some verb
  pub words : ChangesOneWord verb before now
  pub clients : now.clients ≡ before.clients
  pub own : now.master ≡ master_after before.master (answer_to before.nodes verb true)
  pub trace : now.trace ≡ before.trace
  pub stopped : now.stopped ≡ before.stopped
