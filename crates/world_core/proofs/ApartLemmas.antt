-- What a verb leaves as it was, of a client and of the master.
use Rattle.std.proofs.Common.{◌≡◌, ℕ, ◌<◌, Bool, true, length, None, refl, sym, ap, subst, length-set}
use Rattle.std.specs.Prelude.{not}
use Rattle.machine.specs.Client.{after}
use Rattle.machine.specs.Joining as joinings
use Rattle.machine.specs.Recovery as recoveries
use Rattle.machine.specs.Settling as settlings
use Rattle.machine_world.specs.Events.{acts, answer_of, happens, verb_event, verb_of, verb_of_task, works_on}
use Rattle.machine_world.specs.Refusals.{of_work, refusal}
use Rattle.machine_world.specs.World.{Joins, NoTask, Recovers, Settles, TaskState, World, client_at}
use Rattle.machine_world.specs.declared.events.Event.TheVariants as event
use Rattle.machine_world.proofs.EventLemmas.{acts-others, acts-own, verb-occurred, words_after-lengths, words_after-others}
use Rattle.verb_words.specs.Applied.{answer_to}
use Rattle.world_core.specs.Apart.{MasterStandsApart, StandsApart, master_with}
use Rattle.world_core.proofs.ReachedLemmas.{happens-occurs}
use Rattle.world_core.proofs.ReadyLemmas.{verb-allowed}

-- A client's verb.

acts-apart : (late : Bool) (world : World) (client : ℕ) → client < length world.clients → StandsApart late client world (acts late world client)
acts-apart late world client within = record {
  words = record {
    sizes = words_after-lengths world.nodes (verb_of world client) (not late);
    others = λ place differ. words_after-others world.nodes (verb_of world client) (not late) place differ;
  };
  registered = length-set world.clients client (after (client_at world client) (answer_of late world client));
  others = acts-others late world client;
  master = refl;
  own = acts-own late world client within;
  trace = refl;
  stopped = refl;
}

pub client-apart : (late : Bool) (world : World) (client : ℕ) → refusal world (verb_event late client) ≡ None
    → StandsApart late client world (happens world (verb_event late client))
client-apart late world client none =
    subst (λ now. StandsApart late client world now) (sym (verb-occurred late world client none))
    (acts-apart late world client (verb-allowed late world client none).1)

-- A verb of the master.

works_on-apart : (world : World) (task : TaskState) → world.master.task ≡ task → of_work task ≡ None → MasterStandsApart world (works_on world task)
works_on-apart world NoTask is none = absurd cc
works_on-apart world (Settles settling) is none = record {
  verb = settlings.next settling;
  is = ap verb_of_task is;
  words = record {
    sizes = words_after-lengths world.nodes (settlings.next settling) true;
    others = λ place differ. words_after-others world.nodes (settlings.next settling) true place differ;
  };
  clients = refl;
  own = sym (ap (λ task. master_with world.master task (answer_to world.nodes (settlings.next settling) true)) is);
  trace = refl;
  stopped = refl;
}
works_on-apart world (Recovers recovery) is none = record {
  verb = recoveries.next recovery;
  is = ap verb_of_task is;
  words = record {
    sizes = words_after-lengths world.nodes (recoveries.next recovery) true;
    others = λ place differ. words_after-others world.nodes (recoveries.next recovery) true place differ;
  };
  clients = refl;
  own = sym (ap (λ task. master_with world.master task (answer_to world.nodes (recoveries.next recovery) true)) is);
  trace = refl;
  stopped = refl;
}
works_on-apart world (Joins joining) is none = record {
  verb = joinings.next joining;
  is = ap verb_of_task is;
  words = record {
    sizes = words_after-lengths world.nodes (joinings.next joining) true;
    others = λ place differ. words_after-others world.nodes (joinings.next joining) true place differ;
  };
  clients = refl;
  own = sym (ap (λ task. master_with world.master task (answer_to world.nodes (joinings.next joining) true)) is);
  trace = refl;
  stopped = refl;
}

pub master-apart : (world : World) → refusal world event.Work ≡ None → MasterStandsApart world (happens world event.Work)
master-apart world none =
    subst (λ now. MasterStandsApart world now) (sym (happens-occurs world event.Work none))
    (works_on-apart world world.master.task refl none)
