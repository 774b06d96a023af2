-- A settling is over exactly where it has opened a view.
use Rattle.std.proofs.Common.{◌≡◌, ℕ, zero, suc, ◌+◌, Bool, true, false, [], ◌∷◌, if◌then◌else◌, refl, sym, ap, subst}
use Rattle.std.specs.Prelude.{not}
use Rattle.std.specs.List.{list_any}
use Rattle.std.specs.Option.{option_map_or}
use Rattle.machine.specs.Settling as settlings
use Rattle.machine.specs.Settling.{Settling, settling_of}
use Rattle.machine.specs.declared.settling.Settled.{Settled}
use Rattle.machine.specs.declared.settling.Settled.TheVariants as settled
use Rattle.machine_world.specs.Events.{client_bits, happens, settling_after, work_of, works_on}
use Rattle.machine_world.specs.Refusals.{of_work}
use Rattle.machine_world.specs.World.{Joins, NoTask, Recovers, Settles, TaskState, World}
use Rattle.machine_world.specs.declared.events.Event.TheVariants as event
use Rattle.machine_world.specs.declared.events.Task.TheVariants as task
use Rattle.script_meaning.specs.Lines as script
use Rattle.script_meaning.specs.Lines.{Ran, followed_by, is_settling, line_of_settling, most_verbs, prints, says_refused, takes, takes_up_to, told_line, verb_lines}
use Rattle.sim_meaning.specs.Driver.{Driver, has_task, settles}
use Rattle.sim_meaning.specs.Told.{tells_opening}
use Rattle.verb_words.specs.Applied.{answer_to}

-- the master has a task exactly where no line tells of an opening
abbrev pub GoesOn : Ran → Type 0
GoesOn ran = has_task ran.world.master.task ≡ not (list_any tells_opening ran.lines)

-- the world after one verb of a task, and what follows
abbrev pub verb_and_rest : World → TaskState → (World → Ran) → Ran
verb_and_rest world task goes_on =
    followed_by
    (record {
      world = option_map_or (λ reason. world) (of_work task) (works_on world task);
      events = event.Work ∷ [];
      lines = verb_lines false (work_of world task);
    })
    (λ now. option_map_or (λ told. prints now (told ∷ [])) (told_line world (work_of world task)) (goes_on now))

takes-goes_on : (left taken : ℕ) (world : World) (settling : Settling) → world.master.task ≡ Settles settling → GoesOn (takes false event.Work taken left world)
unfolding takes
takes-goes_on zero taken world settling is = ap has_task is
takes-goes_on (suc left) taken world settling is =
    subst (λ task. GoesOn (verb_and_rest world task (takes false event.Work (taken + 1) left))) (sym is)
    (after (settlings.turn settling (answer_to world.nodes (settlings.next settling) true)).told (settlings.turn settling (answer_to world.nodes (settlings.next settling) true)).state
    (works_on world (Settles settling)) refl (takes-goes_on left (taken + 1)))
  where
    after : (told : Settled) (state : Settling) (now : World) → now.master.task ≡ settling_after state told
        → ((later : World) (goes : Settling) → later.master.task ≡ Settles goes → GoesOn (takes false event.Work (taken + 1) left later))
        → GoesOn (option_map_or (λ line. prints now (line ∷ [])) (line_of_settling told) (takes false event.Work (taken + 1) left now))
    after settled.Going state now is rest = rest now state is
    after (settled.Opened word) state now is rest = ap has_task is
    after (settled.NotYet client begin) state now is rest = ap has_task is

takes_up_to-goes_on : (world : World) (settling : Settling) → world.master.task ≡ Settles settling → GoesOn (takes_up_to most_verbs false event.Work world)
takes_up_to-goes_on world settling is =
    subst (λ task. GoesOn (option_map_or (says_refused world) (of_work task) (takes false event.Work 0 most_verbs world))) (sym is)
    (takes-goes_on most_verbs 0 world settling is)

settling_in : (world : World) (task : TaskState) → is_settling world task ≡ true → (settling : Settling) × (task ≡ Settles settling)
settling_in world NoTask is = absurd cc
settling_in world (Settles settling) is = (settling, refl)
settling_in world (Recovers recovery) is = absurd cc
settling_in world (Joins joining) is = absurd cc

settles-goes_on : (world : World) → GoesOn (script.settles false world)
settles-goes_on world = cases (is_settling world world.master.task) refl
  where
    cases : (under_way : Bool) → is_settling world world.master.task ≡ under_way
        → GoesOn (if under_way then takes_up_to most_verbs false event.Work world else script.works_on false world task.Settle)
    cases true is = let goes = settling_in world world.master.task is in takes_up_to-goes_on world goes.0 goes.1
    cases false is =
        takes_up_to-goes_on (happens world (event.Choose task.Settle)) (settling_of world.shape (client_bits world.stopped)) refl

pub settles-opened : (driver : Driver) → (settles driver).driver.settling ≡ not (list_any tells_opening (script.settles false driver.world).lines)
settles-opened driver = settles-goes_on driver.world
