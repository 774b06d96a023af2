use Rattle.machine_world.specs.declared.events.Event.TheVariants as event
use Rattle.machine_world.proofs.EventLemmas.{occurred, verb-occurred}
use Rattle.machine_world.proofs.laws.events_make_the_world.Goals as goal

pub returns-clause-register : goal.returns-clause-register
returns-clause-register c world = occurred world event.Register

pub returns-clause-invoke : goal.returns-clause-invoke
returns-clause-invoke c world client call = occurred world (event.Invoke client call)

pub returns-clause-verb : goal.returns-clause-verb
returns-clause-verb c = verb-occurred

pub returns-clause-stop : goal.returns-clause-stop
returns-clause-stop c world client = occurred world (event.Stop client)

pub returns-clause-lose : goal.returns-clause-lose
returns-clause-lose c world node = occurred world (event.Lose node)

pub returns-clause-fill : goal.returns-clause-fill
returns-clause-fill c world node word = occurred world (event.Fill node word)

pub returns-clause-choose : goal.returns-clause-choose
returns-clause-choose c world task = occurred world (event.Choose task)

pub returns-clause-work : goal.returns-clause-work
returns-clause-work c world = occurred world event.Work
