use Rattle.machine_world.proofs.EventLemmas.{refused}
use Rattle.machine_world.proofs.laws.refused_events_change_nothing.Goals as goal

pub returns : goal.returns
returns c = refused
