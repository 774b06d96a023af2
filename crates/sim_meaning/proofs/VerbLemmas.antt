-- Verbs, counted event by event.
use Rattle.std.proofs.Common.{◌≡◌, ◌+◌, List, [], ◌∷◌, ◌++◌, sym, ap, ◌∙◌, add_assoc, zero-add}
use Rattle.machine_world.specs.Events.{happens}
use Rattle.machine_world.specs.Runs.{run_from}
use Rattle.machine_world.specs.World.{World}
use Rattle.machine_world.specs.declared.events.Event.{Event}
use Rattle.sim_meaning.specs.Summary.{verbs_at, verbs_in}

pub verbs_in-append : (world : World) (events more : List Event) → verbs_in world (events ++ more) ≡ verbs_in world events + verbs_in (run_from world events) more
unfolding verbs_in run_from
verbs_in-append world [] more = sym (zero-add (verbs_in world more))
verbs_in-append world (event ∷ events) more =
    ap (λ n. verbs_at world event + n) (verbs_in-append (happens world event) events more)
    ∙ sym (add_assoc (verbs_at world event) (verbs_in (happens world event) events) (verbs_in (run_from (happens world event) events) more))
