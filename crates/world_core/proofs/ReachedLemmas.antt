-- The worlds that runs lead to: the first, and the one after each event.
use Rattle.std.proofs.Common.{◌≡◌, ℕ, List, [], ◌∷◌, ◌++◌, refl, sym, ap, subst, ◌∙◌, None}
use Rattle.machine_world.specs.Events.{happens, occurs}
use Rattle.machine_world.specs.Refusals.{refusal}
use Rattle.machine_world.specs.Standing.{StandsWell}
use Rattle.machine.specs.Stage.{Client}
use Rattle.machine_world.specs.World.{Ledger, NoTask, World, first_ledger, first_world, nobody}
use Rattle.machine_world.specs.declared.events.Event.{Event}
use Rattle.machine_world.proofs.RunLemmas.{run-more, run-none}
use Rattle.machine_world.proofs.StandingLemmas.{run-stands}
use Rattle.map_model.specs.Trace.{Moment}
use Rattle.region_view.specs.Opening.{first_words_of}
use Rattle.region_view.specs.Sizes.{IsWithinLimits, Sizes}
use Rattle.world_core.specs.Reached.{IsReached, IsRun}

pub reached-stands : (world : World) → IsReached world → StandsWell world
reached-stands world reached = subst StandsWell reached.is (run-stands reached.sizes reached.events reached.limits)

run-from : (world : World) → IsReached world → IsRun world
run-from world reached = record { reached = reached; stands = reached-stands world reached }

first_world-run : (sizes : Sizes) → IsWithinLimits sizes → IsRun (first_world sizes)
first_world-run sizes limits = run-from (first_world sizes) (record { sizes = sizes; limits = limits; events = []; is = run-none sizes })

-- the same of what the opening is made of
pub opened-run : (sizes : Sizes) (nodes : List (List ℕ)) (clients : List Client) (won settled recovered stopped : List ℕ) (trace : List Moment) (ledger : Ledger)
    → IsWithinLimits sizes → nodes ≡ first_words_of sizes → clients ≡ [] → won ≡ [] → settled ≡ [] → recovered ≡ [] → stopped ≡ [] → trace ≡ [] → ledger ≡ first_ledger sizes
    → IsRun (record {
      shape = sizes;
      nodes = nodes;
      clients = nobody sizes ∷ clients;
      master = record { task = NoTask; won = won; settled = settled; recovered = recovered };
      stopped = stopped;
      trace = trace;
      ledger = ledger;
      events = 0;
    })
opened-run sizes nodes clients won settled recovered stopped trace ledger limits words none no_won no_settled no_recovered no_stopped no_trace no_past =
    subst IsRun (sym (λ i. record {
      shape = sizes;
      nodes = words i;
      clients = nobody sizes ∷ none i;
      master = record { task = NoTask; won = no_won i; settled = no_settled i; recovered = no_recovered i };
      stopped = no_stopped i;
      trace = no_trace i;
      ledger = no_past i;
      events = 0;
    })) (first_world-run sizes limits)

happens-reached : (world : World) (event : Event) → IsReached world → IsReached (happens world event)
happens-reached world event reached = record {
  sizes = reached.sizes;
  limits = reached.limits;
  events = reached.events ++ event ∷ [];
  is = run-more reached.sizes reached.events event ∙ ap (λ now. happens now event) reached.is;
}

-- an event that is not refused
pub happens-occurs : (world : World) (event : Event) → refusal world event ≡ None → happens world event ≡ occurs world event
happens-occurs world event none = rw none refl

pub occurs-run : (world : World) (event : Event) → refusal world event ≡ None → IsRun world → IsRun (occurs world event)
occurs-run world event none is = run-from (occurs world event) (subst IsReached (happens-occurs world event none) (happens-reached world event is.reached))
