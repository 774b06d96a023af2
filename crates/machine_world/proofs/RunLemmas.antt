-- Runs, one event more.
use Rattle.std.proofs.Common.{◌≡◌, ℕ, ◌+◌, List, [], ◌∷◌, ◌++◌, refl, sym, ap, ◌∙◌, add_assoc, zero-add, add-zero}
use Rattle.machine_world.specs.Events.{happens}
use Rattle.machine_world.specs.Runs.{run, run_from, verbs_at, verbs_from, verbs_taken}
use Rattle.machine_world.specs.World.{World, first_world}
use Rattle.machine_world.specs.declared.events.Event.{Event}
use Rattle.region_view.specs.Sizes.{Sizes}

pub run_from-append : (world : World) (events more : List Event) → run_from world (events ++ more) ≡ run_from (run_from world events) more
unfolding run_from
run_from-append world [] more = refl
run_from-append world (event ∷ events) more = run_from-append (happens world event) events more

run_from-one : (world : World) (event : Event) → run_from world (event ∷ []) ≡ happens world event
unfolding run_from
run_from-one world event = refl

pub run-none : (sizes : Sizes) → run sizes [] ≡ first_world sizes
unfolding run run_from
run-none sizes = refl

-- a run of one event more
pub run-more : (sizes : Sizes) (events : List Event) (event : Event) → run sizes (events ++ event ∷ []) ≡ happens (run sizes events) event
unfolding run
run-more sizes events event = run_from-append (first_world sizes) events (event ∷ []) ∙ run_from-one (run_from (first_world sizes) events) event

verbs_from-append : (world : World) (client : ℕ) (events more : List Event) → verbs_from world client (events ++ more) ≡ verbs_from world client events + verbs_from (run_from world events) client more
unfolding verbs_from run_from
verbs_from-append world client [] more = sym (zero-add (verbs_from world client more))
verbs_from-append world client (event ∷ events) more =
    ap (λ n. verbs_at world client event + n) (verbs_from-append (happens world event) client events more)
    ∙ sym (add_assoc (verbs_at world client event) (verbs_from (happens world event) client events) (verbs_from (run_from (happens world event) events) client more))

verbs_from-one : (world : World) (client : ℕ) (event : Event) → verbs_from world client (event ∷ []) ≡ verbs_at world client event
unfolding verbs_from
verbs_from-one world client event = add-zero (verbs_at world client event)

-- the verbs of a client in a run of one event more
pub verbs_taken-more : (sizes : Sizes) (client : ℕ) (events : List Event) (event : Event)
    → verbs_taken sizes client (events ++ event ∷ []) ≡ verbs_taken sizes client events + verbs_at (run sizes events) client event
unfolding verbs_taken run
verbs_taken-more sizes client events event =
    verbs_from-append (first_world sizes) client events (event ∷ [])
    ∙ ap (λ n. verbs_from (first_world sizes) client events + n) (verbs_from-one (run_from (first_world sizes) events) client event)
