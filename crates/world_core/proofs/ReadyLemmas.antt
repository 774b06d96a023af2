-- What an event that is not refused may count on.
use Rattle.std.proofs.Common.{◌≡◌, ℕ, ◌-◌, ◌<◌, ◌≤◌, Bool, true, false, List, ◌∷◌, length, None, sym, ap, subst, arith}
use Rattle.machine.specs.Client.{is_idle}
use Rattle.machine.specs.Stage.{Client}
use Rattle.machine_world.specs.Events.{verb_event}
use Rattle.machine_world.specs.Refusals.{of_late, refusal}
use Rattle.machine_world.specs.World.{World, client_at, nobody}
use Rattle.machine_world.proofs.StandingLemmas.{verb_of-place}
use Rattle.world_core.specs.Reached.{IsRun}
use Rattle.world_core.specs.Steps.{CanStep, IsReady, client_in}
use Rattle.world_core.proofs.ActLemmas.{own-client}
use Rattle.world_core.proofs.AllowedLemmas.{step-allowed}
use Rattle.world_core.proofs.KeptLemmas.{reached-keeps}

pub run-ready : (world : World) → IsRun world → IsReady world.shape world.nodes world.ledger
run-ready world is =
    let kept = reached-keeps world is.reached in
    record { whole = is.stands.words; slots = kept.decided; ranks = kept.ranks }

-- a client whose verb is not refused is registered, and inside a call
pub verb-allowed : (late : Bool) (world : World) (client : ℕ) → refusal world (verb_event late client) ≡ None
    → (1 ≤ client) × (client < length world.clients) × (is_idle (client_at world client) ≡ false)
verb-allowed true world client none = step-allowed world client (of_late world client) none
verb-allowed false world client none = step-allowed world client None none

pub run-can_step : (late : Bool) (world : World) (clients : List Client) (client : ℕ) → IsRun world → refusal world (verb_event late client) ≡ None → world.clients ≡ nobody world.shape ∷ clients
    → CanStep world.shape world.nodes (client_in world.shape clients (client - 1))
run-can_step late world clients client is none all =
    let known = verb-allowed late world client none in
    let kept = reached-keeps world is.reached in
    let member = (is.stands.each client known.0 known.1).member in
    let here : CanStep world.shape world.nodes (client_at world client) = record {
      shape = member.same_shape;
      place = verb_of-place world client is.stands known.0 known.1;
      object = kept.objects client known.0 known.1 known.2;
    } in
    subst (CanStep world.shape world.nodes) (sym (own-client world clients client all known.0)) here

pub run-within : (late : Bool) (world : World) (clients : List Client) (client : ℕ) → refusal world (verb_event late client) ≡ None → world.clients ≡ nobody world.shape ∷ clients
    → (1 ≤ client) × (client - 1 < length clients)
run-within late world clients client none all =
    let known = verb-allowed late world client none in
    (known.0, omega (arith, known.0, known.1, ap length all))
