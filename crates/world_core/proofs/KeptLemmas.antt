-- What holds of every reached world.
use Rattle.std.proofs.Common.{◌≡◌, ℕ, ◌-◌, ◌<◌, ◌≤◌, get_or, true, length, Option, Some, None, refl, ap, subst, arith}
use Rattle.std.specs.List.{sum_by}
use Rattle.std.specs.Prelude.{slice_get}
use Rattle.std.proofs.lemmas.Bool.Decides.{nat_tests}
use Rattle.std.proofs.lemmas.List.{get_or_default}
use Rattle.std.proofs.lemmas.List.Sums.{sum_by-le}
use Rattle.std.proofs.lemmas.Nat.{mul-le}
use Rattle.std.proofs.lemmas.Option.{get_or_from_slice_get}
use Rattle.machine.specs.Stage.{Client}
use Rattle.machine_world.specs.Ledger.{decided_at, winner_rank}
use Rattle.machine_world.specs.Standing.{StandsWell}
use Rattle.machine_world.specs.World.{Decided, World, client_at, nobody}
use Rattle.machine_world.proofs.StandingLemmas.{run-stands}
use Rattle.world_core.proofs.CallCountLemmas.{calls_ended, calls_ended-most}
use Rattle.world_core.proofs.CallStepLemmas.{object-named}
use Rattle.world_core.proofs.CountedLemmas.{IsCounted, run-counted}
use Rattle.world_core.proofs.Keeping.{IsKept}
use Rattle.world_core.proofs.LedgerLemmas.{beaten_at, no_decision}
use Rattle.world_core.specs.Reached.{IsReached, IsRun}
use Rattle.world_ledger.specs.Kept.{has_rank}

-- the calls of all clients together are fewer than the ranks before a winner
few_calls : (world : World) → StandsWell world → IsCounted world → sum_by calls_ended world.clients < winner_rank
unfolding client_at
few_calls world stands counted =
    let most = mul-le (length world.clients) world.shape.calls 65 16777215 (omega (arith, stands.few, stands.limits.clients)) (omega (arith, stands.limits.calls)) in
    omega (arith, sum_by-le calls_ended world.shape.calls world.clients each, most)
  where
    each : (k : ℕ) (other : Client) → k < length world.clients → calls_ended (get_or world.clients k other) ≤ world.shape.calls
    each k other under =
        let same = get_or_default world.clients k other (nobody world.shape) under in
        omega (arith, ap calls_ended same, calls_ended-most (client_at world k), (counted.each k).most)

ranks-left : (world : World) (slot version : ℕ) → StandsWell world → IsCounted world → has_rank world.ledger (slot, version) ≡ true
ranks-left world slot version stands counted = by (slice_get (decided_at world.ledger slot) (version - 1)) refl
  where
    by : (found : Option Decided) → slice_get (decided_at world.ledger slot) (version - 1) ≡ found → has_rank world.ledger (slot, version) ≡ true
    by None none = rw none refl
    by (Some decided) some =
        let same : beaten_at world.ledger slot (version - 1) ≡ decided.beaten = ap (λ (d : Decided). d.beaten) (get_or_from_slice_get (decided_at world.ledger slot) (version - 1) decided no_decision some) in
        let below : decided.beaten < winner_rank = omega (arith, same, counted.beaten slot (version - 1), few_calls world stands counted) in
        rw some (grind (arith, nat_tests))

pub counted-kept : (world : World) → StandsWell world → IsCounted world → IsKept world
counted-kept world stands counted = record {
  decided = counted.decided;
  holders = counted.holders;
  reads = counted.reads;
  ranks = λ slot version. ranks-left world slot version stands counted;
  numbers = λ client least within. (counted.each client).most;
  objects = λ client least within busy. object-named world.shape client (client_at world client) (stands.each client least within) (counted.each client).object busy;
}

pub reached-counted : (world : World) → IsReached world → IsCounted world
reached-counted world reached = subst IsCounted reached.is (run-counted reached.sizes reached.events reached.limits)

pub run-keeps : (world : World) → IsRun world → IsKept world
run-keeps world is = counted-kept world is.stands (reached-counted world is.reached)

pub reached-keeps : (world : World) → IsReached world → IsKept world
reached-keeps world reached = counted-kept world (subst StandsWell reached.is (run-stands reached.sizes reached.events reached.limits)) (reached-counted world reached)
