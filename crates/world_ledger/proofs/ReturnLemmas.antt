-- A return comes into the history as the world enters it.
use Rattle.std.proofs.Common.{◌≡◌, ℕ, Bool, List, refl}
use Rattle.machine.specs.Client.{own_object}
use Rattle.machine.specs.declared.client_call.Outcome.{Outcome}
use Rattle.machine.specs.declared.client_call.Outcome.TheVariants as outcome
use Rattle.machine.specs.Stage.{Client}
use Rattle.machine_world.specs.Ledger.{with_outcome, with_taking}
use Rattle.machine_world.specs.Readings.{is_in_stock}
use Rattle.machine_world.specs.World.{Ledger}
use Rattle.region_view.specs.Sizes.{Sizes}
use Rattle.world_ledger.specs.Kept.{with_taking_of}
use Rattle.world_ledger.specs.Returns.{returned_of, with_returned}

pub with_returned-outcome : (client : Client) (result : Outcome) (event : ℕ) (ledger : Ledger) → with_returned (returned_of client result) result event ledger ≡ with_outcome client result event ledger
with_returned-outcome client outcome.Done event ledger = refl
with_returned-outcome client outcome.Value event ledger = refl
with_returned-outcome client outcome.Absent event ledger = refl
with_returned-outcome client outcome.Full event ledger = refl
with_returned-outcome client (outcome.NoSpace class other begin) event ledger = refl

pub with_taking_of-taking : (sizes : Sizes) (before now : List (List ℕ)) (client : Client) (was is : Bool) (ledger : Ledger) → was ≡ is_in_stock sizes before (own_object client) → is ≡ is_in_stock sizes now (own_object client)
    → with_taking_of sizes client.client client.object was is ledger ≡ with_taking sizes before now client ledger
with_taking_of-taking sizes before now client was is ledger first second = λ i. with_taking_of sizes client.client client.object (first i) (second i) ledger
