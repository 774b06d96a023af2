use Rattle.std.proofs.Common.{◌≡◌, drop}
use Rattle.world_core.specs.Openings.{has_stock, with_takings}
use Rattle.world_core.proofs.openings.note_takings.Given as goal

abbrev pub invariant-loop-place : goal.invariant-loop-place
invariant-loop-place l =
    with_takings l.shape (has_stock l.shape l.nodes l.settled) (drop l.place l.clients) (drop l.place l.stock) l.ledger.ledger
    ≡ with_takings l.shape (has_stock l.shape l.nodes l.settled) l.clients l.stock l.fn.ledger.ledger
