use Rattle.std.proofs.Common.{◌≡◌, length, take}
use Rattle.world_ledger.specs.Kept.{HasEntryRoom}
use Rattle.world_core.specs.Openings.{HasDecisionRooms}
use Rattle.world_core.proofs.openings.make_room.Given as goal

abbrev pub invariant-loop-change : goal.invariant-loop-change
invariant-loop-change l = record {
  entries : HasEntryRoom l.ledger (length l.changes);
  decisions : HasDecisionRooms l.ledger (take l.change-index l.changes);
  same : l.ledger.ledger ≡ l.fn.ledger.ledger;
}
