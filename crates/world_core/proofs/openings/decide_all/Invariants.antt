use Rattle.std.proofs.Common.{◌≡◌, ℕ, length}
use Rattle.std.specs.Vec.Iter.{into_iter_items, into_iter_len}
use Rattle.world_core.specs.Openings.{AreRising, HasRoomFor, with_changes}
use Rattle.world_core.proofs.openings.decide_all.Given as goal

abbrev pub invariant-loop-change : goal.invariant-loop-change
invariant-loop-change l = record {
  room : HasRoomFor l.ledger (into_iter_items l.change-iterator);
  rising : (least : ℕ) × AreRising least (into_iter_items l.change-iterator);
  left : into_iter_len l.change-iterator ≡ length (into_iter_items l.change-iterator);
  rest : with_changes l.shape l.event (into_iter_items l.change-iterator) l.ledger.ledger ≡ with_changes l.shape l.event l.fn.changes.items l.fn.ledger.ledger;
}
