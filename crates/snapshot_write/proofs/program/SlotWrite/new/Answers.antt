use Rattle.std.proofs.Common.{rules}
use Rattle.snapshot_write.proofs.StateLemmas.{begun-held}
use Rattle.snapshot_write.proofs.ViewLemmas.{IsView-of}
use Rattle.snapshot_write.proofs.program.SlotWrite.new.Goals as goal

pub invariant_of-result : goal.invariant_of-result
invariant_of-result c =
    rw c.new.ensures (begun-held c.args.view c.args.slot c.args.expect c.args.fresh _ (IsView-of c.args.view (search rules) (search rules)) c.requires.slot c.slot_places-places.ensures)
