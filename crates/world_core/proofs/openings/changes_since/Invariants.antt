use Rattle.std.proofs.Common.{◌≡◌, [], slice_index}
use Rattle.std.specs.List.{range_with_len}
use Rattle.machine_world.specs.Ledger.{caller_in}
use Rattle.machine_world.specs.Readings.{deciding_word}
use Rattle.world_core.specs.Openings.{changes_of, opening_world}
use Rattle.world_core.proofs.openings.changes_since.Given as goal

abbrev pub invariant-loop-slot : goal.invariant-loop-slot
invariant-loop-slot l =
    l.changes.items
    ≡ changes_of (slice_index l.words) (deciding_word l.shape l.nodes) (caller_in (opening_world l.shape [] l.clients l.settled 0) l.nodes) (range_with_len 0 l.slot)
