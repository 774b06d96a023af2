use Rattle.std.proofs.Common.{[], ◌*◌, length, slice_index, subst, sym, ◌∙◌, arith}
use Rattle.machine_world.specs.Ledger.{caller_in}
use Rattle.machine_world.specs.Readings.{deciding_word}
use Rattle.world_core.proofs.OpeningLemmas.{changes_below}
use Rattle.world_core.specs.Openings.{AreBelow, opening_world}
use Rattle.world_core.proofs.openings.changes_with_room.Goals as goal

pub make_room-requires : goal.make_room-requires
make_room-requires c =
    let before = slice_index c.args.words.now in
    let now = deciding_word c.args.shape.now c.args.nodes.now in
    let caller = caller_in (opening_world c.args.shape.now [] c.args.clients.now c.args.settled.now 0) c.args.nodes.now in
    let slots = length c.args.ledger.now.ledger.decided in
    subst (AreBelow slots) (sym (c.deref.ensures.value ∙ c.in_ok-changes.ensures)) (changes_below before now caller 0 (24 * c.args.shape.now.groups) slots (omega (arith, c.requires.slots)))
