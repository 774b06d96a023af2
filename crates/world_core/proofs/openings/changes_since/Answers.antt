use Rattle.std.proofs.Common.{◌∙◌, [], slice_index, refl}
use Rattle.machine_world.specs.Ledger.{caller_in}
use Rattle.machine_world.specs.Readings.{deciding_word}
use Rattle.world_core.proofs.OpeningLemmas.{change_found, change_none}
use Rattle.world_core.specs.Openings.{opening_world}
use Rattle.world_core.proofs.openings.changes_since.Goals as goal
use Rattle.world_core.proofs.openings.changes_since.Goals.{then-replaced-word+in_ok-caller+in_ok-push, else-replaced-word}

pub loop-slot-preserved : goal.loop-slot-preserved
loop-slot-preserved c =
    let before = slice_index c.args.words.now in
    let now = deciding_word c.args.shape.now c.args.nodes.now in
    let caller = caller_in (opening_world c.args.shape.now [] c.args.clients.now c.args.settled.now 0) c.args.nodes.now in
    let slot = c.loop-slot.slot in
    let word = c.deciding_word-word.result in
    elim c.if-replaced-word.branch [
      | then-replaced-word+in_ok-caller+in_ok-push w ↦
          rw w.changes-is (w.in_ok-push.ensures.items ∙ change_found before now caller slot (before slot) word w.in_ok-caller.caller c.loop-slot.changes.items refl c.deciding_word-word.ensures w.if-replaced-word.true w.in_ok-caller.ensures c.loop-slot.invariant)
      | else-replaced-word w ↦
          rw w.changes-is (change_none before now caller slot (before slot) word c.loop-slot.changes.items refl c.deciding_word-word.ensures w.if-replaced-word.false c.loop-slot.invariant)
    ]
