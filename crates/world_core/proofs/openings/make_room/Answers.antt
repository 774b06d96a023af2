use Rattle.std.proofs.Common.{ap, ◌∙◌}
use Rattle.world_core.proofs.OpeningLemmas.{entry_room, rooms_more, rooms_of_all}
use Rattle.world_core.specs.Openings.{Change}
use Rattle.world_core.proofs.openings.make_room.Goals as goal

pub loop-change-preserved : goal.loop-change-preserved
loop-change-preserved c =
    let ensured = c.in_ok-reserve_decision.ensures in
    record {
      entries = entry_room c.loop-change.ledger c.reserve_decision.new.self _ ensured.ledger ensured.entries c.loop-change.invariant.entries;
      decisions = rooms_more c.loop-change.ledger c.reserve_decision.new.self c.args.changes.now c.loop-change.change-index c.change.inside.slot c.change-item.result ensured.ledger ensured.more (ap (λ (change : Change). change.slot) c.change.view_is) ensured.room c.loop-change-test.true c.change-item.is c.loop-change.invariant.decisions;
      same = ensured.ledger ∙ c.loop-change.invariant.same;
    }

pub returns-clause-room : goal.returns-clause-room
returns-clause-room c =
    rooms_of_all c.loop-change.ledger c.args.changes.now c.loop-change.change-index c.loop-change-test.false c.loop-change.invariant.entries c.loop-change.invariant.decisions
