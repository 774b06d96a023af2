use Rattle.std.proofs.Common.{ap, ◌∙◌}
use Rattle.machine_world.specs.Events.{final_of_recovery}
use Rattle.machine_world.specs.Ledger.{caller_of, with_final}
use Rattle.world_core.proofs.StepLemmas.{decided-noted}
use Rattle.world_core.proofs.works.recover.Goals as goal

pub returns-clause-ledger : goal.returns-clause-ledger
returns-clause-ledger c =
    decided-noted c.args.shape.now c.args.nodes.now c.apply-answer.new.self c.args.event (caller_of c.args.actor.now) (final_of_recovery c.args.recovery.now.stage) c.final_swap.result c.in_ok-decision.decision
    c.word_to_replace-before.result c.make_room.new.ledger.ledger c.note_decision.new.ledger.ledger c.final_swap.ensures.swap c.in_ok-decision.ensures c.word_to_replace-before.ensures c.note_decision.ensures.ledger
    ∙ ap (with_final c.args.shape.now c.args.nodes.now c.apply-answer.new.self c.args.event (caller_of c.args.actor.now) (final_of_recovery c.args.recovery.now.stage)) c.make_room.ensures.ledger
