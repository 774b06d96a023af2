use Rattle.std.proofs.Common.{◌≡◌, ◌∷◌, ◌+◌, length, ap, subst, sym, ◌∙◌, arith}
use Rattle.std.specs.Vec.Iter.{into_iter_items}
use Rattle.world_core.proofs.OpeningLemmas.{room_for_others}
use Rattle.world_core.specs.Openings.{AreRising, Change, HasRoomFor, with_changes}
use Rattle.world_core.proofs.openings.decide_all.Goals as goal

pub loop-change-preserved : goal.loop-change-preserved
loop-change-preserved c =
    let at = c.loop-change in
    let change : Change = record { slot = c.change.inside.slot; replaced = c.change.inside.replaced; caller = c.change.inside.caller } in
    let rest = into_iter_items c.next.new.self in
    let steps : into_iter_items at.change-iterator ≡ change ∷ rest = c.in-Some.ensures.steps.0 ∙ ap (λ (one : Change). one ∷ rest) (sym c.change.view_is) in
    let least = at.invariant.rising.0 in
    let rising = subst (AreRising least) steps at.invariant.rising.1 in
    record {
      room = room_for_others at.ledger c.decide.new.self change rest least (subst (HasRoomFor at.ledger) steps at.invariant.room) rising c.decide.ensures.rooms c.decide.ensures.entries c.decide.ensures.others;
      rising = (change.slot + 1, rising.1);
      left = let gone = c.in-Some.ensures.steps.1 in let short = at.invariant.left in let one = ap length steps in omega arith;
      rest = ap (with_changes c.args.shape.now c.args.event rest) c.decide.ensures.ledger
          ∙ ap (λ changes. with_changes c.args.shape.now c.args.event changes at.ledger.ledger) (sym steps)
          ∙ at.invariant.rest;
    }
