use Rattle.std.proofs.Common.{◌≡◌, ap, refl, sym, ◌∙◌, None, []}
use Rattle.std.specs.Prelude.{not}
use Rattle.machine.specs.Client.{told}
use Rattle.machine_world.specs.Events.{moments_of}
use Rattle.verb_words.specs.Applied.{answer_to}
use Rattle.world_core.specs.Steps.{ledger_for}
use Rattle.world_core.proofs.StepLemmas.{IsNoted, ended-ends, ledger-noted, moments-told, own_stays, swap_of}
use Rattle.world_core.proofs.steps.take_plain_verb.Goals as goal

pub returns-clause-ledger : goal.returns-clause-ledger
returns-clause-ledger c =
    let actor = c.args.actor.now in
    let noted : IsNoted c.args.shape.now c.args.nodes.now c.apply-answer.new.self c.args.event actor c.apply-answer.result c.args.ledger.now.ledger c.note_taking.new.self.ledger = record {
      swap = None;
      is_swap = sym (ap swap_of c.requires.decides);
      decision = None;
      is_decision = refl;
      word = 0;
      is_word = refl;
      number = c.client.result;
      is_number = c.client.ensures;
      pointer = c.object.result;
      is_pointer = c.object.ensures;
      watches = c.may_take-may_take.result;
      stays = λ may_not. own_stays c.args.shape.now c.args.nodes.now c.apply-answer.new.self actor c.next-verb.result (not c.args.late) c.place.result c.may_take-may_take.result
          c.place.ensures c.may_take-may_take.ensures c.apply-answer.ensures.words may_not;
      was = c.has_own_in_stock-was_in_stock.result;
      is_was = c.has_own_in_stock-was_in_stock.ensures;
      has = c.has_own_in_stock-is_in_stock.result;
      is_has = c.has_own_in_stock-is_in_stock.ensures;
      read = c.note_read.new.ledger.ledger;
      reads = c.note_read.ensures.ledger;
      decided = c.note_read.new.ledger.ledger;
      decides = refl;
      takes = c.note_taking.ensures.ledger;
    } in
    let ends = ended-ends actor c.apply-answer.result c.after-step.result c.after-step.ensures.ended in
    let answers = c.apply-answer.ensures.answer ∙ ap (λ verb. answer_to c.args.nodes.now verb (not c.args.late)) c.next-verb.ensures.verb in
    ledger-noted c.args.shape.now c.args.nodes.now c.apply-answer.new.self c.args.event actor c.apply-answer.result c.after-step.result None
    c.args.ledger.now.ledger c.note_taking.new.self.ledger c.note_taking.new.self.ledger noted c.requires.ends ends c.after-step.ensures.told refl
    ∙ ap (λ answer. ledger_for c.args.shape.now c.args.nodes.now c.apply-answer.new.self c.args.event actor answer c.args.ledger.now.ledger) answers

pub returns-clause-silent : goal.returns-clause-silent
returns-clause-silent c =
    let actor = c.args.actor.now in
    let ends = ended-ends actor c.apply-answer.result c.after-step.result c.after-step.ensures.ended in
    let answers = c.apply-answer.ensures.answer ∙ ap (λ verb. answer_to c.args.nodes.now verb (not c.args.late)) c.next-verb.ensures.verb in
    let silent : moments_of actor c.after-step.result ≡ [] = sym (moments-told actor None c.after-step.result c.requires.ends ends) in
    ap (moments_of actor) (sym (c.after-step.ensures.told ∙ ap (told actor) answers)) ∙ silent
