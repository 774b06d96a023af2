use Rattle.std.proofs.Common.{◌≡◌, ap, refl, sym, ◌∙◌, None, [], false}
use Rattle.std.specs.Prelude.{not}
use Rattle.machine.specs.Client.{told}
use Rattle.machine_world.specs.Events.{moments_of}
use Rattle.verb_words.specs.Applied.{answer_to}
use Rattle.world_core.specs.Dues.{has_own_in_stock}
use Rattle.world_core.specs.Steps.{ledger_for}
use Rattle.world_core.proofs.StepLemmas.{IsNoted, ended-ends, ledger-noted, moments-told, searching-decides_nothing, searching-ends_nothing, swap_of, untaken, words_after-read}
use Rattle.world_core.proofs.steps.take_search_verb.Goals as goal

pub returns-clause-ledger : goal.returns-clause-ledger
returns-clause-ledger c =
    let actor = c.args.actor.now in
    let stage = actor.stage in
    let read = c.note_read.new.ledger.ledger in
    let noted : IsNoted c.args.shape.now c.args.nodes.now c.apply-answer.new.self c.args.event actor c.apply-answer.result c.args.ledger.now.ledger read = record {
      swap = None;
      is_swap = sym (ap swap_of (searching-decides_nothing stage c.requires.searches));
      decision = None;
      is_decision = refl;
      word = 0;
      is_word = refl;
      number = actor.client;
      is_number = refl;
      pointer = actor.object;
      is_pointer = refl;
      watches = false;
      stays = λ watches_not. ap (λ nodes. has_own_in_stock c.args.shape.now nodes actor) (sym (c.apply-answer.ensures.words ∙ words_after-read c.args.nodes.now c.place_to_read.result (not c.args.late)));
      was = false;
      is_was = refl;
      has = false;
      is_has = refl;
      read = read;
      reads = c.note_read.ensures.ledger;
      decided = read;
      decides = refl;
      takes = sym (untaken c.args.shape.now actor.client actor.object read);
    } in
    let ends = ended-ends actor c.apply-answer.result c.after_search-step.result c.after_search-step.ensures.ended in
    let ends_nothing = searching-ends_nothing stage c.requires.searches in
    let answers = c.apply-answer.ensures.answer ∙ ap (λ verb. answer_to c.args.nodes.now verb (not c.args.late)) c.place_to_read.ensures in
    ledger-noted c.args.shape.now c.args.nodes.now c.apply-answer.new.self c.args.event actor c.apply-answer.result c.after_search-step.result None
    c.args.ledger.now.ledger read read noted ends_nothing ends c.after_search-step.ensures.told refl
    ∙ ap (λ answer. ledger_for c.args.shape.now c.args.nodes.now c.apply-answer.new.self c.args.event actor answer c.args.ledger.now.ledger) answers

pub returns-clause-silent : goal.returns-clause-silent
returns-clause-silent c =
    let actor = c.args.actor.now in
    let ends = ended-ends actor c.apply-answer.result c.after_search-step.result c.after_search-step.ensures.ended in
    let answers = c.apply-answer.ensures.answer ∙ ap (λ verb. answer_to c.args.nodes.now verb (not c.args.late)) c.place_to_read.ensures in
    let silent : moments_of actor c.after_search-step.result ≡ [] = sym (moments-told actor None c.after_search-step.result (searching-ends_nothing actor.stage c.requires.searches) ends) in
    ap (moments_of actor) (sym (c.after_search-step.ensures.told ∙ ap (told actor) answers)) ∙ silent
