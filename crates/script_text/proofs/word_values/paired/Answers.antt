use Rattle.std.proofs.lemmas.List.{take_rest}
use Rattle.script_text.proofs.WordValueLemmas.{next_pair, paired_step}
use Rattle.script_text.proofs.word_values.paired.Goals as goal

pub loop-rest-preserved : goal.loop-rest-preserved
loop-rest-preserved c =
    let next = next_pair c.loop-rest.rest.now c.loop-rest.invariant.left c.loop-rest-test.true in
    let step = paired_step c.loop-rest.bytes.items c.push.new.self.items c.loop-rest.rest.now _ _ c.digit_of.result c.digit_of-in-loop-rest.result next (take_rest c.loop-rest.rest.now 2) c.digit_of.ensures.value c.digit_of-in-loop-rest.ensures.value c.in_ok-push.ensures.items c.loop-rest.invariant.made in
    record { made = step.0; left = step.1 }
