use Rattle.std.proofs.Common.{ap, subst, ◌∙◌}
use Rattle.script_meaning.specs.Shown.{shown_actor}
use Rattle.script_run.specs.Written.{Writes}
use Rattle.script_text.specs.OutputText.{is_verb, line_text}
use Rattle.script_run.proofs.LineLemmas.{is_verb-verb_line}
use Rattle.script_run.proofs.verbs.write_seen.Goals as goal

pub returns-clause-written : goal.returns-clause-written
returns-clause-written g c =
    let seen = c.args.seen in
    let of_verb = c.put_verb_line.ensures.verb ∙ ap is_verb c.shown_verb.ensures ∙ is_verb-verb_line (shown_actor seen.actor) seen.verb seen.answer in
    subst (λ bytes. Writes g.K.Sink.held g.K.Sink.faults c.args.sink.now c.write_all.new.sink c.write_all.result bytes)
    (c.as_slice.ensures.value ∙ c.put_verb_line.ensures.line of_verb ∙ ap line_text c.shown_verb.ensures) c.write_all.ensures.written
