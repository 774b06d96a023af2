use Rattle.std.proofs.Common.{subst}
use Rattle.script_meaning.specs.Shown.{count_lines}
use Rattle.script_run.specs.Written.{Writes}
use Rattle.script_text.specs.OutputText.{text_of}
use Rattle.script_run.proofs.printing.write_division.Goals as goal

pub returns-clause-written : goal.returns-clause-written
returns-clause-written g c =
    subst (λ division. Writes g.K.Sink.held g.K.Sink.faults c.args.sink.now c.write_lines.new.sink c.write_lines.result (text_of (count_lines division))) c.division-division.ensures c.write_lines.ensures.written
