use Rattle.script_meaning.specs.Lines.{makes}
use Rattle.script_text.specs.OutputText.{text_of}
use Rattle.trace_audit.specs.Told.{call_of}
use Rattle.script_run.proofs.LeftLemmas.{starves}
use Rattle.script_run.proofs.lines.make.Goals as goal

pub returns-in-Err-clause-written : goal.returns-in-Err-clause-written
returns-in-Err-clause-written g c = starves (g.K.Sink.held c.args.sink.now) (text_of (makes c.args.shows c.args.world.now c.args.client (call_of c.args.call)).lines)
