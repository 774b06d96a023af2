use Rattle.std.proofs.Common.{◌≡◌, ◌∙◌, ap, false, subst}
use Rattle.machine_world.specs.World.{first_world}
use Rattle.script_meaning.specs.Scripts.{rendered, runs}
use Rattle.script_run.specs.Written.{Writes}
use Rattle.script_text.specs.OutputText.{text_of}
use Rattle.script_run.proofs.running.run_script.Goals as goal

pub returns-clause-written : goal.returns-clause-written
returns-clause-written g c =
    let world = c.in_ok-world.ensures ∙ ap first_world c.pool_of.ensures in
    let lines = c.deref.ensures.value in
    let text : text_of (runs c.deref.result.now false c.in_ok-world.world).lines ≡ rendered c.args.script.now =
    λ i. text_of (runs (lines i) false (world i)).lines in
    subst (λ written. Writes g.K.Sink.held g.K.Sink.faults c.args.sink.now c.run_lines.new.sink c.run_lines.result written) text c.run_lines.ensures.written
