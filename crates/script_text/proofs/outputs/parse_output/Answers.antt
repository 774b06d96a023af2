use Rattle.std.proofs.Common.{sym, ◌∙◌, arith}
use Rattle.script_text.proofs.OutputLemmas.{read_more, read_whole}
use Rattle.script_text.proofs.ShapeLemmas.{output_of-shape}
use Rattle.script_text.proofs.outputs.parse_output.Goals as goal

pub loop-line-preserved : goal.loop-line-preserved
loop-line-preserved c = record {
  read = read_more _ c.loop-line.lines.items c.push.new.self.items c.loop-line.number c.loop-line.stage c.in-Some-stage_after.next _ _ _ c.in_ok-out.out c.loop-line.invariant.read c.in-Some.ensures.parts c.in_ok-out.ensures c.in-Some-stage_after.ensures c.in_ok-push.ensures.items;
  number = omega (arith, c.loop-line.invariant.number, c.in-Some.ensures.shorter);
  count = omega (arith, c.loop-line.invariant.count, c.in_ok-push.ensures.len);
}

pub returns-clause-shape : goal.returns-clause-shape
returns-clause-shape c =
    output_of-shape c.args.text.now c.loop-line.lines.items
    (read_whole _ _ c.loop-line.number c.loop-line.stage _ c.loop-line.invariant.read c.in_default.ensures (sym c.is_closed.ensures ∙ c.if-not-is_closed.false))
