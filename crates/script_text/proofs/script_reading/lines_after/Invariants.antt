use Rattle.std.proofs.Common.{◌≡◌, ◌+◌, ◌≤◌, [], length}
use Rattle.text_lines.specs.Lines.{lines_of}
use Rattle.script_text.specs.ScriptForm.{lines_after}
use Rattle.script_text.proofs.script_reading.lines_after.Given as goal

abbrev pub invariant-loop-spelled : goal.invariant-loop-spelled
invariant-loop-spelled l = record {
  read : lines_after [] l.fn.first (lines_of l.fn.text) ≡ lines_after l.lines.items l.number (lines_of l.rest);
  counted : l.number + length l.rest ≤ l.fn.first + length l.fn.text;
}

abbrev pub decreases-loop-spelled : goal.decreases-loop-spelled
decreases-loop-spelled l = length l.rest
