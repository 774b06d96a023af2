use Rattle.std.proofs.Common.{◌≡◌, ◌+◌, ◌≤◌, length, vec_len}
use Rattle.text_lines.specs.Lines.{lines_of}
use Rattle.script_text.specs.OutputRead.{output_of, read_from, led_by_all}
use Rattle.script_text.proofs.outputs.parse_output.Given as goal

-- the text is read as what the rest of it makes of the lines so far and of the stage
abbrev pub invariant-loop-line : goal.invariant-loop-line
invariant-loop-line l = record {
  read : output_of l.fn.text ≡ led_by_all l.lines.items (read_from l.number l.stage (lines_of l.rest));
  number : l.number + length l.rest ≤ length l.fn.text + 1;
  count : l.number ≡ vec_len l.lines + 1;
}

abbrev pub decreases-loop-line : goal.decreases-loop-line
decreases-loop-line l = length l.rest
