use Rattle.std.proofs.Common.{◌≡◌, ◌++◌, map, take}
use Rattle.std.specs.Fmt.{decimal}
use Rattle.script_text.specs.OutputText.{spaced}
use Rattle.sim_run.proofs.summary.count_line.Given as goal

abbrev pub invariant-loop-number : goal.invariant-loop-number
invariant-loop-number l = l.text.items ≡ l.name ++ spaced (map decimal (take l.number-index l.numbers))
