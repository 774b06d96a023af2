use Rattle.std.proofs.Common.{◌≡◌, ◌++◌, true, length}
use Rattle.script_text.specs.WordValue.{are_hex_digits, paired}
use Rattle.script_text.proofs.word_values.paired.Given as goal

abbrev pub invariant-loop-rest : goal.invariant-loop-rest
invariant-loop-rest l = record {
  made : l.bytes.items ++ paired l.rest ≡ paired l.fn.digits;
  left : are_hex_digits l.rest ≡ true;
}

abbrev pub decreases-loop-rest : goal.decreases-loop-rest
decreases-loop-rest l = length l.rest
