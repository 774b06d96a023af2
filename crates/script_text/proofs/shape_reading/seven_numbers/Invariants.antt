use Rattle.std.proofs.Common.{◌≡◌, ◌+◌, ◌++◌, length, take}
use Rattle.std.specs.Option.{option_map}
use Rattle.text_lines.specs.Words.{words_of}
use Rattle.script_text.specs.ShapeForm.{numbers_of}
use Rattle.script_text.proofs.shape_reading.seven_numbers.Given as goal

abbrev pub invariant-loop-number : goal.invariant-loop-number
invariant-loop-number l = record {
  left : length (words_of l.rest) + l.number-index ≡ 7;
  made : numbers_of (words_of l.words) ≡ option_map (λ more. take l.number-index l.number-items ++ more) (numbers_of (words_of l.rest));
}
