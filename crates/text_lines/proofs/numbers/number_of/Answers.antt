use Rattle.std.proofs.Common.{◌≡◌, length, sym, ◌∙◌, arith}
use Rattle.std.proofs.lemmas.Bool.Decides.{nat_tests}
use Rattle.text_lines.proofs.NumberLemmas.{number_of-digits, number_of-empty, number_of-long, number_of-other}
use Rattle.text_lines.proofs.numbers.number_of.Goals as goal

pub returns-then-is_empty : goal.returns-then-is_empty
returns-then-is_empty c = sym (number_of-empty c.args.word.now (grind (arith, nat_tests, c.is_empty.ensures, c.if-is_empty.true)))

pub returns-then-word-gt-MOST_DIGITS : goal.returns-then-word-gt-MOST_DIGITS
returns-then-word-gt-MOST_DIGITS c = sym (number_of-long c.args.word.now c.if-word-gt-MOST_DIGITS.true)

pub returns-then-not-are_digits : goal.returns-then-not-are_digits
returns-then-not-are_digits c =
    let some : length c.args.word.now ≡ 0 → ⊥ = grind (arith, nat_tests, c.is_empty.ensures, c.if-is_empty.false) in
    sym (number_of-other c.args.word.now some c.if-word-gt-MOST_DIGITS.false (sym c.are_digits.ensures ∙ c.if-not-are_digits.true))

pub returns : goal.returns
returns c =
    let some : length c.args.word.now ≡ 0 → ⊥ = grind (arith, nat_tests, c.is_empty.ensures, c.if-is_empty.false) in
    c.ok.ensures.value ∙ number_of-digits c.args.word.now c.value_of.result c.try_from.result some c.if-word-gt-MOST_DIGITS.false (sym c.are_digits.ensures ∙ c.if-not-are_digits.false) c.value_of.ensures c.try_from.ensures
