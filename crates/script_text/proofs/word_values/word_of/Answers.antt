use Rattle.std.proofs.Common.{sym, ◌∙◌, ap, Some}
use Rattle.script_text.proofs.WordValueLemmas.{word_of-count, word_of-digits}
use Rattle.script_text.proofs.word_values.word_of.Goals as goal

pub returns-then-word-ne-WORD_DIGITS : goal.returns-then-word-ne-WORD_DIGITS
returns-then-word-ne-WORD_DIGITS c = sym (word_of-count c.args.word.now c.if-word-ne-WORD_DIGITS.true)

pub returns-then-not-are_hex_digits : goal.returns-then-not-are_hex_digits
returns-then-not-are_hex_digits c = sym (word_of-digits c.args.word.now _ c.if-word-ne-WORD_DIGITS.false (sym c.are_hex_digits.ensures ∙ c.if-not-are_hex_digits.true))

pub returns : goal.returns
returns c = ap (λ value. Some value) c.value_of.ensures ∙ sym (word_of-digits c.args.word.now _ c.if-word-ne-WORD_DIGITS.false (sym c.are_hex_digits.ensures ∙ c.if-not-are_hex_digits.false))
