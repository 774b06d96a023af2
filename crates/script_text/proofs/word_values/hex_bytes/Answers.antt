use Rattle.std.proofs.Common.{sym, ◌∙◌, ap, Some}
use Rattle.script_text.proofs.WordValueLemmas.{hex_bytes-even, hex_bytes-odd}
use Rattle.script_text.proofs.word_values.hex_bytes.Goals as goal

pub returns-then-digits-ne0 : goal.returns-then-digits-ne0
returns-then-digits-ne0 c = sym (hex_bytes-odd c.args.digits.now c.if-digits-ne0.true)

pub returns-then-not-are_hex_digits : goal.returns-then-not-are_hex_digits
returns-then-not-are_hex_digits c = sym (hex_bytes-even c.args.digits.now _ c.if-digits-ne0.false (sym c.are_hex_digits.ensures ∙ c.if-not-are_hex_digits.true))

pub returns : goal.returns
returns c = ap (λ bytes. Some bytes) (c.of_vec.ensures ∙ c.in_ok-paired.ensures) ∙ sym (hex_bytes-even c.args.digits.now _ c.if-digits-ne0.false (sym c.are_hex_digits.ensures ∙ c.if-not-are_hex_digits.false))
