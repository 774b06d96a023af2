use Rattle.std.proofs.Common.{append_assoc, refl, arith}
use Rattle.std.proofs.lemmas.Fmt.{decimal_digit}
use Rattle.script_text.proofs.short_texts.put_number.Goals as goal

pub returns-then-number-lt10-clause-text : goal.returns-then-number-lt10-clause-text
returns-then-number-lt10-clause-text c =
    rw (c.push-then-number-lt10.ensures.items, c.push.ensures.items, decimal_digit c.args.number (omega (arith, c.if-number-lt10.true)), append_assoc) refl
