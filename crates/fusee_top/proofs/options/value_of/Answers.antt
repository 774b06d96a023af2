use Rattle.std.proofs.Common.{◌≡◌, length, sym, ◌∙◌, arith}
use Rattle.std.proofs.lemmas.Bool.Decides.{nat_tests}
use Rattle.fusee_top.proofs.OptionLemmas.{value_of-digits}
use Rattle.fusee_top.proofs.options.value_of.Goals as goal

pub returns : goal.returns
returns c =
    let some : length c.args.digits.now ≡ 0 → ⊥ = grind (arith, nat_tests, c.is_empty.ensures, c.if-is_empty.false) in
    c.ok.ensures.value ∙ value_of-digits c.args.digits.now c.number_of.result c.try_from.result some c.if-digits-gt-MOST_DIGITS.false (sym c.are_digits.ensures ∙ c.if-not-are_digits.false) c.number_of.ensures c.try_from.ensures
