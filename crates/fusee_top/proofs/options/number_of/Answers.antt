use Rattle.std.proofs.Common.{arith}
use Rattle.fusee_top.proofs.OptionLemmas.{next_digit}
use Rattle.fusee_top.proofs.options.number_of.Goals as goal

pub overflow_mul-value : goal.overflow_mul-value
overflow_mul-value c =
    let next = next_digit c.args.digits.now c.loop-digit.digit-index c.requires.digits c.requires.few c.loop-digit-test.true in
    omega (arith, next.value, next.small)

pub overflow_add-value : goal.overflow_add-value
overflow_add-value c =
    let next = next_digit c.args.digits.now c.loop-digit.digit-index c.requires.digits c.requires.few c.loop-digit-test.true in
    omega (arith, next.value, next.small)

pub loop-digit-preserved : goal.loop-digit-preserved
loop-digit-preserved c =
    let next = next_digit c.args.digits.now c.loop-digit.digit-index c.requires.digits c.requires.few c.loop-digit-test.true in
    omega (arith, next.value)
