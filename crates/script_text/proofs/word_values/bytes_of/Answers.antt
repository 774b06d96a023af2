use Rattle.std.proofs.Common.{◌∙◌, ap, Some}
use Rattle.script_text.proofs.WordValueLemmas.{bytes_of-hex, bytes_of-own}
use Rattle.script_text.proofs.word_values.bytes_of.Goals as goal

pub returns-in-Some : goal.returns-in-Some
returns-in-Some c = let begins = c.in-Some.ensures in rw (← bytes_of-hex c.args.word.now c.in-Some.digits.now begins.cases.0 begins.cases.1) c.hex_bytes.ensures

pub returns-in_ok-of_slice-in-None : goal.returns-in_ok-of_slice-in-None
returns-in_ok-of_slice-in-None c =
    let begins = c.in-None.ensures in
    ap (λ bytes. Some bytes) c.in_ok-of_slice-in-None.ensures ∙ bytes_of-own c.args.word.now begins.cases
