use Rattle.std.proofs.Common.{ap, ◌∙◌}
use Rattle.clap.specs.Matches.{found_of}
use Rattle.fusee_top.specs.Options.{value_of}
use Rattle.fusee_top.proofs.OptionLemmas.{value_in-none, value_in-some}
use Rattle.fusee_top.proofs.options.value_in.Goals as goal

pub returns-in-Some : goal.returns-in-Some
returns-in-Some c = c.value_of.ensures ∙ ap value_of c.as_bytes.ensures.value ∙ value_in-some (found_of c.args.matches.now) c.args.name.now c.get_str.result c.in-Some.text c.get_str.ensures c.in-Some.is

pub returns-in-None : goal.returns-in-None
returns-in-None c = value_in-none (found_of c.args.matches.now) c.args.name.now c.get_str.result c.get_str.ensures c.in-None.is
