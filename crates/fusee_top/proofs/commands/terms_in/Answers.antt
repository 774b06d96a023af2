use Rattle.fusee_top.proofs.CommandLemmas.{terms_in-told}
use Rattle.fusee_top.proofs.commands.terms_in.Goals as goal

pub returns : goal.returns
returns c = terms_in-told c.args.length c.args.error c.terms_of.result c.terms_of.ensures
