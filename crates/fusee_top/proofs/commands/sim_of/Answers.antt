use Rattle.std.proofs.Common.{map}
use Rattle.std.specs.String.{string_bytes}
use Rattle.fusee_top.proofs.CommandLemmas.{IsNamed-misread, IsNamed-sim}
use Rattle.fusee_top.proofs.commands.sim_of.Goals as goal

pub returns-in-Ok : goal.returns-in-Ok
returns-in-Ok c =
    IsNamed-sim c.sim_under.result (map string_bytes c.args.words.now) c.deref.result.now c.in-Ok.values.items c.in-Ok.ensures c.deref.ensures.value c.sim_under.ensures

pub returns-in-Err : goal.returns-in-Err
returns-in-Err c = IsNamed-misread c.in-Err.why (map string_bytes c.args.words.now) c.in-Err.ensures
