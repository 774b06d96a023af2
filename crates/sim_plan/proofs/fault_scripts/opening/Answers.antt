use Rattle.std.proofs.Common.{◌≡◌, refl, rules, lit<}
use Rattle.std.proofs.lemmas.Fmt.{decimal_digit}
use Rattle.sim_plan.specs.FaultScript.{clients_of}
use Rattle.sim_plan.proofs.fault_scripts.opening.Goals as goal

pub returns-then-kind-eq3 : goal.returns-then-kind-eq3
returns-then-kind-eq3 c = let three : clients_of c.args.kind ≡ 3 = search rules in rw (three, decimal_digit 3 (lit< tt)) refl

pub returns-else-kind-eq3 : goal.returns-else-kind-eq3
returns-else-kind-eq3 c = let two : clients_of c.args.kind ≡ 2 = search rules in rw (two, decimal_digit 2 (lit< tt)) refl
