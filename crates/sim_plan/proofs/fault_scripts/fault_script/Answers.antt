use Rattle.std.proofs.Common.{◌≡◌, ◌++◌, [], ◌∷◌, string_bytes, sym}
use Rattle.std.specs.Prelude.{codes}
use Rattle.sim_plan.specs.FaultScript.{clients_of, fault_script, faults_of, opening}
use Rattle.sim_plan.proofs.ScriptLemmas.{text_of-parts}
use Rattle.sim_plan.proofs.fault_scripts.fault_script.Goals as goal

pub returns : goal.returns
returns c =
    let written : string_bytes c.in_ok-script.script ≡ c.opening-opening.result.now ++ (string_bytes c.in_ok-faults.faults ++ codes "count\n") = c.in_ok-script.ensures.ok in
    let parts = text_of-parts (opening (clients_of c.args.kind)) (faults_of c.args.kind c.args.first c.args.second) (codes "count" ∷ []) in
    let lines : string_bytes c.in_ok-script.script ≡ fault_script c.args.kind c.args.first c.args.second = rw (written, c.opening-opening.ensures, c.in_ok-faults.ensures) (sym parts) in
    rw c.into_bytes.ensures.value lines
