use Rattle.std.proofs.Common.{inl, inr, rules}
use Rattle.fusee_top.specs.declared.commands.Command.TheVariants as command
use Rattle.fusee_top.proofs.script_tests.script_without_faults.Goals as goal

pub returns : goal.returns
returns c =
    let told = c.offline-status.ensures in
    elim (told.decided command.Script c.args.input.now (search rules) (search rules) (told.sure_source (search rules))) [
      | inl done ↦ inl done
      | inr (inl five) ↦ absurd (told.sure_sink (search rules) (told.write_fault five))
      | inr (inr six) ↦ inr six
    ]
