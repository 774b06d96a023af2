use Rattle.node_recovery.proofs.SealLemmas.{unsealed}
use Rattle.node_recovery.proofs.program.Settling.on_epoch.Goals as goal

pub with_seal-self-inside-requires : goal.with_seal-self-inside-requires
with_seal-self-inside-requires c = unsealed _ c.args.found c.in-Some.field-0 _ c.open_mask.ensures c.in-Some.is
