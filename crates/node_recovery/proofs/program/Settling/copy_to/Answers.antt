use Rattle.std.proofs.Common.{rules}
use Rattle.node_recovery.proofs.StateLemmas.{reading-held, sources-within}
use Rattle.node_recovery.proofs.program.Settling.copy_to.Goals as goal

pub targets_at-self-inside-requires-clause-within : goal.targets_at-self-inside-requires-clause-within
targets_at-self-inside-requires-clause-within c = sources-within _ _ c.args.live c.sources-sources.ensures

pub invariant_of-self-2 : goal.invariant_of-self-2
invariant_of-self-2 c =
    reading-held _ _ _ _ _ _ c.args.live 0 0 c.self.invariant (search rules) (sources-within _ _ c.args.live c.sources-sources.ensures) (search rules) (search rules) c.targets_at-self-inside.ensures.from c.targets_at-self-inside.ensures.to
