use Rattle.node_join.proofs.MaskLemmas.{leaves_none_bare-says}
use Rattle.node_recovery.proofs.StateLemmas.{fresh-covers}
use Rattle.node_recovery.proofs.steps.targets_at.Goals as goal

pub invariant_of-source : goal.invariant_of-source
invariant_of-source c = leaves_none_bare-says c.args.shape c.args.sources c.requires.covers

pub invariant_of-fresh : goal.invariant_of-fresh
invariant_of-fresh c = fresh-covers c.args.shape c.args.sources c.args.mask c.requires.covers c.requires.within
