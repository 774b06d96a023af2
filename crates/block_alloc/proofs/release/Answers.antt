use Rattle.std.proofs.Common.{sym}
use Rattle.block_alloc.specs.declared.BlockWord.TheVariants.{Owned}
use Rattle.block_alloc.proofs.release.Goals as goal

pub returns-in-None-clause-not_owned : goal.returns-in-None-clause-not_owned
returns-in-None-clause-not_owned c =
    λ class owned. c.in-None.ensures.none (Owned c.args.client class) (owned.client_within, owned.class_within) (sym owned.has_word)
