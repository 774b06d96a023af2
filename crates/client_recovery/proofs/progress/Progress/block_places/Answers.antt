use Rattle.std.proofs.Common.{◌∙◌}
use Rattle.client_recovery.specs.Progresses.{recovery_at}
use Rattle.machine.specs.RecoveryStage.{view_of}
use Rattle.object_alloc.proofs.PlaceLemmas.{owner_pairs}
use Rattle.region_view.specs.Places.{word_places_of}
use Rattle.client_recovery.proofs.progress.Progress.block_places.Goals as goal

pub returns-clause-places : goal.returns-clause-places
returns-clause-places c =
    c.word_places.ensures
    ∙ (λ i. word_places_of (c.view.ensures i) (c.region.ensures.region i) (c.block.ensures.block i))
    ∙ owner_pairs (view_of (recovery_at c.args.self.now)) _ _
