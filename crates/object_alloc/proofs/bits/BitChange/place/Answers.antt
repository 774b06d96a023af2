use Rattle.std.proofs.Common.{ap, length, sym, ◌∙◌}
use Rattle.machine.specs.BitChange.{bitmap_place}
use Rattle.machine.specs.ObjectNames.{bitmap_of}
use Rattle.object_alloc.specs.Parts.{written_replica}
use Rattle.object_alloc.proofs.BitLemmas.{held_place-inside}
use Rattle.object_alloc.proofs.PlaceLemmas.{pair_written}
use Rattle.object_alloc.proofs.bits.BitChange.place.Goals as goal

pub returns-clause-place : goal.returns-clause-place
returns-clause-place c =
    pair_written c.self.inside.view (bitmap_of c.self.inside.pointer) c.self.inside.replica c.written_replica-replica.result c.deref.result.now (c.deref.ensures.0 ∙ c.self.invariant.homes) c.self.invariant.state.replica
    (c.written_replica-replica.ensures.replica ∙ ap (written_replica c.self.inside.replica) (c.len.ensures.value ∙ sym (ap length c.deref.ensures.0)))
    ∙ ap bitmap_place c.self.view_is

pub returns-clause-inside : goal.returns-clause-inside
returns-clause-inside c = held_place-inside _ c.args.self.now c.self.inside.places.items _ c.self.invariant c.self.view_is (returns-clause-place c)
