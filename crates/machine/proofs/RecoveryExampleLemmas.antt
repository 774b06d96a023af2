-- The verbs of a recovery in the smallest pool.
use Rattle.std.proofs.Common.{◌≡◌, refl}
use Rattle.block_alloc.specs.BlockWord.{block_in}
use Rattle.machine.specs.declared.recovery.Recovering.TheVariants.{Recovered}
use Rattle.machine.specs.EpochRead.{leaves_none_bare, open_mask}
use Rattle.machine.specs.ObjectNames.{names_object, object_in}
use Rattle.machine.specs.RecoveryExample.{end_of, of_first_client, recovery_answers, recovery_verbs, verbs_of}
use Rattle.machine.specs.SlotWrite.{judged}
use Rattle.object_form.specs.Link.{link_in}
use Rattle.object_form.specs.Meta.{meta_in}
use Rattle.race_slot.specs.Slot.{unpacked}
use Rattle.region_view.specs.Epoch.{epoch_in}
use Rattle.slot_order.specs.Fnv.{fnv1a, fnv1a_after, hash_after}
use Rattle.slot_order.specs.Slots.{eight_from, then_new}

pub of_first_client-verbs : verbs_of of_first_client recovery_answers ≡ recovery_verbs
unfolding block_in leaves_none_bare open_mask names_object object_in unpacked judged link_in meta_in epoch_in fnv1a fnv1a_after hash_after eight_from then_new
of_first_client-verbs = refl

pub of_first_client-end : end_of of_first_client recovery_answers ≡ Recovered
unfolding block_in leaves_none_bare open_mask names_object object_in unpacked judged link_in meta_in epoch_in fnv1a fnv1a_after hash_after eight_from then_new
of_first_client-end = refl
