-- The verbs of the first put.
use Rattle.std.proofs.Common.{◌≡◌, refl}
use Rattle.std.specs.Int.Count.{count_trailing_zeros}
use Rattle.block_alloc.specs.BlockWord.{block_in}
use Rattle.machine.specs.EpochRead.{leaves_none_bare, open_mask}
use Rattle.machine.specs.Examples.{first_answers, first_put, first_verbs, verbs_of}
use Rattle.machine.specs.ObjectNames.{names_object, object_in}
use Rattle.machine.specs.SlotWrite.{judged}
use Rattle.machine.specs.Stock.{first_free}
use Rattle.object_form.specs.Class.{class_in}
use Rattle.object_form.specs.Content.{word_from}
use Rattle.race_slot.specs.Slot.{unpacked}
use Rattle.region_view.specs.Epoch.{epoch_in}
use Rattle.slot_order.specs.Fnv.{fnv1a, fnv1a_after, hash_after}
use Rattle.slot_order.specs.Slots.{eight_from, then_new}

pub first_put-verbs : verbs_of first_put first_answers ≡ first_verbs
unfolding block_in leaves_none_bare open_mask names_object object_in judged first_free class_in word_from unpacked epoch_in fnv1a fnv1a_after hash_after eight_from then_new count_trailing_zeros
first_put-verbs = refl
