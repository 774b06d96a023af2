-- Worked scripts, computed from the definitions.
use Rattle.std.proofs.Common.{◌≡◌, refl}
use Rattle.std.specs.Int.Count.{count_trailing_zeros}
use Rattle.block_alloc.specs.BlockWord.{block_in}
use Rattle.machine.specs.EpochRead.{leaves_none_bare, open_mask}
use Rattle.machine.specs.ObjectNames.{names_object, object_in}
use Rattle.machine.specs.SlotWrite.{judged}
use Rattle.machine.specs.Stock.{first_free}
use Rattle.machine_world.specs.Ledger.{history_of, with_opening}
use Rattle.machine_world.specs.Readings.{division_of, slot_of_present, word_in_force}
use Rattle.machine_world.specs.World.{client_at}
use Rattle.object_form.specs.Class.{class_in}
use Rattle.object_form.specs.Content.{word_from}
use Rattle.object_form.specs.Link.{link_in}
use Rattle.object_form.specs.Meta.{meta_in}
use Rattle.race_slot.specs.Slot.{unpacked}
use Rattle.region_view.specs.Epoch.{epoch_in}
use Rattle.script_meaning.specs.Examples.{first_output, first_script, smallest, stopped_output, stopped_script, three_nodes}
use Rattle.script_meaning.specs.Lines.{takes}
use Rattle.script_meaning.specs.Scripts.{run_on, runs}
use Rattle.slot_order.specs.Fnv.{fnv1a, fnv1a_after, hash_after}
use Rattle.slot_order.specs.Slots.{eight_from, then_new}

pub first_script-lines : (run_on smallest first_script).lines ≡ first_output
unfolding runs takes division_of slot_of_present history_of client_at word_in_force block_in leaves_none_bare open_mask names_object object_in judged first_free class_in word_from unpacked epoch_in fnv1a fnv1a_after hash_after eight_from then_new count_trailing_zeros meta_in link_in
first_script-lines = refl

pub stopped_script-lines : (run_on (three_nodes 2) stopped_script).lines ≡ stopped_output
unfolding runs takes division_of with_opening slot_of_present history_of client_at word_in_force block_in leaves_none_bare open_mask names_object object_in judged first_free class_in link_in meta_in word_from unpacked epoch_in fnv1a fnv1a_after hash_after eight_from then_new count_trailing_zeros
stopped_script-lines = refl
