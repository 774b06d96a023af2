-- Small simulations, computed from the definitions.
use Rattle.std.proofs.Common.{◌≡◌, refl}
use Rattle.std.specs.Fmt.{digits}
use Rattle.std.specs.Int.Count.{count_trailing_zeros}
use Rattle.block_alloc.specs.BlockWord.{block_in}
use Rattle.machine.specs.EpochRead.{leaves_none_bare, open_mask}
use Rattle.machine.specs.ObjectNames.{names_object, object_in}
use Rattle.machine.specs.SlotWrite.{judged}
use Rattle.machine.specs.Stock.{first_free}
use Rattle.machine_world.specs.Ledger.{history_of, with_opening}
use Rattle.machine_world.specs.Readings.{division_of, slot_of_present, word_in_force}
use Rattle.machine_world.specs.World.{client_at}
use Rattle.object_form.specs.Class.{class_in}
use Rattle.object_form.specs.Content.{word_from}
use Rattle.object_form.specs.Link.{link_in}
use Rattle.object_form.specs.Meta.{meta_in}
use Rattle.race_slot.specs.Slot.{unpacked}
use Rattle.rand_core.specs.Pcg32Seed.{pcg32_seed}
use Rattle.rand_core.specs.Steps.{first_words, u32_at, word_bytes}
use Rattle.region_view.specs.Epoch.{epoch_in}
use Rattle.script_meaning.specs.Lines.{takes}
use Rattle.sim_meaning.specs.Driver.{registers, turns}
use Rattle.sim_meaning.specs.Examples.{a_stop_and_two_losses, a_stop_and_two_losses_text, a_stopped_put, a_stopped_put_text, one_delete, one_delete_text, three_small_nodes}
use Rattle.sim_meaning.specs.Summary.{rendered, rendered_on, verbs_in}
use Rattle.slot_order.specs.Fnv.{fnv1a, fnv1a_after, hash_after}
use Rattle.slot_order.specs.Slots.{eight_from, then_new}

pub one_delete-text : rendered one_delete ≡ one_delete_text
unfolding registers turns verbs_in digits pcg32_seed first_words u32_at word_bytes takes division_of slot_of_present history_of client_at word_in_force block_in leaves_none_bare open_mask names_object object_in judged first_free class_in link_in meta_in word_from unpacked epoch_in fnv1a fnv1a_after hash_after eight_from then_new count_trailing_zeros
one_delete-text = refl

pub a_stopped_put-text : rendered a_stopped_put ≡ a_stopped_put_text
unfolding registers turns verbs_in digits pcg32_seed first_words u32_at word_bytes takes division_of slot_of_present history_of client_at word_in_force block_in leaves_none_bare open_mask names_object object_in judged first_free class_in link_in meta_in word_from unpacked epoch_in fnv1a fnv1a_after hash_after eight_from then_new count_trailing_zeros
a_stopped_put-text = refl

pub a_stop_and_two_losses-text : rendered_on three_small_nodes a_stop_and_two_losses ≡ a_stop_and_two_losses_text
unfolding registers turns verbs_in digits pcg32_seed first_words u32_at word_bytes takes division_of slot_of_present with_opening history_of client_at word_in_force block_in leaves_none_bare open_mask names_object object_in judged first_free class_in link_in meta_in word_from unpacked epoch_in fnv1a fnv1a_after hash_after eight_from then_new count_trailing_zeros
a_stop_and_two_losses-text = refl
