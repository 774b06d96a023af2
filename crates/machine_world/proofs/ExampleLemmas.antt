-- Runs that are computed from the definitions.
use Rattle.std.proofs.Common.{◌≡◌, List, refl, subst, sym}
use Rattle.std.specs.Int.Count.{count_trailing_zeros}
use Rattle.block_alloc.specs.BlockWord.{block_in}
use Rattle.machine.specs.EpochRead.{leaves_none_bare, open_mask}
use Rattle.machine.specs.ObjectNames.{names_object, object_in}
use Rattle.machine.specs.SlotWrite.{judged}
use Rattle.machine.specs.Stock.{first_free}
use Rattle.machine_world.specs.Claims.{IsHistoryLinear}
use Rattle.machine_world.specs.Examples.{crossed_puts, crossed_puts_history, lost_primary, lost_primary_history, three_nodes, first_put, first_put_division, first_put_history, first_put_trace, one_of_each, stopped_put, stopped_put_division, stopped_put_history, two_clients}
use Rattle.machine_world.specs.Ledger.{history_of, with_opening}
use Rattle.machine_world.specs.Readings.{division_of, slot_of_present, word_in_force}
use Rattle.machine_world.specs.Runs.{run, run_from}
use Rattle.machine_world.specs.World.{client_at}
use Rattle.map_model.specs.Linear.{IsLinear}
use Rattle.map_model.specs.Trace.{Moment}
use Rattle.map_model.specs.declared.entries.Entry.{Entry}
use Rattle.map_model.proofs.LinearLemmas.{IsLinear-sequential}
use Rattle.object_form.specs.Class.{class_in}
use Rattle.object_form.specs.Content.{word_from}
use Rattle.object_form.specs.Link.{link_in}
use Rattle.object_form.specs.Meta.{meta_in}
use Rattle.race_slot.specs.Slot.{unpacked}
use Rattle.region_view.specs.Epoch.{epoch_in}
use Rattle.slot_order.specs.Fnv.{fnv1a, fnv1a_after, hash_after}
use Rattle.slot_order.specs.Slots.{eight_from, then_new}

pub first_put-trace : (run one_of_each first_put).trace ≡ first_put_trace
unfolding run run_from client_at word_in_force block_in leaves_none_bare open_mask names_object object_in judged first_free class_in word_from unpacked epoch_in fnv1a fnv1a_after hash_after eight_from then_new count_trailing_zeros
first_put-trace = refl

pub first_put-history : history_of (run one_of_each first_put) ≡ first_put_history
unfolding history_of run run_from client_at word_in_force block_in leaves_none_bare open_mask names_object object_in judged first_free class_in word_from unpacked epoch_in fnv1a fnv1a_after hash_after eight_from then_new count_trailing_zeros
first_put-history = refl

-- its history is a linearization of its trace
pub first_put-linear : IsHistoryLinear (run one_of_each first_put)
first_put-linear =
    let P : List Moment → Type 0 = λ trace. IsLinear trace (history_of (run one_of_each first_put)) in
    let Q : List Entry → Type 0 = λ entries. IsLinear first_put_trace entries in
    subst P (sym first_put-trace) (subst Q (sym first_put-history) (IsLinear-sequential 1 first_put_history (refl, refl, refl, tt) refl))

pub first_put-division : division_of (run one_of_each first_put) ≡ first_put_division
unfolding division_of slot_of_present run run_from client_at word_in_force block_in leaves_none_bare open_mask names_object object_in judged first_free class_in word_from unpacked epoch_in fnv1a fnv1a_after hash_after eight_from then_new count_trailing_zeros
first_put-division = refl

pub stopped_put-history : history_of (run two_clients stopped_put) ≡ stopped_put_history
unfolding history_of with_opening run run_from client_at word_in_force block_in leaves_none_bare open_mask names_object object_in judged first_free class_in link_in meta_in word_from unpacked epoch_in fnv1a fnv1a_after hash_after eight_from then_new count_trailing_zeros
stopped_put-history = refl

pub stopped_put-division : division_of (run two_clients stopped_put) ≡ stopped_put_division
unfolding division_of with_opening slot_of_present run run_from client_at word_in_force block_in leaves_none_bare open_mask names_object object_in judged first_free class_in link_in meta_in word_from unpacked epoch_in fnv1a fnv1a_after hash_after eight_from then_new count_trailing_zeros
stopped_put-division = refl

pub crossed_puts-history : history_of (run two_clients crossed_puts) ≡ crossed_puts_history
unfolding history_of with_opening run run_from client_at word_in_force block_in leaves_none_bare open_mask names_object object_in judged first_free class_in link_in meta_in word_from unpacked epoch_in fnv1a fnv1a_after hash_after eight_from then_new count_trailing_zeros
crossed_puts-history = refl

pub lost_primary-history : history_of (run three_nodes lost_primary) ≡ lost_primary_history
unfolding history_of with_opening run run_from client_at word_in_force block_in leaves_none_bare open_mask names_object object_in judged first_free class_in link_in meta_in word_from unpacked epoch_in fnv1a fnv1a_after hash_after eight_from then_new count_trailing_zeros
lost_primary-history = refl
