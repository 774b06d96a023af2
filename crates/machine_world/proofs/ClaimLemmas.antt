-- The words that are said of runs, on the crossed puts.
use Rattle.std.proofs.Common.{◌≡◌, ℕ, zero, suc, ◌<◌, true, false, List, [], ◌∷◌, map, get_or, Some, refl, subst, sym, arith}
use Rattle.std.specs.Prelude.{All}
use Rattle.std.specs.Int.Count.{count_trailing_zeros}
use Rattle.block_alloc.specs.BlockWord.{block_in}
use Rattle.machine.specs.EpochRead.{leaves_none_bare, open_mask}
use Rattle.machine.specs.ObjectNames.{names_object, object_in}
use Rattle.machine.specs.SlotWrite.{judged}
use Rattle.machine.specs.Stock.{first_free}
use Rattle.machine_world.specs.Claims.{HasMet, RoundIsWon, backup_words, firsts_of, is_right}
use Rattle.machine_world.specs.Examples.{crossed_after, crossed_before, crossed_object, crossed_puts, crossed_words, two_clients}
use Rattle.machine_world.specs.Ledger.{with_opening}
use Rattle.machine_world.specs.Readings.{deciding_word, is_unfinished, word_in_force}
use Rattle.machine_world.specs.Runs.{run, run_from}
use Rattle.machine_world.specs.World.{client_at}
use Rattle.object_form.specs.Class.{class_in}
use Rattle.object_form.specs.Content.{word_from}
use Rattle.object_form.specs.Link.{link_in}
use Rattle.object_form.specs.Meta.{meta_in}
use Rattle.race_slot.specs.Slot.{unpacked}
use Rattle.region_view.specs.Epoch.{epoch_in}
use Rattle.slot_order.specs.Fnv.{fnv1a, fnv1a_after, hash_after}
use Rattle.slot_order.specs.Slots.{eight_from, then_new}

pub crossed-firsts : firsts_of two_clients 0 crossed_before ≡ map Some crossed_words
unfolding with_opening run run_from client_at word_in_force block_in leaves_none_bare open_mask names_object object_in judged first_free class_in link_in meta_in word_from unpacked epoch_in fnv1a fnv1a_after hash_after eight_from then_new count_trailing_zeros
crossed-firsts = refl

crossed-backups : backup_words (run two_clients crossed_after) 0 ≡ 12610360431615148048 ∷ 12610360431615148048 ∷ []
unfolding with_opening run run_from client_at word_in_force block_in leaves_none_bare open_mask names_object object_in judged first_free class_in link_in meta_in word_from unpacked epoch_in fnv1a fnv1a_after hash_after eight_from then_new count_trailing_zeros
crossed-backups = refl

pub crossed-won : RoundIsWon (run two_clients crossed_before) (run two_clients crossed_after) 0 (firsts_of two_clients 0 crossed_before)
unfolding with_opening run run_from client_at word_in_force block_in leaves_none_bare open_mask names_object object_in judged first_free class_in link_in meta_in word_from unpacked epoch_in fnv1a fnv1a_after hash_after eight_from then_new count_trailing_zeros
crossed-won = record {
  words = crossed_words;
  full = crossed-firsts;
  wins = refl;
  everywhere =
      let P : List ℕ → Type 0 = λ words. All (λ word. word ≡ deciding_word (run two_clients crossed_after).shape (run two_clients crossed_after).nodes 0) words in
      subst P (sym crossed-backups) both;
}
  where
    both : (k d : ℕ) → k < 2 → get_or (12610360431615148048 ∷ 12610360431615148048 ∷ []) k d ≡ deciding_word (run two_clients crossed_after).shape (run two_clients crossed_after).nodes 0
    both zero d below = refl
    both (suc zero) d below = refl
    both (suc (suc k)) d below = absurd (omega arith)

pub crossed-right : map (is_right (run two_clients crossed_puts)) (client_at (run two_clients crossed_puts) 1).remembered ≡ true ∷ []
unfolding with_opening run run_from client_at word_in_force block_in leaves_none_bare open_mask names_object object_in judged first_free class_in link_in meta_in word_from unpacked epoch_in fnv1a fnv1a_after hash_after eight_from then_new count_trailing_zeros
crossed-right = refl

pub crossed-unfinished : map (is_unfinished (run two_clients crossed_after)) (0 ∷ 1 ∷ 2 ∷ []) ≡ false ∷ true ∷ true ∷ []
unfolding with_opening run run_from client_at word_in_force block_in leaves_none_bare open_mask names_object object_in judged first_free class_in link_in meta_in word_from unpacked epoch_in fnv1a fnv1a_after hash_after eight_from then_new count_trailing_zeros
crossed-unfinished = refl

pub crossed-rests : map (is_unfinished (run two_clients crossed_puts)) (0 ∷ 1 ∷ 2 ∷ []) ≡ false ∷ false ∷ false ∷ []
unfolding with_opening run run_from client_at word_in_force block_in leaves_none_bare open_mask names_object object_in judged first_free class_in link_in meta_in word_from unpacked epoch_in fnv1a fnv1a_after hash_after eight_from then_new count_trailing_zeros
crossed-rests = refl

pub crossed-met : HasMet two_clients crossed_after 2 crossed_object
unfolding with_opening run run_from client_at word_in_force block_in leaves_none_bare open_mask names_object object_in judged first_free class_in link_in meta_in word_from unpacked epoch_in fnv1a fnv1a_after hash_after eight_from then_new count_trailing_zeros
crossed-met = record { moment = 83; within = omega arith; inside = refl; since = refl; out = refl }
