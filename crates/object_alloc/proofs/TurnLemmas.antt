-- What a turn of the program needs of its stock.
use Rattle.std.proofs.Common.{◌≡◌, ℕ, ◌+◌, ◌<◌, ◌≤◌, Bool, true, false, if◌then◌else◌, Option, Some, None, arith, length, refl, sym, subst}
use Rattle.block_alloc.specs.BlockWord.{block_in}
use Rattle.block_alloc.specs.declared.BlockWord.{BlockWord}
use Rattle.block_alloc.specs.declared.BlockWord.TheVariants.{Unused, Owned, Released}
use Rattle.machine.specs.Choosing.{IsAt, block_at, next_block, on_block, on_block_word, region_at, turn_at, verb_at, word_at_block}
use Rattle.machine.specs.declared.choosing.Took.TheVariants.{Refused}
use Rattle.machine.specs.Stock.{AskFirst, Ask, Claim, Phase, ReadBitmap, ReadBlock, Rest, Scan, Spread, Stock, WriteHead, class_stock, is_own, view_of}
use Rattle.object_alloc.proofs.PlaceLemmas.{replica_count_few}
use Rattle.object_alloc.proofs.StockLemmas.{room_left}
use Rattle.object_alloc.specs.Choosers.{HasRoom, IsInside, lets_in, phase_of, stock_of}
use Rattle.object_alloc.specs.Held.{IsHeld, IsNotOwn, IsRoomy}
use Rattle.object_alloc.specs.declared.choosers.Chooser.{Chooser}
use Rattle.object_alloc.specs.declared.choosers.Phase.TheVariants as phase
use Rattle.verb_words.specs.declared.verbs.Answer.TheVariants.{Lost}
use Rattle.verb_words.specs.Verb.{place_of}

-- where the verb's node is lost, nothing changes
pub turn_lost : (phase : Phase) (stock : Stock) → turn_at phase stock Lost ≡ record { state = stock; told = Refused (place_of (verb_at phase stock)).node }
turn_lost Rest stock = refl
turn_lost AskFirst stock = refl
turn_lost (Scan own) stock = refl
turn_lost (Ask client) stock = refl
turn_lost ReadBlock stock = refl
turn_lost (Claim word) stock = refl
turn_lost (Spread unused backup) stock = refl
turn_lost ReadBitmap stock = refl
turn_lost WriteHead stock = refl

-- where a block is gained there is room for it
pub has_room : (chooser : Chooser) → IsHeld (stock_of chooser) → IsRoomy chooser → IsInside (stock_of chooser) → IsNotOwn (stock_of chooser) → HasRoom chooser
has_room chooser held roomy inside none =
    subst (λ room. length (class_stock (stock_of chooser)).own < room) (sym (roomy chooser.class held.fit.class)) (room_left (stock_of chooser) held inside none)

-- a block's word has few backups
pub few_backups : (chooser : Chooser) (unused : Bool) (backup : ℕ) → IsHeld (stock_of chooser) → chooser.phase ≡ phase.Spread unused backup → backup + 1 ≤ 5
few_backups chooser unused backup held is =
    let at = subst (λ p. IsAt (phase_of p) (stock_of chooser)) is held.at in
    omega (arith, at.1, replica_count_few (view_of (stock_of chooser)) (word_at_block (stock_of chooser)) held.fit.limits)

-- a word that does not let the client in is passed over, whether the block is an own one or not
not_let_in : (stock : Stock) (found : ℕ) (word : Option BlockWord) → lets_in stock word ≡ false → on_block stock found word ≡ next_block stock
not_let_in stock found None is = refl
not_let_in stock found (Some Unused) is = absurd cc
not_let_in stock found (Some (Released class)) is = rw is refl
not_let_in stock found (Some (Owned client class)) is = rw is refl

pub passed_over : (stock : Stock) (found : ℕ) → lets_in stock (block_in found) ≡ false → on_block_word stock found ≡ next_block stock
passed_over stock found is = by (is_own stock (region_at stock) (block_at stock))
  where
    by : (t : Bool) → (if t then next_block stock else on_block stock found (block_in found)) ≡ next_block stock
    by true = refl
    by false = not_let_in stock found (block_in found) is
