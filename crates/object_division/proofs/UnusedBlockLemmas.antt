-- The phase at which a block that was unused is written to backups comes from the claim that found it unused.
use Rattle.std.proofs.Common.{◌≡◌, ℕ, ◌+◌, ◌==◌, ◌&&◌, Bool, true, false, inl, inr, [], Option, Some, None, refl, ap, sym, ◌∙◌, subst}
use Rattle.std.specs.Prelude.{bit_and, nat_lt}
use Rattle.std.proofs.lemmas.Bool.{eqb-true}
use Rattle.block_alloc.specs.declared.BlockWord.{BlockWord}
use Rattle.block_alloc.specs.declared.BlockWord.TheVariants.{Unused, Owned, Released}
use Rattle.block_alloc.specs.BlockWord.{block_in}
use Rattle.machine.specs.Choosing.{IsAt, asks_from, begins, block_at, next_block, on_block, on_block_word, on_first, on_scan, owns, region_at, spreads_from, turn_at, verb_at, with_awaited, with_block, with_scanned, word_at_block}
use Rattle.machine.specs.Places.{replica_count}
use Rattle.machine.specs.Stock.{AskFirst, Ask, Claim, Phase, ReadBitmap, ReadBlock, Rest, Scan, Spread, Stock, WriteHead, class_stock, is_own, object_bits, view_of}
use Rattle.reuse_epoch.specs.Awaited.{noted}
use Rattle.verb_words.specs.declared.verbs.Answer.TheVariants.{Word}
use Rattle.verb_words.specs.Verb.{answer_of}
use Rattle.object_division.specs.Marks.{ComesFrom}
use Rattle.object_division.proofs.GrownLemmas.{ClaimsNothing, asks_with-plain, begins-plain, chooses-plain, next_block-plain, on_first-plain, scans-plain}

pub spread_plain : {A : Type 0} (phase : Phase) (unused : Bool) (backup : ℕ) → ClaimsNothing phase → phase ≡ Spread unused backup → A
spread_plain phase unused backup nothing is = absurd (subst (λ p. ClaimsNothing p) is nothing)

-- the block was unused, and is still the one at the position
record IsStill (stock later : Stock) (unused : Bool) : Type 0 where
  pub region : region_at later ≡ region_at stock
  pub block : block_at later ≡ block_at stock
  pub was : unused ≡ true

same_unused : (one other : Bool) (backup of_other : ℕ) → Spread one backup ≡ Spread other of_other → one ≡ other
same_unused one other backup of_other is = cc

bitmap_spread : {A : Type 0} (unused : Bool) (backup : ℕ) → ReadBitmap ≡ Spread unused backup → A
bitmap_spread unused backup is = absurd cc

claim_spread : {A : Type 0} (word : ℕ) (unused : Bool) (backup : ℕ) → Claim word ≡ Spread unused backup → A
claim_spread word unused backup is = absurd cc

owns-still : (stock : Stock) (unused : Bool) (backup : ℕ) → (owns stock unused).state.phase ≡ Spread true backup
    → IsStill stock (owns stock unused).state unused
owns-still stock true backup is =
    spread_plain (owns stock true).state.phase true backup (chooses-plain (with_block stock (object_bits stock.class) 0)).phase is
owns-still stock false backup is = bitmap_spread true backup is

spreads-still : (stock : Stock) (unused : Bool) (from backup : ℕ) → (spreads_from stock unused from).state.phase ≡ Spread true backup
    → IsStill stock (spreads_from stock unused from).state unused
spreads-still stock unused from backup = by (nat_lt (from + 1) (replica_count (view_of stock) (word_at_block stock))) refl
  where
    by : (t : Bool) → nat_lt (from + 1) (replica_count (view_of stock) (word_at_block stock)) ≡ t
        → (spreads_from stock unused from).state.phase ≡ Spread true backup
        → IsStill stock (spreads_from stock unused from).state unused
    by true more = rw more (λ is. record { region = refl; block = refl; was = same_unused unused true from backup is })
    by false last = rw last (owns-still stock unused backup)

false_true : {A : Type 0} → false ≡ true → A
false_true is = absurd cc

next-spread : {A : Type 0} (stock : Stock) (backup : ℕ) → (next_block stock).state.phase ≡ Spread true backup → A
next-spread stock backup is = spread_plain (next_block stock).state.phase true backup (next_block-plain stock).phase is

on_block-spread : {A : Type 0} (stock : Stock) (found : ℕ) (block : Option BlockWord) (backup : ℕ)
    → (on_block stock found block).state.phase ≡ Spread true backup → A
on_block-spread stock found None backup = λ is. next-spread stock backup is
on_block-spread stock found (Some Unused) backup = λ is. claim_spread found true backup is
on_block-spread {A} stock found (Some (Released class)) backup = by (class == stock.class) refl
  where
    by : (t : Bool) → (class == stock.class) ≡ t
        → (on_block stock found (Some (Released class))).state.phase ≡ Spread true backup → A
    by true same = rw same (λ is. claim_spread found true backup is)
    by false other = rw other (λ is. next-spread stock backup is)
on_block-spread {A} stock found (Some (Owned client class)) backup = by ((client == stock.client) && (class == stock.class)) refl
  where
    by : (t : Bool) → ((client == stock.client) && (class == stock.class)) ≡ t
        → (on_block stock found (Some (Owned client class))).state.phase ≡ Spread true backup → A
    by true own = rw own (λ is. false_true (spreads-still stock false 0 backup is).was)
    by false other = rw other (λ is. next-spread stock backup is)

read-spread : {A : Type 0} (stock : Stock) (found backup : ℕ) → (on_block_word stock found).state.phase ≡ Spread true backup → A
read-spread {A} stock found backup = by (is_own stock (region_at stock) (block_at stock)) refl
  where
    by : (t : Bool) → is_own stock (region_at stock) (block_at stock) ≡ t
        → (on_block_word stock found).state.phase ≡ Spread true backup → A
    by true own = rw own (λ is. next-spread stock backup is)
    by false other = rw other (λ is. on_block-spread stock found (block_in found) backup is)

claim-comes : (stock : Stock) (word found backup : ℕ)
    → (turn_at (Claim word) stock (Word found)).state.phase ≡ Spread true backup
    → ComesFrom stock (Claim word) found (turn_at (Claim word) stock (Word found)).state
claim-comes stock word found backup = by (found == word) refl
  where
    by : (t : Bool) → (found == word) ≡ t → (turn_at (Claim word) stock (Word found)).state.phase ≡ Spread true backup
        → ComesFrom stock (Claim word) found (turn_at (Claim word) stock (Word found)).state
    by true same =
        rw same
        (λ is.
        let still = spreads-still stock (word == 0) 0 backup is in
        let unused = eqb-true word 0 still.was in
        record {
          region = still.region;
          block = still.block;
          before = inr (ap (λ w. Claim w) unused, eqb-true found word same ∙ unused);
        })
    by false other = rw other (λ is. next-spread stock backup is)

-- a turn of a choosing whose verb was not refused
pub turn-comes : (stock : Stock) (phase : Phase) (found backup : ℕ) → stock.phase ≡ phase → IsAt phase stock
    → (turn_at phase stock (answer_of (verb_at phase stock) found)).state.phase ≡ Spread true backup
    → ComesFrom stock phase found (turn_at phase stock (answer_of (verb_at phase stock) found)).state
turn-comes stock Rest found backup same at is = spread_plain stock.phase true backup (subst (λ p. ClaimsNothing p) (sym same) tt) is
turn-comes stock AskFirst found backup same at is =
    spread_plain (on_first stock found).state.phase true backup (on_first-plain stock found).phase is
turn-comes stock (Scan own) found backup same at is =
    spread_plain (on_scan (with_scanned stock own found) own).state.phase true backup (scans-plain stock own found at).phase is
turn-comes stock (Ask client) found backup same at is =
    let awaited = noted (class_stock stock).awaited client found in
    spread_plain (asks_from (with_awaited stock awaited) (client + 1)).state.phase true backup
    (asks_with-plain stock awaited (client + 1)).phase is
turn-comes stock ReadBlock found backup same at is = read-spread stock found backup is
turn-comes stock (Claim word) found backup same at is = claim-comes stock word found backup is
turn-comes stock (Spread unused from) found backup same at is =
    let still = spreads-still stock unused (from + 1) backup is in
    record { region = still.region; block = still.block; before = inl (from, ap (λ u. Spread u from) still.was) }
turn-comes stock ReadBitmap found backup same at is =
    let block = with_block stock 0 (bit_and found (object_bits stock.class)) in
    spread_plain (asks_from (with_awaited block []) 1).state.phase true backup (asks_with-plain block [] 1).phase is
turn-comes stock WriteHead found backup same at is =
    spread_plain (begins stock stock.mask stock.class).state.phase true backup (begins-plain stock stock.mask stock.class).phase is
