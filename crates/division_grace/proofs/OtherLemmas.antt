-- A turn of a choosing changes the stock of no other class than the one that is chosen for.
use Rattle.std.proofs.Common.{◌≡◌, ◌≢◌, ℕ, ◌+◌, ◌*◌, ◌==◌, Bool, true, false, ◌&&◌, List, [], ◌∷◌, ◌++◌, length, Option, Some, None, refl, ap, ◌∙◌, get_or-set_other}
use Rattle.std.specs.Prelude.{bit_and, not, nat_le, nat_lt, slice_index_or, slice_set}
use Rattle.block_alloc.specs.declared.BlockWord.{BlockWord}
use Rattle.block_alloc.specs.declared.BlockWord.TheVariants.{Unused, Owned, Released}
use Rattle.block_alloc.specs.BlockWord.{block_in}
use Rattle.machine.specs.Choosing.{asked, asks_after, asks_from, at_block, begins, block_at, chooses, first_awaited, looks, next_block, not_awaited, on_block, on_block_word, on_first, on_scan, own_at, owns, region_at, ripens, scanned_all, spreads_from, takes, turn_at, verb_at, with_awaited, with_block, with_scanned, word_at_block}
use Rattle.machine.specs.Places.{replica_count}
use Rattle.machine.specs.Stock.{AskFirst, Ask, Claim, ClassStock, Phase, ReadBitmap, ReadBlock, Rest, Scan, Spread, Stock, WriteHead, any_waits, class_stock, first_free, is_own, no_stock, object_bits, ripened, scanned_block, view_of, with_class_stock}
use Rattle.reuse_epoch.specs.Awaited.{Awaited, begin_of, client_of, noted, still_awaited}
use Rattle.verb_words.specs.declared.verbs.Answer.TheVariants.{Word}
use Rattle.verb_words.specs.Verb.{answer_of}

-- what a client has of a class
abbrev pub class_of : Stock → ℕ → ClassStock
class_of stock class = slice_index_or stock.classes class no_stock

-- the class that is chosen for stays, and so do the stocks of the others
pub record LeavesOthers (stock new : Stock) : Type 0 where
  pub class : new.class ≡ stock.class
  pub others : (other : ℕ) → other ≢ stock.class → class_of new other ≡ class_of stock other

leaves_all : (stock new : Stock) → new.class ≡ stock.class → new.classes ≡ stock.classes → LeavesOthers stock new
leaves_all stock new class same =
    record {
      class = class;
      others = λ other apart. ap (λ (classes : List ClassStock). slice_index_or classes other no_stock) same;
    }

leaves_on : (stock middle new : Stock) → LeavesOthers stock middle → LeavesOthers middle new → LeavesOthers stock new
leaves_on stock middle new first second =
    record {
      class = second.class ∙ first.class;
      others = λ other apart. second.others other (λ is. apart (is ∙ first.class)) ∙ first.others other apart;
    }

leaves_class : (stock : Stock) (of_class : ClassStock) → LeavesOthers stock (with_class_stock stock of_class)
leaves_class stock of_class =
    record {
      class = refl;
      others = λ other apart. get_or-set_other stock.classes stock.class other of_class no_stock apart;
    }

leaves-at_block : (stock : Stock) → LeavesOthers stock (at_block stock).state
leaves-at_block stock = by (nat_lt stock.position (stock.shape.regions * stock.shape.blocks)) refl
  where
    by : (t : Bool) → nat_lt stock.position (stock.shape.regions * stock.shape.blocks) ≡ t → LeavesOthers stock (at_block stock).state
    by true within = rw within (leaves_all stock (record stock { phase = ReadBlock }) refl refl)
    by false last = rw last (leaves_all stock (record stock { phase = Rest }) refl refl)

leaves-next_block : (stock : Stock) → LeavesOthers stock (next_block stock).state
leaves-next_block stock =
    let moved = record stock { position = stock.position + 1 } in
    leaves_on stock moved (next_block stock).state (leaves_all stock moved refl refl) (leaves-at_block moved)

leaves-takes : (stock : Stock) (free : ℕ) → LeavesOthers stock (takes stock free).state
leaves-takes stock free = by (class_stock stock).reserve refl
  where
    by : (reserve : Option ℕ) → (class_stock stock).reserve ≡ reserve → LeavesOthers stock (takes stock free).state
    by (Some reserve) some = rw some (leaves_all stock (record stock { phase = Rest }) refl refl)
    by None none =
        let new = record (class_stock stock) { reserve = Some free } in
        rw none
        (leaves_on stock (with_class_stock stock new) (record (with_class_stock stock new) { phase = WriteHead })
        (leaves_class stock new) (leaves_all (with_class_stock stock new) (record (with_class_stock stock new) { phase = WriteHead }) refl refl))

leaves-looks : (stock : Stock) → LeavesOthers stock (looks stock).state
leaves-looks stock = by (nat_lt 0 (length (class_stock stock).awaited)) refl (not stock.scanned && nat_lt 0 (length (class_stock stock).own)) refl
  where
    by : (t : Bool) → nat_lt 0 (length (class_stock stock).awaited) ≡ t → (u : Bool)
        → (not stock.scanned && nat_lt 0 (length (class_stock stock).own)) ≡ u → LeavesOthers stock (looks stock).state
    by true some u scan = rw some (leaves_all stock (record stock { phase = AskFirst }) refl refl)
    by false none true scan = rw (none, scan) (leaves_all stock (record stock { phase = Scan 0 }) refl refl)
    by false none false done = rw (none, done) (leaves-at_block stock)

pub leaves-chooses : (stock : Stock) → LeavesOthers stock (chooses stock).state
leaves-chooses stock = by (first_free stock.class (class_stock stock)) refl
  where
    by : (free : Option ℕ) → first_free stock.class (class_stock stock) ≡ free → LeavesOthers stock (chooses stock).state
    by None none = rw none (leaves-looks stock)
    by (Some free) some = rw some (leaves-takes stock free)

-- a new choosing for the same class
leaves-begins : (stock : Stock) (mask : ℕ) → LeavesOthers stock (begins stock mask stock.class).state
leaves-begins stock mask =
    let new = record stock { mask = mask; class = stock.class; scanned = false; position = 0 } in
    leaves_on stock new (begins stock mask stock.class).state (leaves_all stock new refl refl) (leaves-chooses new)

leaves-ripens : (stock : Stock) → LeavesOthers stock (ripens stock).state
leaves-ripens stock =
    let ripe = with_class_stock stock (ripened (class_stock stock)) in
    leaves_on stock ripe (ripens stock).state (leaves_class stock (ripened (class_stock stock))) (leaves-chooses ripe)

leaves-asked : (stock : Stock) → LeavesOthers stock (asked stock).state
leaves-asked stock = by (length (class_stock stock).awaited == 0) refl
  where
    by : (t : Bool) → (length (class_stock stock).awaited == 0) ≡ t → LeavesOthers stock (asked stock).state
    by true none = rw none (leaves-ripens stock)
    by false some = rw some (leaves-at_block stock)

leaves-asks_after : (stock : Stock) (client : ℕ) → LeavesOthers stock (asks_after stock client).state
leaves-asks_after stock client = by (nat_le client stock.shape.clients) refl
  where
    by : (t : Bool) → nat_le client stock.shape.clients ≡ t → LeavesOthers stock (asks_after stock client).state
    by true within = rw within (leaves_all stock (record stock { phase = Ask client }) refl refl)
    by false beyond = rw beyond (leaves-asked stock)

leaves-asks_from : (stock : Stock) (client : ℕ) → LeavesOthers stock (asks_from stock client).state
leaves-asks_from stock client = by (client == stock.client) refl
  where
    by : (t : Bool) → (client == stock.client) ≡ t → LeavesOthers stock (asks_from stock client).state
    by true own = rw own (leaves-asks_after stock (client + 1))
    by false other = rw other (leaves-asks_after stock client)

leaves-with_awaited : (stock : Stock) (awaited : List Awaited) → LeavesOthers stock (with_awaited stock awaited)
leaves-with_awaited stock awaited = leaves_class stock (record (class_stock stock) { awaited = awaited })

leaves-asks_with : (stock : Stock) (awaited : List Awaited) (client : ℕ)
    → LeavesOthers stock (asks_from (with_awaited stock awaited) client).state
leaves-asks_with stock awaited client =
    leaves_on stock (with_awaited stock awaited) (asks_from (with_awaited stock awaited) client).state
    (leaves-with_awaited stock awaited) (leaves-asks_from (with_awaited stock awaited) client)

leaves-not_awaited : (stock : Stock) → LeavesOthers stock (not_awaited stock).state
leaves-not_awaited stock = by (length (class_stock stock).awaited == 0) refl
  where
    by : (t : Bool) → (length (class_stock stock).awaited == 0) ≡ t → LeavesOthers stock (not_awaited stock).state
    by true none = rw none (leaves-ripens stock)
    by false some = rw some (leaves_all stock (record stock { phase = AskFirst }) refl refl)

leaves-on_first : (stock : Stock) (found : ℕ) → LeavesOthers stock (on_first stock found).state
leaves-on_first stock found = by (found == begin_of (first_awaited stock)) refl
  where
    still : List Awaited
    still = still_awaited (class_stock stock).awaited (client_of (first_awaited stock)) found

    by : (t : Bool) → (found == begin_of (first_awaited stock)) ≡ t → LeavesOthers stock (on_first stock found).state
    by true same = rw same (leaves-at_block stock)
    by false other =
        rw other
        (leaves_on stock (with_awaited stock still) (not_awaited (with_awaited stock still)).state
        (leaves-with_awaited stock still) (leaves-not_awaited (with_awaited stock still)))

leaves-scanned_all : (stock : Stock) → LeavesOthers stock (scanned_all stock).state
leaves-scanned_all stock = by (any_waits (class_stock stock)) refl
  where
    by : (t : Bool) → any_waits (class_stock stock) ≡ t → LeavesOthers stock (scanned_all stock).state
    by true some = rw some (leaves-asks_from stock 1)
    by false none = rw none (leaves-at_block stock)

leaves-on_scan : (stock : Stock) (i : ℕ) → LeavesOthers stock (on_scan stock i).state
leaves-on_scan stock i = by (nat_lt (i + 1) (length (class_stock stock).own)) refl
  where
    by : (t : Bool) → nat_lt (i + 1) (length (class_stock stock).own) ≡ t → LeavesOthers stock (on_scan stock i).state
    by true more = rw more (leaves_all stock (record stock { phase = Scan (i + 1) }) refl refl)
    by false last =
        let all = record stock { scanned = true } in
        rw last (leaves_on stock all (scanned_all all).state (leaves_all stock all refl refl) (leaves-scanned_all all))

leaves-with_scanned : (stock : Stock) (i found : ℕ) → LeavesOthers stock (with_scanned stock i found)
leaves-with_scanned stock i found =
    leaves_class stock
    (record (class_stock stock) {
      own = slice_set (class_stock stock).own i (scanned_block stock.class (class_stock stock) (own_at stock i) found);
    })

leaves-with_block : (stock : Stock) (ripe waiting : ℕ) → LeavesOthers stock (with_block stock ripe waiting)
leaves-with_block stock ripe waiting =
    let new = record (class_stock stock) {
      own = (class_stock stock).own
          ++ record { region = region_at stock; block = block_at stock; ripe = ripe; waiting = waiting } ∷ [];
    } in
    leaves_on stock (with_class_stock stock new) (with_block stock ripe waiting) (leaves_class stock new)
    (leaves_all (with_class_stock stock new) (with_block stock ripe waiting) refl refl)

leaves-owns : (stock : Stock) (unused : Bool) → LeavesOthers stock (owns stock unused).state
leaves-owns stock true =
    let with_it = with_block stock (object_bits stock.class) 0 in
    leaves_on stock with_it (chooses with_it).state (leaves-with_block stock (object_bits stock.class) 0) (leaves-chooses with_it)
leaves-owns stock false = leaves_all stock (record stock { phase = ReadBitmap }) refl refl

leaves-spreads_from : (stock : Stock) (unused : Bool) (backup : ℕ) → LeavesOthers stock (spreads_from stock unused backup).state
leaves-spreads_from stock unused backup = by (nat_lt (backup + 1) (replica_count (view_of stock) (word_at_block stock))) refl
  where
    by : (t : Bool) → nat_lt (backup + 1) (replica_count (view_of stock) (word_at_block stock)) ≡ t
        → LeavesOthers stock (spreads_from stock unused backup).state
    by true more = rw more (leaves_all stock (record stock { phase = Spread unused backup }) refl refl)
    by false last = rw last (leaves-owns stock unused)

leaves-on_block : (stock : Stock) (found : ℕ) (block : Option BlockWord) → LeavesOthers stock (on_block stock found block).state
leaves-on_block stock found None = leaves-next_block stock
leaves-on_block stock found (Some Unused) = leaves_all stock (record stock { phase = Claim found }) refl refl
leaves-on_block stock found (Some (Released class)) = by (class == stock.class) refl
  where
    by : (t : Bool) → (class == stock.class) ≡ t → LeavesOthers stock (on_block stock found (Some (Released class))).state
    by true same = rw same (leaves_all stock (record stock { phase = Claim found }) refl refl)
    by false other = rw other (leaves-next_block stock)
leaves-on_block stock found (Some (Owned client class)) = by ((client == stock.client) && (class == stock.class)) refl
  where
    by : (t : Bool) → ((client == stock.client) && (class == stock.class)) ≡ t
        → LeavesOthers stock (on_block stock found (Some (Owned client class))).state
    by true own = rw own (leaves-spreads_from stock false 0)
    by false other = rw other (leaves-next_block stock)

leaves-on_block_word : (stock : Stock) (found : ℕ) → LeavesOthers stock (on_block_word stock found).state
leaves-on_block_word stock found = by (is_own stock (region_at stock) (block_at stock)) refl
  where
    by : (t : Bool) → is_own stock (region_at stock) (block_at stock) ≡ t → LeavesOthers stock (on_block_word stock found).state
    by true own = rw own (leaves-next_block stock)
    by false other = rw other (leaves-on_block stock found (block_in found))

leaves-claim : (stock : Stock) (word found : ℕ) → LeavesOthers stock (turn_at (Claim word) stock (Word found)).state
leaves-claim stock word found = by (found == word) refl
  where
    by : (t : Bool) → (found == word) ≡ t → LeavesOthers stock (turn_at (Claim word) stock (Word found)).state
    by true swapped = rw swapped (leaves-spreads_from stock (word == 0) 0)
    by false lost = rw lost (leaves-next_block stock)

-- any turn whose verb was not refused
pub leaves-turn : (stock : Stock) (phase : Phase) (found : ℕ)
    → LeavesOthers stock (turn_at phase stock (answer_of (verb_at phase stock) found)).state
leaves-turn stock Rest found = leaves_all stock stock refl refl
leaves-turn stock AskFirst found = leaves-on_first stock found
leaves-turn stock (Scan i) found =
    leaves_on stock (with_scanned stock i found) (on_scan (with_scanned stock i found) i).state (leaves-with_scanned stock i found)
    (leaves-on_scan (with_scanned stock i found) i)
leaves-turn stock (Ask client) found = leaves-asks_with stock (noted (class_stock stock).awaited client found) (client + 1)
leaves-turn stock ReadBlock found = leaves-on_block_word stock found
leaves-turn stock (Claim word) found = leaves-claim stock word found
leaves-turn stock (Spread unused backup) found = leaves-spreads_from stock unused (backup + 1)
leaves-turn stock ReadBitmap found =
    let with_it = with_block stock 0 (bit_and found (object_bits stock.class)) in
    leaves_on stock with_it (asks_from (with_awaited with_it []) 1).state
    (leaves-with_block stock 0 (bit_and found (object_bits stock.class))) (leaves-asks_with with_it [] 1)
leaves-turn stock WriteHead found = leaves-begins stock stock.mask
