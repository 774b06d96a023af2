-- The choosing of an object of a class, and with it the granting of blocks by the clients themselves.
use Rattle.std.specs.Prelude.{◌≡◌, ℕ, ◌<◌, ◌≤◌, ◌+◌, ◌*◌, ◌/◌, ◌%◌, Bool, true, false, not, ◌&&◌, ◌==◌, nat_lt, nat_le, if◌then◌else◌, List, [], ◌∷◌, ◌++◌, length, slice_index_or, slice_set, Option, Some, None, unwrap_or}
use Rattle.std.specs.Option.{option_map_or}
use Rattle.block_alloc.specs.declared.BlockWord.{BlockWord}
use Rattle.block_alloc.specs.declared.BlockWord.TheVariants.{Unused, Owned, Released}
use Rattle.block_alloc.specs.BlockWord.{block_in, word_of}
use Rattle.machine.specs.declared.choosing.Took.{Took}
use Rattle.machine.specs.declared.choosing.Took.TheVariants.{Going, Have, NoSpace, Refused}
use Rattle.machine.specs.EpochRead.{IsView}
use Rattle.machine.specs.ObjectNames.{names_object}
use Rattle.machine.specs.Places.{control, primary_place, replica_count, written_place}
use Rattle.machine.specs.Stock.{OwnBlock, Phase, Rest, AskFirst, Scan, Ask, ReadBlock, Claim, Spread, ReadBitmap, WriteHead, IsStock, Stock, any_waits, class_stock, first_free, is_own, no_stock, object_bits, ripened, scanned_block, view_of, with_class_stock, with_reserve}
use Rattle.machine.specs.Turn.{Turn}
use Rattle.region_view.specs.Control.{EpochWord, Begin, Head}
use Rattle.object_form.specs.declared.classes.TheConstants.{CLASSES}
use Rattle.region_view.specs.Placed.{Viewed}
use Rattle.region_view.specs.Sizes.{Sizes}
use Rattle.region_view.specs.Layout.{NodeWord, BlockWord as block_word_of, Bitmap}
use Rattle.reuse_epoch.specs.Awaited.{Awaited, begin_of, client_of, noted, still_awaited}
use Rattle.std.specs.Prelude.{bit_and}
use Rattle.verb_words.specs.declared.verbs.Answer.{Answer}
use Rattle.verb_words.specs.declared.verbs.Answer.TheVariants.{Word, Done, Lost}
use Rattle.verb_words.specs.declared.verbs.Verb.{Verb}
use Rattle.verb_words.specs.declared.verbs.Verb.TheVariants.{Read, Write, Swap}
use Rattle.verb_words.specs.Verb.{place_of}

-- the block at the present position: regions and blocks rise
abbrev pub region_at : Stock → ℕ
region_at stock = 1 + stock.position / stock.shape.blocks

abbrev pub block_at : Stock → ℕ
block_at stock = stock.position % stock.shape.blocks

abbrev pub word_at_block : Stock → NodeWord
word_at_block stock = block_word_of (region_at stock) (block_at stock)

abbrev pub bitmap_at_block : Stock → NodeWord
bitmap_at_block stock = Bitmap (region_at stock) (block_at stock)

-- the word of a block that the client owns for the class
abbrev pub own_word : Stock → ℕ
own_word stock = word_of (Owned stock.client stock.class)

abbrev pub no_block : OwnBlock
no_block = record { region = 0; block = 0; ripe = 0; waiting = 0 }

abbrev pub own_at : Stock → ℕ → OwnBlock
own_at stock i = slice_index_or (class_stock stock).own i no_block

-- the first client that is awaited, and its begin word; zeros where none is
abbrev pub first_awaited : Stock → Awaited
first_awaited stock = slice_index_or (class_stock stock).awaited 0 (0, 0)

abbrev pub verb_at : Phase → Stock → Verb
verb_at Rest stock = Read (control EpochWord)
verb_at AskFirst stock = Read (control (Begin (client_of (first_awaited stock))))
verb_at (Scan own) stock = Read (primary_place (view_of stock) (Bitmap (own_at stock own).region (own_at stock own).block))
verb_at (Ask client) stock = Read (control (Begin client))
verb_at ReadBlock stock = Read (primary_place (view_of stock) (word_at_block stock))
verb_at (Claim word) stock = Swap (primary_place (view_of stock) (word_at_block stock)) word (own_word stock)
verb_at (Spread unused backup) stock = Write (written_place (view_of stock) (word_at_block stock) backup) (own_word stock)
verb_at ReadBitmap stock = Read (primary_place (view_of stock) (bitmap_at_block stock))
verb_at WriteHead stock = Write (control (Head stock.client stock.class)) (unwrap_or (class_stock stock).reserve 0)

abbrev pub next : Stock → Verb
next stock = verb_at stock.phase stock

abbrev pub goes_to : Stock → Phase → Turn Stock Took
goes_to stock phase = record { state = record stock { phase = phase }; told = Going }

abbrev pub rests : Stock → Took → Turn Stock Took
rests stock told = record { state = record stock { phase = Rest }; told = told }

-- the block at the position is read, or there is none and no object is left
abbrev pub at_block : Stock → Turn Stock Took
at_block stock =
    if nat_lt stock.position (stock.shape.regions * stock.shape.blocks)
    then goes_to stock ReadBlock
    else rests stock (NoSpace stock.class (client_of (first_awaited stock)) (begin_of (first_awaited stock)))

abbrev pub next_block : Stock → Turn Stock Took
next_block stock = at_block (record stock { position = stock.position + 1 })

-- a ripe object becomes the reserve where there is none, and else the reserve after it
abbrev pub takes : Stock → ℕ → Turn Stock Took
takes stock free =
    option_map_or
    (λ reserve. rests stock (Have reserve free))
    (class_stock stock).reserve
    (goes_to (with_class_stock stock (record (class_stock stock) { reserve = Some free })) WriteHead)

-- no object is ripe
abbrev pub looks : Stock → Turn Stock Took
looks stock =
    if nat_lt 0 (length (class_stock stock).awaited) then goes_to stock AskFirst
    else (if not stock.scanned && nat_lt 0 (length (class_stock stock).own) then goes_to stock (Scan 0)
    else at_block stock)

-- what the choosing does next: it takes a ripe object, looks for awaited clients, scans its own blocks, or reads blocks
abbrev pub chooses : Stock → Turn Stock Took
chooses stock = option_map_or (takes stock) (first_free stock.class (class_stock stock)) (looks stock)

-- a new choosing
abbrev pub begins : Stock → ℕ → ℕ → Turn Stock Took
begins stock mask class = chooses (record stock { mask = mask; class = class; scanned = false; position = 0 })

abbrev pub with_awaited : Stock → List Awaited → Stock
with_awaited stock awaited = with_class_stock stock (record (class_stock stock) { awaited = awaited })

abbrev pub ripens : Stock → Turn Stock Took
ripens stock = chooses (with_class_stock stock (ripened (class_stock stock)))

-- no client is left to ask
abbrev pub asked : Stock → Turn Stock Took
asked stock = if length (class_stock stock).awaited == 0 then ripens stock else at_block stock

-- the clients from this number on are asked, but for this one
abbrev pub asks_after : Stock → ℕ → Turn Stock Took
asks_after stock client = if nat_le client stock.shape.clients then goes_to stock (Ask client) else asked stock

abbrev pub asks_from : Stock → ℕ → Turn Stock Took
asks_from stock client = if client == stock.client then asks_after stock (client + 1) else asks_after stock client

-- the first awaited client was read at another begin word, and is no longer awaited
abbrev pub not_awaited : Stock → Turn Stock Took
not_awaited stock = if length (class_stock stock).awaited == 0 then ripens stock else goes_to stock AskFirst

abbrev pub on_first : Stock → ℕ → Turn Stock Took
on_first stock found =
    if found == begin_of (first_awaited stock)
    then at_block stock
    else not_awaited (with_awaited stock (still_awaited (class_stock stock).awaited (client_of (first_awaited stock)) found))

abbrev pub with_scanned : Stock → ℕ → ℕ → Stock
with_scanned stock i found =
    with_class_stock stock (record (class_stock stock) {
      own = slice_set (class_stock stock).own i (scanned_block stock.class (class_stock stock) (own_at stock i) found);
    })

-- all own blocks were scanned
abbrev pub scanned_all : Stock → Turn Stock Took
scanned_all stock = if any_waits (class_stock stock) then asks_from stock 1 else at_block stock

abbrev pub on_scan : Stock → ℕ → Turn Stock Took
on_scan stock i =
    if nat_lt (i + 1) (length (class_stock stock).own)
    then goes_to stock (Scan (i + 1))
    else scanned_all (record stock { scanned = true })

-- a block is gained, with these ripe and these waiting bits
abbrev pub with_block : Stock → ℕ → ℕ → Stock
with_block stock ripe waiting =
    record (with_class_stock stock (record (class_stock stock) {
      own = (class_stock stock).own ++ record { region = region_at stock; block = block_at stock; ripe = ripe; waiting = waiting } ∷ [];
    })) { position = stock.position + 1 }

-- the block has the client's word on every replica: if it was never used, all of its objects are ripe
abbrev pub owns : Stock → Bool → Turn Stock Took
owns stock unused =
    if unused then chooses (with_block stock (object_bits stock.class) 0) else goes_to stock ReadBitmap

abbrev pub spreads_from : Stock → Bool → ℕ → Turn Stock Took
spreads_from stock unused backup =
    if nat_lt (backup + 1) (replica_count (view_of stock) (word_at_block stock))
    then goes_to stock (Spread unused backup)
    else owns stock unused

-- what a block's word lets the client do: claim a block that is unused or released with the class, take over one that it
-- owns without having gained it, or pass it over
abbrev pub on_block : Stock → ℕ → Option BlockWord → Turn Stock Took
on_block stock found None = next_block stock
on_block stock found (Some Unused) = goes_to stock (Claim found)
on_block stock found (Some (Released class)) =
    if class == stock.class then goes_to stock (Claim found) else next_block stock
on_block stock found (Some (Owned client class)) =
    if (client == stock.client) && (class == stock.class) then spreads_from stock false 0 else next_block stock

abbrev pub on_block_word : Stock → ℕ → Turn Stock Took
on_block_word stock found =
    if is_own stock (region_at stock) (block_at stock) then next_block stock else on_block stock found (block_in found)

abbrev pub turn_at : Phase → Stock → Answer → Turn Stock Took
turn_at AskFirst stock (Word found) = on_first stock found
turn_at (Scan i) stock (Word found) = on_scan (with_scanned stock i found) i
turn_at (Ask client) stock (Word found) =
    asks_from (with_awaited stock (noted (class_stock stock).awaited client found)) (client + 1)
turn_at ReadBlock stock (Word found) = on_block_word stock found
turn_at (Claim word) stock (Word found) =
    if found == word then spreads_from stock (word == 0) 0 else next_block stock
turn_at (Spread unused backup) stock Done = spreads_from stock unused (backup + 1)
turn_at ReadBitmap stock (Word found) =
    asks_from (with_awaited (with_block stock 0 (bit_and found (object_bits stock.class))) []) 1
turn_at WriteHead stock Done = begins stock stock.mask stock.class
turn_at phase stock Lost = record { state = stock; told = Refused (place_of (verb_at phase stock)).node }
turn_at phase stock answer = record { state = stock; told = Going }

abbrev pub turn : Stock → Answer → Turn Stock Took
turn stock answer = turn_at stock.phase stock answer

-- the stock once the bit of the object that was taken is cleared: the next reserve is the reserve
abbrev pub taken : Stock → ℕ → ℕ → Stock
taken stock class next =
    record stock { classes = slice_set stock.classes class (with_reserve class (slice_index_or stock.classes class no_stock) next) }

-- what each phase of a choosing needs
abbrev pub IsAt : Phase → Stock → Type 0
IsAt AskFirst stock = 0 < length (class_stock stock).awaited
IsAt (Scan own) stock = own < length (class_stock stock).own
IsAt (Ask client) stock = (1 ≤ client) × (client ≤ stock.shape.clients)
IsAt ReadBlock stock = stock.position < stock.shape.regions * stock.shape.blocks
IsAt (Claim word) stock = stock.position < stock.shape.regions * stock.shape.blocks
IsAt (Spread unused backup) stock =
    (stock.position < stock.shape.regions * stock.shape.blocks)
    × (backup + 1 < replica_count (view_of stock) (word_at_block stock))
IsAt ReadBitmap stock = stock.position < stock.shape.regions * stock.shape.blocks
IsAt phase stock = Unit {0}

-- what holds of the stock of a client that chooses an object of a class under a view
pub record IsReady (view : Viewed) (client class : ℕ) (stock : Stock) : Type 0 where
  pub is_stock : IsStock view.shape client stock
  pub is_view : IsView view
  pub number : (1 ≤ client) × (client ≤ view.shape.clients)
  pub held : stock.mask ≡ view.mask
  pub same : stock.class ≡ class
  pub below : class < CLASSES

pub record IsChoosing (view : Viewed) (client class : ℕ) (stock : Stock) : Type 0 where
  pub ready : IsReady view client class stock
  pub phase : IsAt stock.phase stock

-- what holds of what a choosing tells: the objects are objects of the class
abbrev pub IsTaken : Sizes → ℕ → Took → Type 0
IsTaken sizes class (Have object next) = (names_object sizes class object ≡ true) × (names_object sizes class next ≡ true)
IsTaken sizes class told = Unit {0}
