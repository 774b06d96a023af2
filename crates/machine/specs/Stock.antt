-- What a client has of each class: the blocks that it owns, with the bits of their objects that it may take at once and
-- of those that wait, the clients that these wait for, and the reserve, which is the object that its next call writes.
use Rattle.std.specs.Prelude.{◌≡◌, ℕ, ◌<◌, ◌≤◌, true, length, All, ◌-◌, ◌/◌, ◌^◌, Bool, false, not, ◌&&◌, ◌==◌, if◌then◌else◌, List, [], map, replicate, find, option_map, slice_index_or, slice_set, Option, Some, None, bit_and, bit_or}
use Rattle.std.specs.Int.{trailing_zeros, w64}
use Rattle.std.specs.List.{list_any}
use Rattle.std.specs.Option.{option_map_or}
use Rattle.machine.specs.ObjectNames.{block_of, names_object, number_of, pointer_to}
use Rattle.object_form.specs.Class.{units_of}
use Rattle.object_form.specs.declared.classes.TheConstants.{CLASSES}
use Rattle.pointer_fields.specs.Pointer.{region_of}
use Rattle.region_view.specs.Placed.{Viewed}
use Rattle.region_view.specs.Sizes.{Sizes}
use Rattle.reuse_epoch.specs.Awaited.{Awaited}

-- a block that the client owns: bit j of a number is for its object j
pub record OwnBlock : Type 0 where
  pub region : ℕ
  pub block : ℕ
  pub ripe : ℕ
  pub waiting : ℕ

-- the blocks of a class in the order in which they were gained
pub record ClassStock : Type 0 where
  pub own : List OwnBlock
  pub reserve : Option ℕ
  pub awaited : List Awaited

-- Rest: no choosing is under way. AskFirst: reads the begin word of the first client that is awaited. Scan: reads the
-- bitmap of an own block. Ask: reads the begin word of a client, to await it. ReadBlock: reads the next block's word.
-- Claim: swaps it to the client's own. Spread: writes it to a backup. ReadBitmap: reads the bitmap of a block that was
-- used before. WriteHead: writes the first reserve of the class
pub data Phase : Type 0 where
  Rest : Phase
  AskFirst : Phase
  Scan : (own : ℕ) → Phase
  Ask : (client : ℕ) → Phase
  ReadBlock : Phase
  Claim : (word : ℕ) → Phase
  Spread : (unused : Bool) → (backup : ℕ) → Phase
  ReadBitmap : Phase
  WriteHead : Phase

-- a client's stock, and its choosing of an object of a class: whether its own blocks were scanned, and how many blocks of
-- the pool it has read
pub record Stock : Type 0 where
  pub client : ℕ
  pub shape : Sizes
  pub classes : List ClassStock
  pub mask : ℕ
  pub class : ℕ
  pub scanned : Bool
  pub position : ℕ
  pub phase : Phase

abbrev pub no_stock : ClassStock
no_stock = record { own = []; reserve = None; awaited = [] }

abbrev pub first_stock : ℕ → Sizes → Stock
first_stock client sizes =
    record { client = client; shape = sizes; classes = replicate CLASSES no_stock; mask = 0; class = 0; scanned = false; position = 0; phase = Rest }

abbrev pub view_of : Stock → Viewed
view_of stock = record { shape = stock.shape; mask = stock.mask }

-- the stock of the class that is chosen for
abbrev pub class_stock : Stock → ClassStock
class_stock stock = slice_index_or stock.classes stock.class no_stock

abbrev pub with_class_stock : Stock → ClassStock → Stock
with_class_stock stock of_class = record stock { classes = slice_set stock.classes stock.class of_class }

-- the bits of one number that another does not have
abbrev pub without : ℕ → ℕ → ℕ
without bits others = bits - bit_and bits others

-- the bits of all objects of a block of a class
abbrev pub object_bits : ℕ → ℕ
object_bits class = 2 ^ (64 / units_of class) - 1

-- whether the pointer is to an object of this block
abbrev pub is_in_block : OwnBlock → ℕ → Bool
is_in_block own pointer = (region_of pointer == own.region) && (block_of pointer == own.block)

abbrev pub bit_of : ℕ → OwnBlock → ℕ → ℕ
bit_of class own pointer = if is_in_block own pointer then 2 ^ number_of pointer class else 0

-- the reserve's bit, where it stands in this block
abbrev pub reserve_bit : ℕ → ClassStock → OwnBlock → ℕ
reserve_bit class of_class own = option_map_or (bit_of class own) of_class.reserve 0

-- the ripe objects of a block, but for the reserve
abbrev pub free_bits : ℕ → ClassStock → OwnBlock → ℕ
free_bits class of_class own = without own.ripe (reserve_bit class of_class own)

abbrev pub has_free : ℕ → ClassStock → OwnBlock → Bool
has_free class of_class own = not (free_bits class of_class own == 0)

-- the lowest ripe object of a block
abbrev pub lowest_free : ℕ → ClassStock → OwnBlock → ℕ
lowest_free class of_class own = pointer_to own.region own.block class (trailing_zeros w64 (free_bits class of_class own))

-- the lowest ripe object of the first own block that has one, but for the reserve
unfoldable pub first_free : ℕ → ClassStock → Option ℕ
first_free class of_class = option_map (lowest_free class of_class) (find (has_free class of_class) of_class.own)

-- all that waits is ripe
abbrev pub ripened_block : OwnBlock → OwnBlock
ripened_block own = record own { ripe = bit_or own.ripe own.waiting; waiting = 0 }

abbrev pub ripened : ClassStock → ClassStock
ripened of_class = record of_class { own = map ripened_block of_class.own }

-- what a bitmap has in stock that is neither ripe nor waits nor is the reserve waits too
abbrev pub new_bits : ℕ → ClassStock → OwnBlock → ℕ → ℕ
new_bits class of_class own found =
    without (without (without (bit_and found (object_bits class)) own.ripe) own.waiting) (reserve_bit class of_class own)

abbrev pub scanned_block : ℕ → ClassStock → OwnBlock → ℕ → OwnBlock
scanned_block class of_class own found = record own { waiting = bit_or own.waiting (new_bits class of_class own found) }

abbrev pub any_waits : ClassStock → Bool
any_waits of_class = list_any (λ own. not (own.waiting == 0)) of_class.own

-- the next reserve is the reserve, and the bit of the one before it is cleared
abbrev pub cleared_block : ℕ → ClassStock → OwnBlock → OwnBlock
cleared_block class of_class own = record own { ripe = free_bits class of_class own }

abbrev pub with_reserve : ℕ → ClassStock → ℕ → ClassStock
with_reserve class of_class next = record of_class { own = map (cleared_block class of_class) of_class.own; reserve = Some next }

abbrev pub is_block : ℕ → ℕ → OwnBlock → Bool
is_block region block own = (own.region == region) && (own.block == block)

-- whether the client has gained the block, for whatever class
abbrev pub is_own : Stock → ℕ → ℕ → Bool
is_own stock region block = list_any (λ of_class. list_any (is_block region block) of_class.own) stock.classes

-- what holds of an own block of a class: it is a block of the pool, and its bits are those of its objects
pub record IsOwn (sizes : Sizes) (class : ℕ) (own : OwnBlock) : Type 0 where
  pub region : (1 ≤ own.region) × (own.region ≤ sizes.regions)
  pub block : own.block < sizes.blocks
  pub ripe : own.ripe < 2 ^ (64 / units_of class)
  pub waiting : own.waiting < 2 ^ (64 / units_of class)

abbrev pub IsAwaitedIn : Sizes → Awaited → Type 0
IsAwaitedIn sizes one = (1 ≤ one.0) × (one.0 ≤ sizes.clients)

-- what holds of the stock of a class: the reserve names an object of it, and who is awaited is a client of the pool
pub record IsClassStock (sizes : Sizes) (class : ℕ) (of_class : ClassStock) : Type 0 where
  pub own : All (IsOwn sizes class) of_class.own
  pub reserve : (pointer : ℕ) → of_class.reserve ≡ Some pointer → names_object sizes class pointer ≡ true
  pub awaited : All (IsAwaitedIn sizes) of_class.awaited

-- what holds of each client's stock
pub record IsStock (sizes : Sizes) (client : ℕ) (stock : Stock) : Type 0 where
  pub owner : stock.client ≡ client
  pub shape : stock.shape ≡ sizes
  pub whole : length stock.classes ≡ CLASSES
  pub classes : (class : ℕ) → class < CLASSES → IsClassStock sizes class (slice_index_or stock.classes class no_stock)
