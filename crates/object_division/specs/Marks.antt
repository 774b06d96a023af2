-- The objects that a client holds ready: those whose bits are ripe or wait in its own blocks; and where a turn of a choosing
-- takes such bits from.
use Rattle.std.specs.Prelude.{◌≡◌, ℕ, true, ◌⊎◌, List, Some, slice_index_or}
use Rattle.std.specs.Int.{bit_at}
use Rattle.std.specs.List.{Contains}
use Rattle.machine.specs.Choosing.{block_at, own_at, region_at}
use Rattle.machine.specs.ObjectNames.{Object, block_of, number_of}
use Rattle.machine.specs.Stock.{Claim, ClassStock, OwnBlock, Phase, ReadBitmap, Scan, Spread, Stock, no_stock}
use Rattle.pointer_fields.specs.Pointer.{region_of}
use Rattle.object_division.specs.Client.{Given}
use Rattle.object_division.specs.Seen.{IsApart}

-- the blocks that a client has gained for a class
abbrev pub blocks_of : Stock → ℕ → List OwnBlock
blocks_of stock class = (slice_index_or stock.classes class no_stock).own

-- object j of the block is ripe or waits
abbrev pub HasMark : OwnBlock → ℕ → Type 0
HasMark own j = (bit_at own.ripe j ≡ 1) ⊎ (bit_at own.waiting j ≡ 1)

-- object j of this block is, where the block is one of these
pub record IsMarked (list : List OwnBlock) (region block j : ℕ) : Type 0 where
  pub own : OwnBlock
  pub has : Contains list own
  pub region_is : own.region ≡ region
  pub block_is : own.block ≡ block
  pub mark : HasMark own j

-- the object of the class that the pointer names is ripe, in one of these blocks
pub record IsRipe (list : List OwnBlock) (class pointer : ℕ) : Type 0 where
  pub own : OwnBlock
  pub has : Contains list own
  pub region : region_of pointer ≡ own.region
  pub block : block_of pointer ≡ own.block
  pub ripe : bit_at own.ripe (number_of pointer class) ≡ 1

abbrev pub named : ℕ → ℕ → Object
named class pointer = record { pointer = pointer; class = class }

-- what a choosing of a class gives: the reserve, which is ripe, and another object that is ripe
pub record IsGoodGift (of_class : ClassStock) (class : ℕ) (given : Given) : Type 0 where
  pub reserve : of_class.reserve ≡ Some given.object
  pub object : IsRipe of_class.own class given.object
  pub next : IsRipe of_class.own class given.next
  pub apart : IsApart (named class given.object) (named class given.next)

-- the block at the position, and the class that is chosen for
pub record IsHere (stock : Stock) (class region block : ℕ) : Type 0 where
  pub class_is : class ≡ stock.class
  pub region_is : region_at stock ≡ region
  pub block_is : block_at stock ≡ block

-- the client claims the block at the position, and has not gained it yet
abbrev pub IsClaiming : Phase → Type 0
IsClaiming (Claim word) = Unit {0}
IsClaiming (Spread unused backup) = Unit {0}
IsClaiming ReadBitmap = Unit {0}
IsClaiming other = ⊥

-- a block that was unused is written to backups where it was so before, or where its claim has found it unused
pub record ComesFrom (stock : Stock) (phase : Phase) (found : ℕ) (later : Stock) : Type 0 where
  pub region : region_at later ≡ region_at stock
  pub block : block_at later ≡ block_at stock
  pub before : ((old : ℕ) × (phase ≡ Spread true old)) ⊎ ((phase ≡ Claim 0) × (found ≡ 0))

-- the block at the position is none of the client's own, for whatever class
abbrev pub IsNew : Stock → Type 0
IsNew stock =
    (class : ℕ) (own : OwnBlock) → Contains (blocks_of stock class) own → own.region ≡ region_at stock
    → own.block ≡ block_at stock → ⊥

-- a turn marks object j of this block: its bit was found set in the bitmap of an own block, or of the block at the position;
-- or the block at the position was unused, as its claim found or had found, and the claim may be whole
abbrev pub IsSeen : Phase → Stock → ℕ → ℕ → ℕ → ℕ → ℕ → Type 0
IsSeen (Scan i) stock found class region block j =
    (class ≡ stock.class) × ((own_at stock i).region ≡ region) × ((own_at stock i).block ≡ block) × (bit_at found j ≡ 1)
IsSeen ReadBitmap stock found class region block j = IsHere stock class region block × (bit_at found j ≡ 1)
IsSeen (Claim word) stock found class region block j = IsHere stock class region block × (word ≡ 0) × (found ≡ word)
IsSeen (Spread unused backup) stock found class region block j = IsHere stock class region block × (unused ≡ true)
IsSeen other stock found class region block j = ⊥
