-- What holds of a stock from its beginning on.
use Rattle.std.specs.Prelude.{◌≡◌, ℕ, ◌+◌, ◌-◌, ◌*◌, ◌<◌, ◌≤◌, ◌==◌, false, All, [], map, slice_index_or}
use Rattle.std.specs.List.{IsDistinct}
use Rattle.machine.specs.Choosing.{IsAt, block_at, region_at}
use Rattle.machine.specs.Stock.{ClassStock, IsStock, OwnBlock, Phase, Rest, AskFirst, Scan, Ask, ReadBlock, Claim, Spread, ReadBitmap, WriteHead, Stock, class_stock, is_own, no_stock}
use Rattle.object_alloc.specs.Choosers.{IsFit, rooms_of, stock_of}
use Rattle.object_alloc.specs.declared.choosers.Chooser.{Chooser}
use Rattle.object_form.specs.declared.classes.TheConstants.{CLASSES}
use Rattle.region_view.specs.Placed.{LeavesNoneBare}
use Rattle.region_view.specs.Sizes.{Sizes}
use Rattle.reuse_epoch.specs.Awaited.{client_of}

-- the number of a block in the pool, where regions and blocks rise
abbrev pub number_in : Sizes → OwnBlock → ℕ
number_in sizes own = (own.region - 1) * sizes.blocks + own.block

-- no block stands twice in the stock of a class
abbrev pub IsApart : Sizes → ClassStock → Type 0
IsApart sizes of_class = IsDistinct (λ one other. one == other) (map (number_in sizes) of_class.own)

-- the client has not gained the block at the position
abbrev pub IsNotOwn : Stock → Type 0
IsNotOwn stock = is_own stock (region_at stock) (block_at stock) ≡ false

-- what a phase needs beside its place: blocks are scanned while nobody is awaited, clients are asked as their numbers rise,
-- and only a block that is not yet an own one is gained
abbrev pub IsOn : Phase → Stock → Type 0
IsOn Rest stock = Unit {0}
IsOn AskFirst stock = Unit {0}
IsOn (Scan own) stock = (class_stock stock).awaited ≡ []
IsOn (Ask client) stock = All (λ one. client_of one < client) (class_stock stock).awaited
IsOn ReadBlock stock = Unit {0}
IsOn (Claim word) stock = IsNotOwn stock
IsOn (Spread unused backup) stock = IsNotOwn stock
IsOn ReadBitmap stock = IsNotOwn stock
IsOn WriteHead stock = Unit {0}

-- once a choosing began there is a view
abbrev pub HasView : Phase → Stock → Type 0
HasView Rest stock = Unit {0}
HasView AskFirst stock = LeavesNoneBare stock.shape stock.mask
HasView (Scan own) stock = LeavesNoneBare stock.shape stock.mask
HasView (Ask client) stock = LeavesNoneBare stock.shape stock.mask
HasView ReadBlock stock = LeavesNoneBare stock.shape stock.mask
HasView (Claim word) stock = LeavesNoneBare stock.shape stock.mask
HasView (Spread unused backup) stock = LeavesNoneBare stock.shape stock.mask
HasView ReadBitmap stock = LeavesNoneBare stock.shape stock.mask
HasView WriteHead stock = LeavesNoneBare stock.shape stock.mask

pub record IsHeld (stock : Stock) : Type 0 where
  pub state : IsStock stock.shape stock.client stock
  pub fit : IsFit stock
  pub number : (1 ≤ stock.client) × (stock.client ≤ stock.shape.clients)
  pub apart : (class : ℕ) → class < CLASSES → IsApart stock.shape (slice_index_or stock.classes class no_stock)
  pub view : HasView stock.phase stock
  pub at : IsAt stock.phase stock
  pub on : IsOn stock.phase stock

-- each class has room for every block of the pool
abbrev pub IsRoomy : Chooser → Type 0
IsRoomy chooser = (class : ℕ) → class < CLASSES → slice_index_or (rooms_of chooser) class 0 ≡ chooser.shape.regions * chooser.shape.blocks

pub record IsKept (chooser : Chooser) : Type 0 where
  pub held : IsHeld (stock_of chooser)
  pub roomy : IsRoomy chooser
