-- A chooser of the program as a stock of the machine.
use Rattle.std.specs.Prelude.{◌≡◌, ℕ, ◌*◌, ◌<◌, Bool, true, false, ◌&&◌, ◌==◌, List, Option, Some, None, length, map, slice_index_or}
use Rattle.block_alloc.specs.declared.BlockWord.{BlockWord}
use Rattle.block_alloc.specs.declared.BlockWord.TheVariants.{Unused, Owned, Released}
use Rattle.machine.specs.declared.choosing.Took.{Took}
use Rattle.machine.specs.Stock as machine
use Rattle.machine.specs.Stock.{Stock, class_stock}
use Rattle.machine.specs.Turn.{Turn}
use Rattle.object_alloc.specs.Classes.{HasUnit, class_of, room_of}
use Rattle.object_alloc.specs.declared.choosers.Chooser.{Chooser}
use Rattle.object_alloc.specs.declared.choosers.Phase.{Phase}
use Rattle.object_alloc.specs.declared.choosers.Phase.TheVariants as phase
use Rattle.object_form.specs.declared.classes.TheConstants.{CLASSES}
use Rattle.region_view.specs.Sizes.{IsWithinLimits}

abbrev pub phase_of : Phase → machine.Phase
phase_of phase.Rest = machine.Rest
phase_of phase.AskFirst = machine.AskFirst
phase_of (phase.Scan own) = machine.Scan own
phase_of (phase.Ask client) = machine.Ask client
phase_of phase.ReadBlock = machine.ReadBlock
phase_of (phase.Claim word) = machine.Claim word
phase_of (phase.Spread unused backup) = machine.Spread unused backup
phase_of phase.ReadBitmap = machine.ReadBitmap
phase_of phase.WriteHead = machine.WriteHead

abbrev pub stock_of : Chooser → Stock
stock_of chooser = record {
  client = chooser.client;
  shape = chooser.shape;
  classes = map class_of chooser.classes.items;
  mask = chooser.mask;
  class = chooser.class;
  scanned = chooser.scanned;
  position = chooser.position;
  phase = phase_of chooser.phase;
}

-- what a chooser is after a turn, and what the turn told
abbrev pub turn_of : Chooser → Took → Turn Stock Took
turn_of chooser told = record { state = stock_of chooser; told = told }

-- for how many blocks each class has room
abbrev pub rooms_of : Chooser → List ℕ
rooms_of chooser = map room_of chooser.classes.items

-- the class that is chosen for has room for a block more
abbrev pub HasRoom : Chooser → Type 0
HasRoom chooser = length (class_stock (stock_of chooser)).own < slice_index_or (rooms_of chooser) chooser.class 0

-- what each step of a choosing needs of the stock
pub record IsFit (stock : Stock) : Type 0 where
  pub limits : IsWithinLimits stock.shape
  pub whole : length stock.classes ≡ CLASSES
  pub class : stock.class < CLASSES
  pub reserve : HasUnit (class_stock stock).reserve

-- the present position is that of a block
abbrev pub IsInside : Stock → Type 0
IsInside stock = stock.position < stock.shape.regions * stock.shape.blocks

-- whether a block's word lets the client have the block, where it has not gained it already
abbrev pub lets_in : Stock → Option BlockWord → Bool
lets_in stock None = false
lets_in stock (Some Unused) = true
lets_in stock (Some (Released class)) = class == stock.class
lets_in stock (Some (Owned client class)) = (client == stock.client) && (class == stock.class)
