-- The world, as far as the states of its blocks and objects go.
use Rattle.std.specs.Prelude.{ℕ, ◌+◌, ◌*◌, ◌<◌, ◌≤◌, ◌^◌, Bool, ◌||◌, ◌==◌, List, []}
use Rattle.machine.specs.ObjectNames.{bitmap_of}
use Rattle.machine_world.specs.World.{Ledger, World, first_ledger, first_master}
use Rattle.pointer_fields.specs.Pointer.{region_of, unit_of}
use Rattle.region_view.specs.Layout.{position_of}
use Rattle.region_view.specs.Sizes.{Sizes}
use Rattle.verb_words.specs.declared.verbs.Place.{Place}

-- a world with these words, these clients that are stopped, these that are recovered, and this past
abbrev pub world_seen : Sizes → List (List ℕ) → List ℕ → List ℕ → Ledger → World
world_seen sizes nodes stopped recovered ledger = record {
  shape = sizes;
  nodes = nodes;
  clients = [];
  master = record first_master { recovered = recovered };
  stopped = stopped;
  trace = [];
  ledger = ledger;
  events = 0;
}

-- a world of which the words alone are seen
abbrev pub words_seen : Sizes → List (List ℕ) → World
words_seen sizes nodes = world_seen sizes nodes [] [] (first_ledger sizes)

-- a pointer to a unit of a block of the pool
pub record IsUnit (sizes : Sizes) (pointer : ℕ) : Type 0 where
  pub below : pointer < 2 ^ 28
  pub region : (1 ≤ region_of pointer) × (region_of pointer ≤ sizes.regions)
  pub first : 16 ≤ unit_of pointer
  pub last : unit_of pointer < 16 + 64 * sizes.blocks

-- whether the word at a place may be one by which it is told whether the object of a pointer is in stock: one that stands
-- where the bitmap of the object's block does, or the first one of a node, as the epoch word is
abbrev pub may_bear_on_stock : Sizes → ℕ → Place → Bool
may_bear_on_stock sizes pointer place = (place.at == 0) || (place.at == position_of sizes (bitmap_of pointer))
