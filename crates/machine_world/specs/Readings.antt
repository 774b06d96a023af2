-- What can be read off the world: the words that decide, and where blocks, objects and calls stand.
use Rattle.std.specs.Prelude.{ℕ, ◌+◌, ◌-◌, ◌*◌, ◌/◌, ◌%◌, ◌^◌, Bool, true, false, not, ◌&&◌, ◌||◌, ◌==◌, nat_lt, if◌then◌else◌, List, [], map, find, count_by, slice_index_or, Option, Some, None}
use Rattle.std.specs.List.{flat_map, range_with_len}
use Rattle.std.specs.Option.{option_map_or}
use Rattle.block_alloc.specs.declared.BlockWord.{BlockWord}
use Rattle.block_alloc.specs.declared.BlockWord.TheVariants as block_word
use Rattle.block_alloc.specs.BlockWord.{block_in}
use Rattle.machine.specs.BitChange.{has_bit}
use Rattle.machine.specs.Client.{is_idle}
use Rattle.machine.specs.ObjectNames.{Object, bitmap_of, block_of, number_of, object_in, pointer_to}
use Rattle.machine.specs.Places.{control, place_of_home}
use Rattle.machine_world.specs.World.{World, client_at, is_among, is_registered, is_stopped}
use Rattle.machine_world.specs.declared.parts.BlockState.{BlockState}
use Rattle.machine_world.specs.declared.parts.BlockState.TheVariants as of_block
use Rattle.machine_world.specs.declared.parts.Division.{Division}
use Rattle.machine_world.specs.declared.parts.ObjectState.{ObjectState}
use Rattle.machine_world.specs.declared.parts.ObjectState.TheVariants as of_object
use Rattle.object_form.specs.Class.{units_of}
use Rattle.pointer_fields.specs.Pointer.{region_of, unit_of}
use Rattle.region_view.specs.Control.{EpochWord}
use Rattle.region_view.specs.Layout.{NodeWord, Slot, BlockWord as block_word_at, region_of_word}
use Rattle.region_view.specs.Placed.{Viewed, placed_node, replicas_of}
use Rattle.region_view.specs.Sizes.{Sizes}
use Rattle.verb_words.specs.Words.{word_at}

-- Of the epoch word the mask and the seal are read, whatever the rest is.

abbrev pub epoch_in_force : List (List ℕ) → ℕ
epoch_in_force nodes = word_at nodes (control EpochWord)

abbrev pub mask_in_force : List (List ℕ) → ℕ
mask_in_force nodes = epoch_in_force nodes % 2 ^ 8

abbrev pub is_sealed : List (List ℕ) → Bool
is_sealed nodes = epoch_in_force nodes / 2 ^ 8 % 2 == 1

abbrev pub view_in_force : Sizes → List (List ℕ) → Viewed
view_in_force sizes nodes = record { shape = sizes; mask = mask_in_force nodes }

-- the primary of a region under the mask of the epoch word, also while that is sealed; where the mask leaves the region
-- bare, the first node that it is placed on
abbrev pub primary_of : Sizes → List (List ℕ) → ℕ → ℕ
primary_of sizes nodes region = slice_index_or (replicas_of (view_in_force sizes nodes) region) 0 (placed_node sizes region 0)

-- a word of a region on its primary
unfoldable pub word_in_force : Sizes → List (List ℕ) → NodeWord → ℕ
word_in_force sizes nodes word = word_at nodes (place_of_home sizes (primary_of sizes nodes (region_of_word word), word))

-- the deciding word of a slot
abbrev pub deciding_word : Sizes → List (List ℕ) → ℕ → ℕ
deciding_word sizes nodes slot = word_in_force sizes nodes (Slot slot)

-- whether the bit of an object is set on the primary
abbrev pub is_in_stock : Sizes → List (List ℕ) → Object → Bool
is_in_stock sizes nodes object = has_bit (word_in_force sizes nodes (bitmap_of object.pointer)) (number_of object.pointer object.class)

-- whether a word names the object of a pointer
abbrev pub names : Sizes → ℕ → ℕ → Bool
names sizes pointer word = option_map_or (λ object. object.pointer == pointer) (object_in sizes word) false

-- the least slot whose deciding word names the object of a pointer
unfoldable pub slot_of_present : Sizes → List (List ℕ) → ℕ → Option ℕ
slot_of_present sizes nodes pointer = find (λ slot. names sizes pointer (deciding_word sizes nodes slot)) (range_with_len 0 (24 * sizes.groups))

-- Calls.

-- A call is unfinished until it returns; where its client stopped first, until a recovery has found or made the begin word
-- even.
abbrev pub is_unfinished : World → ℕ → Bool
is_unfinished world client =
    is_registered world client && not (is_idle (client_at world client)) && not (is_among client world.master.settled)

abbrev pub has_returned : World → ℕ → ℕ → Bool
has_returned world client number =
    nat_lt number (client_at world client).number
    || ((number == (client_at world client).number) && is_idle (client_at world client))

-- Blocks.

-- a block that a client owns waits for that client's recovery once the client is stopped
abbrev pub owned_state : World → ℕ → BlockState
owned_state world client =
    if is_stopped world client && not (is_among client world.master.recovered) then of_block.Awaiting client else of_block.Owned client

abbrev pub state_of_word : World → Option BlockWord → BlockState
state_of_word world None = of_block.Unused
state_of_word world (Some block_word.Unused) = of_block.Unused
state_of_word world (Some (block_word.Owned client class)) = owned_state world client
state_of_word world (Some (block_word.Released class)) = of_block.Released

-- what a block's word says, on its primary
abbrev pub block_in_force : World → ℕ → ℕ → Option BlockWord
block_in_force world region block = block_in (word_in_force world.shape world.nodes (block_word_at region block))

abbrev pub block_state : World → ℕ → ℕ → BlockState
block_state world region block = state_of_word world (block_in_force world region block)

-- the class for which a block is granted, if it is
abbrev pub class_of : Option BlockWord → Option ℕ
class_of None = None
class_of (Some block_word.Unused) = None
class_of (Some (block_word.Owned client class)) = Some class
class_of (Some (block_word.Released class)) = Some class

-- Objects of granted blocks.

-- the place of a unit among those of all data regions
abbrev pub unit_index : Sizes → ℕ → ℕ
unit_index sizes pointer = (region_of pointer - 1) * (64 * sizes.blocks) + (unit_of pointer - 16)

-- who last took the object, or replaced it
abbrev pub holder_of : World → ℕ → ℕ
holder_of world pointer = slice_index_or world.ledger.holders (unit_index world.shape pointer) 1

abbrev pub out_of_stock : World → ℕ → ObjectState
out_of_stock world pointer =
    option_map_or of_object.Present (slot_of_present world.shape world.nodes pointer) (of_object.Held (holder_of world pointer))

-- an object is in stock, or a slot names it, or a call holds it
abbrev pub state_of_object : World → Object → ObjectState
state_of_object world object =
    if is_in_stock world.shape world.nodes object then of_object.Stock else out_of_stock world object.pointer

-- the same of a pointer, by the class of its block; class 0 where the block is not granted
abbrev pub object_state : World → ℕ → ObjectState
object_state world pointer =
    state_of_object world (record {
      pointer = pointer;
      class = option_map_or (λ class. class) (class_of (block_in_force world (region_of pointer) (block_of pointer))) 0;
    })

-- Counts.

abbrev pub blocks_of : Sizes → List (ℕ × ℕ)
blocks_of sizes =
    map (λ position. (1 + position / sizes.blocks, position % sizes.blocks)) (range_with_len 0 (sizes.regions * sizes.blocks))

abbrev pub objects_of_class : ℕ → ℕ → ℕ → List Object
objects_of_class region block class =
    map (λ j. record { pointer = pointer_to region block class j; class = class }) (range_with_len 0 (64 / units_of class))

abbrev pub objects_in : World → ℕ × ℕ → List Object
objects_in world block =
    option_map_or (objects_of_class block.0 block.1) (class_of (block_in_force world block.0 block.1)) []

-- the objects of all granted blocks
abbrev pub granted_objects : World → List Object
granted_objects world = flat_map (objects_in world) (blocks_of world.shape)

abbrev pub is_unused : BlockState → Bool
is_unused of_block.Unused = true
is_unused state = false

abbrev pub is_owned : BlockState → Bool
is_owned (of_block.Owned client) = true
is_owned state = false

abbrev pub is_awaiting : BlockState → Bool
is_awaiting (of_block.Awaiting client) = true
is_awaiting state = false

abbrev pub is_released : BlockState → Bool
is_released of_block.Released = true
is_released state = false

abbrev pub is_stock : ObjectState → Bool
is_stock of_object.Stock = true
is_stock state = false

abbrev pub is_present : ObjectState → Bool
is_present (of_object.Present slot) = true
is_present state = false

abbrev pub is_held : ObjectState → Bool
is_held (of_object.Held client) = true
is_held state = false

abbrev pub block_count : World → (BlockState → Bool) → ℕ
block_count world test = count_by (λ block. test (block_state world block.0 block.1)) (blocks_of world.shape)

abbrev pub object_count : World → (ObjectState → Bool) → ℕ
object_count world test = count_by (λ object. test (state_of_object world object)) (granted_objects world)

unfoldable pub division_of : World → Division
division_of world = record {
  unused = block_count world is_unused;
  owned = block_count world is_owned;
  awaiting = block_count world is_awaiting;
  released = block_count world is_released;
  stock = object_count world is_stock;
  present = object_count world is_present;
  held = object_count world is_held;
}
