-- Counting one after the other counts all.
use Rattle.std.proofs.Common.{◌≡◌, ℕ, suc, ◌+◌, ◌/◌, ◌≤◌, Bool, true, false, if◌then◌else◌, cond, List, [], ◌∷◌, ◌++◌, length, map, Option, Some, None, refl, sym, ap, ◌∙◌, arith}
use Rattle.std.specs.Prelude.{count_by, is_some}
use Rattle.std.specs.List.{flat_map, range_with_len}
use Rattle.std.specs.Option.{option_map_or}
use Rattle.std.proofs.Math.Nat.{div-le_self}
use Rattle.std.proofs.lemmas.List.{append-nil}
use Rattle.object_form.specs.Class.{units_of}
use Rattle.std.proofs.lemmas.List.FromFn.{length-map-range_with_len, map-range_with_len_more}
use Rattle.std.proofs.lemmas.List.Sums.{sum_by-cons}
use Rattle.std.proofs.lemmas.Grind.{flat_map-append}
use Rattle.machine.specs.ObjectNames.{Object, pointer_to}
use Rattle.machine_world.specs.Readings.{block_count, block_in_force, block_state, class_of, blocks_of, division_of, granted_objects, holder_of, is_awaiting, is_held, is_in_stock, is_owned, is_present, is_released, is_stock, is_unused, object_count, objects_in, objects_of_class, slot_of_present, state_of_object}
use Rattle.machine_world.specs.World.{World}
use Rattle.machine_world.specs.declared.parts.BlockState.{BlockState}
use Rattle.machine_world.specs.declared.parts.BlockState.TheVariants as of_block
use Rattle.machine_world.specs.declared.parts.Division.{Division}
use Rattle.machine_world.specs.declared.parts.ObjectState.{ObjectState}
use Rattle.machine_world.specs.declared.parts.ObjectState.TheVariants as of_object
use Rattle.region_view.specs.Sizes.{Sizes}
use Rattle.world_ledger.specs.Divisions.{IsAtMost, no_division, with_block, with_blocks, with_object, with_objects}
use Rattle.world_ledger.specs.NamedUnits.{is_named}

one_more : (a n : ℕ) → a + 1 + n ≡ a + (1 + n)
one_more a n = omega arith

as_many : (a n : ℕ) → a + n ≡ a + (0 + n)
as_many a n = omega arith

none_more : (a : ℕ) → a ≡ a + 0
none_more a = omega arith

from_none : (n : ℕ) → 0 + n ≡ n
from_none n = omega arith

-- how many blocks of some there are in each state
abbrev with_block_counts : World → List (ℕ × ℕ) → Division → Division
with_block_counts world blocks division = record division {
  unused = division.unused + count_by (λ block. is_unused (block_state world block.0 block.1)) blocks;
  owned = division.owned + count_by (λ block. is_owned (block_state world block.0 block.1)) blocks;
  awaiting = division.awaiting + count_by (λ block. is_awaiting (block_state world block.0 block.1)) blocks;
  released = division.released + count_by (λ block. is_released (block_state world block.0 block.1)) blocks;
}

blocks-counted : (world : World) (blocks : List (ℕ × ℕ)) (division : Division) → with_blocks world blocks division ≡ with_block_counts world blocks division
blocks-counted world [] division =
    λ i. record division { unused = none_more division.unused i; owned = none_more division.owned i; awaiting = none_more division.awaiting i; released = none_more division.released i }
blocks-counted world (block ∷ blocks) division =
    blocks-counted world blocks (with_block (block_state world block.0 block.1) division)
    ∙ by (block_state world block.0 block.1) _ _ _ _
    ∙ (λ i. record division {
      unused = division.unused + sym (sum_by-cons (λ b. cond (is_unused (block_state world b.0 b.1)) 1 0) block blocks) i;
      owned = division.owned + sym (sum_by-cons (λ b. cond (is_owned (block_state world b.0 b.1)) 1 0) block blocks) i;
      awaiting = division.awaiting + sym (sum_by-cons (λ b. cond (is_awaiting (block_state world b.0 b.1)) 1 0) block blocks) i;
      released = division.released + sym (sum_by-cons (λ b. cond (is_released (block_state world b.0 b.1)) 1 0) block blocks) i;
    })
  where
    by : (state : BlockState) (n m k l : ℕ)
        → record (with_block state division) { unused = (with_block state division).unused + n; owned = (with_block state division).owned + m; awaiting = (with_block state division).awaiting + k; released = (with_block state division).released + l }
        ≡ record division { unused = division.unused + (cond (is_unused state) 1 0 + n); owned = division.owned + (cond (is_owned state) 1 0 + m); awaiting = division.awaiting + (cond (is_awaiting state) 1 0 + k); released = division.released + (cond (is_released state) 1 0 + l) }
    by of_block.Unused n m k l = λ i. record division { unused = one_more division.unused n i; owned = as_many division.owned m i; awaiting = as_many division.awaiting k i; released = as_many division.released l i }
    by (of_block.Owned client) n m k l = λ i. record division { unused = as_many division.unused n i; owned = one_more division.owned m i; awaiting = as_many division.awaiting k i; released = as_many division.released l i }
    by (of_block.Awaiting client) n m k l = λ i. record division { unused = as_many division.unused n i; owned = as_many division.owned m i; awaiting = one_more division.awaiting k i; released = as_many division.released l i }
    by of_block.Released n m k l = λ i. record division { unused = as_many division.unused n i; owned = as_many division.owned m i; awaiting = as_many division.awaiting k i; released = one_more division.released l i }

-- one object more, by its state
abbrev with_state : ObjectState → Division → Division
with_state of_object.Stock division = record division { stock = division.stock + 1 }
with_state (of_object.Present slot) division = record division { present = division.present + 1 }
with_state (of_object.Held client) division = record division { held = division.held + 1 }

with_object-state : (world : World) (object : Object) (division : Division)
    → with_object (is_in_stock world.shape world.nodes object) (is_named world.shape world.nodes object.pointer) division ≡ with_state (state_of_object world object) division
with_object-state world object division = by (is_in_stock world.shape world.nodes object) (slot_of_present world.shape world.nodes object.pointer)
  where
    by : (in_stock : Bool) (slot : Option ℕ) → with_object in_stock (is_some slot) division
        ≡ with_state (if in_stock then of_object.Stock else option_map_or of_object.Present slot (of_object.Held (holder_of world object.pointer))) division
    by true slot = refl
    by false None = refl
    by false (Some slot) = refl

-- how many objects of some there are in each state
abbrev with_object_counts : World → List Object → Division → Division
with_object_counts world objects division = record division {
  stock = division.stock + count_by (λ object. is_stock (state_of_object world object)) objects;
  present = division.present + count_by (λ object. is_present (state_of_object world object)) objects;
  held = division.held + count_by (λ object. is_held (state_of_object world object)) objects;
}

objects-counted : (world : World) (objects : List Object) (division : Division) → with_objects world.shape world.nodes objects division ≡ with_object_counts world objects division
objects-counted world [] division = λ i. record division { stock = none_more division.stock i; present = none_more division.present i; held = none_more division.held i }
objects-counted world (object ∷ objects) division =
    ap (with_objects world.shape world.nodes objects) (with_object-state world object division)
    ∙ objects-counted world objects (with_state (state_of_object world object) division)
    ∙ by (state_of_object world object) _ _ _
    ∙ (λ i. record division {
      stock = division.stock + sym (sum_by-cons (λ o. cond (is_stock (state_of_object world o)) 1 0) object objects) i;
      present = division.present + sym (sum_by-cons (λ o. cond (is_present (state_of_object world o)) 1 0) object objects) i;
      held = division.held + sym (sum_by-cons (λ o. cond (is_held (state_of_object world o)) 1 0) object objects) i;
    })
  where
    by : (state : ObjectState) (n m k : ℕ)
        → record (with_state state division) { stock = (with_state state division).stock + n; present = (with_state state division).present + m; held = (with_state state division).held + k }
        ≡ record division { stock = division.stock + (cond (is_stock state) 1 0 + n); present = division.present + (cond (is_present state) 1 0 + m); held = division.held + (cond (is_held state) 1 0 + k) }
    by of_object.Stock n m k = λ i. record division { stock = one_more division.stock n i; present = as_many division.present m i; held = as_many division.held k i }
    by (of_object.Present slot) n m k = λ i. record division { stock = as_many division.stock n i; present = one_more division.present m i; held = as_many division.held k i }
    by (of_object.Held client) n m k = λ i. record division { stock = as_many division.stock n i; present = as_many division.present m i; held = one_more division.held k i }

-- all blocks and all objects of granted blocks are counted
pub all-counted : (world : World) → with_objects world.shape world.nodes (granted_objects world) (with_blocks world (blocks_of world.shape) no_division) ≡ division_of world
unfolding division_of
all-counted world =
    objects-counted world (granted_objects world) (with_blocks world (blocks_of world.shape) no_division)
    ∙ ap (with_object_counts world (granted_objects world)) (blocks-counted world (blocks_of world.shape) no_division)
    ∙ (λ i. record {
      unused = from_none (block_count world is_unused) i;
      owned = from_none (block_count world is_owned) i;
      awaiting = from_none (block_count world is_awaiting) i;
      released = from_none (block_count world is_released) i;
      stock = from_none (object_count world is_stock) i;
      present = from_none (object_count world is_present) i;
      held = from_none (object_count world is_held) i;
    })

pub with_blocks-push : (world : World) (blocks : List (ℕ × ℕ)) (block : ℕ × ℕ) (division : Division) → with_blocks world (blocks ++ block ∷ []) division ≡ with_block (block_state world block.0 block.1) (with_blocks world blocks division)
with_blocks-push world [] block division = refl
with_blocks-push world (other ∷ blocks) block division = with_blocks-push world blocks block (with_block (block_state world other.0 other.1) division)

pub with_objects-append : (sizes : Sizes) (nodes : List (List ℕ)) (objects others : List Object) (division : Division)
    → with_objects sizes nodes (objects ++ others) division ≡ with_objects sizes nodes others (with_objects sizes nodes objects division)
with_objects-append sizes nodes [] others division = refl
with_objects-append sizes nodes (object ∷ objects) others division =
    with_objects-append sizes nodes objects others (with_object (is_in_stock sizes nodes object) (is_named sizes nodes object.pointer) division)

pub block-more : (n : ℕ) (state : BlockState) (division : Division) → IsAtMost n division → IsAtMost (n + 1) (with_block state division)
block-more n of_block.Unused division few = record { unused = omega (arith, few.unused); owned = omega (arith, few.owned); awaiting = omega (arith, few.awaiting); released = omega (arith, few.released); stock = omega (arith, few.stock); present = omega (arith, few.present); held = omega (arith, few.held) }
block-more n (of_block.Owned client) division few = record { unused = omega (arith, few.unused); owned = omega (arith, few.owned); awaiting = omega (arith, few.awaiting); released = omega (arith, few.released); stock = omega (arith, few.stock); present = omega (arith, few.present); held = omega (arith, few.held) }
block-more n (of_block.Awaiting client) division few = record { unused = omega (arith, few.unused); owned = omega (arith, few.owned); awaiting = omega (arith, few.awaiting); released = omega (arith, few.released); stock = omega (arith, few.stock); present = omega (arith, few.present); held = omega (arith, few.held) }
block-more n of_block.Released division few = record { unused = omega (arith, few.unused); owned = omega (arith, few.owned); awaiting = omega (arith, few.awaiting); released = omega (arith, few.released); stock = omega (arith, few.stock); present = omega (arith, few.present); held = omega (arith, few.held) }

pub object-more : (n : ℕ) (in_stock named : Bool) (division : Division) → IsAtMost n division → IsAtMost (n + 1) (with_object in_stock named division)
object-more n true named division few = record { unused = omega (arith, few.unused); owned = omega (arith, few.owned); awaiting = omega (arith, few.awaiting); released = omega (arith, few.released); stock = omega (arith, few.stock); present = omega (arith, few.present); held = omega (arith, few.held) }
object-more n false true division few = record { unused = omega (arith, few.unused); owned = omega (arith, few.owned); awaiting = omega (arith, few.awaiting); released = omega (arith, few.released); stock = omega (arith, few.stock); present = omega (arith, few.present); held = omega (arith, few.held) }
object-more n false false division few = record { unused = omega (arith, few.unused); owned = omega (arith, few.owned); awaiting = omega (arith, few.awaiting); released = omega (arith, few.released); stock = omega (arith, few.stock); present = omega (arith, few.present); held = omega (arith, few.held) }

pub at_most-more : (n m : ℕ) (division : Division) → n ≤ m → IsAtMost n division → IsAtMost m division
at_most-more n m division more few = record { unused = omega (arith, few.unused); owned = omega (arith, few.owned); awaiting = omega (arith, few.awaiting); released = omega (arith, few.released); stock = omega (arith, few.stock); present = omega (arith, few.present); held = omega (arith, few.held) }

pub objects-more : (sizes : Sizes) (nodes : List (List ℕ)) (n : ℕ) (objects : List Object) (division : Division) → IsAtMost n division → IsAtMost (n + length objects) (with_objects sizes nodes objects division)
objects-more sizes nodes n [] division few = at_most-more n (n + 0) division (omega arith) few
objects-more sizes nodes n (object ∷ objects) division few =
    let in_stock = is_in_stock sizes nodes object in
    let named = is_named sizes nodes object.pointer in
    at_most-more (n + 1 + length objects) (n + suc (length objects)) (with_objects sizes nodes objects (with_object in_stock named division)) (omega arith)
    (objects-more sizes nodes (n + 1) objects (with_object in_stock named division) (object-more n in_stock named division few))

-- worlds in which blocks are in the same states are counted alike
pub with_blocks-same : (world other : World) (blocks : List (ℕ × ℕ)) (division : Division) → ((block : ℕ × ℕ) → block_state world block.0 block.1 ≡ block_state other block.0 block.1) → with_blocks world blocks division ≡ with_blocks other blocks division
with_blocks-same world other [] division same = refl
with_blocks-same world other (block ∷ blocks) division same =
    ap (λ state. with_blocks world blocks (with_block state division)) (same block) ∙ with_blocks-same world other blocks (with_block (block_state other block.0 block.1) division) same

-- one block more has its objects, 64 at most
pub granted-more : (world : World) (f : ℕ → ℕ × ℕ) (n : ℕ) → flat_map (objects_in world) (map f (range_with_len 0 (n + 1))) ≡ flat_map (objects_in world) (map f (range_with_len 0 n)) ++ objects_in world (f n)
granted-more world f n =
    ap (flat_map (objects_in world)) (map-range_with_len_more f 0 n n (omega arith))
    ∙ flat_map-append (objects_in world) (map f (range_with_len 0 n)) (f n ∷ [])
    ∙ ap (λ l. flat_map (objects_in world) (map f (range_with_len 0 n)) ++ l) (append-nil (objects_in world (f n)))

pub objects_in-few : (world : World) (block : ℕ × ℕ) → length (objects_in world block) ≤ 64
objects_in-few world block = by (class_of (block_in_force world block.0 block.1))
  where
    by : (class : Option ℕ) → length (option_map_or (objects_of_class block.0 block.1) class []) ≤ 64
    by None = omega arith
    by (Some class) =
        let long = length-map-range_with_len {X = Object} (λ j. record { pointer = pointer_to block.0 block.1 class j; class = class }) 0 (64 / units_of class) in
        omega (arith, long, div-le_self 64 (units_of class))
