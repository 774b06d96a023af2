-- Which words and pointers name an object of the pool.
use Rattle.std.specs.Prelude.{◌≡◌, ℕ, ◌+◌, ◌-◌, ◌*◌, ◌/◌, ◌%◌, ◌^◌, ◌<◌, Bool, true, ◌&&◌, ◌==◌, nat_lt, nat_le, if◌then◌else◌, List, find, Option, Some, None}
use Rattle.std.specs.List.{range_with_len}
use Rattle.std.specs.Option.{option_and_then}
use Rattle.pointer_fields.specs.Pointer.{pointer_of, region_of, unit_of}
use Rattle.object_form.specs.Block.{block_of_unit, object_of_unit}
use Rattle.object_form.specs.Class.{units_of}
use Rattle.object_form.specs.declared.classes.TheConstants.{CLASSES}
use Rattle.race_slot.specs.Slot.{slot_word, unpacked}
use Rattle.region_view.specs.Layout.{NodeWord, Bitmap}
use Rattle.region_view.specs.Sizes.{Sizes, is_size}
use Rattle.slot_order.specs.Fnv.{finger_of}

-- an object: its pointer and its class
pub record Object : Type 0 where
  pub pointer : ℕ
  pub class : ℕ

-- the class of objects of so many units, if there is one
abbrev pub class_of_units : ℕ → Option ℕ
class_of_units units = find (λ class. units_of class == units) (range_with_len 0 CLASSES)

-- whether a pointer names an object of a class: its unit is the first of one in a block of the pool
unfoldable pub names_object : Sizes → ℕ → ℕ → Bool
names_object sizes class pointer =
    nat_lt pointer (2 ^ 28)
    && is_size sizes.regions (region_of pointer)
    && nat_le 16 (unit_of pointer)
    && nat_lt (unit_of pointer) (16 + 64 * sizes.blocks)
    && ((unit_of pointer - 16) % units_of class == 0)

abbrev pub object_of_class : Sizes → ℕ → ℕ → Option Object
object_of_class sizes pointer class =
    if names_object sizes class pointer then Some (record { pointer = pointer; class = class }) else None

-- the object that a slot word names, if it names one
unfoldable pub object_in : Sizes → ℕ → Option Object
object_in sizes word =
    option_and_then (λ slot. option_and_then (object_of_class sizes slot.pointer) (class_of_units slot.units)) (unpacked word)

-- the object that a slot word names, if the word has the fingerprint of the key too
abbrev pub candidate_in : Sizes → List ℕ → ℕ → Option Object
candidate_in sizes key word = if word / 2 ^ 56 == finger_of key then object_in sizes word else None

-- the slot word that names an object for a key
abbrev pub word_for : List ℕ → ℕ → ℕ → ℕ
word_for key class pointer = slot_word (record { finger = finger_of key; units = units_of class; pointer = pointer })

-- the pointer that a slot word names
abbrev pub pointer_in : ℕ → ℕ
pointer_in word = word % 2 ^ 28

-- object j of a block of a class
abbrev pub pointer_to : ℕ → ℕ → ℕ → ℕ → ℕ
pointer_to region block class j = pointer_of region (16 + 64 * block + j * units_of class)

abbrev pub block_of : ℕ → ℕ
block_of pointer = block_of_unit (unit_of pointer)

-- the number of the object in its block
abbrev pub number_of : ℕ → ℕ → ℕ
number_of pointer class = object_of_unit (unit_of pointer) class

abbrev pub bitmap_of : ℕ → NodeWord
bitmap_of pointer = Bitmap (region_of pointer) (block_of pointer)

-- an object of the pool
pub record IsObject (sizes : Sizes) (object : Object) : Type 0 where
  pub class : object.class < CLASSES
  pub named : names_object sizes object.class object.pointer ≡ true
