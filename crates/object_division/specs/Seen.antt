-- The bit of an object on its replicas as it stands in the words, and a change of it as one of a single object's bits.
use Rattle.std.specs.Prelude.{◌≡◌, ◌≢◌, ℕ, ◌<◌, ◌≤◌, ◌⊎◌, ◌^◌, Bool, true, not, if◌then◌else◌, List, length, map, Option, Some, None}
use Rattle.std.specs.List.{range_with_len}
use Rattle.machine.specs.declared.bit_change.Changed.{Changed}
use Rattle.machine.specs.declared.bit_change.Changed.TheVariants.{Whole}
use Rattle.machine.specs.BitChange.{BitChange, Look, Phase, bit_number, bitmap_place, has_bit}
use Rattle.machine.specs.BitChange as bits
use Rattle.machine.specs.BitChange.{IsBitChange}
use Rattle.machine.specs.ObjectNames.{Object, bitmap_of, number_of}
use Rattle.machine.specs.Places.{IsInPool, replica_count, written_place}
use Rattle.machine.specs.Turn.{Turn}
use Rattle.object_bits.specs.Bits.{Adding, Blind, Change, Looking, bit_at}
use Rattle.object_bits.specs.Bits as object_bits
use Rattle.object_bits.specs.Claims.{AreAll, IsRightAt}
use Rattle.region_view.specs.Placed.{Viewed}
use Rattle.verb_words.specs.declared.verbs.Place.{Place}
use Rattle.verb_words.specs.Words.{HasPlace, word_at}

-- the object's bit on each replica, in the order in which they are changed
abbrev pub bits_of : Viewed → List (List ℕ) → Object → List Bool
bits_of view words object =
    map (λ i. has_bit (word_at words (written_place view (bitmap_of object.pointer) i)) (number_of object.pointer object.class))
    (range_with_len 0 (replica_count view (bitmap_of object.pointer)))

abbrev pub seen_phase : Phase → Bool → object_bits.Phase
seen_phase Look look = Looking
seen_phase bits.Change look = if look then Adding else Blind

-- the change of the object's bit that it is
abbrev pub seen : BitChange → Change
seen change = record { wanted = change.set; done = change.replica; phase = seen_phase change.phase change.look }

-- where a turn has led to, if not to its end
abbrev pub seen_told : BitChange → Changed → Option Change
seen_told change Whole = None
seen_told change other = Some (seen change)

abbrev pub seen_turn : Turn BitChange Changed → Option Change
seen_turn turn = seen_told turn.state turn.told

-- a change that stands in the words: its object is one of the pool, each place is there, and its verb finds a word and, where
-- it adds, the bit as it is not wanted
pub record StandsRight (view : Viewed) (words : List (List ℕ)) (change : BitChange) : Type 0 where
  pub is : IsBitChange view change
  pub places : (place : Place) → IsInPool view.shape place → HasPlace words place
  pub word : word_at words (bitmap_place change) < 2 ^ 64
  pub right : IsRightAt (seen_phase change.phase change.look) (bits_of view words change.object) (seen change)

-- a change that adds without looking finds each replica from its own on as it is not wanted; one that has looked finds its
-- own so
abbrev pub AreToDo : object_bits.Phase → List Bool → Change → Type 0
AreToDo Blind bits change =
    (place : ℕ) → change.done ≤ place → place < length bits → bit_at bits place ≡ not change.wanted
AreToDo Adding bits change = bit_at bits change.done ≡ not change.wanted
AreToDo other bits change = Unit {0}

-- the change is at one of the replicas, and those before it are as they are wanted
pub record IsUnderWay (bits : List Bool) (change : Change) : Type 0 where
  pub within : change.done < length bits
  pub done : (place : ℕ) → place < change.done → bit_at bits place ≡ change.wanted
  pub to_do : AreToDo change.phase bits change

-- a change has come to its end, and every replica is as it is wanted; or it is under way still
abbrev pub HasCome : Bool → List Bool → Option Change → Type 0
HasCome wanted bits None = AreAll wanted bits
HasCome wanted bits (Some change) = (change.wanted ≡ wanted) × IsUnderWay bits change

-- a change that nothing has broken off: the replicas before its own are as they are wanted, and no other is
pub record IsStraight (bits : List Bool) (change : Change) : Type 0 where
  pub within : change.done < length bits
  pub done : (place : ℕ) → place < change.done → bit_at bits place ≡ change.wanted
  pub to_do : (place : ℕ) → change.done ≤ place → place < length bits → bit_at bits place ≡ not change.wanted

-- a change has come straight to its end, or so far
abbrev pub HasComeStraight : Bool → List Bool → Option Change → Type 0
HasComeStraight wanted bits None = AreAll wanted bits
HasComeStraight wanted bits (Some change) = (change.wanted ≡ wanted) × IsStraight bits change

-- the change sets, or clears, the bit of this object; and it looks at a bit only where it is one that looks
pub record IsChangeOf (change : BitChange) (object : Object) (set : Bool) : Type 0 where
  pub object_is : change.object ≡ object
  pub set_is : change.set ≡ set
  pub looks : change.phase ≡ Look → change.look ≡ true

-- another object: of another block, or with another number in its block
abbrev pub IsApart : Object → Object → Type 0
IsApart one other =
    (bitmap_of one.pointer ≢ bitmap_of other.pointer)
    ⊎ (number_of one.pointer one.class ≢ number_of other.pointer other.class)
