-- The setting or clearing of an object's bit on each replica, the primary last.
use Rattle.std.specs.Prelude.{◌≡◌, ℕ, ◌+◌, ◌<◌, ◌-◌, ◌/◌, ◌%◌, ◌^◌, Bool, not, ◌==◌, nat_lt, if◌then◌else◌}
use Rattle.machine.specs.declared.bit_change.Changed.{Changed}
use Rattle.machine.specs.declared.bit_change.Changed.TheVariants.{Going, Whole, Refused}
use Rattle.machine.specs.EpochRead.{IsView}
use Rattle.machine.specs.ObjectNames.{IsObject, Object, bitmap_of, number_of}
use Rattle.machine.specs.Places.{replica_count, written_place}
use Rattle.machine.specs.Turn.{Turn}
use Rattle.region_view.specs.Placed.{Viewed}
use Rattle.verb_words.specs.declared.verbs.Answer.{Answer}
use Rattle.verb_words.specs.declared.verbs.Answer.TheVariants.{Word, Done, Lost}
use Rattle.verb_words.specs.declared.verbs.Place.{Place}
use Rattle.verb_words.specs.declared.verbs.Verb.{Verb}
use Rattle.verb_words.specs.declared.verbs.Verb.TheVariants.{Read, Add}
use Rattle.verb_words.specs.Verb.{place_of}

-- Look: reads the bitmap. Change: adds to it
pub data Phase : Type 0 where
  Look : Phase
  Change : Phase

-- a change that looks adds nothing where the bit is as it is wanted
pub record BitChange : Type 0 where
  pub view : Viewed
  pub object : Object
  pub set : Bool
  pub look : Bool
  pub replica : ℕ
  pub phase : Phase

abbrev pub first_phase : Bool → Phase
first_phase look = if look then Look else Change

abbrev pub bit_change_of : Viewed → Object → Bool → Bool → BitChange
bit_change_of view object set look =
    record { view = view; object = object; set = set; look = look; replica = 0; phase = first_phase look }

-- whether bit j of a word is set
abbrev pub has_bit : ℕ → ℕ → Bool
has_bit word j = word / 2 ^ j % 2 == 1

-- what is added to set or to clear bit j
abbrev pub amount : Bool → ℕ → ℕ
amount set j = if set then 2 ^ j else 2 ^ 64 - 2 ^ j

abbrev pub bit_number : BitChange → ℕ
bit_number change = number_of change.object.pointer change.object.class

abbrev pub bitmap_place : BitChange → Place
bitmap_place change = written_place change.view (bitmap_of change.object.pointer) change.replica

abbrev pub verb_at : Phase → BitChange → Verb
verb_at Look change = Read (bitmap_place change)
verb_at Change change = Add (bitmap_place change) (amount change.set (bit_number change))

abbrev pub next : BitChange → Verb
next change = verb_at change.phase change

abbrev pub goes : BitChange → Turn BitChange Changed
goes change = record { state = change; told = Going }

abbrev pub tells : BitChange → Changed → Turn BitChange Changed
tells change told = record { state = change; told = told }

-- the present replica is as it is wanted
abbrev pub on_replica : BitChange → Turn BitChange Changed
on_replica change =
    if nat_lt (change.replica + 1) (replica_count change.view (bitmap_of change.object.pointer))
    then goes (record change { replica = change.replica + 1; phase = first_phase change.look })
    else tells change Whole

abbrev pub is_as_wanted : BitChange → ℕ → Bool
is_as_wanted change found =
    if change.set then has_bit found (bit_number change) else not (has_bit found (bit_number change))

abbrev pub turn_at : Phase → BitChange → ℕ → Turn BitChange Changed
turn_at Look change found =
    if is_as_wanted change found then on_replica change else goes (record change { phase = Change })
turn_at Change change found = on_replica change

abbrev pub turn : BitChange → Answer → Turn BitChange Changed
turn change (Word found) = turn_at change.phase change found
turn change Done = goes change
turn change Lost = tells change (Refused (place_of (next change)).node)

-- what holds of each change of a bit under a view
pub record IsBitChange (view : Viewed) (change : BitChange) : Type 0 where
  pub held : change.view ≡ view
  pub is_view : IsView change.view
  pub object : IsObject change.view.shape change.object
  pub replica : change.replica < replica_count change.view (bitmap_of change.object.pointer)
