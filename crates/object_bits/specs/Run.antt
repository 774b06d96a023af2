-- The object, who has it, and what happens to it.
use Rattle.std.specs.Prelude.{ℕ, ◌-◌, Bool, true, false, List, [], ◌∷◌, length, replicate, slice_set, Option, Some, None}
use Rattle.object_bits.specs.Bits.{Blind, Looking, Left, Change, begun, bit_at, bits_after, change_after, first_phase}

-- how it stands with the object
pub data Standing : Type 0 where
  -- it is in stock
  Free : Standing
  -- a client, whose choosing gave it, clears its bit
  Clearing : (client : ℕ) → (change : Change) → Standing
  -- that client has taken it
  Taken : (client : ℕ) → Standing
  -- who has replaced it, or who does not need it, has named it
  Named : (client namer : ℕ) → Standing
  -- who has named it sets its bit
  Setting : (client namer : ℕ) → (change : Change) → Standing
  -- the client stopped while it cleared the bit, and the bit is set for it
  Undoing : (client : ℕ) → (change : Change) → Standing

-- the bits in the order in which they are changed: the backups', and the primary's last
pub record State : Type 0 where
  pub bits : List Bool
  pub standing : Standing

abbrev pub opening : ℕ → State
opening replicas = record { bits = replicate replicas true; standing = Free }

pub data Event : Type 0 where
  -- a client begins to clear the bit of the object that its choosing gave, without looking
  Clear : (client : ℕ) → Event
  -- somebody names the object, and begins to set its bit, with or without looking
  Name : (namer : ℕ) → Event
  Set : (look : Bool) → Event
  -- the next verb of the change that is under way
  Step : Event
  -- the change is broken off: a node is lost, the memory is sealed, or the client stops; it begins anew, with looking; or
  -- what was to be cleared is set
  Leave : Event
  Resume : Event
  Undo : Event
  -- a backup gets a bit; so many new replicas get one
  Copy : (place : ℕ) → (bit : Bool) → Event
  Install : (replicas : ℕ) → (bit : Bool) → Event

-- where a change of its bit has led to, if it is not yet at its end
abbrev pub clearing : ℕ → Option Change → Standing
clearing client None = Taken client
clearing client (Some change) = Clearing client change

abbrev pub setting : ℕ → ℕ → Option Change → Standing
setting client namer None = Free
setting client namer (Some change) = Setting client namer change

abbrev pub undoing : ℕ → Option Change → Standing
undoing client None = Free
undoing client (Some change) = Undoing client change

abbrev pub after_verb : State → Change → Option Change
after_verb state change = change_after change.phase (length state.bits) change (bit_at state.bits change.done)

abbrev pub with_verb : State → Change → Standing → State
with_verb state change standing = record { bits = bits_after change.phase state.bits change.done; standing = standing }

abbrev pub stepped : State → Standing → State
stepped state Free = state
stepped state (Clearing client change) = with_verb state change (clearing client (after_verb state change))
stepped state (Taken client) = state
stepped state (Named client namer) = state
stepped state (Setting client namer change) = with_verb state change (setting client namer (after_verb state change))
stepped state (Undoing client change) = with_verb state change (undoing client (after_verb state change))

abbrev pub left : Change → Change
left change = record change { phase = Left }

abbrev pub broken_off : Standing → Standing
broken_off Free = Free
broken_off (Clearing client change) = Clearing client (left change)
broken_off (Taken client) = Taken client
broken_off (Named client namer) = Named client namer
broken_off (Setting client namer change) = Setting client namer (left change)
broken_off (Undoing client change) = Undoing client (left change)

abbrev pub anew : Change → Change
anew change = begun change.wanted Looking

abbrev pub resumed : Standing → Standing
resumed Free = Free
resumed (Clearing client change) = Clearing client (anew change)
resumed (Taken client) = Taken client
resumed (Named client namer) = Named client namer
resumed (Setting client namer change) = Setting client namer (anew change)
resumed (Undoing client change) = Undoing client (anew change)

abbrev pub undone : Standing → Standing
undone Free = Free
undone (Clearing client change) = Undoing client (begun true Looking)
undone (Taken client) = Taken client
undone (Named client namer) = Named client namer
undone (Setting client namer change) = Setting client namer change
undone (Undoing client change) = Undoing client change

abbrev pub named_by : ℕ → Standing → Standing
named_by namer Free = Free
named_by namer (Clearing client change) = Clearing client change
named_by namer (Taken client) = Named client namer
named_by namer (Named client other) = Named client other
named_by namer (Setting client other change) = Setting client other change
named_by namer (Undoing client change) = Undoing client change

abbrev pub set_by : Bool → Standing → Standing
set_by look Free = Free
set_by look (Clearing client change) = Clearing client change
set_by look (Taken client) = Taken client
set_by look (Named client namer) = Setting client namer (begun true (first_phase look))
set_by look (Setting client namer change) = Setting client namer change
set_by look (Undoing client change) = Undoing client change

abbrev pub with_standing : State → Standing → State
with_standing state standing = record { bits = state.bits; standing = standing }

abbrev pub happens : State → Event → State
happens state (Clear client) = with_standing state (Clearing client (begun false Blind))
happens state (Name namer) = with_standing state (named_by namer state.standing)
happens state (Set look) = with_standing state (set_by look state.standing)
happens state Step = stepped state state.standing
happens state Leave = with_standing state (broken_off state.standing)
happens state Resume = with_standing state (resumed state.standing)
happens state Undo = with_standing state (undone state.standing)
happens state (Copy place bit) = record { bits = slice_set state.bits place bit; standing = state.standing }
happens state (Install replicas bit) = record { bits = replicate replicas bit; standing = state.standing }

-- whether the object is in stock: the primary's bit is set
abbrev pub is_in_stock : State → Bool
is_in_stock state = bit_at state.bits (length state.bits - 1)

-- the state after these events
abbrev pub run : State → List Event → State
run state [] = state
run state (event ∷ events) = run (happens state event) events
