-- An object's bit on its replicas, and a change that goes from replica to replica.
use Rattle.std.specs.Prelude.{ℕ, ◌+◌, Bool, false, not, nat_lt, if◌then◌else◌, List, slice_index_or, slice_set, Option, Some, None}

-- how far a change has come with a replica
pub data Phase : Type 0 where
  -- it adds to the replica, and looks at none
  Blind : Phase
  -- it looks whether the bit is as it is wanted
  Looking : Phase
  -- it has seen that it is not, and adds to the replica
  Adding : Phase
  -- it was broken off
  Left : Phase

pub record Change : Type 0 where
  -- whether the bit is to be set
  pub wanted : Bool
  -- so many replicas are done
  pub done : ℕ
  pub phase : Phase

-- a change at its beginning
abbrev pub begun : Bool → Phase → Change
begun wanted phase = record { wanted = wanted; done = 0; phase = phase }

abbrev pub first_phase : Bool → Phase
first_phase look = if look then Looking else Blind

-- the bit on a replica
abbrev pub bit_at : List Bool → ℕ → Bool
bit_at bits place = slice_index_or bits place false

-- what is added to set a bit sets it only where it is clear, and what is added to clear it clears it only where it is set;
-- else the sum carries. So an add changes the bit in any case
abbrev pub flipped : List Bool → ℕ → List Bool
flipped bits place = slice_set bits place (not (bit_at bits place))

abbrev pub is_as_wanted : Bool → Bool → Bool
is_as_wanted wanted found = if wanted then found else not found

-- the bits after the next verb of a change
abbrev pub bits_after : Phase → List Bool → ℕ → List Bool
bits_after Blind bits place = flipped bits place
bits_after Looking bits place = bits
bits_after Adding bits place = flipped bits place
bits_after Left bits place = bits

-- the change at the next of so many replicas; none is left after the last
abbrev pub at_next : ℕ → Change → Phase → Option Change
at_next count change phase =
    if nat_lt (change.done + 1) count then Some (record change { done = change.done + 1; phase = phase }) else None

-- the change after its next verb, which found this bit
abbrev pub change_after : Phase → ℕ → Change → Bool → Option Change
change_after Blind count change found = at_next count change Blind
change_after Looking count change found =
    if is_as_wanted change.wanted found then at_next count change Looking else Some (record change { phase = Adding })
change_after Adding count change found = at_next count change Looking
change_after Left count change found = Some change
