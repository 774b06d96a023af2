-- What holds of each event: bits are changed the right way, and the object is taken by one client at a time.
use Rattle.std.specs.Prelude.{◌≡◌, ℕ, ◌<◌, ◌⊎◌, Bool, true, false, not, List, [], ◌∷◌, length}
use Rattle.object_bits.specs.Bits.{Change, Phase, Blind, Looking, Adding, Left, bit_at}
use Rattle.object_bits.specs.Run.{Event, Step, Standing, Free, Clearing, Taken, Named, Setting, Undoing, State, happens, is_in_stock}

-- each replica has this bit
abbrev pub AreAll : Bool → List Bool → Type 0
AreAll bit bits = (place : ℕ) → place < length bits → bit_at bits place ≡ bit

-- an add finds the bit as it is not wanted
abbrev pub IsRightAt : Phase → List Bool → Change → Type 0
IsRightAt Blind bits change = bit_at bits change.done ≡ not change.wanted
IsRightAt Looking bits change = Unit {0}
IsRightAt Adding bits change = bit_at bits change.done ≡ not change.wanted
IsRightAt Left bits change = Unit {0}

-- the next verb of whoever changes the bit is right
abbrev pub IsRight : List Bool → Standing → Type 0
IsRight bits Free = Unit {0}
IsRight bits (Clearing client change) = IsRightAt change.phase bits change
IsRight bits (Taken client) = Unit {0}
IsRight bits (Named client namer) = Unit {0}
IsRight bits (Setting client namer change) = IsRightAt change.phase bits change
IsRight bits (Undoing client change) = IsRightAt change.phase bits change

-- while nobody changes the bit every replica has it alike: it is set where the object is free, and clear where it is taken
abbrev pub IsWhole : List Bool → Standing → Type 0
IsWhole bits Free = AreAll true bits
IsWhole bits (Clearing client change) = Unit {0}
IsWhole bits (Taken client) = AreAll false bits
IsWhole bits (Named client namer) = AreAll false bits
IsWhole bits (Setting client namer change) = Unit {0}
IsWhole bits (Undoing client change) = Unit {0}

-- the object is taken for this client, or its taking is given up
abbrev pub IsTakenFor : ℕ → Standing → Type 0
IsTakenFor client standing =
    ((change : Change) × (standing ≡ Clearing client change)) ⊎ ((change : Change) × (standing ≡ Undoing client change))

-- it is given back, or its taking is given up
abbrev pub IsGivenBack : Standing → Type 0
IsGivenBack standing =
    ((client : ℕ) × (namer : ℕ) × (change : Change) × (standing ≡ Setting client namer change))
    ⊎ ((client : ℕ) × (change : Change) × (standing ≡ Undoing client change))

-- what holds of an event
pub record Holds (state : State) (event : Event) : Type 0 where
  pub whole : IsWhole (happens state event).bits (happens state event).standing
  -- no add sets a bit that is set, or clears one that is clear
  pub right : event ≡ Step → IsRight state.bits state.standing
  -- out of stock the object comes only for the one client for which its bit is being cleared, and into stock only where its
  -- bit is being set
  pub taken : is_in_stock state ≡ true → is_in_stock (happens state event) ≡ false
      → (client : ℕ) × IsTakenFor client state.standing
  pub given_back : is_in_stock state ≡ false → is_in_stock (happens state event) ≡ true → IsGivenBack state.standing
  -- where the primary's bit is set and another is clear, the taking of the object is under way or given up
  pub mixed : is_in_stock (happens state event) ≡ true → (place : ℕ) → place < length (happens state event).bits
      → bit_at (happens state event).bits place ≡ false → (client : ℕ) × IsTakenFor client (happens state event).standing

-- it holds of each of the events
abbrev pub HoldsAlong : State → List Event → Type 0
HoldsAlong state [] = Unit {0}
HoldsAlong state (event ∷ events) = Holds state event × HoldsAlong (happens state event) events
