-- What is asked of those who clear, name and set, and of those who copy.
use Rattle.std.specs.Prelude.{◌≡◌, ℕ, ◌+◌, ◌<◌, Bool, List, [], ◌∷◌, length}
use Rattle.object_bits.specs.Bits.{Left, bit_at}
use Rattle.object_bits.specs.Run.{Event, Clear, Name, Set, Step, Leave, Resume, Undo, Copy, Install, Standing, Free, Clearing, Taken, Named, Setting, Undoing, State, happens}

-- some replica has this bit
abbrev pub IsHeld : List Bool → Bool → Type 0
IsHeld bits bit = (place : ℕ) × (place < length bits) × (bit_at bits place ≡ bit)

-- no change is under way, but one that was broken off
abbrev pub IsLeft : Standing → Type 0
IsLeft Free = Unit {0}
IsLeft (Clearing client change) = change.phase ≡ Left
IsLeft (Taken client) = Unit {0}
IsLeft (Named client namer) = Unit {0}
IsLeft (Setting client namer change) = change.phase ≡ Left
IsLeft (Undoing client change) = change.phase ≡ Left

abbrev pub MayHappen : State → Event → Type 0
MayHappen state (Clear client) = state.standing ≡ Free
MayHappen state (Name namer) = (client : ℕ) × (state.standing ≡ Taken client)
MayHappen state (Set look) = (client : ℕ) × (namer : ℕ) × (state.standing ≡ Named client namer)
MayHappen state Step = Unit {0}
MayHappen state Leave = Unit {0}
MayHappen state Resume = IsLeft state.standing
MayHappen state Undo = IsLeft state.standing
MayHappen state (Copy place bit) = (place + 1 < length state.bits) × IsHeld state.bits bit × IsLeft state.standing
MayHappen state (Install replicas bit) = (0 < replicas) × IsHeld state.bits bit × IsLeft state.standing

-- each of the events may happen when it does
abbrev pub IsAllowed : State → List Event → Type 0
IsAllowed state [] = Unit {0}
IsAllowed state (event ∷ events) = MayHappen state event × IsAllowed (happens state event) events
