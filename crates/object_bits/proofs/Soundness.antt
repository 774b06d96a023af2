-- What stays true of an object's bits, whatever happens.
use Rattle.std.proofs.Common.{◌≡◌, ℕ, ◌-◌, ◌<◌, ◌≤◌, ◌⊎◌, Bool, true, false, not, List, length, Option, Some, None}
use Rattle.object_bits.specs.Bits.{Phase, Blind, Looking, Adding, Left, Change, bit_at}
use Rattle.object_bits.specs.Claims.{AreAll}
use Rattle.object_bits.specs.Run.{Standing, Free, Clearing, Taken, Named, Setting, Undoing, State}

-- the replicas that are done are as they are wanted
abbrev pub AreDone : List Bool → Change → Type 0
AreDone bits change = (place : ℕ) → place < change.done → bit_at bits place ≡ change.wanted

-- the others are not
abbrev pub AreToDo : List Bool → Change → Type 0
AreToDo bits change = (place : ℕ) → change.done ≤ place → place < length bits → bit_at bits place ≡ not change.wanted

-- a change that adds without looking finds each replica from its own on as it is not wanted; one that has looked finds its
-- own so
abbrev pub IsSoundAt : Phase → List Bool → Change → Type 0
IsSoundAt Blind bits change = (change.done < length bits) × AreDone bits change × AreToDo bits change
IsSoundAt Looking bits change = (change.done < length bits) × AreDone bits change
IsSoundAt Adding bits change =
    (change.done < length bits) × AreDone bits change × (bit_at bits change.done ≡ not change.wanted)
IsSoundAt Left bits change = Unit {0}

abbrev pub IsSoundChange : List Bool → Change → Type 0
IsSoundChange bits change = IsSoundAt change.phase bits change

-- the primary is not yet as it is wanted, or every replica is
abbrev pub IsSettled : Bool → List Bool → Type 0
IsSettled wanted bits = (bit_at bits (length bits - 1) ≡ not wanted) ⊎ AreAll wanted bits

abbrev pub IsSoundStanding : List Bool → Standing → Type 0
IsSoundStanding bits Free = AreAll true bits
IsSoundStanding bits (Clearing client change) = (change.wanted ≡ false) × IsSoundChange bits change × IsSettled false bits
IsSoundStanding bits (Taken client) = AreAll false bits
IsSoundStanding bits (Named client namer) = AreAll false bits
IsSoundStanding bits (Setting client namer change) = (change.wanted ≡ true) × IsSoundChange bits change × IsSettled true bits
IsSoundStanding bits (Undoing client change) = (change.wanted ≡ true) × IsSoundChange bits change

pub record IsSound (state : State) : Type 0 where
  pub some : 0 < length state.bits
  pub standing : IsSoundStanding state.bits state.standing

-- what a change, which wants this bit, has led to: it goes on soundly, or every replica is as it is wanted
abbrev pub IsLed : Bool → List Bool → Option Change → Type 0
IsLed wanted bits None = AreAll wanted bits
IsLed wanted bits (Some change) = (change.wanted ≡ wanted) × IsSoundChange bits change
