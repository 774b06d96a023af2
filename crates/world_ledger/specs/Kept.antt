-- What is kept of the past, and for how much more there is room.
use Rattle.std.specs.Prelude.{ℕ, ◌+◌, ◌-◌, ◌<◌, ◌≤◌, Bool, true, not, ◌&&◌, ◌==◌, nat_lt, if◌then◌else◌, List, ◌∷◌, ◌++◌, [], length, slice_get, slice_index_or, slice_set, Option, Some, None}
use Rattle.std.specs.Option.{option_map_or}
use Rattle.machine_world.specs.Ledger.{decided_at, winner_rank, with_holder}
use Rattle.machine_world.specs.World.{Ledger}
use Rattle.region_view.specs.Sizes.{Sizes}

-- how many entries, and how many decisions of each slot, there is room for
pub record Rooms : Type 0 where
  pub entries : ℕ
  pub decided : List ℕ

pub record Kept : Type 0 where
  pub ledger : Ledger
  pub rooms : Rooms

-- there is room for so many entries more
abbrev pub HasEntryRoom : Kept → ℕ → Type 0
HasEntryRoom kept count = length kept.ledger.entries + count ≤ kept.rooms.entries

abbrev pub decision_room : Kept → ℕ → ℕ
decision_room kept slot = slice_index_or kept.rooms.decided slot 0

-- there is room for one decision more of the slot
abbrev pub HasDecisionRoom : Kept → ℕ → Type 0
HasDecisionRoom kept slot = length (decided_at kept.ledger slot) < decision_room kept slot

-- one client more, which has read no slot
abbrev pub with_client : Ledger → Ledger
with_client ledger = record ledger { reads = ledger.reads ++ 0 ∷ [] }

-- a client has read a slot
abbrev pub with_read_at : ℕ → ℕ → Ledger → Ledger
with_read_at client event ledger = record ledger { reads = slice_set ledger.reads client event }

-- the object of a pointer, if it is one, is held by the client that has taken it: its bit was set, and is no longer
abbrev pub with_taking_of : Sizes → ℕ → ℕ → Bool → Bool → Ledger → Ledger
with_taking_of sizes client pointer was is ledger =
    if not (pointer == 0) && (was && not is) then with_holder sizes ledger pointer client else ledger

-- whether the winner of this slot and version, if there is one, has a rank left for one more beaten call
abbrev pub has_rank : Ledger → ℕ × ℕ → Bool
has_rank ledger at = option_map_or (λ decided. nat_lt decided.beaten winner_rank) (slice_get (decided_at ledger at.0) (at.1 - 1)) true

abbrev pub has_rank_if : Ledger → Option (ℕ × ℕ) → Bool
has_rank_if ledger None = true
has_rank_if ledger (Some at) = has_rank ledger at
