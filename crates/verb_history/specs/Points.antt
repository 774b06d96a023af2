-- The calls of a history, each with its point, and their order.
use Rattle.std.specs.Prelude.{◌≡◌, ℕ, ◌+◌, ◌≤◌, Bool, if◌then◌else◌, List, [], ◌∷◌, length}
use Rattle.machine_world.specs.Ledger.{is_before}
use Rattle.machine_world.specs.World.{Entered}
use Rattle.map_model.specs.declared.entries.Entry.{Entry}
use Rattle.verb_history.specs.declared.points.Placed.{Placed}

-- the calls in the order in which they were entered, and how many there is room for
pub record Kept : Type 0 where
  pub placed : List Placed
  pub room : ℕ

-- there is room for so many calls more
abbrev pub HasRoom : Kept → ℕ → Type 0
HasRoom kept count = length kept.placed + count ≤ kept.room

-- the call as the world's ledger has it, which tells of no return
abbrev pub entered_of : Placed → Entered
entered_of placed = record {
  client = placed.entry.client;
  number = placed.entry.number;
  call = placed.entry.call;
  reply = placed.entry.reply;
  at = placed.at;
}

-- a call that was entered before these comes behind those of them that stand at its point
abbrev pub inserted : Placed → List Placed → List Placed
inserted one [] = one ∷ []
inserted one (other ∷ others) = if is_before one.at other.at then one ∷ other ∷ others else other ∷ inserted one others

-- the calls in the order of their points
abbrev pub in_order : List Placed → List Placed
in_order [] = []
in_order (one ∷ others) = inserted one (in_order others)

-- the entry of a call of the ledger, with a mark that these answers allow of its client and its number
abbrev pub IsMarked : (ℕ → ℕ → Bool → Type 0) → Entered → Entry → Type 0
IsMarked answers entered entry =
    (entry ≡ record { client = entered.client; number = entered.number; call = entered.call; reply = entered.reply; returned = entry.returned })
    × answers entered.client entered.number entry.returned
