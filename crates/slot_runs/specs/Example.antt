-- Two writers write one slot at once.
use Rattle.std.specs.Prelude.{ℕ, List, [], ◌∷◌}
use Rattle.region_view.specs.Placed.{Viewed}
use Rattle.slot_runs.specs.Run.{State, Event, Begin, Step, opening}

-- three memory nodes, all in the mask, so a slot has two backups
abbrev pub on_three_nodes : Viewed
on_three_nodes = record {
  shape = record { nodes = 3; replicas = 3; regions = 1; blocks = 1; groups = 1; clients = 2; calls = 10 };
  mask = 7;
}

-- the status words on the control node, which say that no node is lost; and slot 0 on each memory node, with the word 0
abbrev pub empty_slot : List (List ℕ)
empty_slot = (0 ∷ 0 ∷ 0 ∷ 0 ∷ []) ∷ (0 ∷ []) ∷ (0 ∷ []) ∷ (0 ∷ []) ∷ []

abbrev pub at_rest : State
at_rest = opening on_three_nodes 0 empty_slot

-- writer 1 writes 5 to the first backup, and writer 2, which comes second there, writes 9 to the other one. So no word is the
-- majority, and the least one wins: writer 2 has lost, and writer 1 looks at the primary and mends the other backup
abbrev pub contended : List Event
contended = Begin 1 0 5 ∷ Begin 2 0 9 ∷ Step 1 ∷ Step 2 ∷ Step 2 ∷ Step 1 ∷ Step 1 ∷ Step 1 ∷ []
