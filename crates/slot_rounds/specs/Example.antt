-- Two writers change one slot at once.
use Rattle.std.specs.Prelude.{List, [], ◌∷◌}
use Rattle.slot_rounds.specs.Run.{Event, Begin, Step}

-- the slot has two backups, and 0 everywhere; writer 1 writes 5 to one backup and writer 2 writes 9 to the
-- other, so no word is the majority; the least one wins, looks at the primary, and mends the other backup
abbrev pub contended : List Event
contended = Begin 1 0 5 ∷ Begin 2 0 9 ∷ Step 1 ∷ Step 2 ∷ Step 2 ∷ Step 1 ∷ Step 1 ∷ Step 1 ∷ []
