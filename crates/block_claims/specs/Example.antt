-- Two clients that both read the block as unused.
use Rattle.std.specs.Prelude.{List, [], ◌∷◌}
use Rattle.block_claims.specs.Run.{Event, Look, Step, Release}

-- the first one claims it, and writes its word to the only backup
abbrev pub claimed : List Event
claimed = Look 1 0 ∷ Look 2 3 ∷ Step 1 ∷ Step 2 ∷ Step 1 ∷ Step 1 ∷ []

-- its client stops, and the block is released; then the other client may claim it for that class
abbrev pub claimed_anew : List Event
claimed_anew = Release 1 0 ∷ Step 1 ∷ Step 1 ∷ Look 2 0 ∷ Step 2 ∷ Step 2 ∷ Step 2 ∷ []
