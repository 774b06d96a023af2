-- An object on three replicas whose taking is broken off.
use Rattle.std.specs.Prelude.{List, [], ◌∷◌, false}
use Rattle.object_bits.specs.Run.{Event, Clear, Step, Leave, Resume, Undo, Install}

-- client 1 has cleared the bit on one backup when the primary is lost; two replicas are installed with the backup's bit
abbrev pub lost : List Event
lost = Clear 1 ∷ Step ∷ Leave ∷ Install 2 false ∷ []

-- the client looks at both, and has the object
abbrev pub goes_on : List Event
goes_on = Resume ∷ Step ∷ Step ∷ []

-- or it has stopped, and the bit is set again on both
abbrev pub gives_up : List Event
gives_up = Undo ∷ Step ∷ Step ∷ Step ∷ Step ∷ []
