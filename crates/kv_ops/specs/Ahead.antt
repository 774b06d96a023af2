-- What a client's next verb may bring.
use Rattle.std.specs.Prelude.{Bool, true, false}
use Rattle.machine.specs.Stage.{Stage, End, Find, Seek}

-- whether the next verb may end the call
abbrev pub is_ending : Stage → Bool
is_ending End = true
is_ending stage = false

-- whether it is one of the search for a key
abbrev pub is_searching : Stage → Bool
is_searching (Seek key_search) = true
is_searching (Find key_search) = true
is_searching stage = false
