-- What one read does to the bytes that a source has left.
use Rattle.std.specs.Prelude.{ℕ, ◌<◌, ◌≤◌, List, take}
use Rattle.std.specs.declared.option.Option.{Option}
use Rattle.std.specs.Io.KnownBytes.{Consumes, IsAtEnd, Keeps}
use Rattle.outside.specs.declared.sources.Got.{Got}
use Rattle.outside.specs.declared.sources.Got.TheVariants as got

-- a read moves at most as many bytes as there is room for, and at least one where there is room
abbrev pub IsWithinRoom : Got → ℕ → Type 0
IsWithinRoom (got.Got n) room = (n ≤ room) × (0 < room → 0 < n)
IsWithinRoom got.End room = Unit {0}
IsWithinRoom got.Failed room = Unit {0}

-- a read moved the first bytes of what was left to the front of the buffer; it tells the end only where nothing was left, and nothing is left then; a failed one moved nothing
abbrev pub Reads : Option (List ℕ) → Option (List ℕ) → Got → List ℕ → Type 0
Reads left left' (got.Got n) buffer = Consumes left left' (take n buffer)
Reads left left' got.End buffer = IsAtEnd left × IsAtEnd left' × Keeps left left'
Reads left left' got.Failed buffer = Keeps left left'
