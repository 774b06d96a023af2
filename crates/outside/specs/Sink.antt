-- What one write does to the bytes that a sink holds.
use Rattle.std.specs.Prelude.{◌≡◌, ℕ, ◌<◌, ◌≤◌, List, take}
use Rattle.std.specs.declared.option.Option.{Option}
use Rattle.std.specs.Io.KnownBytes.{Appends, Keeps}
use Rattle.outside.specs.declared.sinks.Took.{Took}
use Rattle.outside.specs.declared.sinks.Took.TheVariants as took

-- a write takes at most the whole piece
abbrev pub IsWithinPiece : Took → ℕ → Type 0
IsWithinPiece (took.Took n) len = n ≤ len
IsWithinPiece took.Failed len = Unit {0}
IsWithinPiece took.NoMemory len = Unit {0}

-- a write appended the first bytes of the piece; one that failed, or that wanted memory, appended nothing
abbrev pub Takes : Option (List ℕ) → Option (List ℕ) → Took → List ℕ → Type 0
Takes held held' (took.Took n) piece = Appends held held' (take n piece)
Takes held held' took.Failed piece = Keeps held held'
Takes held held' took.NoMemory piece = Keeps held held'

-- a write failed: it says so, or it took nothing of a piece that is not empty
abbrev pub IsFault : Took → ℕ → Type 0
IsFault (took.Took n) len = (n ≡ 0) × (0 < len)
IsFault took.Failed len = Unit {0}
IsFault took.NoMemory len = ⊥
