-- What a writer of several pieces appended, where that is told: all of a text, or a front of it.
use Rattle.std.specs.Prelude.{ℕ, ◌≤◌, List, length, take}
use Rattle.std.specs.declared.option.Option.{Option}
use Rattle.std.specs.Io.KnownBytes.{Appends}

-- some front of the text was appended
abbrev pub AppendsFront : Option (List ℕ) → Option (List ℕ) → List ℕ → Type 0
AppendsFront held held' text = (n : ℕ) × (n ≤ length text) × Appends held held' (take n text)
