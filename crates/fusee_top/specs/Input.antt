-- What was read of a source.
use Rattle.std.specs.Prelude.{ℕ, ◌<◌, ◌≤◌, List, Option, length}
use Rattle.std.specs.Io.KnownBytes.{Consumes, IsAtEnd}
use Rattle.outside.specs.Faults.{Rose}
use Rattle.fusee_top.specs.declared.reading.TheConstants.{LIMIT}
use Rattle.fusee_top.specs.declared.reading.Input.{Input}
use Rattle.fusee_top.specs.declared.reading.Input.TheVariants as input

-- these bytes were all that was left, they were read to their end, and are within size
pub record WasAll (left left' : Option (List ℕ)) (text : List ℕ) : Type 0 where
  pub read : Consumes left left' text
  pub at_end : IsAtEnd left'
  pub within : length text ≤ LIMIT

-- more bytes were given than an input may have
pub record GaveMore (left left' : Option (List ℕ)) : Type 0 where
  pub given : List ℕ
  pub read : Consumes left left' given
  pub over : LIMIT < length given

-- what reading a source to its end came to
abbrev pub IsInput : {S : Type 0} → (S → Option (List ℕ)) → (S → ℕ) → S → S → Input → Type 0
IsInput left faults before now (input.Whole text) = WasAll (left before) (left now) text
IsInput left faults before now input.TooLarge = GaveMore (left before) (left now)
IsInput left faults before now input.Failed = Rose (faults before) (faults now)
IsInput left faults before now input.NoMemory = Unit {0}
