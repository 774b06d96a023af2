-- What is seen of the calls from outside: a list of moments, in which the place is the time.
use Rattle.std.specs.Prelude.{ℕ, Bool, false, ◌&&◌, ◌≡◌, List, ◌==◌, All}
use Rattle.map_model.specs.declared.calls.Call.{Call}
use Rattle.map_model.specs.declared.calls.Reply.{Reply}

-- a client makes its call of a number, gets the reply to it, or stops for good
pub data Moment : Type 0 where
  Invoked : (client number : ℕ) → Call → Moment
  Returned : (client number : ℕ) → Reply → Moment
  Stopped : (client : ℕ) → Moment

-- whether the moment is of the client's call of this number
abbrev pub is_of : ℕ → ℕ → Moment → Bool
is_of client number (Invoked client' number' call) = (client' == client) && (number' == number)
is_of client number (Returned client' number' reply) = (client' == client) && (number' == number)
is_of client number (Stopped client') = false

-- the client's call of this number was not made yet
abbrev pub IsNew : List Moment → ℕ → ℕ → Type 0
IsNew trace client number = All (λ moment. is_of client number moment ≡ false) trace
