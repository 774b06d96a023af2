-- Why a call is refused.
use Rattle.std.specs.Prelude.{◌≡◌, ℕ, ◌<◌, ◌≤◌, Option, Some, None, Result, Ok, Err}
use Rattle.machine.specs.declared.client_call.Before.{Before}
use Rattle.machine.specs.declared.client_call.Before.TheVariants.{KeyLength, ValueLength, Spent}
use Rattle.machine.specs.Client.{refusal}
use Rattle.machine.specs.Stage.{Client}
use Rattle.object_form.specs.Class.{IsKeyLength}
use Rattle.object_form.specs.declared.classes.TheConstants.{LONGEST}

-- why it was refused, if it was
abbrev pub before_of : Result (Unit {0}) Before → Option Before
before_of (Ok made) = None
before_of (Err before) = Some before

-- the call is refused for the reason that a key and a value of these lengths give, and made where they give none
abbrev pub IsRefusal : Client → ℕ → ℕ → Result (Unit {0}) Before → Type 0
IsRefusal client key_len value_len result = before_of result ≡ refusal client key_len value_len

-- the reason holds: the key's length, then the value's, then that the client has made all of its calls
abbrev pub IsReason : Client → ℕ → ℕ → Before → Type 0
IsReason client key_len value_len (KeyLength len) = (len ≡ key_len) × (¬ IsKeyLength key_len)
IsReason client key_len value_len (ValueLength len) = (len ≡ value_len) × IsKeyLength key_len × (LONGEST < value_len)
IsReason client key_len value_len Spent = IsKeyLength key_len × (value_len ≤ LONGEST) × (client.number ≡ client.shape.calls)
