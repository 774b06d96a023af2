-- What is claimed of the answers of whole runs.
use Rattle.std.specs.Prelude.{◌≡◌, ◌≢◌, ℕ, ◌<◌, ◌≤◌, Bool, true, false, List, Some, slice_get}
use Rattle.std.specs.Int.{abs_diff}
use Rattle.lease_core.specs.declared.lease_lines.LeaseLine.{LeaseLine}
use Rattle.lease_core.specs.declared.answering.LeaseAnswer.{LeaseAnswer}
use Rattle.lease_core.specs.declared.answering.LeaseAnswer.TheVariants as told
use Rattle.lease_core.specs.Terms.{Agreed}
use Rattle.lease_core.specs.Line.{client_of, client_clock, master_clock}
use Rattle.lease_core.specs.Run.{answers}

-- the line at this place of a run gets this answer
pub record IsAnswered (terms : Agreed) (lines : List LeaseLine) (at : ℕ) (line : LeaseLine) (answer : LeaseAnswer) : Type 0 where
  pub line_there : slice_get lines at ≡ Some line
  pub answer_there : slice_get (answers terms lines) at ≡ Some answer

abbrev pub is_accepted : LeaseAnswer → Bool
is_accepted (told.Asked client ask) = true
is_accepted (told.Granted client ask expiry) = true
is_accepted (told.Taken client ask until) = true
is_accepted (told.Lawful client) = true
is_accepted (told.Unlawful client) = true
is_accepted (told.Fenced client) = true
is_accepted (told.Early client expiry) = true
is_accepted (told.Refused why) = false
is_accepted told.End = false

-- before this place, the client was told with a grant that its leases last until then
pub record WasGranted (terms : Agreed) (lines : List LeaseLine) (at client expiry : ℕ) : Type 0 where
  pub ask : ℕ
  pub place : ℕ
  pub before : place < at
  pub granted : slice_get (answers terms lines) place ≡ Some (told.Granted client ask expiry)

-- the client is not fenced yet, since a lease that was granted lasts at this moment: the expiry is the last of all granted
pub record IsTooEarly (terms : Agreed) (lines : List LeaseLine) (at client now expiry : ℕ) : Type 0 where
  pub lasts : now < expiry
  pub granted : WasGranted terms lines at client expiry
  pub last : (other : ℕ) → WasGranted terms lines at client other → other ≤ expiry
  pub not_fenced : (place : ℕ) → place < at → slice_get (answers terms lines) place ≢ Some (told.Fenced client)

-- what the clocks of two accepted lines, the first of them earlier, tell
pub record GoOn (terms : Agreed) (first second : LeaseLine) : Type 0 where
  pub near : abs_diff (client_clock second) (master_clock second) ≤ terms.error
  pub master : master_clock first ≤ master_clock second
  pub client : client_of first ≡ client_of second → client_clock first ≤ client_clock second
