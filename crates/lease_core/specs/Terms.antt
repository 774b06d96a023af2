-- What a master and its clients agree on.
use Rattle.std.specs.Prelude.{ℕ, ◌*◌, ◌<◌, ◌≤◌}
use Rattle.lease_core.specs.declared.lease_terms.TheConstants.{LONGEST}

-- how long a lease lasts, and by how much two clocks differ at most
pub record Agreed : Type 0 where
  pub length : ℕ
  pub error : ℕ

abbrev pub agreed : ℕ → ℕ → Agreed
agreed length error = record { length = length; error = error }

-- what may be agreed on
pub record AreTerms (terms : Agreed) : Type 0 where
  -- a lease lasts for some time
  pub lasts : 0 < terms.length
  pub bounded : terms.length ≤ LONGEST
  -- and for longer than two clocks may differ, twice over
  pub exceeds : 2 * terms.error < terms.length
