-- What a client holds of its leases.
use Rattle.std.specs.Prelude.{ℕ, ◌+◌, ◌-◌, ◌*◌, max}
use Rattle.lease_core.specs.Terms.{Agreed}

-- the moment of its clock until which it may act
pub record Held : Type 0 where
  pub terms : Agreed
  pub until : ℕ

abbrev pub new_holder : Agreed → Held
new_holder terms = record { terms = terms; until = 0 }

-- the end of a lease, for a client that asked for it at this moment
abbrev pub end_of : Agreed → ℕ → ℕ
end_of terms asked = asked + terms.length - 2 * terms.error

abbrev pub taken : Held → ℕ → Held
taken holder asked = record { terms = holder.terms; until = max holder.until (end_of holder.terms asked) }
