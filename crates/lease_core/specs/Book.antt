-- The master's book of leases.
use Rattle.std.specs.Prelude.{ℕ, ◌+◌, ◌-◌, ◌<◌, ◌≤◌, Bool, true, false, ◌&&◌, nat_lt, nat_le, max, if◌then◌else◌, List, replicate, slice_index, slice_index_or, slice_set}
use Rattle.lease_core.specs.declared.granting.TheConstants.{CLIENTS}
use Rattle.lease_core.specs.declared.granting.Grant.{Grant}
use Rattle.lease_core.specs.declared.granting.Grant.TheVariants as grant
use Rattle.lease_core.specs.declared.granting.Fence.{Fence}
use Rattle.lease_core.specs.declared.granting.Fence.TheVariants as fence
use Rattle.lease_core.specs.Terms.{Agreed}

-- the number of a client
abbrev pub IsClient : ℕ → Type 0
IsClient client = (0 < client) × (client ≤ CLIENTS)

abbrev pub is_client : ℕ → Bool
is_client client = nat_lt 0 client && nat_le client CLIENTS

-- where a list of all clients has this one
abbrev pub place_of : ℕ → ℕ
place_of client = client - 1

-- for each client, when the last of its leases is over by the master's clock, and whether it is fenced
pub record Booked : Type 0 where
  pub terms : Agreed
  pub expiries : List ℕ
  pub fenced : List Bool

-- nothing was granted yet, and nobody is fenced
abbrev pub empty_book : Agreed → Booked
empty_book terms = record { terms = terms; expiries = replicate CLIENTS 0; fenced = replicate CLIENTS false }

abbrev pub expiry_of : Booked → ℕ → ℕ
expiry_of book client = slice_index book.expiries (place_of client)

abbrev pub is_fenced : Booked → ℕ → Bool
is_fenced book client = slice_index_or book.fenced (place_of client) false

-- when the client's leases are over once one more was granted now: no lease shortens another
abbrev pub longer_expiry : Booked → ℕ → ℕ → ℕ
longer_expiry book client now = max (expiry_of book client) (now + book.terms.length)

abbrev pub grant_of : Booked → ℕ → ℕ → Grant
grant_of book client now = if is_fenced book client then grant.Fenced else grant.Until (longer_expiry book client now)

abbrev pub after_grant : Booked → ℕ → ℕ → Booked
after_grant book client now =
    if is_fenced book client then book
    else record book { expiries = slice_set book.expiries (place_of client) (longer_expiry book client now) }

-- a client is fenced once, and not before its leases are over
abbrev pub fence_of : Booked → ℕ → ℕ → Fence
fence_of book client now =
    if is_fenced book client then fence.Already
    else (if nat_lt now (expiry_of book client) then fence.Early (expiry_of book client) else fence.Fenced)

abbrev pub after_fence : Booked → ℕ → ℕ → Booked
after_fence book client now =
    if is_fenced book client then book
    else (if nat_lt now (expiry_of book client) then book
    else record book { fenced = slice_set book.fenced (place_of client) true })
