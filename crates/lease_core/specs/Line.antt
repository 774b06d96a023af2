-- The parts of a line.
use Rattle.std.specs.Prelude.{ℕ}
use Rattle.lease_core.specs.declared.lease_lines.LeaseLine.{LeaseLine}
use Rattle.lease_core.specs.declared.lease_lines.LeaseLine.TheVariants.{Ask, Grant, Take, Verb, Fence}

abbrev pub client_of : LeaseLine → ℕ
client_of (Ask client p m) = client
client_of (Grant client ask p m) = client
client_of (Take client ask p m) = client
client_of (Verb client p m) = client
client_of (Fence client p m) = client

-- the client's clock
abbrev pub client_clock : LeaseLine → ℕ
client_clock (Ask client p m) = p
client_clock (Grant client ask p m) = p
client_clock (Take client ask p m) = p
client_clock (Verb client p m) = p
client_clock (Fence client p m) = p

-- the master's clock
abbrev pub master_clock : LeaseLine → ℕ
master_clock (Ask client p m) = m
master_clock (Grant client ask p m) = m
master_clock (Take client ask p m) = m
master_clock (Verb client p m) = m
master_clock (Fence client p m) = m
