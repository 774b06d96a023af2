-- How a text is read line by line.
use Rattle.std.proofs.Common.{ℕ, List, ◌++◌, Result, Ok, Err}
use Rattle.lease_core.specs.declared.lease_lines.LeaseLine.{LeaseLine}
use Rattle.lease_core.specs.declared.reading.LeaseKind.{LeaseKind}

-- what was read, behind what was read before
abbrev pub after : List LeaseLine → Result (List LeaseLine) (ℕ × LeaseKind) → Result (List LeaseLine) (ℕ × LeaseKind)
after past (Ok events) = Ok (past ++ events)
after past (Err bad) = Err bad
