use Rattle.std.proofs.Common.{◌≡◌, replicate}
use Rattle.lease_core.specs.Run.{new_member}
use Rattle.lease_core.proofs.running.new_members.Given as goal

abbrev pub invariant-loop : goal.invariant-loop
invariant-loop l = l.members.items ≡ replicate l.counter (new_member l.terms)
