use Rattle.std.proofs.Common.{◌≡◌}
use Rattle.std.specs.Io.KnownBytes.{Keeps}
use Rattle.outside.proofs.std_ends.StdSourceSource.read.Given as goal

abbrev pub invariant-loop : goal.invariant-loop
invariant-loop g l = record {
  bytes : Keeps (g.R.Read.remaining l.fn.self.end) (g.R.Read.remaining l.self-inside.reader);
  faults : l.self-inside.faults ≡ l.fn.self.faults;
}
