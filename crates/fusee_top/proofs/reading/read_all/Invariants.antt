use Rattle.std.proofs.Common.{◌≤◌, vec_len}
use Rattle.std.specs.Io.KnownBytes.{Consumes}
use Rattle.outside.specs.Faults.{IsSteady}
use Rattle.fusee_top.specs.declared.reading.TheConstants.{LIMIT}
use Rattle.fusee_top.proofs.reading.read_all.Given as goal

abbrev pub invariant-loop : goal.invariant-loop
invariant-loop g l = record {
  taken : Consumes (g.S.Source.left l.fn.source) (g.S.Source.left l.source) l.input.items;
  room : vec_len l.input ≤ LIMIT;
  turns : l.counter ≤ vec_len l.input;
  later : g.S.Source.faults l.fn.source ≤ g.S.Source.faults l.source;
  steady : IsSteady g.S.Source.cannot_fail g.S.Source.faults l.fn.source l.source;
}
