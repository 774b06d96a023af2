-- No line so far ends a call that is none of the entries.
use Rattle.std.proofs.Common.{◌≡◌, ℕ, ◌<◌, List, length, Some}
use Rattle.std.specs.Prelude.{slice_get}
use Rattle.map_model.specs.declared.entries.Entry.{Entry}
use Rattle.script_text.specs.declared.out_lines.OutLine.{OutLine}
use Rattle.trace_audit.specs.Judged.{AreNames}
use Rattle.trace_audit.specs.Verdicts.{EndsUnlisted}
use Rattle.trace_audit.proofs.auditing.first_missing.Given as goal

abbrev pub invariant-loop-line : goal.invariant-loop-line
invariant-loop-line l = (entries : List Entry) → AreNames entries (length entries) l.names → (at client number : ℕ) (out : OutLine) → at < l.line-index → slice_get l.lines at ≡ Some out → EndsUnlisted out entries client number → ⊥
