use Rattle.std.proofs.Common.{◌≡◌, ◌≤◌, take}
use Rattle.std.specs.Prelude.{count_by}
use Rattle.sim_meaning.specs.Summary.{is_open}
use Rattle.verb_history.specs.Moments.{moment_of}
use Rattle.sim_run.proofs.summary.open_in.Given as goal

abbrev pub invariant-loop-moment : goal.invariant-loop-moment
invariant-loop-moment l = record {
  open_now : l.open ≡ count_by (λ moment. is_open l.world (moment_of moment)) (take l.moment-index l.moments);
  few : l.open ≤ l.moment-index;
}
