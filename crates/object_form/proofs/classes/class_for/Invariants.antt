use Rattle.std.proofs.Common.{ℕ, ◌-◌, ◌<◌, ◌≤◌}
use Rattle.object_form.specs.Class.{room_of}
use Rattle.object_form.proofs.classes.class_for.Given as goal

abbrev pub invariant-loop-class : goal.invariant-loop-class
invariant-loop-class l = record {
  class : l.class ≤ 5;
  least : (smaller : ℕ) → smaller < l.class → room_of smaller < l.words;
}

abbrev pub decreases-loop-class : goal.decreases-loop-class
decreases-loop-class l = 5 - l.class
