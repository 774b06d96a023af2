use Rattle.std.proofs.Common.{◌≡◌, ◌<◌, length, map, replicate}
use Rattle.object_form.specs.Class.{words_for}
use Rattle.kv_find.proofs.tests.read.Given as goal

abbrev pub invariant-loop-verbs : goal.invariant-loop-verbs
invariant-loop-verbs g l = record {
  nodes : map length l.nodes ≡ replicate 2 688;
  unread : length l.reading.words < words_for l.reading.value_len;
}
