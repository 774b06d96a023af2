use Rattle.std.proofs.Common.{◌≡◌, length, take}
use Rattle.object_form.specs.Content.{bytes_of_words}
use Rattle.client_recovery.proofs.objects.first_bytes.Given as goal

abbrev pub invariant-loop-index : goal.invariant-loop-index
invariant-loop-index l = record {
  bytes : l.bytes.items ≡ take l.index (bytes_of_words l.words);
  long : length l.bytes.items ≡ l.index;
}
