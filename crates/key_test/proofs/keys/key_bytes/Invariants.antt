use Rattle.std.proofs.Common.{◌≡◌, length, take}
use Rattle.key_test.proofs.keys.key_bytes.Given as goal

abbrev pub invariant-loop-byte : goal.invariant-loop-byte
invariant-loop-byte l = record {
  made : l.bytes.items ≡ take l.byte-index l.key;
  long : length l.bytes.items ≡ l.byte-index;
}
