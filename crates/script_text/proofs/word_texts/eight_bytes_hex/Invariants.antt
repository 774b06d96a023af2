use Rattle.std.proofs.Common.{◌≡◌, ◌*◌, length, take}
use Rattle.std.specs.List.{flat_map}
use Rattle.script_text.specs.Shown.{hex_text}
use Rattle.script_text.proofs.word_texts.eight_bytes_hex.Given as goal

abbrev pub invariant-loop-byte : goal.invariant-loop-byte
invariant-loop-byte l = record {
  digits : l.digits.items ≡ flat_map hex_text (take l.byte-index l.bytes);
  two : length l.digits.items ≡ 2 * l.byte-index;
}
