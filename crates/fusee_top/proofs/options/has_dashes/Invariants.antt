use Rattle.std.proofs.Common.{◌≡◌, false, take}
use Rattle.std.specs.List.{list_any}
use Rattle.std.specs.String.{string_bytes}
use Rattle.fusee_top.specs.Options.{is_dashes}
use Rattle.fusee_top.proofs.options.has_dashes.Given as goal

abbrev pub invariant-loop-word : goal.invariant-loop-word
invariant-loop-word l = list_any (λ word. is_dashes (string_bytes word)) (take l.word-index l.words) ≡ false
