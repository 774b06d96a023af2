-- The list is legal where the rest of it is, from what the tree holds.
use Rattle.std.proofs.Common.{◌≡◌, drop}
use Rattle.map_model.specs.Held.{map_of}
use Rattle.map_model.specs.Map.{is_legal, is_legal_from}
use Rattle.map_model.proofs.legality.legal.Given as goal

abbrev pub invariant-loop-entry : goal.invariant-loop-entry
invariant-loop-entry l = is_legal l.entries ≡ is_legal_from (map_of l.held) (drop l.entry-index l.entries)
