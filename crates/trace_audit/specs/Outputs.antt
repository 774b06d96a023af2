-- The list that stands at the end of an output's lines.
use Rattle.std.specs.Prelude.{◌≡◌, List, [], ◌∷◌, ◌++◌, length}
use Rattle.map_model.specs.declared.entries.Entry.{Entry}
use Rattle.script_text.specs.declared.out_lines.OutLine.{OutLine}
use Rattle.script_text.specs.declared.out_lines.OutLine.TheVariants as line
use Rattle.trace_audit.specs.Told.{list_from}

-- each line is an entry
abbrev pub AreEntries : List OutLine → Type 0
AreEntries [] = Unit {0}
AreEntries (line.Entry client number call reply unreturned ∷ lines) = AreEntries lines
AreEntries (out ∷ lines) = ⊥

-- at the end of the lines stand a `history` line with the number of its entries, these entries, and `end`
pub record EndsWithList (lines : List OutLine) (entries : List Entry) : Type 0 where
  pub before : List OutLine
  pub listed : List OutLine
  pub stands : lines ≡ before ++ (line.History (length listed) ∷ (listed ++ line.End ∷ []))
  pub all : AreEntries listed
  pub told : entries ≡ list_from [] listed
