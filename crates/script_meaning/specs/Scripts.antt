-- What a script means: the run of its lines, one after the other, and the text that is printed.
use Rattle.std.specs.Prelude.{ℕ, Bool, false, List, [], ◌∷◌, ◌++◌}
use Rattle.machine_world.specs.World.{World, first_world}
use Rattle.region_view.specs.Sizes.{Sizes}
use Rattle.script_meaning.specs.Lines.{Ran, followed_by, meaning, prints, shows_after}
use Rattle.script_meaning.specs.Shown.{history_lines}
use Rattle.script_text.specs.OutputText.{text_of}
use Rattle.script_text.specs.declared.out_lines.OutLine.TheVariants.{End}
use Rattle.script_text.specs.declared.scripts.Line.{Line}
use Rattle.script_text.specs.declared.scripts.Script.{Script}
use Rattle.script_text.specs.declared.scripts.Shape.{Shape}

abbrev pub sizes_of : Shape → Sizes
sizes_of shape = record {
  nodes = shape.nodes;
  replicas = shape.replicas;
  regions = shape.regions;
  blocks = shape.blocks;
  groups = shape.groups;
  clients = shape.clients;
  calls = shape.calls;
}

-- the lines from the first on; after the last one the history is printed, and the end
unfoldable pub runs : List Line → Bool → World → Ran
runs [] shows world = prints world (history_lines world ++ End ∷ [])
runs (line ∷ lines) shows world = followed_by (meaning shows world line) (runs lines (shows_after shows line))

-- the run of lines on a pool of these sizes: no verbs are shown at first
abbrev pub run_on : Sizes → List Line → Ran
run_on sizes lines = runs lines false (first_world sizes)

abbrev pub run_of : Script → Ran
run_of script = run_on (sizes_of script.shape) script.lines.items

-- the text of a script
abbrev pub rendered : Script → List ℕ
rendered script = text_of (run_of script).lines
