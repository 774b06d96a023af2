-- How many words a node has.
use Rattle.std.specs.Prelude.{ℕ, ◌==◌, if◌then◌else◌}
use Rattle.region_view.specs.Sizes.{Sizes, node_words}
use Rattle.script_run.specs.declared.printing.TheConstants.{CONTROL_WORDS}

-- the control node is node 0
abbrev pub words_at : Sizes → ℕ → ℕ
words_at sizes node = if node == 0 then CONTROL_WORDS else node_words sizes
