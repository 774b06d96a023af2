-- How many words a script's shape asks for.
use Rattle.std.specs.Prelude.{ℕ}
use Rattle.region_view.specs.Sizes.{all_words}
use Rattle.script_meaning.specs.Scripts.{sizes_of}
use Rattle.script_text.specs.declared.scripts.Shape.{Shape}

abbrev pub shape_words : Shape → ℕ
shape_words shape = all_words (sizes_of shape)
