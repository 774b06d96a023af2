-- The words of a block, and where they stand.
use Rattle.std.specs.Prelude.{ℕ, ◌+◌, nat_lt, if◌then◌else◌}
use Rattle.object_alloc.specs.declared.places.Part.{Part}
use Rattle.object_alloc.specs.declared.places.Part.TheVariants as part
use Rattle.region_view.specs.Layout.{NodeWord, BlockWord, Bitmap}

-- a word of a block, as one of the layout
abbrev pub word_of : Part → ℕ → ℕ → NodeWord
word_of part.Owner region block = BlockWord region block
word_of part.Bitmap region block = Bitmap region block

-- the replica that is written at the i-th place of so many: the backups come first, the primary last
abbrev pub written_replica : ℕ → ℕ → ℕ
written_replica i count = if nat_lt (i + 1) count then i + 1 else 0
