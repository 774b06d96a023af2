-- The words of a memory node, and the positions at which they lie.
use Rattle.std.specs.Prelude.{ℕ, ◌+◌, ◌*◌, ◌<◌, ◌≤◌}
use Rattle.region_view.specs.Sizes.{Sizes}
use Rattle.region_view.specs.Placed.{region_start}

-- a word of a node: of the index a slot or a slot's shadow; of a data region a block's word, a block's bitmap, or a word of a unit
pub data NodeWord : Type 0 where
  Slot : (slot : ℕ) → NodeWord
  Shadow : (slot : ℕ) → NodeWord
  BlockWord : (region block : ℕ) → NodeWord
  Bitmap : (region block : ℕ) → NodeWord
  UnitWord : (region unit word : ℕ) → NodeWord

-- the layout has the word: block b has the units 16 + 64 b to 79 + 64 b, of eight words each
abbrev pub HasWord : Sizes → NodeWord → Type 0
HasWord sizes (Slot slot) = slot < 24 * sizes.groups
HasWord sizes (Shadow slot) = slot < 24 * sizes.groups
HasWord sizes (BlockWord region block) = (1 ≤ region) × (region ≤ sizes.regions) × (block < sizes.blocks)
HasWord sizes (Bitmap region block) = (1 ≤ region) × (region ≤ sizes.regions) × (block < sizes.blocks)
HasWord sizes (UnitWord region unit word) = (1 ≤ region) × (region ≤ sizes.regions) × (16 ≤ unit) × (unit < 16 + 64 * sizes.blocks) × (word < 8)

abbrev pub region_of_word : NodeWord → ℕ
region_of_word (Slot slot) = 0
region_of_word (Shadow slot) = 0
region_of_word (BlockWord region block) = region
region_of_word (Bitmap region block) = region
region_of_word (UnitWord region unit word) = region

-- where the word lies in its region
abbrev pub offset_of : Sizes → NodeWord → ℕ
offset_of sizes (Slot slot) = slot
offset_of sizes (Shadow slot) = 24 * sizes.groups + slot
offset_of sizes (BlockWord region block) = block
offset_of sizes (Bitmap region block) = 64 + block
offset_of sizes (UnitWord region unit word) = 8 * unit + word

-- where it lies on the node
abbrev pub position_of : Sizes → NodeWord → ℕ
position_of sizes word = region_start sizes (region_of_word word) + offset_of sizes word
