-- Which words a settling copies, and for each which place is read and which places are written, in order.
use Rattle.std.specs.Prelude.{ℕ, ◌+◌, ◌*◌, Bool, not, ◌==◌, if◌then◌else◌, List, [], ◌++◌, filter, slice_index_or, bit_and}
use Rattle.region_view.specs.Placed.{Viewed}
use Rattle.region_view.specs.Places.{word_places_of}
use Rattle.region_view.specs.Sizes.{Sizes, region_words}

-- the nodes of the old mask that are live
abbrev pub sources_of : ℕ → ℕ → ℕ
sources_of old live = bit_and old live

-- the place that is read: the one on the region's first replica among the sources
abbrev pub read_place_of : Viewed → ℕ → ℕ → ℕ × ℕ
read_place_of source region offset = slice_index_or (word_places_of source region offset) 0 (0, 0)

abbrev pub is_on_other : ℕ → ℕ × ℕ → Bool
is_on_other node place = not (place.0 == node)

-- the word's places on the other replicas of the new mask
abbrev pub other_places : Viewed → ℕ → ℕ → ℕ → List (ℕ × ℕ)
other_places fresh read region offset = filter (is_on_other read) (word_places_of fresh region offset)

-- the places of a slot's shadow on all replicas of the new mask; other words have none
abbrev pub shadow_places : Viewed → ℕ → ℕ → List (ℕ × ℕ)
shadow_places fresh region slot = if region == 0 then word_places_of fresh 0 (24 * fresh.shape.groups + slot) else []

-- the places that are written: the other replicas, and then the shadows
abbrev pub written_places_of : Viewed → Viewed → ℕ → ℕ → List (ℕ × ℕ)
written_places_of source fresh region offset =
    other_places fresh (read_place_of source region offset).0 region offset ++ shadow_places fresh region offset

-- how many words of a region are copied: the index's slots, and all words of a data region
abbrev pub copied_words : Sizes → ℕ → ℕ
copied_words sizes region = if region == 0 then 24 * sizes.groups else region_words sizes
