-- The words of a line.
use Rattle.std.specs.Prelude.{ℕ, Bool, true, not, ◌==◌, nat_lt, List, [], ◌∷◌, length}
use Rattle.std.specs.List.{filter, slice_index, slice_split}

abbrev pub is_blank : ℕ → Bool
is_blank byte = byte == 32

abbrev pub is_of_word : ℕ → Bool
is_of_word byte = not (is_blank byte)

abbrev pub is_filled : List ℕ → Bool
is_filled piece = nat_lt 0 (length piece)

-- the pieces that blanks part, without the empty ones
unfoldable pub words_of : List ℕ → List (List ℕ)
words_of line = filter is_filled (slice_split is_blank line)

abbrev pub begins_note : List ℕ → Bool
begins_note word = slice_index word 0 == 35

-- whether a line of these words is passed over: it has none, or its first begins with `#`
unfoldable pub is_skipped : List (List ℕ) → Bool
is_skipped [] = true
is_skipped (word ∷ words) = begins_note word
