-- The lines of a text.
use Rattle.std.specs.Prelude.{ℕ, ◌-◌, Bool, ◌||◌, ◌==◌, nat_lt, if◌then◌else◌, List, [], ◌∷◌, length, take}
use Rattle.std.specs.List.{list_any, slice_index, slice_split}

abbrev pub is_feed : ℕ → Bool
is_feed byte = byte == 10

-- the piece without one carriage return at its end
abbrev pub without_return : List ℕ → List ℕ
without_return piece = if slice_index piece (length piece - 1) == 13 then take (length piece - 1) piece else piece

-- the lines, where line feeds part these pieces: a feed ends each but the last, which is no line where it is empty
abbrev pub lines_of_pieces : List (List ℕ) → List (List ℕ)
lines_of_pieces [] = []
lines_of_pieces (piece ∷ pieces) =
    if length pieces == 0 then (if length piece == 0 then [] else piece ∷ [])
    else without_return piece ∷ lines_of_pieces pieces

-- the lines of a text
unfoldable pub lines_of : List ℕ → List (List ℕ)
lines_of text = lines_of_pieces (slice_split is_feed text)

abbrev pub is_bad : ℕ → Bool
is_bad byte = nat_lt byte 32 || nat_lt 126 byte

-- whether some byte is outside 20 to 7e
unfoldable pub has_bad_byte : List ℕ → Bool
has_bad_byte line = list_any is_bad line
