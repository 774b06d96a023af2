-- Bytes in words, eight in each, the first byte lowest.
use Rattle.std.specs.Prelude.{◌≡◌, ℕ, ◌*◌, List, map, take, drop, length}
use Rattle.std.specs.Int.{w64, from_le_bytes, to_le_bytes}
use Rattle.std.specs.List.{flat_map, range_with_len}
use Rattle.object_form.specs.Class.{words_for}

-- the number that eight bytes from byte 8 i on make, the first lowest, with zeros past the end
unfoldable pub word_from : List ℕ → ℕ → ℕ
word_from bytes i = from_le_bytes w64 (drop (8 * i) bytes)

-- the bytes, eight in each word, with zeros at the end
abbrev pub padded_words : List ℕ → List ℕ
padded_words bytes = map (word_from bytes) (range_with_len 0 (words_for (length bytes)))

-- the bytes of words, eight of each, the lowest first
abbrev pub bytes_of_words : List ℕ → List ℕ
bytes_of_words words = flat_map (to_le_bytes w64) words

-- the first bytes of the words are these
abbrev pub IsSpelled : List ℕ → ℕ → List ℕ → Type 0
IsSpelled words len bytes = take len (bytes_of_words words) ≡ bytes
