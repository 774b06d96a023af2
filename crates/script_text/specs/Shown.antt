-- How bytes, numbers and words are printed.
use Rattle.std.specs.Prelude.{ℕ, ◌/◌, ◌%◌, Bool, false, ◌||◌, ◌==◌, nat_eq, if◌then◌else◌, List, [], ◌∷◌, ◌++◌, length, codes, Option, Some, None}
use Rattle.std.specs.Char.{is_ascii_graphic}
use Rattle.std.specs.Fmt.{decimal, digit_glyph}
use Rattle.std.specs.Int.{to_be_bytes, w64}
use Rattle.std.specs.List.{flat_map, list_all, starts_with}

-- a byte as two hexadecimal digits, in lower case
abbrev pub hex_text : ℕ → List ℕ
hex_text byte = digit_glyph false (byte / 16) ∷ digit_glyph false (byte % 16) ∷ []

-- a word as 16 hexadecimal digits: its bytes, the highest first
unfoldable pub word_text : ℕ → List ℕ
word_text word = flat_map hex_text (to_be_bytes w64 word)

-- whether each byte is 21 to 7e
abbrev pub are_visible : List ℕ → Bool
are_visible bytes = list_all is_ascii_graphic bytes

-- whether bytes are printed as they are: there is one, all are visible, and they do not begin with `x:`
abbrev pub is_shown_as_is : List ℕ → Bool
is_shown_as_is bytes = if length bytes == 0 || starts_with nat_eq bytes (codes "x:") then false else are_visible bytes

-- bytes as one word: as they are, or as `x:` and two digits for each
unfoldable pub bytes_text : List ℕ → List ℕ
bytes_text bytes = if is_shown_as_is bytes then bytes else codes "x:" ++ flat_map hex_text bytes

-- an actor: a client by its number, or `m`, the master
abbrev pub actor_text : Option ℕ → List ℕ
actor_text None = codes "m"
actor_text (Some client) = decimal client

-- what a verb was answered: a word, or that its node is lost
abbrev pub answer_text : Option ℕ → List ℕ
answer_text None = codes "lost"
answer_text (Some word) = word_text word
