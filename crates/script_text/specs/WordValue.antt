-- What a single word of a text means.
use Rattle.std.specs.Prelude.{ℕ, ◌%◌, Bool, ◌&&◌, ◌||◌, ◌==◌, nat_le, if◌then◌else◌, List, [], ◌∷◌, length, take, drop, codes, Option, Some, None, bytes_eq}
use Rattle.std.specs.Char.{is_ascii_digit}
use Rattle.std.specs.List.{list_all}
use Rattle.std.specs.Str.Parse.{digits_value}

-- a digit of base 16: 0 to 9 and a to f
abbrev pub is_hex_digit : ℕ → Bool
is_hex_digit byte = is_ascii_digit byte || nat_le 97 byte && nat_le byte 102

abbrev pub are_hex_digits : List ℕ → Bool
are_hex_digits digits = list_all is_hex_digit digits

-- the bytes that pairs of digits write
abbrev pub paired : List ℕ → List ℕ
paired [] = []
paired (high ∷ []) = []
paired (high ∷ low ∷ digits) = digits_value 16 (high ∷ low ∷ []) ∷ paired digits

-- the bytes that an even count of digits writes
unfoldable pub hex_bytes : List ℕ → Option (List ℕ)
hex_bytes digits = if length digits % 2 == 0 && are_hex_digits digits then Some (paired digits) else None

-- the bytes that a word means: those written behind `x:`, else its own
unfoldable pub bytes_of : List ℕ → Option (List ℕ)
bytes_of word = if bytes_eq (take 2 word) (codes "x:") then hex_bytes (drop 2 word) else Some word

-- the number below 2 ^ 64 that 16 digits write
unfoldable pub word_of : List ℕ → Option ℕ
word_of word = if length word == 16 && are_hex_digits word then Some (digits_value 16 word) else None
