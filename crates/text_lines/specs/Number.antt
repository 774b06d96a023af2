-- Numbers.
use Rattle.std.specs.Prelude.{ℕ, Bool, ◌&&◌, nat_lt, nat_le, if◌then◌else◌, List, length, Option, Some, None}
use Rattle.std.specs.Char.{is_ascii_digit}
use Rattle.std.specs.List.{list_all}
use Rattle.std.specs.Str.Parse.{digits_value}

abbrev pub are_digits : List ℕ → Bool
are_digits word = list_all is_ascii_digit word

-- the number that 1 to 10 digits write, at most 4,294,967,295
unfoldable pub number_of : List ℕ → Option ℕ
number_of word =
    if nat_lt 0 (length word) && nat_le (length word) 10 && are_digits word && nat_le (digits_value 10 word) 4294967295
    then Some (digits_value 10 word)
    else None
