-- The sizes of objects, in words of eight bytes and in units of eight words.
use Rattle.std.specs.Prelude.{◌≡◌, ℕ, ◌+◌, ◌*◌, ◌^◌, ◌<◌, ◌≤◌, nat_le, unwrap_or, find}
use Rattle.std.specs.Int.{div_ceil}
use Rattle.std.specs.List.{range_with_len}
use Rattle.object_form.specs.declared.classes.TheConstants.{CLASSES, LONGEST}
use Rattle.object_form.specs.declared.classes.Length.{Length}
use Rattle.object_form.specs.declared.classes.Length.TheVariants.{KeyLength, ValueLength}

-- the words that so many bytes take
abbrev pub words_for : ℕ → ℕ
words_for len = div_ceil len 8

-- the words that an object takes: four of its own, then its key's and its value's
abbrev pub words_of : ℕ → ℕ → ℕ
words_of key_len value_len = 4 + words_for key_len + words_for value_len

-- the units of an object of a class
abbrev pub units_of : ℕ → ℕ
units_of class = 2 ^ class

-- the words of an object of a class
abbrev pub room_of : ℕ → ℕ
room_of class = 8 * units_of class

-- the least class whose objects have room for a key and a value of these lengths; 0 where none has
unfoldable pub class_in : ℕ → ℕ → ℕ
class_in key_len value_len =
    unwrap_or (find (λ class. nat_le (words_of key_len value_len) (room_of class)) (range_with_len 0 CLASSES)) 0

-- a key may have this length
abbrev pub IsKeyLength : ℕ → Type 0
IsKeyLength len = (1 ≤ len) × (len ≤ 64)

-- these lengths are refused, and this is the one that is wrong: the key's, where both are
abbrev pub IsRefused : ℕ → ℕ → Length → Type 0
IsRefused key_len value_len (KeyLength len) = (len ≡ key_len) × (¬ IsKeyLength key_len)
IsRefused key_len value_len (ValueLength len) =
    (len ≡ value_len) × IsKeyLength key_len × (LONGEST < value_len)
