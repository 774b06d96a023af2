use Rattle.std.specs.Prelude.{ℕ, ◌*◌, ◌/◌, ◌%◌, ◌^◌, List, [], ◌∷◌, ◌++◌, fold, bit_xor}

-- the hash after one more byte
unfoldable pub hash_after : ℕ → ℕ → ℕ
hash_after hash byte = bit_xor hash byte * 1099511628211 % 2 ^ 64

-- the hash after more bytes, from the first on
unfoldable pub fnv1a_after : ℕ → List ℕ → ℕ
fnv1a_after hash bytes = fold hash_after hash bytes

-- FNV-1a 64 of the bytes
unfoldable pub fnv1a : List ℕ → ℕ
fnv1a bytes = fnv1a_after 14695981039346656037 bytes

-- a key's finger: the top byte of the hash of its bytes
abbrev pub finger_of : List ℕ → ℕ
finger_of key = fnv1a key / 2 ^ 56

-- the first hash of a key, of its bytes
abbrev pub first_hash : List ℕ → ℕ
first_hash key = fnv1a key

-- the second hash of a key, of its bytes followed by the byte ff
abbrev pub second_hash : List ℕ → ℕ
second_hash key = fnv1a (key ++ 255 ∷ [])
