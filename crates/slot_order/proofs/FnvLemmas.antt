use Rattle.std.proofs.Common.{◌≡◌, ℕ, List, [], ◌∷◌, ◌++◌, ◌*◌, ◌<◌, ◌^◌, lit<, refl, arith}
use Rattle.std.specs.Prelude.{bit_xor}
use Rattle.std.proofs.Math.Nat.{mod-lt}
use Rattle.std.proofs.lemmas.List.Sums.{fold-append}
use Rattle.slot_order.specs.Fnv.{hash_after, fnv1a_after, fnv1a, finger_of}

-- one byte more is one step more
pub fnv1a_after-push : (hash : ℕ) (bytes : List ℕ) (byte : ℕ)
    → fnv1a_after hash (bytes ++ byte ∷ []) ≡ hash_after (fnv1a_after hash bytes) byte
unfolding fnv1a_after
fnv1a_after-push hash bytes byte = fold-append hash_after hash bytes (byte ∷ [])

-- no byte leaves the hash
pub fnv1a_after-nil : (hash : ℕ) → fnv1a_after hash [] ≡ hash
unfolding fnv1a_after
fnv1a_after-nil hash = refl

-- the hash of some bytes and one more, from the hash of the bytes
pub fnv1a-push : (bytes : List ℕ) (byte : ℕ)
    → fnv1a (bytes ++ byte ∷ []) ≡ hash_after (fnv1a bytes) byte
unfolding fnv1a
fnv1a-push bytes byte = fnv1a_after-push 14695981039346656037 bytes byte

-- a hash stays below 2^64
pub fnv1a_after-below : (hash : ℕ) (bytes : List ℕ) → hash < 2 ^ 64 → fnv1a_after hash bytes < 2 ^ 64
unfolding fnv1a_after hash_after
fnv1a_after-below hash [] below = below
fnv1a_after-below hash (byte ∷ bytes) below =
    fnv1a_after-below (hash_after hash byte) bytes (mod-lt (bit_xor hash byte * 1099511628211) (lit< tt))

-- FNV-1a 64 is below 2^64
pub fnv1a-below : (bytes : List ℕ) → fnv1a bytes < 2 ^ 64
unfolding fnv1a
fnv1a-below bytes = fnv1a_after-below 14695981039346656037 bytes (lit< tt)

-- a finger is a byte
pub finger_of-below : (key : List ℕ) → finger_of key < 256
finger_of-below key = let below = fnv1a-below key in omega arith
