use Rattle.std.proofs.Common.{◌≡◌, ℕ, zero, suc, ◌+◌, ◌-◌, ◌*◌, ◌/◌, ◌%◌, ◌^◌, ◌<◌, ◌≤◌, ◌==◌, nat_lt, nat_le, Bool, true, false, if◌then◌else◌, Some, None, IfSome, subst, lit<, inl, inr, refl, ap, ap₂, arith}
use Rattle.std.proofs.lemmas.Bool.Decides.{nat_tests}
use Rattle.block_alloc.specs.declared.TheConstants.{CLASSES}
use Rattle.block_alloc.specs.declared.BlockWord.{BlockWord}
use Rattle.block_alloc.specs.declared.BlockWord.TheVariants.{Unused, Owned, Released}
use Rattle.block_alloc.specs.BlockWord.{IsClient, IsBlock, word_of, block_in, MayClaim, IsOwned}

-- two blocks with one word are the same
pub word_of-injective : (a b : BlockWord) → IsBlock a → IsBlock b → word_of a ≡ word_of b → a ≡ b
word_of-injective Unused Unused is_a is_b same = refl
word_of-injective Unused (Owned client class) is_a is_b same = absurd (omega arith)
word_of-injective Unused (Released class) is_a is_b same = absurd (omega arith)
word_of-injective (Owned client class) Unused is_a is_b same = absurd (omega arith)
word_of-injective (Owned client class) (Owned client' class') is_a is_b same =
    ap₂ Owned (omega arith) (omega arith)
word_of-injective (Owned client class) (Released class') is_a is_b same = absurd (omega arith)
word_of-injective (Released class) Unused is_a is_b same = absurd (omega arith)
word_of-injective (Released class) (Owned client class') is_a is_b same = absurd (omega arith)
word_of-injective (Released class) (Released class') is_a is_b same = ap Released (omega arith)

-- a block's word is a word of 8 bytes
pub word_of_below : (block : BlockWord) → IsBlock block → word_of block < 2 ^ 64
word_of_below Unused is = omega arith
word_of_below (Owned client class) is = omega arith
word_of_below (Released class) is = omega arith

-- a block comes back from its word
pub block_in-word_of : (block : BlockWord) → IsBlock block → block_in (word_of block) ≡ Some block
unfolding block_in
block_in-word_of Unused is = refl
block_in-word_of (Owned client class) is =
    let word = word_of (Owned client class) in
    let used : (word == 0) ≡ false = grind (arith, nat_tests) in
    let within : nat_le CLASSES (word % 2 ^ 8) ≡ false = grind (arith, nat_tests) in
    let owned : (word / 2 ^ 8 == 2 * 2 ^ 48) ≡ false = grind (arith, nat_tests) in
    let least : nat_le (word / 2 ^ 8) (2 ^ 48) ≡ false = grind (arith, nat_tests) in
    let most : nat_lt (2 ^ 48 + 64) (word / 2 ^ 8) ≡ false = grind (arith, nat_tests) in
    rw (used, within, owned, least, most) (ap Some (ap₂ Owned (omega arith) (omega arith)))
block_in-word_of (Released class) is =
    let word = word_of (Released class) in
    let used : (word == 0) ≡ false = grind (arith, nat_tests) in
    let within : nat_le CLASSES (word % 2 ^ 8) ≡ false = grind (arith, nat_tests) in
    let released : (word / 2 ^ 8 == 2 * 2 ^ 48) ≡ true = grind (arith, nat_tests) in
    rw (used, within, released) (ap Some (ap Released (omega arith)))

-- what the tests of a word choose has the word
chosen : (unused past released no_client too_many : Bool) (word : ℕ)
    → (word == 0) ≡ unused
    → nat_le CLASSES (word % 2 ^ 8) ≡ past
    → (word / 2 ^ 8 == 2 * 2 ^ 48) ≡ released
    → nat_le (word / 2 ^ 8) (2 ^ 48) ≡ no_client
    → nat_lt (2 ^ 48 + 64) (word / 2 ^ 8) ≡ too_many
    → IfSome (if unused then Some Unused
    else if past then None
    else if released then Some (Released (word % 2 ^ 8))
    else if no_client then None
    else if too_many then None
    else Some (Owned (word / 2 ^ 8 - 2 ^ 48) (word % 2 ^ 8)))
    (λ block. IsBlock block × (word_of block ≡ word))
chosen true past released no_client too_many word u p r n t =
    let zero_word : word ≡ 0 = grind (arith, nat_tests) in (tt, omega arith)
chosen false true released no_client too_many word u p r n t = tt
chosen false false true no_client too_many word u p r n t =
    let class : word % 2 ^ 8 < CLASSES = grind (arith, nat_tests) in
    let above : word / 2 ^ 8 ≡ 2 * 2 ^ 48 = grind (arith, nat_tests) in
    (omega arith, omega arith)
chosen false false false true too_many word u p r n t = tt
chosen false false false false true word u p r n t = tt
chosen false false false false false word u p r n t =
    let class : word % 2 ^ 8 < CLASSES = grind (arith, nat_tests) in
    let least : 2 ^ 48 < word / 2 ^ 8 = grind (arith, nat_tests) in
    let most : word / 2 ^ 8 ≤ 2 ^ 48 + 64 = grind (arith, nat_tests) in
    ((record { least = omega arith; most = omega arith }, omega arith), omega arith)

-- what a word gives is a block, with that word
pub block_in-gives : (word : ℕ) (block : BlockWord) → block_in word ≡ Some block
    → IsBlock block × (word_of block ≡ word)
unfolding block_in
block_in-gives word block gives =
    subst (λ found. IfSome found (λ b. IsBlock b × (word_of b ≡ word))) gives
    (chosen (word == 0) (nat_le CLASSES (word % 2 ^ 8)) (word / 2 ^ 8 == 2 * 2 ^ 48)
    (nat_le (word / 2 ^ 8) (2 ^ 48)) (nat_lt (2 ^ 48 + 64) (word / 2 ^ 8)) word refl refl refl refl refl)

-- a word has one owner at most, and one class
pub IsOwned-same : (word client client' class class' : ℕ)
    → IsOwned word client class → IsOwned word client' class' → (client ≡ client') × (class ≡ class')
IsOwned-same word client client' class class' owned owned' = (omega arith, omega arith)

-- what a client puts in place of a word makes the block its own
pub IsOwned-word_of : (client class : ℕ) → IsClient client → class < CLASSES
    → IsOwned (word_of (Owned client class)) client class
IsOwned-word_of client class is within = record { client_within = is; class_within = within; has_word = refl }

-- a block that a client owns may be claimed by no other
pub MayClaim-owner : (word client class owner class' : ℕ) → class < CLASSES
    → IsOwned word owner class' → MayClaim word client class → client ≡ owner
MayClaim-owner word client class owner class' within owned (inl unused) = absurd (omega arith)
MayClaim-owner word client class owner class' within owned (inr (inl released)) = absurd (omega arith)
MayClaim-owner word client class owner class' within owned (inr (inr own)) = omega arith

-- the shift that leaves a bit for each object is by fewer than all bits
pub shift_within : (class : ℕ) → class < CLASSES → 64 - 64 / 2 ^ class < 64
shift_within zero within = lit< tt
shift_within (suc zero) within = lit< tt
shift_within (suc (suc zero)) within = lit< tt
shift_within (suc (suc (suc zero))) within = lit< tt
shift_within (suc (suc (suc (suc zero)))) within = lit< tt
shift_within (suc (suc (suc (suc (suc zero))))) within = lit< tt
shift_within (suc (suc (suc (suc (suc (suc class)))))) within = absurd (omega arith)

-- and what it leaves is a number of that many bits, all of them set
pub shifted_bits : (class : ℕ) → class < CLASSES
    → (2 ^ 64 - 1) / 2 ^ (64 - 64 / 2 ^ class) ≡ 2 ^ (64 / 2 ^ class) - 1
shifted_bits zero within = refl
shifted_bits (suc zero) within = refl
shifted_bits (suc (suc zero)) within = refl
shifted_bits (suc (suc (suc zero))) within = refl
shifted_bits (suc (suc (suc (suc zero)))) within = refl
shifted_bits (suc (suc (suc (suc (suc zero))))) within = refl
shifted_bits (suc (suc (suc (suc (suc (suc class)))))) within = absurd (omega arith)
