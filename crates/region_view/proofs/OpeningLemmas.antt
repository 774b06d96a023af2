-- Words that are filled up, and copied.
use Rattle.std.proofs.Common.{◌≡◌, ℕ, ◌+◌, ◌-◌, ◌*◌, ◌^◌, ◌%◌, ◌≤◌, List, [], ◌∷◌, ◌++◌, length, take, replicate, ap, ◌∙◌, add-one, arith, length-append}
use Rattle.std.proofs.Math.Pow.{shl_exact}
use Rattle.std.proofs.lemmas.List.{length-replicate, take_all}
use Rattle.region_view.specs.Opening.{copies}

-- a list that is filled up to more words
filled : (old new : List ℕ) (now size word : ℕ) → length old ≡ now → now ≤ size → new ≡ take size old ++ replicate (size - now) word → new ≡ old ++ replicate (size - now) word
filled old new now size word long room is = is ∙ ap (λ l. l ++ replicate (size - now) word) (take_all size old (omega arith))

pub copies-more : (n : ℕ) (words : List ℕ) → copies (n + 1) words ≡ copies n words ++ words
copies-more n words = ap (λ k. copies k words) (add-one n)

power_fits : (n : ℕ) → n ≤ 8 → 1 * 2 ^ n % 18446744073709551616 ≡ 2 ^ n
power_fits n few = shl_exact {a = 1} 1 n 64 (omega arith) (omega arith) ∙ omega arith

pub control_filled : (nodes len : ℕ) (empty pushed new : List ℕ) → nodes ≤ 8 → empty ≡ []
    → pushed ≡ empty ++ (65536 + (1 * 2 ^ nodes % 18446744073709551616 - 1)) ∷ [] → len ≡ 1
    → new ≡ take 1040 pushed ++ replicate (1040 - len) 0 → new ≡ (2 ^ 16 + (2 ^ nodes - 1)) ∷ replicate 1039 0
control_filled nodes len empty pushed new few none first one is =
    let word : ℕ = 65536 + (1 * 2 ^ nodes % 18446744073709551616 - 1) in
    let alone : pushed ≡ word ∷ [] = first ∙ ap (λ l. l ++ word ∷ []) none in
    filled pushed new 1 1040 0 (ap length alone) (omega arith) (is ∙ ap (λ k. take 1040 pushed ++ replicate (1040 - k) 0) one)
    ∙ ap (λ l. l ++ replicate 1039 0) alone
    ∙ ap (λ m. (65536 + (m - 1)) ∷ replicate 1039 0) (power_fits nodes few)

pub region_filled : (blocks none few most : ℕ) (empty zeros granted new : List ℕ) → blocks ≤ 64 → empty ≡ [] → none ≡ 0
    → zeros ≡ take 64 empty ++ replicate (64 - none) 0 → few ≡ 64
    → granted ≡ take (64 + blocks) zeros ++ replicate (64 + blocks - few) 18446744073709551615 → most ≡ 64 + blocks
    → new ≡ take (128 + 512 * blocks) granted ++ replicate (128 + 512 * blocks - most) 0
    → new ≡ replicate 64 0 ++ replicate blocks 18446744073709551615 ++ replicate (64 - blocks + 512 * blocks) 0
region_filled blocks none few most empty zeros granted new limit nothing zero first sixty second many third =
    let ones : List ℕ = replicate blocks 18446744073709551615 in
    let one : zeros ≡ replicate 64 0 = first ∙ ap (λ l. take 64 l ++ replicate (64 - none) 0) nothing ∙ ap (λ k. replicate (64 - k) 0) zero in
    let long_one : length zeros ≡ 64 = ap length one ∙ length-replicate {A = ℕ} 64 0 in
    let count : 64 + blocks - 64 ≡ blocks = omega arith in
    let two : granted ≡ replicate 64 0 ++ ones =
    filled zeros granted 64 (64 + blocks) 18446744073709551615 long_one (omega arith) (second ∙ ap (λ k. take (64 + blocks) zeros ++ replicate (64 + blocks - k) 18446744073709551615) sixty)
    ∙ ap (λ k. zeros ++ replicate k 18446744073709551615) count ∙ ap (λ l. l ++ ones) one in
    let long_two : length granted ≡ 64 + blocks = ap length two ∙ length-append (replicate 64 0) ones ∙ ap (λ k. k + length ones) (length-replicate {A = ℕ} 64 0) ∙ ap (λ k. 64 + k) (length-replicate {A = ℕ} blocks 18446744073709551615) in
    let rest : 128 + 512 * blocks - (64 + blocks) ≡ 64 - blocks + 512 * blocks = omega arith in
    filled granted new (64 + blocks) (128 + 512 * blocks) 0 long_two (omega arith) (third ∙ ap (λ k. take (128 + 512 * blocks) granted ++ replicate (128 + 512 * blocks - k) 0) many)
    ∙ ap (λ k. granted ++ replicate k 0) rest ∙ ap (λ l. l ++ replicate (64 - blocks + 512 * blocks) 0) two
