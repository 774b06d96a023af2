-- Pages of zeros into which the words that a pool opens with are put.
use Rattle.std.proofs.Common.{◌≡◌, ℕ, zero, suc, ◌+◌, ◌-◌, ◌*◌, ◌^◌, ◌%◌, ◌<◌, ◌≤◌, List, [], ◌∷◌, ◌++◌, length, replicate, set, sym, ◌∙◌, ap, arith, add-one, append_assoc}
use Rattle.std.proofs.Math.Pow.{shl_exact}
use Rattle.std.proofs.Math.Seq.{set-append_seam}
use Rattle.std.proofs.lemmas.List.{length-append, length-replicate, replicate-append-replicate}
use Rattle.region_view.specs.Opening.{copies, first_region}
use Rattle.region_view.specs.Sizes.{Sizes}

-- a word put before zeros
set-replicate : (n count word : ℕ) → count ≡ suc n → set (replicate count 0) 0 word ≡ word ∷ replicate n 0
set-replicate n count word is = ap (λ k. set (replicate k 0) 0 word) is

pub control-put : (nodes count n : ℕ) (zeros new : List ℕ) → nodes ≤ 8 → count ≡ suc n → zeros ≡ replicate count 0
    → new ≡ set zeros 0 (65536 + (1 * 2 ^ nodes % 18446744073709551616 - 1)) → new ≡ (2 ^ 16 + (2 ^ nodes - 1)) ∷ replicate n 0
control-put nodes count n zeros new few is empty put =
    let power : 1 * 2 ^ nodes % 18446744073709551616 ≡ 2 ^ nodes = shl_exact {a = 1} 1 nodes 64 (omega arith) (omega (arith, few)) ∙ omega arith in
    put
    ∙ ap (λ l. set l 0 (65536 + (1 * 2 ^ nodes % 18446744073709551616 - 1))) empty
    ∙ set-replicate n count _ is
    ∙ ap (λ p. (65536 + (p - 1)) ∷ replicate n 0) power

replicate-more : (k word : ℕ) (rest : List ℕ) → replicate k word ++ word ∷ rest ≡ replicate (k + 1) word ++ rest
replicate-more k word rest =
    sym (append_assoc (replicate k word) (word ∷ []) rest)
    ∙ ap (λ l. l ++ rest) (replicate-append-replicate k 1 word)

-- one more word, put behind those that stand before zeros
pub one-put : (front words new : List ℕ) (from k rest at word : ℕ) → words ≡ front ++ replicate k word ++ replicate (rest - k) 0
    → length front ≡ from → suc k ≤ rest → at ≡ from + k → new ≡ set words at word
    → new ≡ front ++ replicate (k + 1) word ++ replicate (rest - (k + 1)) 0
one-put front words new from k rest at word stand long room place put =
    let behind : List ℕ = replicate (rest - (k + 1)) 0 in
    let before : List ℕ = front ++ replicate k word in
    let next : rest - k ≡ suc (rest - (k + 1)) = omega (arith, room) in
    let seam : words ≡ before ++ 0 ∷ behind = stand ∙ ap (λ n. before ++ replicate n 0) next in
    let here : at ≡ length before =
    place ∙ sym (length-append front (replicate k word) ∙ ap (λ n. length front + n) (length-replicate {A = ℕ} k word) ∙ ap (λ n. n + k) long) in
    put
    ∙ ap (λ l. set l at word) seam
    ∙ ap (λ i. set (before ++ 0 ∷ behind) i word) here
    ∙ set-append_seam before 0 behind word
    ∙ append_assoc front (replicate k word) (word ∷ behind)
    ∙ ap (λ l. front ++ l) (replicate-more k word behind)
    ∙ sym (append_assoc front (replicate (k + 1) word) behind)

pub length-copies : (n : ℕ) (words : List ℕ) → length (copies n words) ≡ n * length words
length-copies zero words = omega arith
length-copies (suc n) words =
    length-append (copies n words) words
    ∙ ap (λ m. m + length words) (length-copies n words)
    ∙ omega arith

length-first_region : (sizes : Sizes) → sizes.blocks ≤ 64 → length (first_region sizes) ≡ 128 + 512 * sizes.blocks
length-first_region sizes few =
    let blocks = sizes.blocks in
    let free : List ℕ = replicate 64 0 in
    let ones : List ℕ = replicate blocks (2 ^ 64 - 1) in
    let behind : List ℕ = replicate (64 - blocks + 512 * blocks) 0 in
    let a = length-append (free ++ ones) behind in
    let b = length-append free ones in
    let c = length-replicate {A = ℕ} 64 0 in
    let d = length-replicate {A = ℕ} blocks (2 ^ 64 - 1) in
    let e = length-replicate {A = ℕ} (64 - blocks + 512 * blocks) 0 in
    omega (arith, a, b, c, d, e, few)

-- one more region, whose bitmaps are put where zeros stand
module _ (sizes : Sizes) (slots size region regions : ℕ) (few : sizes.blocks ≤ 64) (long : size ≡ 128 + 512 * sizes.blocks) (more : region < regions) where
  abbrev done : List ℕ
  done = replicate slots 0 ++ copies region (first_region sizes)

  abbrev left : ℕ
  left = (regions - (region + 1)) * size

  abbrev rest : ℕ
  rest = 64 + 512 * sizes.blocks + left

  abbrev ones : List ℕ
  ones = replicate sizes.blocks (2 ^ 64 - 1)

  abbrev behind : List ℕ
  behind = replicate (64 - sizes.blocks + 512 * sizes.blocks) 0

  open-words : (regions - region) * size ≡ 64 + rest
  open-words =
      let next : regions - region ≡ suc (regions - (region + 1)) = omega (arith, more) in
      ap (λ n. n * size) next ∙ omega (arith, long)

  length-done : length done ≡ slots + region * size
  length-done =
      length-append (replicate slots 0) (copies region (first_region sizes))
      ∙ ap (λ n. n + length (copies region (first_region sizes))) (length-replicate {A = ℕ} slots 0)
      ∙ ap (λ n. slots + n) (length-copies region (first_region sizes) ∙ ap (λ n. region * n) (length-first_region sizes few ∙ sym long))

  pub has-room : (words : List ℕ) → words ≡ replicate slots 0 ++ copies region (first_region sizes) ++ replicate ((regions - region) * size) 0
      → slots + region * size + 64 + sizes.blocks ≤ length words
  has-room words stand =
      let all = ap length stand ∙ length-append done (replicate ((regions - region) * size) 0) in
      let zeros = length-replicate {A = ℕ} ((regions - region) * size) 0 in
      let before = length-done in
      let open-are = open-words in
      omega (arith, all, zeros, before, open-are, few)

  pub one-region : (words new : List ℕ)
      → words ≡ replicate slots 0 ++ copies region (first_region sizes) ++ replicate ((regions - region) * size) 0
      → ((front : List ℕ) (zeros : ℕ) → words ≡ front ++ replicate zeros 0 → length front ≡ slots + region * size + 64 → sizes.blocks ≤ zeros
      → new ≡ front ++ replicate sizes.blocks (2 ^ 64 - 1) ++ replicate (zeros - sizes.blocks) 0)
      → new ≡ replicate slots 0 ++ copies (region + 1) (first_region sizes) ++ replicate ((regions - (region + 1)) * size) 0
  one-region words new stand put =
      let free : List ℕ = replicate 64 0 in
      let front : List ℕ = done ++ free in
      let first : words ≡ front ++ replicate rest 0 =
      stand
      ∙ ap (λ n. done ++ replicate n 0) open-words
      ∙ ap (λ l. done ++ l) (sym (replicate-append-replicate 64 rest 0))
      ∙ sym (append_assoc done free (replicate rest 0)) in
      let size-front : length front ≡ slots + region * size + 64 =
      length-append done free ∙ ap (λ n. length done + n) (length-replicate {A = ℕ} 64 0) ∙ ap (λ n. n + 64) length-done in
      let split : rest - sizes.blocks ≡ (64 - sizes.blocks + 512 * sizes.blocks) + left = omega (arith, few) in
      put front rest first size-front (omega (arith, few))
      ∙ ap (λ n. front ++ ones ++ replicate n 0) split
      ∙ ap (λ l. front ++ ones ++ l) (sym (replicate-append-replicate (64 - sizes.blocks + 512 * sizes.blocks) left 0))
      ∙ sym (append_assoc (front ++ ones) behind (replicate left 0))
      ∙ ap (λ l. l ++ behind ++ replicate left 0) (append_assoc done free ones)
      ∙ ap (λ l. l ++ replicate left 0) (append_assoc done (free ++ ones) behind)
      ∙ ap (λ l. l ++ replicate left 0) (append_assoc (replicate slots 0) (copies region (first_region sizes)) (first_region sizes))
      ∙ ap (λ l. replicate slots 0 ++ l ++ replicate left 0) (sym (ap (λ k. copies k (first_region sizes)) (add-one region)))
