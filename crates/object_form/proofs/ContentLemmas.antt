use Rattle.std.proofs.Common.{◌≡◌, ℕ, ◌+◌, ◌-◌, ◌*◌, ◌/◌, ◌%◌, ◌^◌, ◌<◌, ◌≤◌, inl, inr, List, [], ◌∷◌, ◌++◌, length, take, drop, get_or, replicate, refl, sym, ◌∙◌, ap, ap₂, arith, length-append}
use Rattle.std.proofs.lemmas.Bool.{cases_lt}
use Rattle.std.proofs.lemmas.List.{ext_get_or, get_or-take, get_or-drop, get_or_append_left, get_or-append_right, get_or_past, get_or-replicate, length-replicate, length-take-le, take-append-le, take_rest, take_more_same}
use Rattle.std.proofs.lemmas.List.Concat.{flat_map-append, get_or-flat_map}
use Rattle.std.proofs.lemmas.List.FromFn.{length-map-range_with_len, get_or-map-range_with_len}
use Rattle.std.proofs.lemmas.Nat.{le_bytes_8}
use Rattle.std.specs.Int.{w64, from_le_bytes, to_le_bytes}
use Rattle.object_form.specs.Class.{words_for}
use Rattle.object_form.specs.Content.{word_from, padded_words, bytes_of_words, IsSpelled}

-- a number of eight bytes depends on these eight alone
pub from_le_bytes-same : (a b : List ℕ) → ((i : ℕ) → i < 8 → get_or a i 0 ≡ get_or b i 0) → from_le_bytes w64 a ≡ from_le_bytes w64 b
from_le_bytes-same a b same =
    let s0 : get_or a 0 0 ≡ get_or b 0 0 = same 0 (omega arith) in
    let s1 : get_or a 1 0 ≡ get_or b 1 0 = same 1 (omega arith) in
    let s2 : get_or a 2 0 ≡ get_or b 2 0 = same 2 (omega arith) in
    let s3 : get_or a 3 0 ≡ get_or b 3 0 = same 3 (omega arith) in
    let s4 : get_or a 4 0 ≡ get_or b 4 0 = same 4 (omega arith) in
    let s5 : get_or a 5 0 ≡ get_or b 5 0 = same 5 (omega arith) in
    let s6 : get_or a 6 0 ≡ get_or b 6 0 = same 6 (omega arith) in
    let s7 : get_or a 7 0 ≡ get_or b 7 0 = same 7 (omega arith) in
    cc

-- zeros behind a list of numbers are what stands past its end
get_or-zeros : (xs : List ℕ) (i : ℕ) → get_or (xs ++ replicate 8 0) i 0 ≡ get_or xs i 0
get_or-zeros xs i =
    elim (cases_lt i (length xs)) [
      | inl within ↦ get_or_append_left xs (replicate 8 0) 0 i within
      | inr past ↦
          get_or-append_right xs (replicate 8 0) (length xs) i 0 refl past
          ∙ elim (cases_lt (i - length xs) 8) [
            | inl low ↦ get_or-replicate 8 (i - length xs) 0 0 low
            | inr high ↦ get_or_past (replicate 8 0) (i - length xs) 0 (omega (arith, length-replicate {A = ℕ} 8 0))
          ]
          ∙ sym (get_or_past xs i 0 past)
    ]

-- the bytes of a number that was made of bytes
pub to_le_bytes-from_le_bytes : (bytes : List ℕ) (i : ℕ) → ((k : ℕ) → get_or bytes k 0 < 256) → i < 8
    → get_or (to_le_bytes w64 (from_le_bytes w64 bytes)) i 0 ≡ get_or bytes i 0
to_le_bytes-from_le_bytes bytes i small within =
    let eight = take 8 (bytes ++ replicate 8 0) in
    let at = λ (k : ℕ) (h : k < 8). get_or-take 8 (bytes ++ replicate 8 0) k 0 h ∙ get_or-zeros bytes k in
    let size : length eight ≡ 8 = length-take-le 8 (bytes ++ replicate 8 0) (omega (arith, length-append bytes (replicate 8 0), length-replicate {A = ℕ} 8 0)) in
    let below : (k : ℕ) → get_or eight k 0 < 256 = λ k. elim (cases_lt k 8) [
      | inl low ↦ omega (arith, at k low, small k)
      | inr high ↦ omega (arith, get_or_past eight k 0 (omega (arith, size)))
    ] in
    ap (λ bs. get_or bs i 0) (le_bytes_8 eight (from_le_bytes w64 bytes) size below (from_le_bytes-same bytes eight (λ k h. sym (at k h))))
    ∙ at i within

-- a word has eight bytes
pub length-bytes_of_words : (words : List ℕ) → length (bytes_of_words words) ≡ 8 * length words
length-bytes_of_words [] = refl
length-bytes_of_words (word ∷ words) =
    let rest = length-bytes_of_words words in
    let whole = length-append (to_le_bytes w64 word) (bytes_of_words words) in
    omega (arith, rest, whole)

-- byte i of words is byte i % 8 of word i / 8
pub get_or-bytes_of_words : (words : List ℕ) (i : ℕ) → i < 8 * length words
    → get_or (bytes_of_words words) i 0 ≡ get_or (to_le_bytes w64 (get_or words (i / 8) 0)) (i % 8) 0
get_or-bytes_of_words words i within =
    let front : length (bytes_of_words (take (i / 8) words)) ≡ 8 * (i / 8) =
    length-bytes_of_words (take (i / 8) words) ∙ ap (λ n. 8 * n) (length-take-le (i / 8) words (omega arith)) in
    let place : length (bytes_of_words (take (i / 8) words)) + i % 8 ≡ i = omega (arith, front) in
    ap (λ n. get_or (bytes_of_words words) n 0) (sym place)
    ∙ get_or-flat_map (to_le_bytes w64) words (i / 8) (i % 8) 0 0 (omega arith) (omega arith)

-- the bytes of words behind one another
pub bytes_of_words-append : (front back : List ℕ) → bytes_of_words (front ++ back) ≡ bytes_of_words front ++ bytes_of_words back
bytes_of_words-append front back = flat_map-append (to_le_bytes w64) front back

-- bytes take as many words as are said to
pub length-padded_words : (bytes : List ℕ) → length (padded_words bytes) ≡ words_for (length bytes)
length-padded_words bytes = length-map-range_with_len (word_from bytes) 0 (words_for (length bytes))

-- byte i of the words that bytes are put into is byte i
get_or-bytes_of_words-padded_words : (bytes : List ℕ) (i : ℕ) → ((k : ℕ) → get_or bytes k 0 < 256) → i < length bytes
    → get_or (bytes_of_words (padded_words bytes)) i 0 ≡ get_or bytes i 0
unfolding word_from
get_or-bytes_of_words-padded_words bytes i small within =
    let size = length-padded_words bytes in
    let at : get_or (padded_words bytes) (i / 8) 0 ≡ from_le_bytes w64 (drop (8 * (i / 8)) bytes) =
    get_or-map-range_with_len (word_from bytes) 0 (words_for (length bytes)) (i / 8) (i / 8) 0 (omega arith) (omega arith) in
    let rest = drop (8 * (i / 8)) bytes in
    let below : (k : ℕ) → get_or rest k 0 < 256 = λ k. rw (get_or-drop (8 * (i / 8)) bytes k 0) (small (8 * (i / 8) + k)) in
    let place : 8 * (i / 8) + i % 8 ≡ i = omega arith in
    get_or-bytes_of_words (padded_words bytes) i (omega (arith, size))
    ∙ ap (λ w. get_or (to_le_bytes w64 w) (i % 8) 0) at
    ∙ to_le_bytes-from_le_bytes rest (i % 8) below (omega arith)
    ∙ get_or-drop (8 * (i / 8)) bytes (i % 8) 0
    ∙ ap (λ n. get_or bytes n 0) place

-- each word has 64 bits
from_le_bytes-lt : (bytes : List ℕ) → ((k : ℕ) → get_or bytes k 0 < 256) → from_le_bytes w64 bytes < 2 ^ 64
from_le_bytes-lt bytes small =
    omega (arith, small 0, small 1, small 2, small 3, small 4, small 5, small 6, small 7)

pub word_from-lt : (bytes : List ℕ) (i : ℕ) → ((k : ℕ) → get_or bytes k 0 < 256) → word_from bytes i < 2 ^ 64
unfolding word_from
word_from-lt bytes i small =
    from_le_bytes-lt (drop (8 * i) bytes) (λ k. rw (get_or-drop (8 * i) bytes k 0) (small (8 * i + k)))

-- the words that bytes are put into spell them
pub IsSpelled-padded_words : (bytes : List ℕ) → ((k : ℕ) → get_or bytes k 0 < 256)
    → IsSpelled (padded_words bytes) (length bytes) bytes
IsSpelled-padded_words bytes small =
    let size = length-bytes_of_words (padded_words bytes) in
    let words = length-padded_words bytes in
    let long : length bytes ≤ length (bytes_of_words (padded_words bytes)) = omega (arith, size, words) in
    let same = length-take-le (length bytes) (bytes_of_words (padded_words bytes)) long in
    ext_get_or 0 (take (length bytes) (bytes_of_words (padded_words bytes))) bytes same
    (λ i h. let within : i < length bytes = omega (arith, h, same) in
    get_or-take (length bytes) (bytes_of_words (padded_words bytes)) i 0 within
    ∙ get_or-bytes_of_words-padded_words bytes i small within)

-- whatever words come behind
pub IsSpelled-padded_words-append : (bytes more : List ℕ) → ((k : ℕ) → get_or bytes k 0 < 256)
    → IsSpelled (padded_words bytes ++ more) (length bytes) bytes
IsSpelled-padded_words-append bytes more small =
    let size = length-bytes_of_words (padded_words bytes) in
    let words = length-padded_words bytes in
    ap (take (length bytes)) (bytes_of_words-append (padded_words bytes) more)
    ∙ take-append-le (length bytes) (bytes_of_words (padded_words bytes)) (bytes_of_words more) (omega (arith, size, words))
    ∙ IsSpelled-padded_words bytes small

-- bytes of one length that are put into the same words are the same
pub padded_words-inj : (a b : List ℕ) → ((k : ℕ) → get_or a k 0 < 256) → ((k : ℕ) → get_or b k 0 < 256)
    → length a ≡ length b → padded_words a ≡ padded_words b → a ≡ b
padded_words-inj a b small_a small_b lengths words =
    sym (IsSpelled-padded_words a small_a)
    ∙ ap₂ (λ (len : ℕ) (ws : List ℕ). take len (bytes_of_words ws)) lengths words
    ∙ IsSpelled-padded_words b small_b

-- bytes that are spelled are as many as was asked
pub length-IsSpelled : (words : List ℕ) (len : ℕ) (bytes : List ℕ) → len ≤ 8 * length words
    → IsSpelled words len bytes → length bytes ≡ len
length-IsSpelled words len bytes within spelled =
    let size = length-bytes_of_words words in
    sym (ap length spelled) ∙ length-take-le len (bytes_of_words words) (omega (arith, size))

-- each byte that is spelled is one of a word's eight
pub get_or-IsSpelled : (words : List ℕ) (len : ℕ) (bytes : List ℕ) (i : ℕ) → len ≤ 8 * length words → i < len
    → IsSpelled words len bytes → get_or (to_le_bytes w64 (get_or words (i / 8) 0)) (i % 8) 0 ≡ get_or bytes i 0
get_or-IsSpelled words len bytes i within below spelled =
    sym (get_or-bytes_of_words words i (omega arith))
    ∙ sym (get_or-take len (bytes_of_words words) i 0 below)
    ∙ ap (λ bs. get_or bs i 0) spelled

-- one byte more
pub spelled_more : (words bytes : List ℕ) (i : ℕ) → i < 8 * length words → i < length bytes
    → take i (bytes_of_words words) ≡ take i bytes
    → get_or (to_le_bytes w64 (get_or words (i / 8) 0)) (i % 8) 0 ≡ get_or bytes i 0
    → take (i + 1) (bytes_of_words words) ≡ take (i + 1) bytes
spelled_more words bytes i within below front same =
    let size = length-bytes_of_words words in
    take_more_same (bytes_of_words words) bytes i 0 (omega (arith, size)) below front (get_or-bytes_of_words words i within ∙ same)

-- the word from the start of what is left of the bytes
pub word_from-rest : (bytes : List ℕ) (i : ℕ)
    → word_from (take (length bytes - 8 * i) (drop (8 * i) bytes)) 0 ≡ word_from bytes i
unfolding word_from
word_from-rest bytes i = ap (from_le_bytes w64) (take_rest bytes (8 * i))
