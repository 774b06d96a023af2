-- How a line is cut at the blank after its first word.
use Rattle.std.proofs.Common.{◌≡◌, ℕ, suc, ◌+◌, ◌-◌, ◌<◌, ◌≤◌, Bool, true, false, List, [], ◌∷◌, length, take, drop, Some, None, refl, sym, ap, ◌∙◌, arith, length-drop, length-take}
use Rattle.std.specs.List.{filter, position, position_or_len, slice_split}
use Rattle.std.proofs.lemmas.Bool.{lt-ltb}
use Rattle.std.proofs.lemmas.List.{take_rest}
use Rattle.std.proofs.lemmas.List.Splits.{slice_split_first}
use Rattle.text_lines.specs.Cut.{IsCut}
use Rattle.text_lines.specs.Words.{is_blank, is_filled, is_of_word, words_of}
use Rattle.text_lines.proofs.PlaceLemmas.{found_at, missing_at, one_piece_of}

past_blank : (b : Bool) (x : ℕ) (xs : List ℕ) → is_blank x ≡ b → words_of (drop (position_or_len is_of_word xs) xs) ≡ words_of xs → words_of (drop (position_or_len is_of_word (x ∷ xs)) (x ∷ xs)) ≡ words_of (x ∷ xs)
unfolding words_of
past_blank true x xs is rest =
    let next : 1 + position_or_len is_of_word xs ≡ suc (position_or_len is_of_word xs) = omega arith in
    rw (is, next) rest
past_blank false x xs is rest = rw (is, is) refl

-- blanks before the first word change nothing
words_of-past_blanks : (line : List ℕ) → words_of (drop (position_or_len is_of_word line) line) ≡ words_of line
words_of-past_blanks [] = refl
words_of-past_blanks (x ∷ xs) = past_blank (is_blank x) x xs refl (words_of-past_blanks xs)

filled_front : (b : Bool) (x : ℕ) (xs : List ℕ) → is_blank x ≡ b
    → (position_or_len is_of_word xs < length xs → 0 < position_or_len is_blank (drop (position_or_len is_of_word xs) xs))
    → position_or_len is_of_word (x ∷ xs) < length (x ∷ xs) → 0 < position_or_len is_blank (drop (position_or_len is_of_word (x ∷ xs)) (x ∷ xs))
filled_front true x xs is rest within =
    let next : 1 + position_or_len is_of_word xs ≡ suc (position_or_len is_of_word xs) = omega arith in
    let before : 1 + position_or_len is_of_word xs < length (x ∷ xs) = rw is at within in
    rw (is, next) (rest (omega arith))
filled_front false x xs is rest within = rw (is, is) (omega arith)

-- what stands from the first byte of a word on begins with no blank
begins_filled : (line : List ℕ) → position_or_len is_of_word line < length line → 0 < position_or_len is_blank (drop (position_or_len is_of_word line) line)
begins_filled [] within = absurd (omega arith)
begins_filled (x ∷ xs) within = filled_front (is_blank x) x xs refl (begins_filled xs) within

words_of-empty : (line : List ℕ) → length line ≡ 0 → words_of line ≡ []
unfolding words_of
words_of-empty [] is = refl
words_of-empty (x ∷ line) is = absurd (omega arith)

-- no word: nothing but blanks
pub no_words : (line : List ℕ) → None ≡ position is_of_word line → words_of line ≡ []
no_words line is =
    let past : length line ≤ position_or_len is_of_word line = missing_at is_of_word line is in
    sym (words_of-past_blanks line) ∙ words_of-empty (drop (position_or_len is_of_word line) line) (omega (arith, length-drop (position_or_len is_of_word line) line))

filled_piece : (word : List ℕ) (pieces : List (List ℕ)) → 0 < length word → filter is_filled (word ∷ pieces) ≡ word ∷ filter is_filled pieces
filled_piece word pieces some = rw (lt-ltb 0 (length word) some) refl

-- a line that begins with a word, cut at the blank after it
words-ended : (words : List ℕ) (end : ℕ) → Some end ≡ position is_blank words → 0 < position_or_len is_blank words → words_of words ≡ take end words ∷ words_of (drop (end + 1) words)
unfolding words_of
words-ended words end is some =
    let place = found_at is_blank words end is in
    let cut = slice_split_first is_blank words 0 (omega (arith, place.within, place.is)) in
    let rest = slice_split is_blank (drop (end + 1) words) in
    let split : slice_split is_blank words ≡ take end words ∷ rest = rw place.is at cut in
    ap (filter is_filled) split ∙ filled_piece (take end words) rest (omega (arith, length-take end words, place.within, place.is))

pub cut_at_blank : (line words word rest : List ℕ) (start end : ℕ) → Some start ≡ position is_of_word line → words ≡ take (length line - start) (drop start line)
    → Some end ≡ position is_blank words → word ≡ take end words → rest ≡ take (length words - (end + 1)) (drop (end + 1) words) → IsCut words_of line word rest
cut_at_blank line words word rest start end start_is words_are end_is word_is rest_is =
    let first = found_at is_of_word line start start_is in
    let last = found_at is_blank words end end_is in
    let all : words ≡ drop start line = words_are ∙ take_rest line start in
    let filled : 0 < position_or_len is_blank words = rw (all, sym first.is) (begins_filled line (omega (arith, first.within, first.is))) in
    let after : rest ≡ drop (end + 1) words = rest_is ∙ take_rest words (end + 1) in
    let whole : words_of line ≡ words_of words = sym (words_of-past_blanks line) ∙ ap (λ n. words_of (drop n line)) first.is ∙ ap words_of (sym all) in
    record {
      parts = rw (whole, word_is, after) (words-ended words end end_is filled);
      shorter = omega (arith, first.within, last.within, ap length all, ap length after, length-drop start line, length-drop (end + 1) words);
      within = omega (arith, first.within, last.within, ap length all, ap length after, ap length word_is, length-drop start line, length-drop (end + 1) words, length-take end words);
    }

pub cut_at_last : (line words rest : List ℕ) (start : ℕ) → Some start ≡ position is_of_word line → words ≡ take (length line - start) (drop start line)
    → None ≡ position is_blank words → length rest ≡ 0 → IsCut words_of line words rest
unfolding words_of
cut_at_last line words rest start start_is words_are none empty =
    let first = found_at is_of_word line start start_is in
    let all : words ≡ drop start line = words_are ∙ take_rest line start in
    let long : length words ≡ length line - start = ap length all ∙ length-drop start line in
    let whole : words_of line ≡ words_of words = sym (words_of-past_blanks line) ∙ ap (λ n. words_of (drop n line)) first.is ∙ ap words_of (sym all) in
    record {
      parts = whole ∙ ap (filter is_filled) (one_piece_of is_blank words none) ∙ filled_piece words [] (omega (arith, first.within)) ∙ ap (λ words'. words ∷ words') (sym (words_of-empty rest empty));
      shorter = omega (arith, first.within);
      within = omega (arith, first.within);
    }
