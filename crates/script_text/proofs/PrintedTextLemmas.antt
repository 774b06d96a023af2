-- A text of printed lines is cut into these lines, and a line into its words.
use Rattle.std.proofs.Common.{◌≡◌, ℕ, zero, suc, ◌-◌, ◌<◌, ◌==◌, Bool, true, false, ◌&&◌, List, [], ◌∷◌, ◌++◌, length, codes, get_or, refl, ap, ◌∙◌, arith, append_assoc, Ok}
use Rattle.std.specs.Prelude.{map, nat_le}
use Rattle.std.specs.Char.{is_ascii_graphic}
use Rattle.std.specs.List.{All, filter, list_all, slice_split}
use Rattle.std.proofs.lemmas.Bool.{false≢true, lt-ltb}
use Rattle.std.proofs.lemmas.Bool.Decides.{nat_tests}
use Rattle.std.proofs.lemmas.List.{append-nil}
use Rattle.std.proofs.lemmas.List.Elements.{All-cons, All-nil}
use Rattle.std.proofs.lemmas.List.Folds.{list_all-append}
use Rattle.std.proofs.lemmas.List.Splits.{length-slice_split, slice_split_at, slice_split_none}
use Rattle.text_lines.specs.Lines.{has_bad_byte, is_bad, is_feed, lines_of, lines_of_pieces, without_return}
use Rattle.text_lines.specs.Words.{is_blank, is_filled, words_of}
use Rattle.script_text.specs.OutputForm.{line_of, line_of_words}
use Rattle.script_text.specs.OutputPart.{HasInRange, line_parts}
use Rattle.script_text.specs.OutputShape.{AreInRange}
use Rattle.script_text.specs.OutputText.{joined, line_words, spaced, text_of}
use Rattle.script_text.specs.Shown.{are_visible}
use Rattle.script_text.specs.declared.out_lines.OutLine.{OutLine}
use Rattle.script_text.proofs.FormedLemmas.{line_formed}
use Rattle.script_text.proofs.PrintedLemmas.{AreWords, IsWord, line_words-words, parts_stand}

both_true : (a b : Bool) → (a && b) ≡ true → (a ≡ true) × (b ≡ true)
both_true true b is = (refl, is)
both_true false b is = absurd (false≢true is)

-- a byte as it stands in a line: 20 to 7e
abbrev is_clean : ℕ → Bool
is_clean byte = nat_le 32 byte && nat_le byte 126

abbrev are_clean : List ℕ → Bool
are_clean bytes = list_all is_clean bytes

visible_clean : (byte : ℕ) → is_ascii_graphic byte ≡ true → is_clean byte ≡ true
visible_clean byte is = grind (arith, nat_tests)

visible_filled : (byte : ℕ) → is_ascii_graphic byte ≡ true → is_blank byte ≡ false
visible_filled byte is = grind (arith, nat_tests)

clean_good : (byte : ℕ) → is_clean byte ≡ true → is_bad byte ≡ false
clean_good byte is = grind (arith, nat_tests)

clean_no_feed : (byte : ℕ) → is_clean byte ≡ true → is_feed byte ≡ false
clean_no_feed byte is = grind (arith, nat_tests)

clean_no_return : (byte : ℕ) → is_clean byte ≡ true → (byte == 13) ≡ false
clean_no_return byte is = grind (arith, nat_tests)

visible_all_clean : (bytes : List ℕ) → are_visible bytes ≡ true → are_clean bytes ≡ true
visible_all_clean [] is = refl
visible_all_clean (byte ∷ bytes) is =
    let both = both_true (is_ascii_graphic byte) (are_visible bytes) is in
    rw (visible_clean byte both.0, visible_all_clean bytes both.1) refl

visible_all_filled : (bytes : List ℕ) → are_visible bytes ≡ true → All (λ byte. is_blank byte ≡ false) bytes
visible_all_filled [] is = All-nil (λ byte. is_blank byte ≡ false)
visible_all_filled (byte ∷ bytes) is =
    let both = both_true (is_ascii_graphic byte) (are_visible bytes) is in
    All-cons (λ byte. is_blank byte ≡ false) byte bytes (visible_filled byte both.0) (visible_all_filled bytes both.1)

-- a line has only clean bytes

clean-append : (xs ys : List ℕ) → are_clean xs ≡ true → are_clean ys ≡ true → are_clean (xs ++ ys) ≡ true
clean-append xs ys a b = list_all-append is_clean xs ys ∙ rw (a, b) refl

spaced_clean : (words : List (List ℕ)) → AreWords words → are_clean (spaced words) ≡ true
unfolding AreWords
spaced_clean [] are = refl
spaced_clean (word ∷ words) are = clean-append word (spaced words) (visible_all_clean word are.0.visible) (spaced_clean words are.1)

joined_clean : (words : List (List ℕ)) → AreWords words → are_clean (joined words) ≡ true
unfolding AreWords
joined_clean [] are = refl
joined_clean (word ∷ words) are = clean-append word (spaced words) (visible_all_clean word are.0.visible) (spaced_clean words are.1)

clean_fine : (bytes : List ℕ) → are_clean bytes ≡ true → has_bad_byte bytes ≡ false
unfolding has_bad_byte
clean_fine [] is = refl
clean_fine (byte ∷ bytes) is =
    let both = both_true (is_clean byte) (are_clean bytes) is in
    rw (clean_good byte both.0, clean_fine bytes both.1) refl

-- and is cut into its words

filled : (word : List ℕ) → 0 < length word → is_filled word ≡ true
filled word some = lt-ltb 0 (length word) some

words_of-spaced : (word : List ℕ) (words : List (List ℕ)) → IsWord word → AreWords words → words_of (word ++ spaced words) ≡ word ∷ words
unfolding words_of AreWords
words_of-spaced word [] is are =
    let one : slice_split is_blank (word ++ []) ≡ word ∷ [] = ap (slice_split is_blank) (append-nil word) ∙ slice_split_none is_blank word (visible_all_filled word is.visible) in
    ap (filter is_filled) one ∙ rw (filled word is.some) refl
words_of-spaced word (next ∷ words) is are =
    let first = slice_split_at is_blank word 32 (next ++ spaced words) (visible_all_filled word is.visible) refl in
    ap (filter is_filled) first ∙ rw (filled word is.some) (ap (λ ws. word ∷ ws) (words_of-spaced next words are.0 are.1))

words_of-joined : (words : List (List ℕ)) → AreWords words → words_of (joined words) ≡ words
unfolding words_of AreWords
words_of-joined [] are = refl
words_of-joined (word ∷ words) are = words_of-spaced word words are.0 are.1

good_line : (text : List ℕ) (words : List (List ℕ)) → has_bad_byte text ≡ false → words_of text ≡ words → line_of text ≡ line_of_words words
good_line text words fine cut = rw (fine, cut) refl

-- a printed line is read as itself
pub line_of-printed : (out : OutLine) → HasInRange out → line_of (joined (line_words out)) ≡ Ok out
line_of-printed out small =
    let are = line_words-words out small in
    good_line (joined (line_words out)) (line_words out) (clean_fine (joined (line_words out)) (joined_clean (line_words out) are)) (words_of-joined (line_words out) are)
    ∙ line_formed out (line_words out) (parts_stand (line_parts out) small)

-- a text is cut into its lines

clean_no_feeds : (bytes : List ℕ) → are_clean bytes ≡ true → All (λ byte. is_feed byte ≡ false) bytes
clean_no_feeds [] is = All-nil (λ byte. is_feed byte ≡ false)
clean_no_feeds (byte ∷ bytes) is =
    let both = both_true (is_clean byte) (are_clean bytes) is in
    All-cons (λ byte. is_feed byte ≡ false) byte bytes (clean_no_feed byte both.0) (clean_no_feeds bytes both.1)

no_return_at : (bytes : List ℕ) (k : ℕ) → are_clean bytes ≡ true → (get_or bytes k 0 == 13) ≡ false
no_return_at [] k is = refl
no_return_at (byte ∷ bytes) zero is = clean_no_return byte (both_true (is_clean byte) (are_clean bytes) is).0
no_return_at (byte ∷ bytes) (suc k) is = no_return_at bytes k (both_true (is_clean byte) (are_clean bytes) is).1

no_return : (bytes : List ℕ) → are_clean bytes ≡ true → without_return bytes ≡ bytes
no_return bytes is = rw (no_return_at bytes (length bytes - 1) is) refl

not_nothing : (n : ℕ) → 0 < n → (n == 0) ≡ false
not_nothing n some = grind (arith, nat_tests)

first_piece : (piece : List ℕ) (pieces : List (List ℕ)) → 0 < length pieces → lines_of_pieces (piece ∷ pieces) ≡ without_return piece ∷ lines_of_pieces pieces
first_piece piece pieces some = rw (not_nothing (length pieces) some) refl

lines_of-clean : (text rest : List ℕ) → are_clean text ≡ true → lines_of (text ++ 10 ∷ rest) ≡ text ∷ lines_of rest
unfolding lines_of
lines_of-clean text rest clean =
    let pieces = slice_split is_feed rest in
    let some : 0 < length pieces = omega (arith, length-slice_split is_feed rest) in
    ap lines_of_pieces (slice_split_at is_feed text 10 rest (clean_no_feeds text clean) refl) ∙ first_piece text pieces some ∙ ap (λ line. line ∷ lines_of_pieces pieces) (no_return text clean)

pub lines_of-text_of : (outs : List OutLine) → AreInRange outs → lines_of (text_of outs) ≡ map (λ out. joined (line_words out)) outs
unfolding lines_of
lines_of-text_of [] small = refl
lines_of-text_of (out ∷ outs) small =
    let text = joined (line_words out) in
    ap lines_of (append_assoc text (codes "\n") (text_of outs)) ∙ lines_of-clean text (text_of outs) (joined_clean (line_words out) (line_words-words out small.0))
    ∙ ap (λ lines. text ∷ lines) (lines_of-text_of outs small.1)
