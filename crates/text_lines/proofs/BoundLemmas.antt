-- Lines and words have no more bytes than what they are read from, and there are no more lines than bytes.
use Rattle.std.proofs.Common.{◌≡◌, ℕ, ◌+◌, ◌-◌, ◌<◌, ◌≤◌, ◌==◌, Bool, true, false, List, [], ◌∷◌, length, take, refl, ◌∙◌, arith, length-take}
use Rattle.std.specs.Prelude.{if◌then◌else◌, cond}
use Rattle.std.specs.List.{filter, onto_first, slice_index, slice_split}
use Rattle.std.proofs.lemmas.Bool.Decides.{nat_tests}
use Rattle.std.proofs.lemmas.List.Splits.{length-slice_split}
use Rattle.std.proofs.lemmas.List.Sums.{sum_by-cons}
use Rattle.text_lines.specs.Bound.{bytes_in}
use Rattle.text_lines.specs.Lines.{is_feed, lines_of, lines_of_pieces, without_return}
use Rattle.text_lines.specs.Words.{is_blank, is_filled, words_of}

bytes_in-cons : (piece : List ℕ) (pieces : List (List ℕ)) → bytes_in (piece ∷ pieces) ≡ length piece + bytes_in pieces
bytes_in-cons piece pieces = sum_by-cons (λ piece. length piece) piece pieces

onto_length : (x n : ℕ) (pieces : List (List ℕ)) → bytes_in pieces + length pieces ≡ n + 1 → bytes_in (onto_first x pieces) + length (onto_first x pieces) ≡ n + 2
onto_length x n [] is = absurd (omega arith)
onto_length x n (piece ∷ pieces) is = omega (arith, bytes_in-cons piece pieces, bytes_in-cons (x ∷ piece) pieces)

split_step : (x : ℕ) (n : ℕ) (pieces : List (List ℕ)) (parts : Bool) → bytes_in pieces + length pieces ≡ n + 1
    → bytes_in (cond parts ([] ∷ pieces) (onto_first x pieces)) + length (cond parts ([] ∷ pieces) (onto_first x pieces)) ≡ n + 2
split_step x n pieces true is = omega (arith, bytes_in-cons [] pieces)
split_step x n pieces false is = onto_length x n pieces is

-- the pieces, and a byte between each two, are the whole
bytes_in-slice_split : (p : ℕ → Bool) (xs : List ℕ) → bytes_in (slice_split p xs) + length (slice_split p xs) ≡ length xs + 1
bytes_in-slice_split p [] = refl
bytes_in-slice_split p (x ∷ xs) = split_step x (length xs) (slice_split p xs) (p x) (bytes_in-slice_split p xs) ∙ omega arith

filled_step : (piece : List ℕ) (pieces kept : List (List ℕ)) (keep : Bool) → bytes_in kept ≤ bytes_in pieces → bytes_in (cond keep (piece ∷ kept) kept) ≤ bytes_in (piece ∷ pieces)
filled_step piece pieces kept true less = omega (arith, bytes_in-cons piece kept, bytes_in-cons piece pieces)
filled_step piece pieces kept false less = omega (arith, bytes_in-cons piece pieces)

bytes_in-filter : (pieces : List (List ℕ)) → bytes_in (filter is_filled pieces) ≤ bytes_in pieces
bytes_in-filter [] = omega arith
bytes_in-filter (piece ∷ pieces) = filled_step piece pieces (filter is_filled pieces) (is_filled piece) (bytes_in-filter pieces)

some_piece : (p : ℕ → Bool) (xs : List ℕ) → 1 ≤ length (slice_split p xs)
some_piece p xs = omega (arith, length-slice_split p xs)

pub bytes_in-words_of : (line : List ℕ) → bytes_in (words_of line) ≤ length line
unfolding words_of
bytes_in-words_of line = omega (arith, bytes_in-filter (slice_split is_blank line), bytes_in-slice_split is_blank line, some_piece is_blank line)

shorter : (b : Bool) (n : ℕ) (xs : List ℕ) → length (if b then take n xs else xs) ≤ length xs
shorter true n xs = omega (arith, length-take n xs)
shorter false n xs = omega arith

-- what is read from the pieces: no more bytes, and for the last line one byte of its own
record Fits (pieces : List (List ℕ)) : Type 0 where
  bytes : bytes_in (lines_of_pieces pieces) ≤ bytes_in pieces
  count : length (lines_of_pieces pieces) + 1 ≤ bytes_in pieces + length pieces

last_line : (piece : List ℕ) (empty : Bool) → (length piece == 0) ≡ empty → Fits (piece ∷ [])
last_line piece true is = record { bytes = rw is (omega arith); count = rw is (omega arith) }
last_line piece false is = let some : 0 < length piece = grind (arith, nat_tests) in record { bytes = rw is (omega arith); count = rw is (omega (arith, bytes_in-cons piece [])) }

not_nothing : (n : ℕ) → 0 < n → (n == 0) ≡ false
not_nothing n some = grind (arith, nat_tests)

fits : (pieces : List (List ℕ)) → 0 < length pieces → Fits pieces
fits [] some = absurd (omega arith)
fits (piece ∷ []) some = last_line piece (length piece == 0) refl
fits (piece ∷ next ∷ pieces) some =
    let more : (length (next ∷ pieces) == 0) ≡ false = not_nothing (length (next ∷ pieces)) (omega arith) in
    let rest = fits (next ∷ pieces) (omega arith) in
    let less = shorter (slice_index piece (length piece - 1) == 13) (length piece - 1) piece in
    record {
      bytes = rw more (omega (arith, rest.bytes, less, bytes_in-cons (without_return piece) (lines_of_pieces (next ∷ pieces)), bytes_in-cons piece (next ∷ pieces)));
      count = rw more (omega (arith, rest.count, bytes_in-cons piece (next ∷ pieces)));
    }

pub bytes_in-lines_of : (text : List ℕ) → bytes_in (lines_of text) ≤ length text
unfolding lines_of
bytes_in-lines_of text =
    let all = fits (slice_split is_feed text) (some_piece is_feed text) in
    omega (arith, all.bytes, bytes_in-slice_split is_feed text, some_piece is_feed text)

pub length-lines_of : (text : List ℕ) → length (lines_of text) ≤ length text
unfolding lines_of
length-lines_of text =
    let all = fits (slice_split is_feed text) (some_piece is_feed text) in
    omega (arith, all.count, bytes_in-slice_split is_feed text)
