-- How a text is cut at its first line feed.
use Rattle.std.proofs.Common.{◌≡◌, ℕ, ◌+◌, ◌-◌, ◌<◌, ◌≤◌, ◌==◌, Bool, true, false, List, [], ◌∷◌, length, take, drop, Some, None, refl, sym, ap, ◌∙◌, arith, length-drop, length-take}
use Rattle.std.specs.Prelude.{if◌then◌else◌}
use Rattle.std.specs.List.{count_by, position, slice_index, slice_split}
use Rattle.std.proofs.lemmas.Bool.Decides.{nat_tests}
use Rattle.std.proofs.lemmas.List.{take_rest}
use Rattle.std.proofs.lemmas.List.Splits.{length-slice_split, slice_split_first}
use Rattle.text_lines.specs.Cut.{IsCut}
use Rattle.text_lines.specs.Lines.{is_feed, lines_of, lines_of_pieces, without_return}
use Rattle.text_lines.proofs.PlaceLemmas.{found_at, one_piece_of}

pub no_lines : (text : List ℕ) → length text ≡ 0 → lines_of text ≡ []
unfolding lines_of
no_lines [] is = refl
no_lines (byte ∷ text) is = absurd (omega arith)

shorter_piece : (b : Bool) (n : ℕ) (xs : List ℕ) → length (if b then take n xs else xs) ≤ length xs
shorter_piece true n xs = omega (arith, length-take n xs)
shorter_piece false n xs = omega arith

not_nothing : (n : ℕ) → 0 < n → (n == 0) ≡ false
not_nothing n some = grind (arith, nat_tests)

ended_piece : (piece : List ℕ) (pieces : List (List ℕ)) (n : ℕ) → length pieces ≡ n + 1 → lines_of_pieces (piece ∷ pieces) ≡ without_return piece ∷ lines_of_pieces pieces
ended_piece piece [] n long = absurd (omega arith)
ended_piece piece (next ∷ pieces) n long = rw (not_nothing (length (next ∷ pieces)) (omega arith)) refl

lines-ended : (text : List ℕ) (at : ℕ) → Some at ≡ position is_feed text → lines_of text ≡ without_return (take at text) ∷ lines_of (drop (at + 1) text)
unfolding lines_of
lines-ended text at is =
    let place = found_at is_feed text at is in
    let cut = slice_split_first is_feed text 0 (omega (arith, place.within, place.is)) in
    let rest = slice_split is_feed (drop (at + 1) text) in
    let split : slice_split is_feed text ≡ take at text ∷ rest = rw place.is at cut in
    ap lines_of_pieces split ∙ ended_piece (take at text) rest (count_by is_feed (drop (at + 1) text)) (length-slice_split is_feed (drop (at + 1) text))

pub cut_at_feed : (text line rest : List ℕ) (at : ℕ) → Some at ≡ position is_feed text → line ≡ without_return (take at text) → rest ≡ take (length text - (at + 1)) (drop (at + 1) text) → IsCut lines_of text line rest
cut_at_feed text line rest at is line_is rest_is =
    let place = found_at is_feed text at is in
    let after : rest ≡ drop (at + 1) text = rest_is ∙ take_rest text (at + 1) in
    let long : length rest ≡ length text - (at + 1) = ap length after ∙ length-drop (at + 1) text in
    let short : length line ≤ length (take at text) = rw line_is (shorter_piece (slice_index (take at text) (length (take at text) - 1) == 13) (length (take at text) - 1) (take at text)) in
    record {
      parts = rw (line_is, after) (lines-ended text at is);
      shorter = omega (arith, place.within, long);
      within = omega (arith, place.within, long, short, length-take at text);
    }

whole_line : (text : List ℕ) → 0 < length text → lines_of_pieces (text ∷ []) ≡ text ∷ []
whole_line [] some = absurd (omega arith)
whole_line (byte ∷ text) some = rw (not_nothing (length (byte ∷ text)) some) refl

pub cut_at_end : (text rest : List ℕ) → None ≡ position is_feed text → 0 < length text → length rest ≡ 0 → IsCut lines_of text text rest
unfolding lines_of
cut_at_end text rest is some none = record {
  parts = ap lines_of_pieces (one_piece_of is_feed text is) ∙ whole_line text some ∙ ap (λ lines. text ∷ lines) (sym (no_lines rest none));
  shorter = omega arith;
  within = omega arith;
}
