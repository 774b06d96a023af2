-- Every script that a text means is sound.
use Rattle.std.proofs.Common.{◌≡◌, ℕ, ◌<◌, ◌≤◌, ◌%◌, ◌==◌, Bool, true, false, not, ◌&&◌, List, [], ◌∷◌, length, take, drop, Some, None, ap, arith, length-drop}
use Rattle.std.specs.Prelude.{if◌then◌else◌, bytes_eq, codes}
use Rattle.std.specs.List.{All, sum_by}
use Rattle.std.proofs.lemmas.List.Elements.{All-cons, All-nil}
use Rattle.std.proofs.lemmas.List.Sums.{sum_by-cons}
use Rattle.text_lines.specs.Bound.{bytes_in}
use Rattle.text_lines.specs.Lines.{lines_of}
use Rattle.text_lines.specs.Words.{is_skipped, words_of}
use Rattle.text_lines.proofs.BoundLemmas.{bytes_in-lines_of, bytes_in-words_of, length-lines_of}
use Rattle.script_text.specs.Meaning.{IsCounted, MeanLines, Means, Part, StandFor, StandsFor, bytes, fixed, form, kept_words, number, word}
use Rattle.script_text.specs.ScriptForm.{Plan}
use Rattle.script_text.specs.Sound.{IsSound, line_bytes, part_bytes}
use Rattle.script_text.specs.WordValue.{are_hex_digits, bytes_of, hex_bytes, paired}
use Rattle.script_text.specs.declared.scripts.Line.{Line}

length-paired : (digits : List ℕ) → length (paired digits) ≤ length digits
length-paired [] = omega arith
length-paired (digit ∷ []) = omega arith
length-paired (high ∷ low ∷ digits) = omega (arith, length-paired digits)

hex_short : (digits value : List ℕ) (even : Bool) → (if even then Some (paired digits) else None) ≡ Some value → length value ≤ length digits
hex_short digits value true is = let same : paired digits ≡ value = cc in omega (arith, ap length same, length-paired digits)
hex_short digits value false is = cc

hex_bytes-short : (digits value : List ℕ) → hex_bytes digits ≡ Some value → length value ≤ length digits
unfolding hex_bytes
hex_bytes-short digits value is = hex_short digits value (length digits % 2 == 0 && are_hex_digits digits) is

bytes_short : (text value : List ℕ) (hex : Bool) → (if hex then hex_bytes (drop 2 text) else Some text) ≡ Some value → length value ≤ length text
bytes_short text value true is = omega (arith, hex_bytes-short (drop 2 text) value is, length-drop 2 text)
bytes_short text value false is = let same : text ≡ value = cc in omega (arith, ap length same)

bytes_of-short : (text value : List ℕ) → bytes_of text ≡ Some value → length value ≤ length text
unfolding bytes_of
bytes_of-short text value is = bytes_short text value (bytes_eq (take 2 text) (codes "x:")) is

part_short : (text : List ℕ) (part : Part) → StandsFor text part → part_bytes part ≤ length text
part_short text (fixed name) stands = omega arith
part_short text (number value) stands = omega arith
part_short text (bytes value) stands = bytes_of-short text value stands
part_short text (word value) stands = omega arith

parts_short : (words : List (List ℕ)) (parts : List Part) → StandFor words parts → sum_by part_bytes parts ≤ bytes_in words
parts_short [] [] stand = omega arith
parts_short [] (part ∷ parts) stand = absurd stand
parts_short (text ∷ texts) [] stand = absurd stand
parts_short (text ∷ texts) (part ∷ parts) stand =
    omega (arith, part_short text part stand.0, parts_short texts parts stand.1, sum_by-cons part_bytes part parts, sum_by-cons (λ piece. length piece) text texts)

-- what is known of the lines that some words mean
record AreShort (texts : List (List ℕ)) (words : List (List (List ℕ))) (lines : List Line) : Type 0 where
  counted : All IsCounted lines
  bytes : sum_by line_bytes lines ≤ bytes_in texts
  count : length lines ≤ length texts

short_step : (text : List ℕ) (texts : List (List ℕ)) (others : List (List (List ℕ))) (lines : List Line) (skipped : Bool)
    → MeanLines (if not skipped then words_of text ∷ others else others) lines
    → ((lines : List Line) → MeanLines others lines → AreShort texts others lines) → AreShort (text ∷ texts) (if not skipped then words_of text ∷ others else others) lines
short_step text texts others lines true mean later =
    let rest = later lines mean in
    record { counted = rest.counted; bytes = omega (arith, rest.bytes, sum_by-cons (λ piece. length piece) text texts); count = omega (arith, rest.count) }
short_step text texts others [] false mean later = absurd mean
short_step text texts others (line ∷ lines) false mean later =
    let rest = later lines mean.1 in
    let first = parts_short (words_of text) (form line) mean.0.0 in
    record {
      counted = All-cons IsCounted line lines mean.0.1 rest.counted;
      bytes = omega (arith, rest.bytes, first, bytes_in-words_of text, sum_by-cons (λ piece. length piece) text texts, sum_by-cons line_bytes line lines);
      count = omega (arith, rest.count);
    }

lines_short : (texts : List (List ℕ)) (lines : List Line) → MeanLines (kept_words texts) lines → AreShort texts (kept_words texts) lines
lines_short [] [] mean = record { counted = All-nil IsCounted; bytes = omega arith; count = omega arith }
lines_short [] (line ∷ lines) mean = absurd mean
lines_short (text ∷ texts) lines mean = short_step text texts (kept_words texts) lines (is_skipped (words_of text)) mean (lines_short texts)

-- the same behind the shape line
record AreShorter (texts : List (List ℕ)) (lines : List Line) : Type 0 where
  counted : All IsCounted lines
  bytes : sum_by line_bytes lines ≤ bytes_in texts
  count : length lines < length texts

shorter_step : (text : List ℕ) (texts : List (List ℕ)) (first : List (List ℕ)) (others : List (List (List ℕ))) (lines : List Line) (skipped : Bool)
    → (if not skipped then words_of text ∷ kept_words texts else kept_words texts) ≡ first ∷ others → MeanLines others lines
    → (kept_words texts ≡ first ∷ others → AreShorter texts lines) → AreShorter (text ∷ texts) lines
shorter_step text texts first others lines true kept mean later =
    let rest = later kept in
    record { counted = rest.counted; bytes = omega (arith, rest.bytes, sum_by-cons (λ piece. length piece) text texts); count = omega (arith, rest.count) }
shorter_step text texts first others lines false kept mean later =
    let are : others ≡ kept_words texts = cc in
    let rest = lines_short texts lines (rw are at mean) in
    record { counted = rest.counted; bytes = omega (arith, rest.bytes, sum_by-cons (λ piece. length piece) text texts); count = omega (arith, rest.count) }

script_short : (texts : List (List ℕ)) (first : List (List ℕ)) (others : List (List (List ℕ))) (lines : List Line) → kept_words texts ≡ first ∷ others → MeanLines others lines → AreShorter texts lines
script_short [] first others lines kept mean = cc
script_short (text ∷ texts) first others lines kept mean =
    shorter_step text texts first others lines (is_skipped (words_of text)) kept mean (λ kept. script_short texts first others lines kept mean)

pub IsSound-means : (text : List ℕ) (plan : Plan) → Means text plan → IsSound text plan
IsSound-means text plan means =
    let short = script_short (lines_of text) means.first means.others plan.lines means.kept means.lines in
    record {
      within = means.within;
      counted = short.counted;
      lines = short.count;
      few = omega (arith, short.count, length-lines_of text);
      bytes = omega (arith, short.bytes, bytes_in-lines_of text);
    }
