-- A text means a script exactly where it is read as it.
use Rattle.std.proofs.Common.{◌≡◌, ℕ, ◌+◌, Bool, true, false, not, ◌||◌, List, [], ◌∷◌, ◌++◌, append_assoc, None, Result, Ok, Err, refl, sym, ap, subst, ◌∙◌}
use Rattle.std.specs.Prelude.{if◌then◌else◌}
use Rattle.std.specs.List.{list_any}
use Rattle.std.specs.Result.{result_err}
use Rattle.std.proofs.lemmas.List.{append-nil}
use Rattle.text_lines.specs.Lines.{has_bad_byte, lines_of}
use Rattle.text_lines.specs.Words.{is_skipped, words_of}
use Rattle.script_text.specs.LineForm.{line_of}
use Rattle.script_text.specs.Meaning.{MeanLines, Means, kept_words}
use Rattle.script_text.specs.ScriptForm.{Fault, Plan, fault, fault_of, lines_after, reading_of, script_after, shaped}
use Rattle.script_text.specs.ShapeForm.{shape_line}
use Rattle.script_text.specs.declared.faults.BadKind.{BadKind}
use Rattle.script_text.specs.declared.faults.BadKind.TheVariants as kind
use Rattle.script_text.specs.declared.scripts.Line.{Line}
use Rattle.script_text.specs.declared.scripts.Shape.{Shape}
use Rattle.script_text.proofs.LineFormLemmas.{line_of-means}
use Rattle.script_text.proofs.LineMeaningLemmas.{means-line_of}
use Rattle.script_text.proofs.ShapeFormLemmas.{MeansShape, means-shape_line, shape_line-means}

-- From a meaning to the reading.

neither : (a b : Bool) → (a || b) ≡ false → (a ≡ false) × (b ≡ false)
neither true b is = cc
neither false b is = (refl, is)

line_read : (text : List ℕ) (texts : List (List ℕ)) (past : List Line) (others : List (List (List ℕ))) (lines : List Line) (number : ℕ) (skipped : Bool)
    → is_skipped (words_of text) ≡ skipped → MeanLines (if not skipped then words_of text ∷ others else others) lines
    → ((past lines : List Line) (number : ℕ) → MeanLines others lines → lines_after past number texts ≡ Ok (past ++ lines))
    → (if skipped then lines_after past (number + 1) texts else (elim (line_of (words_of text)) [ Ok line ↦ lines_after (past ++ line ∷ []) (number + 1) texts | Err kind ↦ fault number kind ])) ≡ Ok (past ++ lines)
line_read text texts past others lines number true skipped mean later = later past lines (number + 1) mean
line_read text texts past others [] number false skipped mean later = absurd mean
line_read text texts past others (line ∷ lines) number false skipped mean later =
    rw (line_of-means (words_of text) line mean.0) (later (past ++ line ∷ []) lines (number + 1) mean.1 ∙ ap (λ lines. Ok lines) (append_assoc past (line ∷ []) lines))

lines_read : (texts : List (List ℕ)) → list_any has_bad_byte texts ≡ false → (past lines : List Line) (number : ℕ) → MeanLines (kept_words texts) lines
    → lines_after past number texts ≡ Ok (past ++ lines)
lines_read [] clean past [] number mean = ap (λ lines. Ok lines) (sym (append-nil past))
lines_read [] clean past (line ∷ lines) number mean = absurd mean
lines_read (text ∷ texts) clean past lines number mean =
    let good = neither (has_bad_byte text) (list_any has_bad_byte texts) clean in
    rw good.0 (line_read text texts past (kept_words texts) lines number (is_skipped (words_of text)) refl mean (lines_read texts good.1))

-- the lines of a text from some line on, where all before are skipped, mean a script
record MeanScript (texts : List (List ℕ)) (plan : Plan) : Type 0 where
  clean : list_any has_bad_byte texts ≡ false
  first : List (List ℕ)
  others : List (List (List ℕ))
  kept : kept_words texts ≡ first ∷ others
  shape : MeansShape first plan.shape
  lines : MeanLines others plan.lines

script_step : (text : List ℕ) (texts : List (List ℕ)) (number : ℕ) (plan : Plan) (first : List (List ℕ)) (others : List (List (List ℕ))) (skipped : Bool)
    → is_skipped (words_of text) ≡ skipped → list_any has_bad_byte texts ≡ false
    → (if not skipped then words_of text ∷ kept_words texts else kept_words texts) ≡ first ∷ others → MeansShape first plan.shape → MeanLines others plan.lines
    → (MeanScript texts plan → script_after (number + 1) texts ≡ Ok plan)
    → (if skipped then script_after (number + 1) texts else (elim (shape_line (words_of text)) [ Ok shape ↦ shaped shape (lines_after [] (number + 1) texts) | Err kind ↦ fault number kind ])) ≡ Ok plan
script_step text texts number plan first others true skipped clean kept shape lines later =
    later (record { clean = clean; first = first; others = others; kept = kept; shape = shape; lines = lines })
script_step text texts number plan first others false skipped clean kept shape lines later =
    let first_is : first ≡ words_of text = cc in
    let others_are : others ≡ kept_words texts = cc in
    let shape_read : shape_line (words_of text) ≡ Ok plan.shape = subst (λ words. shape_line words ≡ Ok plan.shape) first_is (shape_line-means first plan.shape shape.stand shape.within) in
    let rest_read : lines_after [] (number + 1) texts ≡ Ok plan.lines = lines_read texts clean [] plan.lines (number + 1) (subst (λ words. MeanLines words plan.lines) others_are lines) in
    rw (shape_read, rest_read) refl

script_read : (texts : List (List ℕ)) (number : ℕ) (plan : Plan) → MeanScript texts plan → script_after number texts ≡ Ok plan
script_read [] number plan means = let none = means.kept in cc
script_read (text ∷ texts) number plan means =
    let good = neither (has_bad_byte text) (list_any has_bad_byte texts) means.clean in
    rw good.0 (script_step text texts number plan means.first means.others (is_skipped (words_of text)) refl good.1 means.kept means.shape means.lines (script_read texts (number + 1) plan))

-- a text that means a script is read as it
pub reading_of-means : (text : List ℕ) (plan : Plan) → Means text plan → reading_of text ≡ Ok plan
unfolding reading_of
reading_of-means text plan means =
    script_read (lines_of text) 1 plan (record { clean = means.clean; first = means.first; others = means.others; kept = means.kept; shape = record { stand = means.shape; within = means.within }; lines = means.lines })

-- From the reading to a meaning.

record LinesMean (texts : List (List ℕ)) (past all : List Line) : Type 0 where
  lines : List Line
  are : past ++ lines ≡ all
  clean : list_any has_bad_byte texts ≡ false
  mean : MeanLines (kept_words texts) lines

lines_step : (text : List ℕ) (texts : List (List ℕ)) (past all : List Line) (number : ℕ) (bad skipped : Bool) (read : Result Line BadKind)
    → has_bad_byte text ≡ bad → is_skipped (words_of text) ≡ skipped → line_of (words_of text) ≡ read
    → ((past : List Line) (number : ℕ) → lines_after past number texts ≡ Ok all → LinesMean texts past all)
    → (if bad then fault number kind.Byte else (if skipped then lines_after past (number + 1) texts else (elim read [ Ok line ↦ lines_after (past ++ line ∷ []) (number + 1) texts | Err kind ↦ fault number kind ]))) ≡ Ok all
    → LinesMean (text ∷ texts) past all
lines_step text texts past all number true skipped read bad_is skipped_is read_is later is = cc
lines_step text texts past all number false true read bad_is skipped_is read_is later is =
    let rest = later past (number + 1) is in
    record { lines = rest.lines; are = rest.are; clean = rw bad_is rest.clean; mean = rw skipped_is rest.mean }
lines_step text texts past all number false false (Ok line) bad_is skipped_is read_is later is =
    let rest = later (past ++ line ∷ []) (number + 1) is in
    record {
      lines = line ∷ rest.lines;
      are = sym (append_assoc past (line ∷ []) rest.lines) ∙ rest.are;
      clean = rw bad_is rest.clean;
      mean = rw skipped_is (means-line_of (words_of text) line read_is, rest.mean);
    }
lines_step text texts past all number false false (Err kind) bad_is skipped_is read_is later is = cc

lines_mean : (texts : List (List ℕ)) (past all : List Line) (number : ℕ) → lines_after past number texts ≡ Ok all → LinesMean texts past all
lines_mean [] past all number is = let same : past ≡ all = cc in record { lines = []; are = append-nil past ∙ same; clean = refl; mean = tt }
lines_mean (text ∷ texts) past all number is =
    lines_step text texts past all number (has_bad_byte text) (is_skipped (words_of text)) (line_of (words_of text)) refl refl refl (λ past number. lines_mean texts past all number) is

shaped_mean : (texts : List (List ℕ)) (shape : Shape) (read : Result (List Line) Fault) (plan : Plan) (number : ℕ) → lines_after [] number texts ≡ read → shaped shape read ≡ Ok plan
    → (shape ≡ plan.shape) × LinesMean texts [] plan.lines
shaped_mean texts shape (Ok lines) plan number read is =
    let made : Plan = record { shape = shape; lines = lines } in
    let same : made ≡ plan = cc in
    (ap (λ (plan : Plan). plan.shape) same, lines_mean texts [] plan.lines number (read ∙ ap (λ (plan : Plan). Ok plan.lines) same))
shaped_mean texts shape (Err fault) plan number read is = cc

opened_step : (text : List ℕ) (texts : List (List ℕ)) (plan : Plan) (number : ℕ) (bad skipped : Bool) (read : Result Shape BadKind)
    → has_bad_byte text ≡ bad → is_skipped (words_of text) ≡ skipped → shape_line (words_of text) ≡ read
    → (script_after (number + 1) texts ≡ Ok plan → MeanScript texts plan)
    → (if bad then fault number kind.Byte else (if skipped then script_after (number + 1) texts else (elim read [ Ok shape ↦ shaped shape (lines_after [] (number + 1) texts) | Err kind ↦ fault number kind ]))) ≡ Ok plan
    → MeanScript (text ∷ texts) plan
opened_step text texts plan number true skipped read bad_is skipped_is read_is later is = cc
opened_step text texts plan number false true read bad_is skipped_is read_is later is =
    let rest = later is in
    record { clean = rw bad_is rest.clean; first = rest.first; others = rest.others; kept = rw skipped_is rest.kept; shape = rest.shape; lines = rest.lines }
opened_step text texts plan number false false (Ok shape) bad_is skipped_is read_is later is =
    let rest = shaped_mean texts shape (lines_after [] (number + 1) texts) plan (number + 1) refl is in
    record {
      clean = rw bad_is rest.1.clean;
      first = words_of text;
      others = kept_words texts;
      kept = rw skipped_is refl;
      shape = subst (MeansShape (words_of text)) rest.0 (means-shape_line (words_of text) shape read_is);
      lines = subst (MeanLines (kept_words texts)) rest.1.are rest.1.mean;
    }
opened_step text texts plan number false false (Err kind) bad_is skipped_is read_is later is = cc

script_means : (texts : List (List ℕ)) (number : ℕ) (plan : Plan) → script_after number texts ≡ Ok plan → MeanScript texts plan
script_means [] number plan is = cc
script_means (text ∷ texts) number plan is =
    opened_step text texts plan number (has_bad_byte text) (is_skipped (words_of text)) (shape_line (words_of text)) refl refl refl (script_means texts (number + 1) plan) is

-- a text that is read as a script means it
pub means-reading_of : (text : List ℕ) (plan : Plan) → reading_of text ≡ Ok plan → Means text plan
unfolding reading_of
means-reading_of text plan is =
    let means = script_means (lines_of text) 1 plan is in
    record { clean = means.clean; first = means.first; others = means.others; kept = means.kept; shape = means.shape.stand; within = means.shape.within; lines = means.lines }

-- Meanings and faults.

pub fault_of-means : (text : List ℕ) (plan : Plan) → Means text plan → fault_of text ≡ None
fault_of-means text plan means = rw (reading_of-means text plan means) refl

sound : (text : List ℕ) (read : Result Plan Fault) → reading_of text ≡ read → result_err read ≡ None → (plan : Plan) × Means text plan
sound text (Ok plan) read is = (plan, means-reading_of text plan read)
sound text (Err fault) read is = cc

pub means-no_fault : (text : List ℕ) → fault_of text ≡ None → (plan : Plan) × Means text plan
means-no_fault text is = sound text (reading_of text) refl is

pub Means-unique : (text : List ℕ) (plan other : Plan) → Means text plan → Means text other → plan ≡ other
Means-unique text plan other means too = let one = reading_of-means text plan means in let two = reading_of-means text other too in cc
