-- What was parsed is what was read.
use Rattle.std.proofs.Common.{◌≡◌, ℕ, ◌+◌, ◌≤◌, suc, List, [], ◌∷◌, length, Some, None, Ok, Err, Bool, true, false, refl, sym, ap, ◌∙◌, arith}
use Rattle.std.specs.Prelude.{Option, Result, if◌then◌else◌}
use Rattle.std.specs.Result.{result_err}
use Rattle.script_text.specs.OutputForm.{line_of}
use Rattle.script_text.specs.OutputRead.{Bad, followed, is_closed, led_by, output_of, placed, read_from, stage_after}
use Rattle.script_text.specs.ScriptForm.{Fault, Plan, reading_of}
use Rattle.script_text.specs.ScriptRead.{IsParsed, plan_of}
use Rattle.script_text.specs.declared.faults.BadKind.{BadKind}
use Rattle.script_text.specs.declared.faults.BadKind.TheVariants.{Block}
use Rattle.script_text.specs.declared.faults.ScriptFault.{ScriptFault}
use Rattle.script_text.specs.declared.faults.ScriptFault.TheVariants.{BadLine, NoMemory}
use Rattle.script_text.specs.declared.out_lines.OutLine.{OutLine}
use Rattle.script_text.specs.declared.scripts.Script.{Script}
use Rattle.script_text.proofs.ScriptFormLemmas.{reading_of-means}
use Rattle.text_lines.specs.Lines.{lines_of}
use Rattle.text_lines.proofs.BoundLemmas.{length-lines_of}
use Rattle.fusee_top.specs.Parsed.{IsScript}

bad_read : (read : Result Plan Fault) (fault : Fault) → result_err read ≡ Some fault → read ≡ Err fault
bad_read (Ok plan) fault is = cc
bad_read (Err other) fault is = let same : other ≡ fault = cc in ap Err same

pub IsScript-parsed : (result : Result Script ScriptFault) (text : List ℕ) → IsParsed result text → IsScript result (reading_of text)
IsScript-parsed (Ok script) text means = reading_of-means text (plan_of script) means
IsScript-parsed (Err (BadLine number kind)) text bad = bad_read (reading_of text) (record { number = number; kind = kind }) bad
IsScript-parsed (Err NoMemory) text starved = tt

-- an output has as many lines as its text

abbrev closed_at : ℕ → Bool → Result (List OutLine) Bad
closed_at number closed = if closed then Ok [] else Err (record { number = number; kind = Block })

ended_length : (number : ℕ) (lines : List OutLine) (closed : Bool) → closed_at number closed ≡ Ok lines → length lines ≡ 0
ended_length number lines true is = let same : [] ≡ lines = cc in ap length (sym same)
ended_length number lines false is = cc

led_length : (out : OutLine) (read : Result (List OutLine) Bad) (lines : List OutLine) (n : ℕ) → led_by out read ≡ Ok lines
    → ((behind : List OutLine) → read ≡ Ok behind → length behind ≡ n) → length lines ≡ suc n
led_length out (Ok behind) lines n is short = let same : out ∷ behind ≡ lines = cc in sym (ap length same) ∙ ap suc (short behind refl)
led_length out (Err bad) lines n is short = cc

placed_length : (number : ℕ) (out : OutLine) (next : Option _) (texts : List (List ℕ)) (lines : List OutLine)
    → placed number out next (λ stage. read_from (number + 1) stage texts) ≡ Ok lines
    → ((stage : _) (behind : List OutLine) → read_from (number + 1) stage texts ≡ Ok behind → length behind ≡ length texts) → length lines ≡ suc (length texts)
placed_length number out None texts lines is short = cc
placed_length number out (Some stage) texts lines is short = led_length out (read_from (number + 1) stage texts) lines (length texts) is (short stage)

line_length : (number : ℕ) (stage : _) (read : Result OutLine BadKind) (texts : List (List ℕ)) (lines : List OutLine)
    → followed number stage read (λ next. read_from (number + 1) next texts) ≡ Ok lines
    → ((next : _) (behind : List OutLine) → read_from (number + 1) next texts ≡ Ok behind → length behind ≡ length texts) → length lines ≡ suc (length texts)
line_length number stage (Ok out) texts lines is short = placed_length number out (stage_after stage out) texts lines is short
line_length number stage (Err kind) texts lines is short = cc

length-read_from : (number : ℕ) (stage : _) (texts : List (List ℕ)) (lines : List OutLine) → read_from number stage texts ≡ Ok lines → length lines ≡ length texts
length-read_from number stage [] lines is = ended_length number lines (is_closed stage) is
length-read_from number stage (text ∷ texts) lines is = line_length number stage (line_of text) texts lines is (λ next behind. length-read_from (number + 1) next texts behind)

-- no text has more lines of an output than bytes
pub length-output_of : (text : List ℕ) (lines : List OutLine) → output_of text ≡ Ok lines → length lines ≤ length text
length-output_of text lines is =
    let same = length-read_from 1 _ (lines_of text) lines is in
    let few = length-lines_of text in
    omega arith
