-- A script, line by line.
use Rattle.std.proofs.Common.{◌≡◌, ℕ, suc, ◌+◌, ◌<◌, ◌≤◌, Bool, List, [], ◌∷◌, ◌++◌, length, get_or, drop, refl, sym, ap, ◌∙◌, arith}
use Rattle.std.proofs.Math.Seq.{drop-cons}
use Rattle.std.proofs.lemmas.List.{at_drop_all}
use Rattle.machine_world.specs.World.{World}
use Rattle.script_meaning.specs.Lines.{meaning, shows_after}
use Rattle.script_meaning.specs.Scripts.{runs}
use Rattle.script_meaning.specs.Shown.{history_lines}
use Rattle.script_run.proofs.TakesLemmas.{text_of-append}
use Rattle.script_text.specs.OutputText.{text_of}
use Rattle.script_text.specs.declared.out_lines.OutLine.TheVariants as out
use Rattle.script_text.specs.declared.scripts.Line.{Line}

runs-cons : (line : Line) (lines : List Line) (shows : Bool) (world : World)
    → text_of (runs (line ∷ lines) shows world).lines ≡ text_of (meaning shows world line).lines ++ text_of (runs lines (shows_after shows line) (meaning shows world line).world).lines
unfolding runs
runs-cons line lines shows world = text_of-append (meaning shows world line).lines (runs lines (shows_after shows line) (meaning shows world line).world).lines

pub runs-step : (lines : List Line) (i : ℕ) (line : Line) (shows after : Bool) (world now : World) → i < length lines → line ≡ get_or lines i line → after ≡ shows_after shows line → now ≡ (meaning shows world line).world
    → text_of (runs (drop i lines) shows world).lines ≡ text_of (meaning shows world line).lines ++ text_of (runs (drop (i + 1) lines) after now).lines
runs-step lines i line shows after world now within is is_after is_now =
    let next : suc i ≡ i + 1 = omega arith in
    ap (λ rest. text_of (runs rest shows world).lines) (drop-cons lines i line within ∙ ap (λ l. l ∷ drop (suc i) lines) (sym is))
    ∙ runs-cons line (drop (suc i) lines) shows world
    ∙ ap (λ n. text_of (meaning shows world line).lines ++ text_of (runs (drop n lines) (shows_after shows line) (meaning shows world line).world).lines) next
    ∙ ap (λ a. text_of (meaning shows world line).lines ++ text_of (runs (drop (i + 1) lines) a (meaning shows world line).world).lines) (sym is_after)
    ∙ ap (λ w. text_of (meaning shows world line).lines ++ text_of (runs (drop (i + 1) lines) after w).lines) (sym is_now)

pub runs-cut : (lines : List Line) (i : ℕ) (line : Line) (shows : Bool) (world : World) → i < length lines → line ≡ get_or lines i line
    → text_of (runs (drop i lines) shows world).lines ≡ text_of (meaning shows world line).lines ++ text_of (runs (drop (i + 1) lines) (shows_after shows line) (meaning shows world line).world).lines
runs-cut lines i line shows world within is = runs-step lines i line shows (shows_after shows line) world (meaning shows world line).world within is refl refl

pub runs-none : (lines : List Line) (i : ℕ) (shows : Bool) (world : World) → length lines ≤ i → text_of (runs (drop i lines) shows world).lines ≡ text_of (history_lines world ++ out.End ∷ [])
unfolding runs
runs-none lines i shows world past = at_drop_all (λ rest. text_of (runs rest shows world).lines) lines i past
