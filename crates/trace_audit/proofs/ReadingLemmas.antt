-- The trace of the lines so far, with one more line.
use Rattle.std.proofs.Common.{◌≡◌, ℕ, ◌+◌, ◌<◌, List, [], ◌∷◌, ◌++◌, length, take, get_or, refl, sym, ◌∙◌, ap, subst, arith}
use Rattle.std.proofs.lemmas.Grind.{flat_map-append}
use Rattle.std.proofs.lemmas.List.{append-nil, take_more}
use Rattle.std.proofs.lemmas.Option.{slice_get_read, slice_get_within, same_Some}
use Rattle.script_text.specs.declared.out_lines.OutLine.{OutLine}
use Rattle.trace_audit.specs.Fits.{FitsAfter, FitsAt, Fits}
use Rattle.trace_audit.specs.Told.{moments_of, trace_of}

module _ (lines : List OutLine) (i : ℕ) (out : OutLine) (within : i < length lines) (is : out ≡ get_or lines i out) where
  pub trace_of-more : trace_of (take (i + 1) lines) ≡ trace_of (take i lines) ++ moments_of out
  trace_of-more =
      ap trace_of (take_more lines i out within)
      ∙ flat_map-append moments_of (take i lines) (get_or lines i out ∷ [])
      ∙ ap (λ m. trace_of (take i lines) ++ m) (append-nil (moments_of (get_or lines i out)) ∙ ap moments_of (sym is))

  -- the line fits where it may come after the trace before it
  pub FitsAt-here : FitsAfter (trace_of (take i lines)) out → FitsAt lines i
  FitsAt-here fits = λ other at. subst (FitsAfter (trace_of (take i lines))) (same_Some out other (sym (slice_get_read lines (length lines) i out refl within is) ∙ at)) fits

-- all lines fit where those within the list do
pub Fits-within : (lines : List OutLine) (n : ℕ) → length lines ≡ n → ((j : ℕ) → j < n → FitsAt lines j) → Fits lines
Fits-within lines n e h = λ j out at. let within = slice_get_within lines j out at in h j (omega (arith, within, e)) out at
