use Rattle.std.proofs.Common.{length, refl, sym, ◌∙◌, ap, arith, inl, inr}
use Rattle.std.specs.Prelude.{slice_get}
use Rattle.std.proofs.lemmas.Bool.{cases_eq}
use Rattle.std.proofs.lemmas.Option.{slice_get_read, slice_get_within, same_Some}
use Rattle.trace_audit.proofs.auditing.first_missing.Goals as goal

pub returns-in-Some : goal.returns-in-Some
returns-in-Some c = λ entries named. (
  c.loop-line.line-index,
  c.line-item.result,
  slice_get_read c.args.lines.now (length c.args.lines.now) c.loop-line.line-index c.line-item.result refl c.loop-line-test.true c.line-item.is,
  c.in-Some.ensures entries named,
  λ earlier client number before less there. c.loop-line.invariant entries named earlier client number before less there,
)

pub loop-line-preserved : goal.loop-line-preserved
loop-line-preserved c = λ entries named at client number out less there ends. elim (cases_eq at c.loop-line.line-index) [
  | inl same ↦
      let here = slice_get_read c.args.lines.now (length c.args.lines.now) c.loop-line.line-index c.line-item.result refl c.loop-line-test.true c.line-item.is in
      let is = same_Some out c.line-item.result (sym there ∙ ap (slice_get c.args.lines.now) same ∙ here) in
      c.in_default.ensures entries named client number (rw is at ends)
  | inr apart ↦ c.loop-line.invariant entries named at client number out (omega (arith, less, apart)) there ends
]

pub returns : goal.returns
returns c = λ entries named at client number out there ends.
    let within = slice_get_within c.args.lines.now at out there in
    c.loop-line.invariant entries named at client number out (omega (arith, within)) there ends
