use Rattle.std.proofs.Common.{◌*◌, ◌%◌, ◌<◌, IsTrue, false, length, sym, ◌∙◌, ap, get_or, arith}
use Rattle.object_form.proofs.ContentLemmas.{length-IsSpelled, get_or-IsSpelled, spelled_more}
use Rattle.object_form.proofs.contents.spelled.Goals as goal

pub returns-then-bytes-len : goal.returns-then-bytes-len
returns-then-bytes-len c = (
  λ (no : IsTrue false). cc,
  λ same. absurd (c.if-bytes-len.true (length-IsSpelled c.args.words.now c.args.len c.args.bytes.now c.requires same)),
)

pub returns-then-to_le_bytes-index : goal.returns-then-to_le_bytes-index
returns-then-to_le_bytes-index c = (
  λ (no : IsTrue false). cc,
  λ same. absurd (c.if-to_le_bytes-index.true
      (ap (λ bs. get_or bs (c.loop-index.index % 8) 0) c.to_le_bytes.ensures
      ∙ get_or-IsSpelled c.args.words.now c.args.len c.args.bytes.now c.loop-index.index c.requires c.loop-index-test.true same)),
)

pub loop-index-preserved : goal.loop-index-preserved
loop-index-preserved c =
    let within : c.loop-index.index < 8 * length c.args.words.now = omega arith in
    let below : c.loop-index.index < length c.args.bytes.now = omega arith in
    spelled_more c.args.words.now c.args.bytes.now c.loop-index.index within below c.loop-index.invariant
    (ap (λ bs. get_or bs (c.loop-index.index % 8) 0) (sym c.to_le_bytes.ensures) ∙ c.if-to_le_bytes-index.false)
