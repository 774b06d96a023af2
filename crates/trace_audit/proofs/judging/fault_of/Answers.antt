use Rattle.std.proofs.Common.{◌≡◌, Bool, false, sym, ◌∙◌, ap}
use Rattle.std.specs.Prelude.{MatchBool}
use Rattle.map_model.specs.Map.{may_reply}
use Rattle.trace_audit.specs.Listing.{entry_of}
use Rattle.trace_audit.specs.Told.{call_of, reply_of}
use Rattle.trace_audit.proofs.JudgeLemmas.{order, wrong_reply, faultless}
use Rattle.trace_audit.proofs.judging.fault_of.Goals as goal

bool_no : (b : Bool) (P Q : Type 0) → false ≡ b → MatchBool b P Q → Q
bool_no b P Q e h = rw (sym e) at h

pub returns-then-is_before : goal.returns-then-is_before
returns-then-is_before c = λ trace entries place is.
    let row = c.in-Some.ensures trace is.told in
    order trace entries place (entry_of c.args.entry.now) c.in-Some.row row
    (bool_no _ _ _ c.if-is_named.ensures (is.listed c.args.entry.now.client c.args.entry.now.number))
    (c.if-not-agrees.ensures trace is.told.tidy row) is.told.tidy c.args.later is.returns c.if-is_before.ensures

pub returns-then-not-fits : goal.returns-then-not-fits
returns-then-not-fits c = λ trace entries place is.
    let row = c.in-Some.ensures trace is.told in
    wrong_reply trace entries place (entry_of c.args.entry.now) c.in-Some.row row
    (bool_no _ _ _ c.if-is_named.ensures (is.listed c.args.entry.now.client c.args.entry.now.number))
    (c.if-not-agrees.ensures trace is.told.tidy row) is.told.tidy c.args.later is.returns c.if-is_before.ensures
    c.fits.result (c.fits.ensures ∙ ap (λ m. may_reply m (call_of c.args.entry.now.call.now) (reply_of c.args.entry.now.reply.now)) is.replies) c.if-not-fits.true

pub returns : goal.returns
returns c = λ trace entries place is.
    let row = c.in-Some.ensures trace is.told in
    faultless trace entries place (entry_of c.args.entry.now) c.in-Some.row row
    (bool_no _ _ _ c.if-is_named.ensures (is.listed c.args.entry.now.client c.args.entry.now.number))
    (c.if-not-agrees.ensures trace is.told.tidy row) is.told.tidy c.args.later is.returns c.if-is_before.ensures
    c.fits.result (c.fits.ensures ∙ ap (λ m. may_reply m (call_of c.args.entry.now.call.now) (reply_of c.args.entry.now.reply.now)) is.replies) c.if-not-fits.false
