use Rattle.std.proofs.Common.{refl}
use Rattle.trace_audit.specs.Told.{reply_of}
use Rattle.trace_audit.proofs.ToldLemmas.{returned_step}
use Rattle.trace_audit.proofs.calls.Calls.ended.Goals as goal

pub returns-clause-told : goal.returns-clause-told
returns-clause-told c = λ trace told.
    let open_row = c.in-Some.ensures trace told in
    (open_row.0, returned_step trace c.args.self.now told _ c.args.client c.args.number (reply_of c.args.reply.now) _ c.in-Some.row open_row.0 _ refl refl refl refl refl open_row.1 c.in_ok-enter.ensures refl refl)
