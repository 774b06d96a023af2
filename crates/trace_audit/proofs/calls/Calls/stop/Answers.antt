use Rattle.std.proofs.Common.{◌∙◌, ap, cond, true}
use Rattle.std.specs.BTreeSet as set
use Rattle.std.specs.Ordering.{nat_cmp}
use Rattle.std.proofs.Common.{refl}
use Rattle.trace_audit.proofs.NameLemmas.{is_eq-number}
use Rattle.trace_audit.proofs.ToldLemmas.{stopped_step}
use Rattle.trace_audit.proofs.calls.Calls.stop.Goals as goal

pub returns-clause-told : goal.returns-clause-told
returns-clause-told c = λ trace told.
    stopped_step trace c.args.self.now told _ c.args.client
    (λ q. c.in_ok-insert.ensures.updates.0 q ∙ ap (λ b. cond b true (set.contains nat_cmp c.args.self.now.stopped q)) (is_eq-number c.args.client q)) refl refl
