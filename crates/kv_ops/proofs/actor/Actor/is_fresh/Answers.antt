use Rattle.std.proofs.Common.{◌==◌, sym, ap, ◌∙◌, arith}
use Rattle.std.proofs.lemmas.Grind.{common_steps}
use Rattle.machine.specs.Client.{fresh_of}
use Rattle.kv_ops.proofs.FreshLemmas.{narrow-fits, wide-is-other}
use Rattle.kv_ops.proofs.actor.Actor.is_fresh.Goals as goal

pub returns-then-class-ge16 : goal.returns-then-class-ge16
returns-then-class-ge16 c =
    sym (ap (λ client. fresh_of client == c.args.word) (sym c.self.view_is)
    ∙ wide-is-other _ c.self.inside.caller.class _ c.args.word (omega (arith, c.if-class-ge16.true)) (omega (arith, c.ranges.word.fits)))

pub overflow_add-named-2 : goal.overflow_add-named-2
overflow_add-named-2 c = record {
  fits = narrow-fits c.from-finger.result c.self.inside.caller.class c.from.result
      (omega (arith, c.finger.type_inv, c.from-finger.ensures)) (grind (arith, common_steps)) (omega (arith, c.from.ensures, c.type_inv));
}
