use Rattle.std.proofs.Common.{inl, inr, refl, sym, subst, arith}
use Rattle.std.proofs.lemmas.Bool.Decides.{nat_tests}
use Rattle.machine.specs.Client.{own_object}
use Rattle.world_core.proofs.dues.may_take.Goals as goal
use Rattle.world_ledger.proofs.ReadingLemmas.{object_unit}
use Rattle.world_ledger.specs.Seen.{IsUnit}

pub may_bear_on_stock-requires : goal.may_bear_on_stock-requires
may_bear_on_stock-requires c =
    let own = own_object c.args.actor.now in
    record {
      unit = elim c.requires.object [
        | inl none ↦ absurd (grind (arith, nat_tests, none, c.object-pointer.ensures, c.if-pointer-eq0.false))
        | inr is ↦ subst (IsUnit c.args.shape.now) (sym c.object-pointer.ensures) (object_unit c.args.shape.now own own refl is)
      ];
    }
