use Rattle.std.proofs.Common.{ℕ, ◌+◌, Bool, take, sym, subst, arith}
use Rattle.std.specs.Borrow.{Bor}
use Rattle.std.specs.List.{AllZip}
use Rattle.map_model.specs.declared.entries.Entry.{Entry}
use Rattle.verb_history.proofs.LedgerLemmas.{marked-copy, zip-more}
use Rattle.verb_history.specs.Points.{IsMarked, entered_of}
use Rattle.verb_history.specs.declared.points.Placed.{Placed}
use Rattle.verb_history.proofs.points.marked.Goals as goal

pub loop-one-preserved : goal.loop-one-preserved
loop-one-preserved g c =
    let answers : ℕ → ℕ → Bool → Type 0 = λ client number answer. g.F.Fn.post c.args.returned (client, (number, tt)) answer in
    let R : Bor Placed → Entry → Type 0 = λ one entry. IsMarked answers (entered_of one.now) entry in
    subst (λ items. AllZip R (take (c.loop-one.one-index + 1) c.args.order.now) items) (sym c.in_ok-push.ensures.items)
    (zip-more R c.args.order.now c.loop-one.list.items c.loop-one.one-index c.one-item.result _ (omega arith) c.one-item.is c.loop-one.invariant
    (marked-copy answers c.one-item.result.now c.in_ok-entry.entry c.returned.result c.in_ok-entry.ensures c.returned.ensures))
