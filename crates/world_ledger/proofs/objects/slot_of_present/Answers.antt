use Rattle.std.proofs.Common.{◌≡◌, ◌*◌, ℕ, Bool, true, ap, sym, ◌∙◌, rules, arith}
use Rattle.machine_world.specs.Readings.{deciding_word, names, slot_of_present}
use Rattle.object_form.proofs.ClassLemmas.{find-range}
use Rattle.region_view.specs.Sizes.{Sizes}
use Rattle.world_ledger.proofs.ListLemmas.{find_none}
use Rattle.world_ledger.proofs.objects.slot_of_present.Goals as goal

pub returns-then-names : goal.returns-then-names
unfolding slot_of_present
returns-then-names c =
    let sizes = c.args.shape.now in
    let p : ℕ → Bool = λ slot. names sizes c.args.pointer (deciding_word sizes c.args.nodes.now slot) in
    let passes : p c.loop-slot.slot ≡ true = ap (names sizes c.args.pointer) (sym c.deciding_word.ensures) ∙ sym c.names.ensures ∙ c.if-names.true in
    sym (find-range p 0 (24 * sizes.groups) c.loop-slot.slot (omega arith) (search rules) passes (λ k above under. c.loop-slot.invariant k under))

pub returns : goal.returns
unfolding slot_of_present
returns c =
    let sizes = c.args.shape.now in
    let p : ℕ → Bool = λ slot. names sizes c.args.pointer (deciding_word sizes c.args.nodes.now slot) in
    let count = ap (λ (s : Sizes). s.groups) c.shape.view_is in
    sym (find_none p 0 (24 * sizes.groups) (λ k above under. c.loop-slot.invariant k (omega (arith, under, count, c.loop-slot-test.false))))
