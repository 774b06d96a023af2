use Rattle.std.proofs.Common.{◌≡◌, ◌<◌, ◌+◌, ◌/◌, ◌^◌, ◌==◌, ℕ, [], ◌∷◌, ap, arith, map, subst, sym, ◌∙◌}
use Rattle.std.specs.List.{range_with_len}
use Rattle.std.proofs.lemmas.List.FromFn.{map-range_with_len_more}
use Rattle.std.proofs.lemmas.Bool.{false≢true}
use Rattle.machine.specs.BitChange.{has_bit}
use Rattle.machine.specs.ObjectNames.{Object, bitmap_of}
use Rattle.machine_world.specs.Readings.{is_in_stock, word_in_force}
use Rattle.object_form.specs.Class.{units_of}
use Rattle.pointer_fields.specs.Pointer.{region_of, unit_of}
use Rattle.world_ledger.proofs.DivisionLemmas.{at_most-more, object-more, with_objects-append}
use Rattle.world_ledger.proofs.NamedUnitsLemmas.{number-is, with_object-stock}
use Rattle.region_view.specs.Sizes.{Sizes}
use Rattle.world_ledger.proofs.StockRunLemmas.{has_bit-rest, stock-rest, unit-lies}
use Rattle.world_ledger.specs.Divisions.{IsAtMost, object_at, with_object, with_objects}
use Rattle.world_ledger.specs.NamedUnits.{has_unit, is_named}
use Rattle.world_ledger.specs.Seen.{IsUnit}
use Rattle.world_ledger.proofs.divisions.count_objects_of.Goals as goal
use Rattle.world_ledger.proofs.divisions.count_objects_of.Goals.{then-not-is_in_stock, else-not-is_in_stock}

pub loop-j-preserved : goal.loop-j-preserved
loop-j-preserved c =
    let sizes = c.args.shape.now in
    let nodes = c.args.nodes.now in
    let class = c.args.class in
    let j = c.loop-j.j in
    let f : ℕ → Object = object_at c.args.region c.args.block class in
    let objects = map f (range_with_len 0 j) in
    let division = c.loop-j.division in
    let same : c.object_at-object.result ≡ f j = c.object_at-object.ensures.object in
    let pointer = (f j).pointer in
    let under : j < 64 / units_of class = subst (λ n. j < 64 / n) c.units-count.ensures c.loop-j-test.true in
    let number = number-is class c.args.block j (unit_of pointer) c.requires.class under (ap (λ (o : Object). unit_of o.pointer) (sym same) ∙ c.object_at-object.ensures.lies) in
    let in_stock : has_bit c.word_of_region-bits.result j ≡ is_in_stock sizes nodes (f j) =
    ap (λ bits. has_bit bits j) (c.word_of_region-bits.ensures (bitmap_of pointer) (ap (λ (o : Object). region_of o.pointer) (sym same) ∙ c.object_at-object.ensures.region) (ap (λ b. 64 + b) number.0))
    ∙ ap (has_bit (word_in_force sizes nodes (bitmap_of pointer))) (sym number.1) in
    let counted : c.count_object.new.division ≡ with_object (is_in_stock sizes nodes (f j)) (is_named sizes nodes pointer) division =
    c.count_object.ensures
    ∙ with_object-stock (has_bit c.word_of_region-bits.result j) c.if-not-is_in_stock.is_named (is_named sizes nodes pointer) division
    (elim c.if-not-is_in_stock.branch [
      | then-not-is_in_stock w ↦ λ taken.
          w.is_named-is
          ∙ w.has_unit-is_named.ensures
          ∙ ap (λ (o : Object). has_unit c.args.named.now o.pointer) (c.object.view_is ∙ same)
          ∙ c.requires.named pointer (subst (λ (o : Object). IsUnit sizes o.pointer) same c.object_at-object.ensures.unit)
      | else-not-is_in_stock w ↦ λ taken. absurd (false≢true (sym taken ∙ ap (λ bit. bit == 1) w.if-not-is_in_stock.false))
    ])
    ∙ ap (λ b. with_object b (is_named sizes nodes pointer) division) in_stock in
    record {
      counted =
          counted
          ∙ ap (with_object (is_in_stock sizes nodes (f j)) (is_named sizes nodes pointer)) c.loop-j.invariant.counted
          ∙ sym (with_objects-append sizes nodes objects (f j ∷ []) c.args.division.now)
          ∙ sym (ap (λ l. with_objects sizes nodes l c.args.division.now) (map-range_with_len_more f 0 j j (omega arith)));
      few =
          let more = object-more (2 ^ 19 + j) (is_in_stock sizes nodes (f j)) (is_named sizes nodes pointer) division c.loop-j.invariant.few in
          at_most-more (2 ^ 19 + j + 1) (2 ^ 19 + (j + 1)) c.count_object.new.division (omega arith) (subst (IsAtMost (2 ^ 19 + j + 1)) (sym counted) more);
    }

pub returns-then-bits-j : goal.returns-then-bits-j
returns-then-bits-j c =
    let sizes = c.args.shape.now in
    let nodes = c.args.nodes.now in
    let region = c.args.region in
    let block = c.args.block in
    let class = c.args.class in
    let bits = c.word_of_region-bits.result in
    let f : ℕ → Object = object_at region block class in
    let blocks = ap (λ (s : Sizes). s.blocks) c.shape.view_is in
    let few : block < 64 = omega (arith, c.requires.block, blocks, c.shape.invariant.blocks.1) in
    let size = c.units-count.ensures in
    stock-rest sizes nodes f c.loop-j.j (64 / c.units-count.result) c.args.division.now c.loop-j.division c.loop-j-test.true c.loop-j.invariant.counted
    (λ k least most.
    let under : k < 64 / units_of class = subst (λ n. k < 64 / n) size most in
    let pointer = (f k).pointer in
    let lies = unit-lies region block class k c.requires.class few under in
    let number = number-is class block k (unit_of pointer) c.requires.class under lies.1 in
    sym (ap (λ bits. has_bit bits k) (c.word_of_region-bits.ensures (bitmap_of pointer) lies.0 (ap (λ b. 64 + b) number.0))
    ∙ ap (has_bit (word_in_force sizes nodes (bitmap_of pointer))) (sym number.1))
    ∙ has_bit-rest bits c.loop-j.j k c.if-bits-j.true least lies.2)
    ∙ ap (λ n. with_objects sizes nodes (map f (range_with_len 0 (64 / n))) c.args.division.now) size
