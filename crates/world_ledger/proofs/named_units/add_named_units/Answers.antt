use Rattle.std.proofs.Common.{arith, ◌≡◌, ◌*◌, ◌==◌, ◌||◌, ℕ, Bool, ap, sym, false, ◌∙◌}
use Rattle.std.specs.List.{list_any, range_with_len}
use Rattle.std.specs.Option.{option_map_or}
use Rattle.machine.specs.ObjectNames.{Object}
use Rattle.machine_world.specs.Readings.{deciding_word, names, slot_of_present}
use Rattle.region_view.specs.Sizes.{Sizes}
use Rattle.world_ledger.proofs.NamedUnitsLemmas.{is_some-find, list_any-more, none_more}
use Rattle.world_ledger.proofs.ReadingLemmas.{object_unit}
use Rattle.world_ledger.specs.NamedUnits.{has_unit}
use Rattle.world_ledger.proofs.named_units.add_named_units.Goals as goal
use Rattle.world_ledger.proofs.named_units.add_named_units.Goals.{in-Some, in_default}

pub loop-slot-init : goal.loop-slot-init
loop-slot-init c pointer unit = c.requires.none pointer

pub add_unit-requires : goal.add_unit-requires
add_unit-requires c = object_unit c.args.shape.now _ _ c.object.view_is c.in-Some.ensures.object

pub loop-slot-preserved : goal.loop-slot-preserved
loop-slot-preserved c pointer unit =
    let sizes = c.args.shape.now in
    let nodes = c.args.nodes.now in
    let slot = c.loop-slot.slot in
    let test : ℕ → Bool = λ slot. names sizes pointer (deciding_word sizes nodes slot) in
    let before = list_any test (range_with_len 0 slot) in
    let at_slot : test slot ≡ option_map_or (λ (o : Object). o.pointer == pointer) c.object_in.result false =
    sym (ap (λ found. option_map_or (λ (o : Object). o.pointer == pointer) found false) c.object_in.ensures.value ∙ ap (names sizes pointer) c.word_of_slot.ensures) in
    elim c.match-object_in.branch [
      | in-Some w ↦
          let named : (w.object.inside.pointer == pointer) ≡ test slot =
          ap (λ (o : Object). o.pointer == pointer) w.object.view_is
          ∙ sym (at_slot ∙ ap (λ found. option_map_or (λ (o : Object). o.pointer == pointer) found false) w.in-Some.is) in
          ap (λ units. has_unit units pointer) w.units-is
          ∙ w.add_unit.ensures pointer unit
          ∙ ap (λ b. b || (w.object.inside.pointer == pointer)) (c.loop-slot.invariant pointer unit)
          ∙ ap (λ b. before || b) named
      | in_default w ↦
          ap (λ units. has_unit units pointer) w.units-is
          ∙ c.loop-slot.invariant pointer unit
          ∙ none_more before
          ∙ ap (λ b. before || b) (sym (at_slot ∙ ap (λ found. option_map_or (λ (o : Object). o.pointer == pointer) found false) w.in_default.is))
    ]
    ∙ sym (list_any-more test slot)

pub returns : goal.returns
unfolding slot_of_present
returns c pointer unit =
    let sizes = c.args.shape.now in
    let test : ℕ → Bool = λ slot. names sizes pointer (deciding_word sizes c.args.nodes.now slot) in
    let count = ap (λ (s : Sizes). s.groups) c.shape.view_is in
    let all : c.loop-slot.slot ≡ 24 * sizes.groups = omega (arith, c.loop-slot-test.false, c.loop-slot.auto, count) in
    c.loop-slot.invariant pointer unit
    ∙ ap (λ n. list_any test (range_with_len 0 n)) all
    ∙ sym (is_some-find test (range_with_len 0 (24 * sizes.groups)))
