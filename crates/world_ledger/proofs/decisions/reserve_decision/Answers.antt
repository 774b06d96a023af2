use Rattle.std.proofs.Common.{[], ap, arith, length, vec_capacity, vec_items, ◌∙◌}
use Rattle.std.proofs.Math.Seq.{map-set_same}
use Rattle.world_ledger.proofs.ListLemmas.{map-set_grows, of_set, on_ok}
use Rattle.world_ledger.proofs.decisions.reserve_decision.Goals as goal

pub returns-clause-lists : goal.returns-clause-lists
returns-clause-lists c =
    map-set_same vec_items c.args.decided.now.items c.args.slot c.reserve.new.self c.index_mut.result.now (c.reserve.ensures.items ∙ ap vec_items c.index_mut.ensures.value)

pub returns-clause-room : goal.returns-clause-room
returns-clause-room c =
    let lists = c.args.decided.now.items in
    let here = of_set vec_items lists c.args.slot c.reserve.new.self [] c.requires in
    let rooms = of_set vec_capacity lists c.args.slot c.reserve.new.self 0 c.requires in
    on_ok c.reserve.result c.reserve.ensures.ok (λ room. omega (arith, room, ap length here, rooms, c.reserve.new.self.ok.0))

pub returns-clause-more : goal.returns-clause-more
returns-clause-more c other =
    map-set_grows vec_capacity c.args.decided.now.items c.args.slot other c.index_mut.result.now c.reserve.new.self c.requires c.index_mut.ensures.value c.reserve.ensures.capacity
