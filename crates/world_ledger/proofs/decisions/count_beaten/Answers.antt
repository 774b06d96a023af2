use Rattle.std.proofs.Common.{◌≡◌, ◌+◌, ◌-◌, [], ap, get_or, length, map, set, vec_capacity, vec_items, arith}
use Rattle.std.proofs.Math.Seq.{map-set_same}
use Rattle.std.proofs.lemmas.Option.{slice_get_within}
use Rattle.world_ledger.proofs.ListLemmas.{map-set_by, of_index, within_found}
use Rattle.world_ledger.proofs.decisions.count_beaten.Goals as goal

pub index_mut-requires-2 : goal.index_mut-requires-2
index_mut-requires-2 c =
    let lists = c.args.decided.now.items in
    let list = c.index_mut.result.now in
    let within = slice_get_within (get_or (map vec_items lists) c.args.slot []) (c.args.version - 1) c.args.winner c.requires.winner in
    let here : get_or (map vec_items lists) c.args.slot [] ≡ list.items = of_index vec_items lists c.args.slot list [] (within_found vec_items lists c.args.slot _ _ c.requires.winner) c.index_mut.ensures.value in
    omega (arith, within, ap length here, list.ok.0, c.saturating_sub.ensures)

pub returns-clause-lists : goal.returns-clause-lists
returns-clause-lists c =
    let lists = c.args.decided.now.items in
    let list = c.index_mut.result.now in
    map-set_by vec_items lists c.args.slot list _ (λ l. set l (c.args.version - 1) (record c.args.winner { beaten = c.args.winner.beaten + 1 })) [] (within_found vec_items lists c.args.slot _ _ c.requires.winner) c.index_mut.ensures.value
    (λ i. set list.items (c.saturating_sub.ensures i) (record { event = (c.winner.view_is i).event; beaten = (c.winner.view_is i).beaten + 1 }))

pub returns-clause-rooms : goal.returns-clause-rooms
returns-clause-rooms c =
    map-set_same vec_capacity c.args.decided.now.items c.args.slot _ c.index_mut.result.now (ap vec_capacity c.index_mut.ensures.value)
