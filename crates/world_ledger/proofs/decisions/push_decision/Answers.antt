use Rattle.std.proofs.Common.{◌++◌, [], ◌∷◌, ap, vec_capacity, vec_items, ◌∙◌}
use Rattle.std.proofs.Math.Seq.{map-set_same}
use Rattle.world_ledger.proofs.ListLemmas.{map-set_by, within_above}
use Rattle.world_ledger.proofs.decisions.push_decision.Goals as goal

pub returns-clause-lists : goal.returns-clause-lists
returns-clause-lists c =
    let lists = c.args.decided.now.items in
    map-set_by vec_items lists c.args.slot c.index_mut.result.now c.push_reserved.new.self (λ list. list ++ record { event = c.args.event; beaten = 0 } ∷ []) [] (within_above vec_capacity lists c.args.slot _ c.requires.room) c.index_mut.ensures.value c.push_reserved.ensures.items

pub returns-clause-rooms : goal.returns-clause-rooms
returns-clause-rooms c =
    map-set_same vec_capacity c.args.decided.now.items c.args.slot c.push_reserved.new.self c.index_mut.result.now (c.push_reserved.ensures.capacity ∙ ap vec_capacity c.index_mut.ensures.value)
