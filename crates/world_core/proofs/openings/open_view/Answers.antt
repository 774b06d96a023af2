use Rattle.std.proofs.Common.{[], ◌*◌, ap, length, slice_index, subst, sym, ◌∙◌}
use Rattle.std.proofs.lemmas.List.FromFn.{length-map-range_with_len}
use Rattle.machine_world.specs.Ledger.{caller_in}
use Rattle.machine_world.specs.Readings.{deciding_word}
use Rattle.world_core.proofs.OpeningLemmas.{changes_listed, changes_rising}
use Rattle.world_core.proofs.OpeningWorldLemmas.{opened}
use Rattle.world_core.specs.Openings.{AreRising, has_stock, opening_world, with_changes, with_takings}
use Rattle.world_core.proofs.openings.open_view.Goals as goal

pub changes_with_room-requires-clause-words : goal.changes_with_room-requires-clause-words
changes_with_room-requires-clause-words c =
    ap length (c.deref.ensures.value ∙ c.in_ok-words.ensures)
    ∙ length-map-range_with_len (deciding_word c.args.shape.now c.args.nodes.now) 0 (24 * c.args.shape.now.groups)

pub decide_all-requires-clause-rising : goal.decide_all-requires-clause-rising
decide_all-requires-clause-rising c =
    subst (AreRising 0) (sym c.in-Ok.ensures.changes)
    (changes_rising (slice_index c.deref.result.now) (deciding_word c.args.shape.now c.apply-answer.new.self) (caller_in (opening_world c.args.shape.now [] c.args.clients.now c.args.settled.now 0) c.apply-answer.new.self) 0 (24 * c.args.shape.now.groups))

pub returns-in-Ok-clause-ledger : goal.returns-in-Ok-clause-ledger
returns-in-Ok-clause-ledger c =
    let sizes = c.args.shape.now in
    let old = c.args.nodes.now in
    let now = c.apply-answer.new.self in
    let clients = c.args.clients.now in
    let settled = c.args.settled.now in
    let caller = caller_in (opening_world sizes [] clients settled 0) now in
    let found = c.in-Ok.ensures.changes ∙ changes_listed (deciding_word sizes old) (deciding_word sizes now) caller c.deref.result.now (24 * sizes.groups) (c.deref.ensures.value ∙ c.in_ok-words.ensures) in
    let decided = c.decide_all.ensures ∙ (λ i. with_changes sizes c.args.event (found i) (c.in-Ok.ensures.same i)) in
    c.note_takings.ensures
    ∙ (λ i. with_takings sizes (has_stock sizes now settled) clients ((c.deref-in-Ok.ensures.value ∙ c.in_ok-stock.ensures) i) (decided i))
    ∙ opened sizes old now clients settled c.args.event c.args.ledger.now.ledger c.requires.before.in_place
