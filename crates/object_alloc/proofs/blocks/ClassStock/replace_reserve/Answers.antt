use Rattle.std.proofs.Common.{ap, rules, ◌∙◌}
use Rattle.std.proofs.lemmas.List.Edits.{map_over_more}
use Rattle.machine.specs.Stock.{cleared_block, without}
use Rattle.object_alloc.specs.Classes.{class_of}
use Rattle.object_alloc.proofs.blocks.ClassStock.replace_reserve.Goals as goal

pub loop-i-preserved : goal.loop-i-preserved
loop-i-preserved c =
    let own = c.index.result.now in
    let clear = c.cleared.ensures ∙ ap (λ bit. record own { ripe = without own.ripe bit }) (c.reserve_spot-reserve.ensures own) in
    record {
      own = rw clear (map_over_more (cleared_block c.args.class (class_of c.args.self.now)) c.args.self.now.own.items c.loop-i.self.own.items c.loop-i.i own (search rules) c.loop-i.invariant.own c.index.ensures);
      room = c.loop-i.invariant.room;
      awaited = c.loop-i.invariant.awaited;
      long = c.loop-i.invariant.long;
    }
