use Rattle.std.proofs.Common.{ap}
use Rattle.region_view.specs.Placed.{Viewed}
use Rattle.kv_ops.specs.Callers.{client_of}
use Rattle.kv_ops.proofs.CallLemmas.{slot-below}
use Rattle.kv_ops.proofs.callers.Caller.writes_slot.Goals as goal

pub new-requires-clause-slot : goal.new-requires-clause-slot
new-requires-clause-slot c = slot-below (client_of c.args.self.now) c.slot.result c.view.result.shape.groups c.requires.ready c.requires.place c.slot.ensures (ap (λ (v : Viewed). v.shape.groups) c.view.ensures)
