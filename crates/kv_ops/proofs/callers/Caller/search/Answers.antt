use Rattle.std.proofs.Common.{ap}
use Rattle.region_view.specs.Placed.{Viewed}
use Rattle.kv_ops.proofs.CallLemmas.{place-below}
use Rattle.kv_ops.proofs.callers.Caller.search.Goals as goal

pub new-requires-clause-from : goal.new-requires-clause-from
new-requires-clause-from c =
    place-below c.args.self.now.shape c.args.self.now.remembered c.args.self.now.key.items c.as_slice-key.result.now c.view.result.shape.groups c.place_for.result c.requires.ready.0.places c.as_slice-key.ensures.value
    (ap (λ (v : Viewed). v.shape.groups) c.view.ensures) c.place_for.ensures
