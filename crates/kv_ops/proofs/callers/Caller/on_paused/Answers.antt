use Rattle.std.proofs.Common.{◌∙◌, sym}
use Rattle.machine.proofs.ViewLemmas.{open_mask-covers}
use Rattle.kv_ops.proofs.callers.Caller.on_paused.Goals as goal

pub resumes_with-requires-clause-view : goal.resumes_with-requires-clause-view
resumes_with-requires-clause-view c = record {
  limits = c.requires.ready.0.limits;
  covers = open_mask-covers c.args.self.now.shape c.args.found c.in-Some.mask (sym c.open_mask.ensures ∙ c.in-Some.is);
}
