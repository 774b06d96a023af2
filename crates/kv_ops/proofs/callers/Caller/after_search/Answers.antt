use Rattle.std.proofs.Common.{sym, ap, subst, ◌∙◌}
use Rattle.kv_ops.specs.Callers.{client_of}
use Rattle.kv_ops.specs.Standings.{IsReadyUnder}
use Rattle.kv_ops.specs.declared.stages.Stage.{Stage}
use Rattle.kv_ops.specs.Stages.{stage_of}
use Rattle.kv_ops.proofs.StageLemmas.{found-ready, found-turn}
use Rattle.machine.specs.Client.{on_kind}
use Rattle.kv_ops.proofs.callers.Caller.after_search.Goals as goal

pub on_kind-requires-clause-ready : goal.on_kind-requires-clause-ready
on_kind-requires-clause-ready c =
    subst IsReadyUnder (sym c.remember.ensures)
    (found-ready (client_of c.args.self.now) c.in-Seek.find c.after.new.self c.args.answer c.place-place.result c.requires.held (ap (λ (s : Stage). stage_of s c.args.self.now.reading c.args.self.now.body) c.in-Seek.is) c.after.ensures.state c.place-place.ensures)

pub returns-in-At : goal.returns-in-At
returns-in-At c =
    c.on_kind.ensures
    ∙ ap (λ client. on_kind c.in-At.kind client c.in-At.word c.in-At.value_len) c.remember.ensures
    ∙ found-turn (client_of c.args.self.now) c.in-Seek.find c.after.new.self c.args.answer c.in-At.slot c.in-At.word c.in-At.value_len c.place-place.result c.in-At.kind (ap (λ (s : Stage). stage_of s c.args.self.now.reading c.args.self.now.body) c.in-Seek.is) c.after.ensures.state (sym c.in-At.is ∙ c.after.ensures.told) c.place-place.ensures
