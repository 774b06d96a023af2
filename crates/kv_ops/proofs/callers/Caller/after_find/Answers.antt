use Rattle.std.proofs.Common.{inl, inr, refl, sym, ap, ◌∙◌, ◌≡◌}
use Rattle.kv_ops.specs.Callers.{client_of, turn_of}
use Rattle.kv_ops.specs.declared.stages.Stage.{Stage}
use Rattle.kv_ops.specs.Stages.{stage_of}
use Rattle.kv_ops.proofs.StageLemmas.{at-find, find-only, finds-other, finds-own}
use Rattle.machine.specs.Client.{finds_at}
use Rattle.machine.specs.KeySearch as search
use Rattle.machine.specs.KeySearch.{KeySearch}
use Rattle.kv_ops.proofs.callers.Caller.after_find.Goals as goal
use Rattle.kv_ops.proofs.callers.Caller.after_find.Goals.{then-is_own+then-is_at_slot, else-is_own, else-is_own-via-then-is_own+else-is_at_slot, else-is_own-via-else-is_own}

pub returns : goal.returns
returns c = λ key_search at.
    let client = client_of c.args.self.now in
    let start = c.in-Find.find in
    let here = ap (λ (s : Stage). stage_of s c.args.self.now.reading c.args.self.now.body) c.in-Find.is in
    let told = c.on_find.ensures c.if-is_own.find refl (sym c.place-place.ensures) in
    let same : start ≡ key_search = find-only start key_search (sym here ∙ at) in
    let turned : turn_of c.on_find.new.self c.on_find.result ≡ finds_at start.phase client start c.args.answer =
    elim c.if-is_own.branch [
      | then-is_own+then-is_at_slot w ↦
          told
          ∙ at-find client start c.if-is_own.find c.if-is_own.found (search.passed start) here (w.find-is ∙ w.pass-found.ensures.state) (w.found-is ∙ w.pass-found.ensures.told)
          ∙ sym (finds-own client start c.args.answer (sym c.reads_own-is_own.ensures ∙ w.if-is_own.true) (sym w.is_at_slot.ensures ∙ w.if-is_at_slot.true))
      | else-is_own w ↦
          told
          ∙ at-find client start c.if-is_own.find c.if-is_own.found (search.turn start c.args.answer) here (w.find-is ∙ w.after-found.ensures.state) (w.found-is ∙ w.after-found.ensures.told)
          ∙ sym (finds-other client start c.args.answer (elim w.else-is_own.branch [
            | else-is_own-via-then-is_own+else-is_at_slot w' ↦ inr (sym w'.is_at_slot.ensures ∙ w'.if-is_at_slot.false)
            | else-is_own-via-else-is_own w' ↦ inl (sym c.reads_own-is_own.ensures ∙ w'.if-is_own.false)
          ]))
    ] in
    turned ∙ ap (λ (s : KeySearch). finds_at s.phase client s c.args.answer) same
