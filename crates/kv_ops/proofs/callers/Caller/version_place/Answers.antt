use Rattle.std.proofs.Common.{sym, ap, subst, ◌∙◌}
use Rattle.machine.specs.Places.{object_word, primary_place}
use Rattle.machine.specs.ObjectNames.{pointer_in}
use Rattle.region_view.specs.Layout.{HasWord}
use Rattle.region_view.specs.Placed.{Viewed}
use Rattle.kv_ops.proofs.CallLemmas.{named-has}
use Rattle.kv_ops.proofs.callers.Caller.version_place.Goals as goal

pub object_place-node-requires-clause-word : goal.object_place-node-requires-clause-word
object_place-node-requires-clause-word c =
    let P : Viewed → Type 0 = λ v. HasWord v.shape (object_word (pointer_in c.args.word) 0) in
    subst P (sym c.view.ensures) (named-has c.args.self.now.shape c.args.word c.requires.object.0 c.requires.object.1)

pub returns : goal.returns
returns c = sym (c.object_place-node.ensures.words 2) ∙ ap (λ v. primary_place v (object_word (pointer_in c.args.word) 2)) c.view.ensures
