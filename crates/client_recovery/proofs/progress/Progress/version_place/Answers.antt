use Rattle.std.proofs.Common.{ap, sym, subst, ◌∙◌}
use Rattle.client_recovery.proofs.HeldLemmas.{named-has}
use Rattle.machine.specs.ObjectNames.{pointer_in}
use Rattle.machine.specs.Places.{object_word, primary_place}
use Rattle.region_view.specs.Layout.{HasWord}
use Rattle.region_view.specs.Placed.{Viewed}
use Rattle.client_recovery.proofs.progress.Progress.version_place.Goals as goal

pub object_place-node-requires-clause-word : goal.object_place-node-requires-clause-word
object_place-node-requires-clause-word c =
    let P : Viewed → Type 0 = λ v. HasWord v.shape (object_word (pointer_in c.args.word) 0) in
    subst P (sym c.view.ensures) (named-has c.args.self.now.shape c.args.slot c.args.word c.requires.object)

pub returns : goal.returns
returns c =
    sym (c.object_place-node.ensures.words 2) ∙ ap (λ (v : Viewed). primary_place v (object_word (pointer_in c.args.word) 2)) c.view.ensures
