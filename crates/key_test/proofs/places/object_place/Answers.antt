use Rattle.std.proofs.Common.{ℕ, ◌+◌, ◌*◌, ◌∙◌, ap, ap₂, get_or, subst, rules}
use Rattle.machine.proofs.ViewLemmas.{IsView-of}
use Rattle.region_view.specs.Placed.{LeavesNoneBare, Viewed, region_start, replicas_of}
use Rattle.key_test.proofs.PlaceLemmas.{object_place-below, object_place-is}
use Rattle.key_test.proofs.places.object_place.Goals as goal

pub returns-clause-words : goal.returns-clause-words
returns-clause-words c =
    let view = c.args.view.now in
    let covers = subst (λ (v : Viewed). LeavesNoneBare v.shape v.mask) c.view.view_is c.view.invariant in
    let first = c.word_place-node.ensures.node ∙ ap (λ region. get_or (replicas_of view region) 0 0) c.region_of.ensures in
    let stands = c.word_place-node.ensures.at ∙ ap₂ (λ (region unit : ℕ). region_start view.shape region + 8 * unit) c.region_of.ensures c.unit_of.ensures in
    λ i. object_place-is view c.args.pointer i _ _ (IsView-of view (search rules) covers) c.requires.word.1 first stands

pub returns-clause-below : goal.returns-clause-below
returns-clause-below c =
    let view = c.args.view.now in
    let covers = subst (λ (v : Viewed). LeavesNoneBare v.shape v.mask) c.view.view_is c.view.invariant in
    let first = c.word_place-node.ensures.node ∙ ap (λ region. get_or (replicas_of view region) 0 0) c.region_of.ensures in
    let stands = c.word_place-node.ensures.at ∙ ap₂ (λ (region unit : ℕ). region_start view.shape region + 8 * unit) c.region_of.ensures c.unit_of.ensures in
    object_place-below view c.args.pointer _ _ (IsView-of view (search rules) covers) c.requires.word first stands
