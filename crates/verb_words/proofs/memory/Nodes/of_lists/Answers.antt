use Rattle.std.proofs.Common.{◌≡◌, ◌+◌, Bool, inl, inr, not, ◌==◌, ◌&&◌, false, set, get_or, ◌∙◌, sym, ap, arith}
use Rattle.std.proofs.lemmas.Bool.Decides.{eqb_tells}
use Rattle.std.proofs.lemmas.List.{get_or-set_same, get_or-set_other, length-set}
use Rattle.verb_words.specs.Lists.{words_of}
use Rattle.verb_words.specs.Words.{is_lost, status_of}
use Rattle.verb_words.proofs.memory.Nodes.of_lists.Goals as goal

pub loop-node-preserved : goal.loop-node-preserved
loop-node-preserved c =
    let words = words_of c.args.lists in
    let at = c.loop-node.node in
    let lost = c.loop-node.lost in
    let told : Bool = not (c.word.result == 0) in
    let first : is_lost words at ≡ told =
    elim (eqb_tells at 0) [
      | inl zero ↦ absurd (omega (arith, c.loop-node.invariant.0, zero.1))
      | inr apart ↦ ap (λ b. not b && not (status_of words at == 0)) apart.0 ∙ ap (λ w. not (w == 0)) (sym c.word.ensures)
    ] in (
      omega arith,
      omega (arith, c.loop-node-test.true),
      length-set lost at told ∙ c.loop-node.invariant.2,
      λ node below. elim (eqb_tells node at) [
        | inl same ↦
            ap (λ n. get_or (set lost at told) n false) same.1
            ∙ get_or-set_same lost at told false (omega (arith, c.loop-node-test.true, c.loop-node.invariant.2))
            ∙ sym first
            ∙ ap (is_lost words) (sym same.1)
        | inr apart ↦
            get_or-set_other lost at node told false apart.1
            ∙ c.loop-node.invariant.3 node (omega (arith, below, apart.1))
      ],
    )
