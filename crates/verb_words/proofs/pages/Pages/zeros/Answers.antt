use Rattle.std.proofs.Common.{arith, ap, ◌≡◌, ◌/◌, ◌+◌, replicate, ℕ, sym, ◌∙◌, length, subst}
use Rattle.std.proofs.lemmas.List.{length-replicate}
use Rattle.verb_words.specs.Pages.{ArePages, words_in}
use Rattle.verb_words.proofs.PagesLemmas.{ArePages-zeros, words_in-zeros, filled}
use Rattle.verb_words.proofs.pages.Pages.zeros.Goals as goal

table-is : (c : goal.In_ok-resize-2) → c.resize.new.self.items ≡ replicate (c.args.count / 512 + 1) 0
table-is c = filled (c.args.count / 512 + 1) _ _ _ c.in_ok-table.ensures.items c.in_ok-table.ensures.len c.in_ok-resize.ensures.items

store-is : (c : goal.In_ok-resize-2) → c.resize-2.new.self.items ≡ replicate 512 0
store-is c = filled 512 _ _ _ c.in_ok-store.ensures.items c.in_ok-store.ensures.len c.in_ok-resize-2.ensures.items

pub invariant_of-result : goal.invariant_of-result
invariant_of-result c =
    let size = c.args.count / 512 + 1 in
    let room = c.resize-2.new.self.cap in
    let long = ap length (table-is c) ∙ length-replicate {A = ℕ} size 0 in (
      omega (arith, long),
      subst (λ t. ArePages t c.resize-2.new.self.items room) (sym (table-is c))
          (subst (λ s. ArePages (replicate size 0) s room) (sym (store-is c))
          (ArePages-zeros size room (omega (arith, c.ranges.count.fits)) (omega (arith, c.in_ok-resize-2.ensures.capacity, c.in_ok-store.ensures.capacity)))),
    )

pub returns : goal.returns
returns c =
    let size = c.args.count / 512 + 1 in
    ap (λ t. words_in t c.resize-2.new.self.items c.args.count) (table-is c)
    ∙ ap (λ s. words_in (replicate size 0) s c.args.count) (store-is c)
    ∙ words_in-zeros size c.args.count (omega arith)
