use Rattle.std.proofs.Common.{arith, ap, length, set, ◌≡◌, sym, ◌∙◌, subst}
use Rattle.verb_words.specs.Pages.{ArePages, words_in}
use Rattle.verb_words.proofs.PagesLemmas.{length-words_in, page-within, place-within, place-read, ArePages-set, words_in-set}
use Rattle.verb_words.proofs.pages.Pages.set.Goals as goal

pub own_page-requires-clause-within : goal.own_page-requires-clause-within
own_page-requires-clause-within c =
    page-within c.args.self.now _ c.self.inside.count c.args.at (ap length (sym c.self.view_is) ∙ length-words_in _ _ c.self.inside.count) c.self.invariant.0 c.requires

pub index-requires : goal.index-requires
index-requires c =
    let size : length c.args.self.now ≡ c.self.inside.count = ap length (sym c.self.view_is) ∙ length-words_in _ _ c.self.inside.count in
    omega (arith, c.requires, size, c.self.invariant.0, c.own_page.ensures.table, c.own_page.new.table.ok.0)

pub index_mut-requires : goal.index_mut-requires
index_mut-requires c =
    let table = c.own_page.new.table.items in
    let store = c.own_page.new.store.items in
    let size : length c.args.self.now ≡ c.self.inside.count = ap length (sym c.self.view_is) ∙ length-words_in _ _ c.self.inside.count in
    let within = page-within c.args.self.now table c.self.inside.count c.args.at size (omega (arith, c.self.invariant.0, c.own_page.ensures.table)) c.requires in
    let there = place-within table store c.own_page.new.store.cap c.own_page.ensures.pages c.args.at within in
    let is = place-read table c.args.at c.index.result.now within c.index.ensures in
    omega (arith, is, there, c.own_page.new.store.ok.0)

pub invariant_of-self : goal.invariant_of-self
invariant_of-self c =
    let table = c.own_page.new.table.items in
    let store = c.own_page.new.store.items in
    let room = c.own_page.new.store.cap in
    let size : length c.args.self.now ≡ c.self.inside.count = ap length (sym c.self.view_is) ∙ length-words_in _ _ c.self.inside.count in
    let within = page-within c.args.self.now table c.self.inside.count c.args.at size (omega (arith, c.self.invariant.0, c.own_page.ensures.table)) c.requires in (
      omega (arith, c.self.invariant.0, c.own_page.ensures.table),
      subst (λ k. ArePages table (set store k c.args.word) room) (sym (place-read table c.args.at c.index.result.now within c.index.ensures))
          (ArePages-set table store room c.own_page.ensures.pages c.args.at c.args.word within c.own_page.ensures.own),
    )

pub returns : goal.returns
returns c =
    let table = c.own_page.new.table.items in
    let store = c.own_page.new.store.items in
    let room = c.own_page.new.store.cap in
    let count = c.self.inside.count in
    let size : length c.args.self.now ≡ count = ap length (sym c.self.view_is) ∙ length-words_in _ _ count in
    let within = page-within c.args.self.now table count c.args.at size (omega (arith, c.self.invariant.0, c.own_page.ensures.table)) c.requires in
    ap (λ k. words_in table (set store k c.args.word) count) (place-read table c.args.at c.index.result.now within c.index.ensures)
    ∙ words_in-set table store room c.own_page.ensures.pages c.args.at c.args.word within c.own_page.ensures.own count
    (omega (arith, c.self.invariant.0, c.own_page.ensures.table)) (omega (arith, c.requires, size))
    ∙ ap (λ l. set l c.args.at c.args.word) (c.own_page.ensures.words count c.self.invariant.0 ∙ c.self.view_is)
