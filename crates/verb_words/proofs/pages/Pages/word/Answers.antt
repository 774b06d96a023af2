use Rattle.std.proofs.Common.{arith, ap, length, get_or, ◌≡◌, sym, ◌∙◌, ◌+◌, ◌*◌, ◌%◌, slice_index}
use Rattle.std.proofs.lemmas.Grind.{get_or_default_zero}
use Rattle.verb_words.proofs.PagesLemmas.{length-words_in, page-within, place-within, place-read, get_or-words_in}
use Rattle.verb_words.proofs.pages.Pages.word.Goals as goal

pub index-requires : goal.index-requires
index-requires c =
    let size : length c.args.self.now ≡ c.self.inside.count = ap length (sym c.self.view_is) ∙ length-words_in _ _ c.self.inside.count in
    omega (arith, c.requires, size, c.self.invariant.0, c.self.inside.table.ok.0)

pub index-requires-2 : goal.index-requires-2
index-requires-2 c =
    let table = c.self.inside.table.items in
    let size : length c.args.self.now ≡ c.self.inside.count = ap length (sym c.self.view_is) ∙ length-words_in _ _ c.self.inside.count in
    let within = page-within c.args.self.now table c.self.inside.count c.args.at size c.self.invariant.0 c.requires in
    let is = place-read table c.args.at c.index.result.now within c.index.ensures in
    let there = place-within table c.self.inside.store.items c.self.inside.store.cap c.self.invariant.1 c.args.at within in
    omega (arith, is, there, c.self.inside.store.ok.0)

pub returns : goal.returns
returns c =
    let table = c.self.inside.table.items in
    let store = c.self.inside.store.items in
    let size : length c.args.self.now ≡ c.self.inside.count = ap length (sym c.self.view_is) ∙ length-words_in _ _ c.self.inside.count in
    let within = page-within c.args.self.now table c.self.inside.count c.args.at size c.self.invariant.0 c.requires in
    let is = place-read table c.args.at c.index.result.now within c.index.ensures in
    let there = place-within table store c.self.inside.store.cap c.self.invariant.1 c.args.at within in
    c.index-2.ensures
    ∙ get_or_default_zero store (c.index.result.now * 512 + c.args.at % 512) _ (omega (arith, is, there))
    ∙ ap (slice_index store) is
    ∙ sym (get_or-words_in table store c.self.inside.count c.args.at (omega (arith, c.requires, size)))
    ∙ ap (λ l. get_or l c.args.at 0) c.self.view_is
