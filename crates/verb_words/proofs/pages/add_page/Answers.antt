use Rattle.std.proofs.Common.{◌≡◌, ◌+◌, ◌-◌, ◌/◌, ◌++◌, if◌then◌else◌, take, replicate, set, arith, ap, sym, ◌∙◌, subst}
use Rattle.std.specs.Result.{is_ok}
use Rattle.verb_words.specs.Pages.{ArePages, words_in, with_page}
use Rattle.verb_words.proofs.PagesLemmas.{own_pages-absent, ArePages-own, words_in-own, filled-page}
use Rattle.verb_words.proofs.pages.add_page.Goals as goal

pub overflow_cast-room : goal.overflow_cast-room
overflow_cast-room c =
    let pages = c.requires.pages in
    let none = c.requires.none in
    let room = own_pages-absent c.args.table.now.items c.args.page c.requires.within none in
    omega (arith, c.len-room.ensures, c.args.store.now.ok.0, pages.few, pages.size, room)

pub unwrap-requires : goal.unwrap-requires
unwrap-requires c =
    let pages = c.requires.pages in
    let none = c.requires.none in
    let room = own_pages-absent c.args.table.now.items c.args.page c.requires.within none in
    c.resize.ensures.succeeds (omega (arith, c.len-room.ensures, c.args.store.now.ok.0, pages.size, pages.reserved, room))

-- the store as it grew
grown : (c : goal.After-unwrap) → c.resize.new.self.items ≡ with_page c.args.store.now.items
grown c =
    let room = c.len-room.result in
    let old = c.args.store.now.items in
    let len = c.args.store.now.len in
    filled-page room len old c.resize.new.self.items (sym c.args.store.now.ok.0) c.len-room.ensures
    (c.resize.ensures.items
    ∙ ap (λ r. if is_ok r then take (room + 512) old ++ replicate (room + 512 - len) 0 else old) c.unwrap.ensures)

pub returns-clause-pages : goal.returns-clause-pages
returns-clause-pages c =
    let table = c.args.table.now.items in
    let store = c.args.store.now.items in
    let pages = c.requires.pages in
    let place = c.len-room.result / 512 in
    let none = c.requires.none in
    subst (λ s. ArePages (set table c.args.page place) s c.resize.new.self.cap) (sym (grown c))
    (ArePages-own table store c.args.store.now.cap pages c.args.page place c.resize.new.self.cap c.requires.within none
    (omega (arith, c.len-room.ensures, c.args.store.now.ok.0, pages.size)) c.resize.ensures.capacity)

pub returns-clause-words : goal.returns-clause-words
returns-clause-words c count fits =
    let table = c.args.table.now.items in
    let store = c.args.store.now.items in
    let pages = c.requires.pages in
    let place = c.len-room.result / 512 in
    let none = c.requires.none in
    ap (λ s. words_in (set table c.args.page place) s count) (grown c)
    ∙ words_in-own table store c.args.store.now.cap pages c.args.page place c.resize.new.self.cap c.requires.within none
    (omega (arith, c.len-room.ensures, c.args.store.now.ok.0, pages.size)) c.resize.ensures.capacity count fits
