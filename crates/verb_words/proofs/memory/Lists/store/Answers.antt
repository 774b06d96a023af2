use Rattle.std.proofs.Common.{◌<◌, length, refl, sym, ◌∙◌, ap, arith}
use Rattle.std.proofs.lemmas.List.{length-map}
use Rattle.std.specs.Vec.{with_item}
use Rattle.verb_words.specs.Lists.{words_of}
use Rattle.verb_words.specs.Words.{with_word}
use Rattle.verb_words.proofs.WordsLemmas.{map-set-in}
use Rattle.verb_words.proofs.memory.Lists.store.Goals as goal

pub returns-in-Whole : goal.returns-in-Whole
returns-in-Whole c =
    let lists = c.in-Whole.lists.items in
    let list = c.index_mut.result.now in
    let words = ap words_of c.in-Whole.is in
    let lengths = ap length words ∙ length-map lists (λ l. l.items) in
    let within : c.args.place.node < length lists = omega (arith, c.requires.node, lengths) in
    map-set-in (λ l. l.items) lists c.args.place.node c.args.place.at c.args.word list (with_item list c.args.place.at c.args.word) within c.index_mut.ensures.value refl
    ∙ ap (λ w. with_word w c.args.place c.args.word) (sym words)
