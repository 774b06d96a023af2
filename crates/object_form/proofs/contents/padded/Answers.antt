use Rattle.std.proofs.Common.{◌≡◌, ℕ, ◌+◌, ◌<◌, List, ◌∷◌, [], ◌++◌, map, length, sym, ◌∙◌, ap, ap₂, append_assoc, arith, length-append}
use Rattle.std.specs.List.{range_with_len}
use Rattle.std.proofs.lemmas.List.FromFn.{length-map-range_with_len, map-range_with_len_more}
use Rattle.object_form.specs.Content.{word_from}
use Rattle.object_form.proofs.ContentLemmas.{word_from-rest}
use Rattle.object_form.proofs.contents.padded.Goals as goal

pub push-requires : goal.push-requires
push-requires c =
    let made = map (word_from c.args.bytes.now) (range_with_len 0 c.loop-index.index) in
    let size : length made ≡ c.loop-index.index = length-map-range_with_len (word_from c.args.bytes.now) 0 c.loop-index.index in
    let whole : length c.loop-index.into.items ≡ length c.args.into.now.items + length made =
    ap length c.loop-index.invariant ∙ length-append c.args.into.now.items made in
    let room : length c.loop-index.into.items < 256 = omega (arith, size, whole, c.requires, c.div_ceil-index-end.ensures) in
    (omega arith, room)

pub loop-index-preserved : goal.loop-index-preserved
loop-index-preserved c =
    let word = c.padded_word.ensures ∙ word_from-rest c.args.bytes.now c.loop-index.index in
    let made = map (word_from c.args.bytes.now) (range_with_len 0 c.loop-index.index) in
    c.push.ensures.items
    ∙ ap₂ (λ (before : List ℕ) (last : ℕ). before ++ last ∷ []) c.loop-index.invariant word
    ∙ append_assoc c.args.into.now.items made (word_from c.args.bytes.now c.loop-index.index ∷ [])
    ∙ ap (λ words. c.args.into.now.items ++ words)
    (sym (map-range_with_len_more (word_from c.args.bytes.now) 0 c.loop-index.index c.loop-index.index (omega arith)))
