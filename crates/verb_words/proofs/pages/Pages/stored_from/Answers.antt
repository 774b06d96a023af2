use Rattle.std.proofs.Common.{◌≡◌, ◌<◌, ◌/◌, inl, inr, length, slice_index, arith, ap, sym, ◌∙◌}
use Rattle.std.proofs.lemmas.Bool.{cases_lt}
use Rattle.std.proofs.lemmas.Grind.{get_or_default_zero}
use Rattle.verb_words.proofs.PagesLemmas.{length-words_in, zeros-absent}
use Rattle.verb_words.proofs.pages.Pages.stored_from.Goals as goal

pub loop-at-preserved-then-index-eq0 : goal.loop-at-preserved-then-index-eq0
loop-at-preserved-then-index-eq0 c =
    let table = c.self.inside.table.items in
    let count = c.self.inside.count in
    let at = c.loop-at.at in
    let size : length c.args.self.now ≡ count = ap length (sym c.self.view_is) ∙ length-words_in _ _ count in
    let within : at / 512 < length table = omega (arith, c.loop-at-test.true, c.self.invariant.0) in
    let absent : slice_index table (at / 512) ≡ 0 = sym (get_or_default_zero table (at / 512) _ within) ∙ sym c.index.ensures ∙ c.if-index-eq0.true in
    record {
      least = omega (arith, c.loop-at.invariant.least);
      zeros = λ other past before low. elim (cases_lt other at) [
        | inl below ↦ c.loop-at.invariant.zeros other past below low
        | inr from ↦
            zeros-absent table c.self.inside.store.items c.self.inside.store.cap c.self.invariant.1 c.args.self.now count at other c.self.view_is c.self.invariant.0 absent from before low
      ];
    }

pub word-requires : goal.word-requires
word-requires c =
    let size : length c.args.self.now ≡ c.self.inside.count = ap length (sym c.self.view_is) ∙ length-words_in _ _ c.self.inside.count in
    omega (arith, size, c.loop-at-test.true)

pub returns : goal.returns
returns c =
    let size : length c.args.self.now ≡ c.self.inside.count = ap length (sym c.self.view_is) ∙ length-words_in _ _ c.self.inside.count in
    record {
      least = omega (arith, size, c.requires);
      most = omega (arith, size);
      stored = λ low none. omega (arith, low, size);
      zeros = λ other past before. c.loop-at.invariant.zeros other past (omega (arith, before, c.loop-at-test.false)) before;
    }
