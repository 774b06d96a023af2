use Rattle.std.proofs.Common.{false, true, ◌≡◌, ◌<◌, [], List, arith, bytes_eq, get_or, length, not, take_all, sym, ap, subst, ◌∙◌}
use Rattle.std.proofs.lemmas.Bool.{not_from_false}
use Rattle.std.proofs.lemmas.Bool.Decides.{nat_tests}
use Rattle.std.proofs.lemmas.List.Elements.{All-more}
use Rattle.kv_ops.specs.Places.{HasNone, pairs_in}
use Rattle.kv_ops.proofs.PlaceLemmas.{get_or-hashes, get_or-pairs_in, is_of-other_hash, length-pairs_in}
use Rattle.machine.specs.Remembered.{Pair, is_of}
use Rattle.slot_order.specs.Fnv.{fnv1a}
use Rattle.kv_ops.proofs.remembered.Remembered.rank_of.Goals as goal
use Rattle.kv_ops.proofs.remembered.Remembered.rank_of.Goals.{else-deref-at-via-then-deref-at+else-eq, else-deref-at-via-else-deref-at}

pub loop-i-preserved : goal.loop-i-preserved
loop-i-preserved c =
    let pairs = c.self.inside.pairs.items in
    let order = c.self.inside.order.items in
    let rank = c.loop-i.i in
    let key = c.args.key.now in
    let long = length-pairs_in pairs order c.self.invariant.ordered in
    let within : rank < length order = omega (arith, c.loop-i-test.true, c.len-i-end.ensures.value) in
    let pair = get_or (pairs_in pairs order) rank ([], 0) in
    let other : is_of key (get_or (pairs_in pairs order) rank ([], 0)) ≡ false = elim c.else-deref-at.branch [
      | else-deref-at-via-then-deref-at+else-eq w ↦
          let seen : w.as_slice.result.now ≡ pair.0 =
          w.as_slice.ensures.value
          ∙ (λ i. (get_or (w.deref-then-deref-at.ensures.0 i) (get_or (c.deref.ensures.0 i) rank 0) w.index-deref-at.result).0.items)
          ∙ ap (λ (pair : Pair). pair.0) (sym (get_or-pairs_in pairs order rank w.index-deref-at.result c.self.invariant.ordered within)) in
          ap (λ l. bytes_eq l key) (sym seen) ∙ sym w.eq.ensures ∙ w.if-eq.false
      | else-deref-at-via-else-deref-at w ↦
          let hash : get_or c.self.inside.hashes.items (get_or order rank 0) 0 ≡ fnv1a pair.0 = get_or-hashes pairs c.self.inside.hashes.items order rank c.self.invariant within in
          let read : get_or c.deref-in-loop-i.result.now (get_or c.deref.result.now rank 0) 0 ≡ get_or c.self.inside.hashes.items (get_or order rank 0) 0 = λ i. get_or (c.deref-in-loop-i.ensures.0 i) (get_or (c.deref.ensures.0 i) rank 0) 0 in
          is_of-other_hash key pair (λ same. omega (arith, nat_tests, w.if-deref-at.false, read ∙ hash ∙ same ∙ sym c.requires))
    ] in
    All-more (λ pair. not (is_of key pair) ≡ true) (pairs_in pairs order) rank ([], 0) (omega (arith, within, long, c.self.invariant.ordered.each)) c.loop-i.invariant (not_from_false _ other)

pub returns-clause-none : goal.returns-clause-none
returns-clause-none c =
    let all = pairs_in c.self.inside.pairs.items c.self.inside.order.items in
    subst (λ (l : List Pair). HasNone l c.args.key.now) (take_all c.loop-i.i all (omega (arith, c.loop-i-test.false, c.len-i-end.ensures.value, length-pairs_in c.self.inside.pairs.items c.self.inside.order.items c.self.invariant.ordered, c.self.invariant.ordered.each)) ∙ c.self.view_is) c.loop-i.invariant
