use Rattle.std.proofs.Common.{ℕ, ◌≡◌, ◌<◌, ◌∷◌, List, arith, get_or, length, length-set, remove, set, slice_set, sym, ap, ap₂, subst₂, ◌∙◌}
use Rattle.std.specs.List.{refill}
use Rattle.std.proofs.lemmas.List.{get_or_read}
use Rattle.arrayvec.specs.ArrayVec.{ArrayVec, array_vec_len}
use Rattle.arrayvec.proofs.ArrayVecLemmas.{items-with_items}
use Rattle.kv_ops.specs.Places.{HasNone, IsOrder, hashes_of, pairs_in, pairs_of}
use Rattle.kv_ops.proofs.PlaceLemmas.{IsOrder-renew, hashes_of-renew, length-value, pairs_in-renew}
use Rattle.machine.specs.Remembered.{Pair}
use Rattle.slot_order.specs.Fnv.{fnv1a}
use Rattle.kv_ops.proofs.remembered.Remembered.renew.Goals as goal

abbrev written : goal.After-insert → ArrayVec ℕ × ℕ
written c = (c.key_bytes.result, c.args.place)

within : (c : goal.After-insert) → c.args.rank < length c.self.inside.order.items
within c = omega (arith, c.requires.rank, length-value _ _ _ c.self.invariant.ordered c.self.view_is, c.self.invariant.ordered.each)

place_is : (c : goal.After-insert) → c.remove-at.result ≡ get_or c.self.inside.order.items c.args.rank 0
place_is c = get_or_read c.self.inside.order.items c.args.rank c.remove-at.result (within c) c.remove-at.ensures.value 0

-- one pair is written, and the others stay
pairs_are : (c : goal.After-insert) → refill (array_vec_len c.self.inside.pairs) c.self.inside.pairs.items (slice_set c.deref_mut.result.now c.remove-at.result (written c)) ≡ set c.self.inside.pairs.items (get_or c.self.inside.order.items c.args.rank 0) (written c)
pairs_are c =
    items-with_items c.self.inside.pairs (set c.deref_mut.result.now c.remove-at.result (written c)) (length-set c.deref_mut.result.now c.remove-at.result (written c) ∙ ap length c.deref_mut.ensures.value)
    ∙ (λ i. set (c.deref_mut.ensures.value i) (place_is c i) (written c))

-- and its hash
hashes_are : (c : goal.After-insert) → refill (array_vec_len c.self.inside.hashes) c.self.inside.hashes.items (slice_set c.deref_mut-2.result.now c.remove-at.result c.args.hash) ≡ set c.self.inside.hashes.items (get_or c.self.inside.order.items c.args.rank 0) c.args.hash
hashes_are c =
    items-with_items c.self.inside.hashes (set c.deref_mut-2.result.now c.remove-at.result c.args.hash) (length-set c.deref_mut-2.result.now c.remove-at.result c.args.hash ∙ ap length c.deref_mut-2.ensures.value)
    ∙ (λ i. set (c.deref_mut-2.ensures.value i) (place_is c i) c.args.hash)

-- its place comes first
order_is : (c : goal.After-insert) → c.insert.new.self.items ≡ get_or c.self.inside.order.items c.args.rank 0 ∷ remove c.self.inside.order.items c.args.rank
order_is c = c.insert.ensures.items ∙ (λ i. place_is c i ∷ c.remove-at.ensures.items i)

pub invariant_of-self : goal.invariant_of-self
invariant_of-self c =
    let none = subst₂ (λ (l : List Pair) key. HasNone (remove l c.args.rank) key) (sym c.self.view_is) (sym c.key_bytes.ensures) c.requires.others in
    record { ordered = subst₂ IsOrder (sym (pairs_are c)) (sym (order_is c)) (IsOrder-renew c.self.inside.pairs.items c.self.inside.order.items c.args.rank (written c) c.self.invariant.ordered (within c) none); hashed = hashes_are c ∙ hashes_of-renew c.self.inside.pairs.items c.self.inside.hashes.items (get_or c.self.inside.order.items c.args.rank 0) (written c) c.args.hash c.self.invariant.hashed (c.requires.hash ∙ ap fnv1a (sym c.key_bytes.ensures)) ∙ ap (λ l. hashes_of (pairs_of l)) (sym (pairs_are c)) }

pub returns : goal.returns
returns c =
    ap₂ pairs_in (pairs_are c) (order_is c)
    ∙ pairs_in-renew c.self.inside.pairs.items c.self.inside.order.items c.args.rank (written c) c.self.invariant.ordered (within c)
    ∙ (λ i. (c.key_bytes.ensures i, c.args.place) ∷ remove (c.self.view_is i) c.args.rank)
