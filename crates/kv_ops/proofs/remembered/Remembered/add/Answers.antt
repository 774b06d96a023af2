use Rattle.std.proofs.Common.{ℕ, ◌≡◌, ◌<◌, ◌∷◌, arith, sym, ap, ap₂, length, subst₂, ◌∙◌}
use Rattle.arrayvec.specs.ArrayVec.{ArrayVec}
use Rattle.kv_ops.specs.Places.{HasNone, IsOrder, hashes_of, pairs_in, pairs_of}
use Rattle.kv_ops.proofs.PlaceLemmas.{IsOrder-add, hashes_of-add, length-value, pairs_in-add}
use Rattle.slot_order.specs.Fnv.{fnv1a}
use Rattle.kv_ops.proofs.remembered.Remembered.add.Goals as goal

abbrev added : goal.After-insert → ArrayVec ℕ × ℕ
added c = (c.key_bytes.result, c.args.place)

-- the new place comes first
order_is : (c : goal.After-insert) → c.insert.new.self.items ≡ length c.self.inside.pairs.items ∷ c.self.inside.order.items
order_is c = c.insert.ensures.items ∙ ap (λ at. at ∷ c.self.inside.order.items) c.len-at.ensures.value

pub invariant_of-self : goal.invariant_of-self
invariant_of-self c =
    let none = subst₂ HasNone (sym c.self.view_is) (sym c.key_bytes.ensures) c.requires.none in
    let pairs = c.self.inside.pairs.items in
    let order = c.self.inside.order.items in
    let room : length pairs < 16 = omega (arith, c.requires.room, length-value _ _ _ c.self.invariant.ordered c.self.view_is) in
    record { ordered = subst₂ IsOrder (sym c.push.ensures.items) (sym (order_is c)) (IsOrder-add pairs order (added c) c.self.invariant.ordered room none); hashed = c.push-2.ensures.items ∙ hashes_of-add pairs c.self.inside.hashes.items (added c) c.args.hash c.self.invariant.hashed (c.requires.hash ∙ ap fnv1a (sym c.key_bytes.ensures)) ∙ ap (λ l. hashes_of (pairs_of l)) (sym c.push.ensures.items) }

pub returns : goal.returns
returns c =
    ap₂ pairs_in c.push.ensures.items (order_is c)
    ∙ pairs_in-add c.self.inside.pairs.items c.self.inside.order.items (added c) c.self.invariant.ordered
    ∙ (λ i. (c.key_bytes.ensures i, c.args.place) ∷ c.self.view_is i)
