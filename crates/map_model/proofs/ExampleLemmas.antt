-- Why no list of calls is a linearization of a stale read, and why an open put may be seen.
use Rattle.std.proofs.Common.{IsTrue, ◌≡◌, ℕ, zero, suc, ◌<◌, ◌⊎◌, inl, inr, true, false, List, [], ◌∷◌, Some, is_none, cond, refl, sym, ◌∙◌, ap, ap₂, subst, arith}
use Rattle.std.specs.Prelude.{slice_get, Contains}
use Rattle.std.proofs.lemmas.Option.{slice_get_within, get_or_from_slice_get, slice_get-get_or}
use Rattle.map_model.specs.declared.calls.Call.{Call}
use Rattle.map_model.specs.declared.calls.Call.TheVariants.{Get, Put}
use Rattle.map_model.specs.declared.calls.Reply.{Reply}
use Rattle.map_model.specs.declared.calls.Reply.TheVariants.{Done, Value, Absent}
use Rattle.map_model.specs.declared.entries.Entry.{Entry}
use Rattle.map_model.specs.Map.{Map, after, empty_map, is_legal_from, may_reply, with_key}
use Rattle.map_model.specs.Trace.{Invoked, Returned}
use Rattle.map_model.specs.Linear.{IsLinear, KeepsOrder, ReturnsBefore}
use Rattle.map_model.specs.Examples.{stale_read, open_put, put_then_get}
use Rattle.std.specs.Cmp.{first_so, second_so}
use Rattle.map_model.proofs.MapLemmas.{bytes_eq-same}

module _ (key value : List ℕ) where
  -- the put that is done
  abbrev IsPut : Entry → Type 0
  IsPut e = (e.client ≡ 1) × (e.call ≡ Put key value) × (e.reply ≡ Done)

  -- the get that finds nothing
  abbrev IsGet : Entry → Type 0
  IsGet e = (e.client ≡ 2) × (e.call ≡ Get key) × (e.reply ≡ Absent)

  abbrev Each : List Entry → Type 0
  Each es = (i : ℕ) (e : Entry) → slice_get es i ≡ Some e → IsPut e ⊎ IsGet e

  -- the trace has the invocations of these two calls alone
  moment_at : (i : ℕ) (e : Entry) → slice_get (stale_read key value) i ≡ Some (Invoked e.client e.number e.call) → ((e.client ≡ 1) × (e.number ≡ 1) × (e.call ≡ Put key value)) ⊎ ((e.client ≡ 2) × (e.number ≡ 1) × (e.call ≡ Get key))
  moment_at zero e h = inl (cc, cc, cc)
  moment_at (suc zero) e h = cc
  moment_at (suc (suc zero)) e h = inr (cc, cc, cc)
  moment_at (suc (suc (suc zero))) e h = cc
  moment_at (suc (suc (suc (suc i)))) e h = cc

  module _ (entries : List Entry) (linear : IsLinear (stale_read key value) entries) where
    -- a linearization has these two calls alone
    all : Each entries
    all i e at =
        let has : Contains entries e = (i, slice_get_within entries i e at, get_or_from_slice_get entries i e e at) in
        let moment = linear.placing.called e has in
        elim (moment_at moment.0 e (slice_get-get_or (stale_read key value) moment.0 _ moment.1 ∙ ap Some moment.2)) [
          | inl p ↦ inl (p.0, p.2, (linear.placing.replied e has Done (1, omega arith, ap₂ (λ c n. Returned c n Done) (sym p.0) (sym p.1))).1)
          | inr g ↦ inr (g.0, g.2, (linear.placing.replied e has Absent (3, omega arith, ap₂ (λ c n. Returned c n Absent) (sym g.0) (sym g.1))).1)
        ]

  -- after the put there is a value at the key
  here : (map : Map) → is_none (with_key map key value key) ≡ false
  here map = ap (λ b. is_none (cond b (Some value) (map key))) (bytes_eq-same key)

  -- after the put no get finds nothing
  none_after : (map : Map) (es : List Entry) (j : ℕ) (g : Entry) → is_none (map key) ≡ false → Each es → is_legal_from map es ≡ true → slice_get es j ≡ Some g → IsGet g → ⊥
  none_after map [] j g there each legal at is = cc
  none_after map (e ∷ es) zero g there each legal at is =
      let same : e ≡ g = cc in
      let now : may_reply map e.call e.reply ≡ is_none (map key) = ap₂ (may_reply map) (ap (λ (x : Entry). x.call) same ∙ is.1) (ap (λ (x : Entry). x.reply) same ∙ is.2) in
      let fits = first_so (may_reply map e.call e.reply) _ legal in
      cc
  none_after map (e ∷ es) (suc j) g there each legal at is =
      let rest = second_so (may_reply map e.call e.reply) _ legal in
      let still : is_none (after map e.call e.reply key) ≡ false =
      elim (each 0 e refl) [
        | inl p ↦ ap₂ (λ c r. is_none (after map c r key)) p.1 p.2 ∙ here map
        | inr q ↦ ap₂ (λ c r. is_none (after map c r key)) q.1 q.2 ∙ there
      ] in
      none_after (after map e.call e.reply) es j g still (λ i x. each (suc i) x) rest at is

  -- a put before a get that finds nothing is not legal
  none_ordered : (map : Map) (es : List Entry) (i j : ℕ) (p g : Entry) → Each es → is_legal_from map es ≡ true → slice_get es i ≡ Some p → slice_get es j ≡ Some g → IsPut p → IsGet g → i < j → ⊥
  none_ordered map [] i j p g each legal at_i at_j is_p is_g before = cc
  none_ordered map (e ∷ es) i zero p g each legal at_i at_j is_p is_g before = omega arith
  none_ordered map (e ∷ es) zero (suc j) p g each legal at_i at_j is_p is_g before =
      let same : e ≡ p = cc in
      let there : is_none (after map e.call e.reply key) ≡ false = ap₂ (λ c r. is_none (after map c r key)) (ap (λ (x : Entry). x.call) same ∙ is_p.1) (ap (λ (x : Entry). x.reply) same ∙ is_p.2) ∙ here map in
      none_after (after map e.call e.reply) es j g there (λ k x. each (suc k) x) (second_so (may_reply map e.call e.reply) _ legal) at_j is_g
  none_ordered map (e ∷ es) (suc i) (suc j) p g each legal at_i at_j is_p is_g before =
      none_ordered (after map e.call e.reply) es i j p g (λ k x. each (suc k) x) (second_so (may_reply map e.call e.reply) _ legal) at_i at_j is_p is_g (omega arith)

  -- the put has to stand before the get, and then the get finds the value
  pub stale_read-not_linear : (entries : List Entry) → IsLinear (stale_read key value) entries → ⊥
  stale_read-not_linear entries linear =
      let put = linear.placing.placed 1 1 Done (1, omega arith, refl) in
      let get = linear.placing.placed 2 1 Absent (3, omega arith, refl) in
      let p = put.0 in
      let g = get.0 in
      let at_p = slice_get-get_or entries put.1.0 p put.1.1 ∙ ap Some put.1.2 in
      let at_g = slice_get-get_or entries get.1.0 g get.1.1 ∙ ap Some get.1.2 in
      let is_p : IsPut p = elim (all entries linear put.1.0 p at_p) [ inl is ↦ is | inr is ↦ absurd (omega (arith, is.0, put.2)) ] in
      let is_g : IsGet g = elim (all entries linear get.1.0 g at_g) [ inl is ↦ absurd (omega (arith, is.0, get.2)) | inr is ↦ is ] in
      let apart : ReturnsBefore (stale_read key value) p g = record {
        reply = Done;
        call = Get key;
        returned_at = 1;
        called_at = 2;
        returned = ap₂ (λ c n. Some (Returned c n Done)) (sym put.2) (sym put.3);
        called = ap₂ (λ c n. Some (Invoked c n (Get key))) (sym get.2) (sym get.3);
        earlier = omega arith;
      } in
      none_ordered empty_map entries put.1.0 get.1.0 p g (all entries linear) linear.legal at_p at_g is_p is_g (linear.order put.1.0 get.1.0 p g at_p at_g apart)

  -- ---- the open put

  abbrev put : Entry
  put = record { client = 1; number = 1; call = Put key value; reply = Done; returned = false }

  abbrev get : Entry
  get = record { client = 2; number = 1; call = Get key; reply = Value value; returned = true }

  which : (i : ℕ) (e : Entry) → slice_get (put_then_get key value) i ≡ Some e → ((i ≡ 0) × (put ≡ e)) ⊎ ((i ≡ 1) × (get ≡ e))
  which zero e h = inl (refl, cc)
  which (suc zero) e h = inr (refl, cc)
  which (suc (suc i)) e h = cc

  one_of : (e : Entry) → Contains (put_then_get key value) e → (put ≡ e) ⊎ (get ≡ e)
  one_of e has = elim (which has.0 e (slice_get-get_or (put_then_get key value) has.0 e has.1 ∙ ap Some has.2)) [ inl p ↦ inl p.1 | inr g ↦ inr g.1 ]

  -- only the get returns
  returned_in : (i client number : ℕ) (reply : Reply) → slice_get (open_put key value) i ≡ Some (Returned client number reply) → (i ≡ 2) × (2 ≡ client) × (1 ≡ number) × (Value value ≡ reply)
  returned_in zero client number reply h = cc
  returned_in (suc zero) client number reply h = cc
  returned_in (suc (suc zero)) client number reply h = (refl, cc, cc, cc)
  returned_in (suc (suc (suc zero))) client number reply h = cc
  returned_in (suc (suc (suc (suc i)))) client number reply h = cc

  returned_of : (client number : ℕ) (reply : Reply) → Contains (open_put key value) (Returned client number reply) → (2 ≡ client) × (1 ≡ number) × (Value value ≡ reply)
  returned_of client number reply has =
      let at = returned_in has.0 client number reply (slice_get-get_or (open_put key value) has.0 (Returned client number reply) has.1 ∙ ap Some has.2) in
      (at.1, at.2, at.3)

  -- nothing is called from the place of that return on
  called_early : (i client number : ℕ) (call : Call) → slice_get (open_put key value) i ≡ Some (Invoked client number call) → i < 2
  called_early zero client number call h = omega arith
  called_early (suc zero) client number call h = omega arith
  called_early (suc (suc zero)) client number call h = cc
  called_early (suc (suc (suc zero))) client number call h = cc
  called_early (suc (suc (suc (suc i)))) client number call h = cc

  open_put-called : (e : Entry) → Contains (put_then_get key value) e → Contains (open_put key value) (Invoked e.client e.number e.call)
  open_put-called e has = elim (one_of e has) [
    | inl p ↦ subst (λ (x : Entry). Contains (open_put key value) (Invoked x.client x.number x.call)) p (0, omega arith, refl)
    | inr g ↦ subst (λ (x : Entry). Contains (open_put key value) (Invoked x.client x.number x.call)) g (1, omega arith, refl)
  ]

  open_put-marked : (e : Entry) → Contains (put_then_get key value) e → IsTrue e.returned → Contains (open_put key value) (Returned e.client e.number e.reply)
  open_put-marked e has mark = elim (one_of e has) [
    | inl p ↦ let unmarked : false ≡ true = ap (λ (x : Entry). x.returned) p ∙ mark in cc
    | inr g ↦ subst (λ (x : Entry). Contains (open_put key value) (Returned x.client x.number x.reply)) g (2, omega arith, refl)
  ]

  open_put-replied : (e : Entry) → Contains (put_then_get key value) e → (reply : Reply) → Contains (open_put key value) (Returned e.client e.number reply) → IsTrue e.returned × (e.reply ≡ reply)
  open_put-replied e has reply moment =
      let is = returned_of e.client e.number reply moment in
      elim (one_of e has) [
        | inl p ↦ let one : 1 ≡ e.client = ap (λ (x : Entry). x.client) p in absurd (omega (arith, one, is.0))
        | inr g ↦ (sym (ap (λ (x : Entry). x.returned) g), sym (ap (λ (x : Entry). x.reply) g) ∙ is.2)
      ]

  open_put-placed : (client number : ℕ) (reply : Reply) → Contains (open_put key value) (Returned client number reply) → (e : Entry) × Contains (put_then_get key value) e × (e.client ≡ client) × (e.number ≡ number)
  open_put-placed client number reply moment = let is = returned_of client number reply moment in (get, (1, omega arith, refl), is.0, is.1)

  open_put-once : (i j : ℕ) (a b : Entry) → slice_get (put_then_get key value) i ≡ Some a → slice_get (put_then_get key value) j ≡ Some b → a.client ≡ b.client → a.number ≡ b.number → i ≡ j
  open_put-once i j a b at_i at_j same number = elim (which i a at_i) [
    | inl p ↦ elim (which j b at_j) [
      | inl q ↦ p.0 ∙ sym q.0
      | inr q ↦ let of_a : 1 ≡ a.client = ap (λ (x : Entry). x.client) p.1 in let of_b : 2 ≡ b.client = ap (λ (x : Entry). x.client) q.1 in absurd (omega (arith, of_a, of_b, same))
    ]
    | inr p ↦ elim (which j b at_j) [
      | inl q ↦ let of_a : 2 ≡ a.client = ap (λ (x : Entry). x.client) p.1 in let of_b : 1 ≡ b.client = ap (λ (x : Entry). x.client) q.1 in absurd (omega (arith, of_a, of_b, same))
      | inr q ↦ p.0 ∙ sym q.0
    ]
  ]

  open_put-order : KeepsOrder (open_put key value) (put_then_get key value)
  open_put-order i j a b at_i at_j h =
      let early = called_early h.called_at b.client b.number h.call h.called in
      let late = returned_in h.returned_at a.client a.number h.reply h.returned in
      omega (arith, early, late.0, h.earlier)

  -- an open call may have taken effect
  pub open_put-linear : IsLinear (open_put key value) (put_then_get key value)
  open_put-linear = record {
    placing = record { called = open_put-called; marked = open_put-marked; replied = open_put-replied; placed = open_put-placed; once = open_put-once };
    legal = rw (bytes_eq-same key, bytes_eq-same value);
    order = open_put-order;
  }
