-- How a linearization goes on with a call that is made and returns after all that the trace has.
use Rattle.std.proofs.Common.{◌≡◌, ℕ, zero, suc, ◌+◌, ◌<◌, ◌⊎◌, inl, inr, true, false, ◌&&◌, List, [], ◌∷◌, ◌++◌, length, Some, IsTrue, ◌==◌, refl, sym, ◌∙◌, ap, ap₂, subst, arith, eq-eqb, length-append}
use Rattle.std.proofs.Common.{append_assoc}
use Rattle.std.specs.Prelude.{slice_get, Contains}
use Rattle.std.proofs.lemmas.List.{append-nil}
use Rattle.std.proofs.lemmas.List.Elements.{All-append, All-contains, All-cons, All-nil, Contains-append_left, Contains-append_right, Contains-append_cases, Contains-push, Contains-push_cases}
use Rattle.std.proofs.Math.Bool.{and-false}
use Rattle.std.proofs.lemmas.Bool.Decides.{nat_tests}
use Rattle.std.proofs.lemmas.Option.{slice_get_within, get_or_from_slice_get, slice_get-get_or}
use Rattle.std.specs.Cmp.{first_so, second_so}
use Rattle.map_model.specs.declared.calls.Call.{Call}
use Rattle.map_model.specs.declared.calls.Reply.{Reply}
use Rattle.map_model.specs.declared.entries.Entry.{Entry}
use Rattle.map_model.specs.Map.{empty_map, is_legal, is_legal_from, map_after, may_reply}
use Rattle.map_model.specs.Trace.{Moment, Invoked, Returned, is_of, IsNew}
use Rattle.map_model.specs.Linear.{IsPlacing, ReturnsBefore, KeepsOrder, IsLinear, IsSequence, moments_of}
use Rattle.map_model.proofs.MapLemmas.{is_legal_from-push, map_after-append}

-- ---- places in a list that goes on

-- an element of xs and then ys is one of xs, or stands in ys
pub get-append : {X : Type 0} (xs ys : List X) (i : ℕ) (x : X) → slice_get (xs ++ ys) i ≡ Some x → (slice_get xs i ≡ Some x) ⊎ ((k : ℕ) × (i ≡ length xs + k) × (slice_get ys k ≡ Some x))
get-append [] ys i x h = inr (i, omega arith, h)
get-append (y ∷ xs) ys zero x h = inl h
get-append (y ∷ xs) ys (suc i) x h = elim (get-append xs ys i x h) [ inl a ↦ inl a | inr b ↦ inr (b.0, omega arith, b.2) ]

at_end : {X : Type 0} (y x : X) (n i k : ℕ) → i ≡ n + k → slice_get (y ∷ []) k ≡ Some x → (i ≡ n) × (y ≡ x)
at_end y x n i zero e h = (omega arith, cc)
at_end y x n i (suc k) e h = cc

-- an element of xs and then y is one of xs, or it is y
pub get-push : {X : Type 0} (xs : List X) (y : X) (i : ℕ) (x : X) → slice_get (xs ++ y ∷ []) i ≡ Some x → (slice_get xs i ≡ Some x) ⊎ ((i ≡ length xs) × (y ≡ x))
get-push xs y i x h = elim (get-append xs (y ∷ []) i x h) [ inl a ↦ inl a | inr b ↦ inr (at_end y x (length xs) i b.0 b.1 b.2) ]

pub contained : {X : Type 0} (xs : List X) (i : ℕ) (x : X) → slice_get xs i ≡ Some x → Contains xs x
contained xs i x h = (i, slice_get_within xs i x h, get_or_from_slice_get xs i x x h)

-- ---- the moments of one call

-- the two moments of a call that returns at once
abbrev two : Entry → List Moment
two e = Invoked e.client e.number e.call ∷ Returned e.client e.number e.reply ∷ []

two-invoked : (e : Entry) → Contains (two e) (Invoked e.client e.number e.call)
two-invoked e = (0, omega arith, refl)

two-returned : (e : Entry) → Contains (two e) (Returned e.client e.number e.reply)
two-returned e = (1, omega arith, refl)

-- where the call that stands there returned
returned_in_two : (e : Entry) (k client number : ℕ) (reply : Reply) → slice_get (two e) k ≡ Some (Returned client number reply) → (k ≡ 1) × (e.client ≡ client) × (e.number ≡ number) × (e.reply ≡ reply)
returned_in_two e zero client number reply h = cc
returned_in_two e (suc zero) client number reply h = (refl, cc, cc, cc)
returned_in_two e (suc (suc k)) client number reply h = cc

invoked_in_two : (e : Entry) (k client number : ℕ) (call : Call) → slice_get (two e) k ≡ Some (Invoked client number call) → (e.client ≡ client) × (e.number ≡ number)
invoked_in_two e zero client number call h = (cc, cc)
invoked_in_two e (suc zero) client number call h = cc
invoked_in_two e (suc (suc k)) client number call h = cc

returned_of_two : (e : Entry) (client number : ℕ) (reply : Reply) → Contains (two e) (Returned client number reply) → (e.client ≡ client) × (e.number ≡ number) × (e.reply ≡ reply)
returned_of_two e client number reply h =
    let at = returned_in_two e h.0 client number reply (slice_get-get_or (two e) h.0 (Returned client number reply) h.1 ∙ ap Some h.2) in
    (at.1, at.2, at.3)

-- ---- a call that was not made yet

same_call : (c n client number : ℕ) → c ≡ client → n ≡ number → ((c == client) && (n == number)) ≡ true
same_call c n client number p q = ap₂ (λ a b. a && b) (eq-eqb c client p) (eq-eqb n number q)

not_new : (trace : List Moment) (client number : ℕ) (m : Moment) → IsNew trace client number → Contains trace m → is_of client number m ≡ true → ⊥
not_new trace client number m new has same = let apart : is_of client number m ≡ false = All-contains (λ x. is_of client number x ≡ false) trace m new has in cc

invoked_not_new : (trace : List Moment) (client number c n : ℕ) (call : Call) → IsNew trace client number → Contains trace (Invoked c n call) → client ≡ c → number ≡ n → ⊥
invoked_not_new trace client number c n call new has p q = not_new trace client number (Invoked c n call) new has (same_call c n client number (sym p) (sym q))

returned_not_new : (trace : List Moment) (client number c n : ℕ) (reply : Reply) → IsNew trace client number → Contains trace (Returned c n reply) → client ≡ c → number ≡ n → ⊥
returned_not_new trace client number c n reply new has p q = not_new trace client number (Returned c n reply) new has (same_call c n client number (sym p) (sym q))

-- ---- one more call

module _ (trace : List Moment) (entries : List Entry) (e : Entry) (placing : IsPlacing trace entries) (new : IsNew trace e.client e.number) where
  -- no entry is the new call
  other : (a : Entry) → Contains entries a → e.client ≡ a.client → e.number ≡ a.number → ⊥
  other a has p q = invoked_not_new trace e.client e.number a.client a.number a.call new (placing.called a has) p q

  called : (a : Entry) → Contains (entries ++ e ∷ []) a → Contains (trace ++ two e) (Invoked a.client a.number a.call)
  called a has = elim (Contains-push_cases entries e a has) [
    | inl old ↦ Contains-append_left trace (two e) _ (placing.called a old)
    | inr is ↦ subst (λ (x : Entry). Contains (trace ++ two e) (Invoked x.client x.number x.call)) is (Contains-append_right trace (two e) _ (two-invoked e))
  ]

  marked : (a : Entry) → Contains (entries ++ e ∷ []) a → IsTrue a.returned → Contains (trace ++ two e) (Returned a.client a.number a.reply)
  marked a has mark = elim (Contains-push_cases entries e a has) [
    | inl old ↦ Contains-append_left trace (two e) _ (placing.marked a old mark)
    | inr is ↦ subst (λ (x : Entry). Contains (trace ++ two e) (Returned x.client x.number x.reply)) is (Contains-append_right trace (two e) _ (two-returned e))
  ]

  replied : IsTrue e.returned → (a : Entry) → Contains (entries ++ e ∷ []) a → (reply : Reply) → Contains (trace ++ two e) (Returned a.client a.number reply) → IsTrue a.returned × (a.reply ≡ reply)
  replied mark a has reply moment = elim (Contains-push_cases entries e a has) [
    | inl old ↦ elim (Contains-append_cases trace (two e) _ moment) [
      | inl before ↦ placing.replied a old reply before
      | inr now ↦ let is = returned_of_two e a.client a.number reply now in absurd (other a old is.0 is.1)
    ]
    | inr is ↦ elim (Contains-append_cases trace (two e) _ moment) [
      | inl before ↦ absurd (returned_not_new trace e.client e.number a.client a.number reply new before (ap (λ (x : Entry). x.client) is) (ap (λ (x : Entry). x.number) is))
      | inr now ↦ (subst (λ (x : Entry). IsTrue x.returned) is mark, sym (ap (λ (x : Entry). x.reply) is) ∙ (returned_of_two e a.client a.number reply now).2)
    ]
  ]

  placed : (client number : ℕ) (reply : Reply) → Contains (trace ++ two e) (Returned client number reply) → (a : Entry) × Contains (entries ++ e ∷ []) a × (a.client ≡ client) × (a.number ≡ number)
  placed client number reply moment = elim (Contains-append_cases trace (two e) _ moment) [
    | inl before ↦ let there = placing.placed client number reply before in (there.0, Contains-append_left entries (e ∷ []) there.0 there.1, there.2, there.3)
    | inr now ↦ let is = returned_of_two e client number reply now in (e, Contains-push entries e, is.0, is.1)
  ]

  once : (i j : ℕ) (a b : Entry) → slice_get (entries ++ e ∷ []) i ≡ Some a → slice_get (entries ++ e ∷ []) j ≡ Some b → a.client ≡ b.client → a.number ≡ b.number → i ≡ j
  once i j a b at_i at_j p q = elim (get-push entries e i a at_i) [
    | inl old_a ↦ elim (get-push entries e j b at_j) [
      | inl old_b ↦ placing.once i j a b old_a old_b p q
      | inr is_b ↦ absurd (other a (contained entries i a old_a) (ap (λ (x : Entry). x.client) is_b.1 ∙ sym p) (ap (λ (x : Entry). x.number) is_b.1 ∙ sym q))
    ]
    | inr is_a ↦ elim (get-push entries e j b at_j) [
      | inl old_b ↦ absurd (other b (contained entries j b old_b) (ap (λ (x : Entry). x.client) is_a.1 ∙ p) (ap (λ (x : Entry). x.number) is_a.1 ∙ q))
      | inr is_b ↦ is_a.0 ∙ sym is_b.0
    ]
  ]

  placing_more : IsTrue e.returned → IsPlacing (trace ++ two e) (entries ++ e ∷ [])
  placing_more mark = record { called = called; marked = marked; replied = replied mark; placed = placed; once = once }

  -- what is ordered among the entries was so before
  before_in_trace : (a b : Entry) → Contains entries a → Contains entries b → ReturnsBefore (trace ++ two e) a b → ReturnsBefore trace a b
  before_in_trace a b has_a has_b h = elim (get-append trace (two e) h.returned_at _ h.returned) [
    | inl returned ↦ elim (get-append trace (two e) h.called_at _ h.called) [
      | inl called' ↦ record { reply = h.reply; call = h.call; returned_at = h.returned_at; called_at = h.called_at; returned = returned; called = called'; earlier = h.earlier }
      | inr at ↦ let is = invoked_in_two e at.0 b.client b.number h.call at.2 in absurd (other b has_b is.0 is.1)
    ]
    | inr at ↦ let is = returned_in_two e at.0 a.client a.number h.reply at.2 in absurd (other a has_a is.1 is.2)
  ]

  -- nothing is called after the last moment
  nothing_after : (a b : Entry) → e.client ≡ a.client → e.number ≡ a.number → ReturnsBefore (trace ++ two e) a b → ⊥
  nothing_after a b p q h = elim (get-append trace (two e) h.returned_at _ h.returned) [
    | inl old ↦ returned_not_new trace e.client e.number a.client a.number h.reply new (contained trace h.returned_at _ old) p q
    | inr at ↦
        let is = returned_in_two e at.0 a.client a.number h.reply at.2 in
        let within = slice_get_within (trace ++ two e) h.called_at _ h.called in
        let size : length (trace ++ two e) ≡ length trace + 2 = length-append trace (two e) in
        omega (arith, h.earlier, at.1, is.0, within, size)
  ]

  order_more : KeepsOrder trace entries → KeepsOrder (trace ++ two e) (entries ++ e ∷ [])
  order_more order i j a b at_i at_j h = elim (get-push entries e i a at_i) [
    | inl old_a ↦ elim (get-push entries e j b at_j) [
      | inl old_b ↦ order i j a b old_a old_b (before_in_trace a b (contained entries i a old_a) (contained entries j b old_b) h)
      | inr is_b ↦ let within = slice_get_within entries i a old_a in omega (arith, within, is_b.0)
    ]
    | inr is_a ↦ absurd (nothing_after a b (ap (λ (x : Entry). x.client) is_a.1) (ap (λ (x : Entry). x.number) is_a.1) h)
  ]

-- ---- what other crates cite

-- nothing is a linearization of nothing
pub IsLinear-nothing : IsLinear [] []
IsLinear-nothing = record {
  placing = record {
    called = λ e has. absurd (omega (arith, has.1));
    marked = λ e has mark. absurd (omega (arith, has.1));
    replied = λ e has reply moment. absurd (omega (arith, has.1));
    placed = λ client number reply moment. absurd (omega (arith, moment.1));
    once = λ i j a b at_i at_j p q. cc;
  };
  legal = refl;
  order = λ i j a b at_i at_j h. cc;
}

-- a linearization goes on with a new call that returns at once with the reply of the map that the entries left
pub IsLinear-next : (trace : List Moment) (entries : List Entry) (e : Entry) → IsLinear trace entries → IsNew trace e.client e.number → IsTrue e.returned → may_reply (map_after empty_map entries) e.call e.reply ≡ true → IsLinear (trace ++ Invoked e.client e.number e.call ∷ Returned e.client e.number e.reply ∷ []) (entries ++ e ∷ [])
IsLinear-next trace entries e linear new mark fits = record {
  placing = placing_more trace entries e linear.placing new mark;
  legal = is_legal_from-push empty_map entries e linear.legal fits;
  order = order_more trace entries e linear.placing new linear.order;
}

-- ---- a run of one client

-- no call of the client has a larger number
abbrev IsUpTo : ℕ → ℕ → List Moment → Type 0
IsUpTo client number trace = (n : ℕ) → number < n → IsNew trace client n

later : (client number : ℕ) (trace : List Moment) (e : Entry) → IsUpTo client number trace → e.number ≡ number + 1 → IsUpTo client (number + 1) (trace ++ two e)
later client number trace e upto at n above =
    let apart : (e.number == n) ≡ false = grind (arith, nat_tests) in
    let no : ((e.client == client) && (e.number == n)) ≡ false = ap (λ b. (e.client == client) && b) apart ∙ and-false (e.client == client) in
    All-append (λ m. is_of client n m ≡ false) trace (two e) (upto n (omega arith))
    (All-cons (λ m. is_of client n m ≡ false) (Invoked e.client e.number e.call) (Returned e.client e.number e.reply ∷ []) no
    (All-cons (λ m. is_of client n m ≡ false) (Returned e.client e.number e.reply) [] no (All-nil (λ m. is_of client n m ≡ false))))

-- a linearization goes on with calls that one client makes one after the other
pub IsLinear-extend : (client number : ℕ) (trace : List Moment) (entries more : List Entry) → IsLinear trace entries → ((n : ℕ) → number < n → IsNew trace client n) → IsSequence client number more → is_legal_from (map_after empty_map entries) more ≡ true → IsLinear (trace ++ moments_of more) (entries ++ more)
IsLinear-extend client number trace entries [] linear upto sequence legal =
    subst (λ t. IsLinear t (entries ++ [])) (sym (append-nil trace)) (subst (IsLinear trace) (sym (append-nil entries)) linear)
IsLinear-extend client number trace entries (e ∷ more) linear upto sequence legal =
    let new : IsNew trace e.client e.number = rw (sequence.0, sequence.1) (upto (number + 1) (omega arith)) in
    let fits = first_so (may_reply (map_after empty_map entries) e.call e.reply) _ legal in
    let next = IsLinear-next trace entries e linear new sequence.2 fits in
    let rest : is_legal_from (map_after empty_map (entries ++ e ∷ [])) more ≡ true =
    ap (λ map. is_legal_from map more) (map_after-append empty_map entries (e ∷ [])) ∙ second_so (may_reply (map_after empty_map entries) e.call e.reply) _ legal in
    let whole = IsLinear-extend client (number + 1) (trace ++ two e) (entries ++ e ∷ []) more next (later client number trace e upto sequence.1) sequence.3 rest in
    subst (λ t. IsLinear t (entries ++ e ∷ more)) (append_assoc trace (two e) (moments_of more))
    (subst (IsLinear ((trace ++ two e) ++ moments_of more)) (append_assoc entries (e ∷ []) more) whole)

-- the calls that one client makes one after the other, with the replies of a map, are a linearization of their moments
pub IsLinear-sequential : (client : ℕ) (entries : List Entry) → IsSequence client 0 entries → IsTrue (is_legal entries) → IsLinear (moments_of entries) entries
IsLinear-sequential client entries sequence legal = IsLinear-extend client 0 [] [] entries IsLinear-nothing (λ n above. All-nil (λ m. is_of client n m ≡ false)) sequence legal
