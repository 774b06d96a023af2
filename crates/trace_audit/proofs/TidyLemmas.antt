-- A trace of clients that make one call after the other stays so with one more moment that fits.
use Rattle.std.proofs.Common.{◌≡◌, ℕ, zero, suc, ◌+◌, ◌<◌, ◌≤◌, ◌⊎◌, inl, inr, List, [], ◌∷◌, ◌++◌, length, Some, refl, sym, ◌∙◌, ap, ap₂, subst, take, get_or, arith}
use Rattle.std.specs.Prelude.{slice_get}
use Rattle.std.proofs.lemmas.Bool.{cases_lt, cases_eq}
use Rattle.std.proofs.lemmas.Option.{slice_get_within}
use Rattle.map_model.specs.declared.calls.Call.{Call}
use Rattle.map_model.specs.declared.calls.Reply.{Reply}
use Rattle.map_model.specs.Trace.{Moment, Invoked, Returned, Stopped}
use Rattle.map_model.proofs.LinearLemmas.{get-push}
use Rattle.trace_audit.specs.Fits.{IsCalled, HasReturned, IsStopped, IsOpen, MayCall, MayReturn}
use Rattle.trace_audit.specs.Traced.{IsTidy}
use Rattle.trace_audit.proofs.PlaceLemmas.{get-left, get-last, find_or_none}
use Rattle.std.proofs.lemmas.List.{append-nil, take_all}
use Rattle.std.proofs.lemmas.Option.{slice_get-get_or, get_or_from_slice_get}
use Rattle.script_text.specs.declared.out_lines.OutLine.{OutLine}
use Rattle.script_text.specs.declared.out_lines.OutLine.TheVariants as line
use Rattle.trace_audit.specs.Fits.{FitsAfter, Fits}
use Rattle.trace_audit.specs.Told.{call_of, moments_of, reply_of, trace_of}
use Rattle.trace_audit.proofs.ReadingLemmas.{trace_of-more}

-- ---- what was so before is so after one more moment

pub called-left : (trace more : List Moment) (c n : ℕ) → IsCalled trace c n → IsCalled (trace ++ more) c n
called-left trace more c n h = (h.0, h.1, get-left trace more h.0 (Invoked c n h.1) h.2)

pub returned-left : (trace more : List Moment) (c n : ℕ) → HasReturned trace c n → HasReturned (trace ++ more) c n
returned-left trace more c n h = (h.0, h.1, get-left trace more h.0 (Returned c n h.1) h.2)

-- ---- a call was made or not, and returned or not

is_call : (c n : ℕ) (m : Moment) → ((call : Call) × (m ≡ Invoked c n call)) ⊎ (((call : Call) × (m ≡ Invoked c n call)) → ⊥)
is_call c n (Invoked client number call) = elim (cases_eq client c) [
  | inl p ↦ elim (cases_eq number n) [ inl q ↦ inl (call, ap₂ (λ x y. Invoked x y call) p q) | inr not ↦ inr (λ h. not (let e = h.1 in cc)) ]
  | inr not ↦ inr (λ h. not (let e = h.1 in cc))
]
is_call c n (Returned client number reply) = inr (λ h. let e = h.1 in cc)
is_call c n (Stopped client) = inr (λ h. let e = h.1 in cc)

is_return : (c n : ℕ) (m : Moment) → ((reply : Reply) × (m ≡ Returned c n reply)) ⊎ (((reply : Reply) × (m ≡ Returned c n reply)) → ⊥)
is_return c n (Returned client number reply) = elim (cases_eq client c) [
  | inl p ↦ elim (cases_eq number n) [ inl q ↦ inl (reply, ap₂ (λ x y. Returned x y reply) p q) | inr not ↦ inr (λ h. not (let e = h.1 in cc)) ]
  | inr not ↦ inr (λ h. not (let e = h.1 in cc))
]
is_return c n (Invoked client number call) = inr (λ h. let e = h.1 in cc)
is_return c n (Stopped client) = inr (λ h. let e = h.1 in cc)

pub called_or_not : (trace : List Moment) (c n : ℕ) → IsCalled trace c n ⊎ (IsCalled trace c n → ⊥)
called_or_not trace c n = elim (find_or_none (λ (m : Moment). (call : Call) × (m ≡ Invoked c n call)) (is_call c n) trace) [
  | inl found ↦ inl (found.0, found.3.0, found.2 ∙ ap Some found.3.1)
  | inr none ↦ inr (λ h. none h.0 _ h.2 (h.1, refl))
]

pub returned_or_not : (trace : List Moment) (c n : ℕ) → HasReturned trace c n ⊎ (HasReturned trace c n → ⊥)
returned_or_not trace c n = elim (find_or_none (λ (m : Moment). (reply : Reply) × (m ≡ Returned c n reply)) (is_return c n) trace) [
  | inl found ↦ inl (found.0, found.3.0, found.2 ∙ ap Some found.3.1)
  | inr none ↦ inr (λ h. none h.0 _ h.2 (h.1, refl))
]

-- where the client has no open call, each of its calls returned
pub all_returned : (trace : List Moment) (client : ℕ) → ((n : ℕ) → IsOpen trace client n → ⊥) → (n : ℕ) → IsCalled trace client n → HasReturned trace client n
all_returned trace client none n h = elim (returned_or_not trace client n) [ inl a ↦ a | inr b ↦ absurd (none n (h, b)) ]

-- ---- a moment that is no call adds no call

module _ (trace : List Moment) (x : Moment) (other : (c n : ℕ) (call : Call) → x ≡ Invoked c n call → ⊥) where
  pub old_call : (c n i : ℕ) (call : Call) → slice_get (trace ++ x ∷ []) i ≡ Some (Invoked c n call) → slice_get trace i ≡ Some (Invoked c n call)
  old_call c n i call h = elim (get-push trace x i (Invoked c n call) h) [ inl a ↦ a | inr b ↦ absurd (other c n call b.1) ]

  pub old_called : (c n : ℕ) → IsCalled (trace ++ x ∷ []) c n → IsCalled trace c n
  old_called c n h = (h.0, h.1, old_call c n h.0 h.1 h.2)

module _ (trace : List Moment) (x : Moment) (other : (c n : ℕ) (reply : Reply) → x ≡ Returned c n reply → ⊥) where
  pub old_reply : (c n i : ℕ) (reply : Reply) → slice_get (trace ++ x ∷ []) i ≡ Some (Returned c n reply) → slice_get trace i ≡ Some (Returned c n reply)
  old_reply c n i reply h = elim (get-push trace x i (Returned c n reply) h) [ inl a ↦ a | inr b ↦ absurd (other c n reply b.1) ]

  pub old_returned : (c n : ℕ) → HasReturned (trace ++ x ∷ []) c n → HasReturned trace c n
  old_returned c n h = (h.0, h.1, old_reply c n h.0 h.1 h.2)

module _ (trace : List Moment) (x : Moment) (other : (c : ℕ) → x ≡ Stopped c → ⊥) where
  pub old_stopped : (c : ℕ) → IsStopped (trace ++ x ∷ []) c → IsStopped trace c
  old_stopped c h = elim (get-push trace x h.0 (Stopped c) h.1) [ inl a ↦ (h.0, a) | inr b ↦ absurd (other c b.1) ]

-- ---- a call

module _ (trace : List Moment) (tidy : IsTidy trace) (client number : ℕ) (call : Call) where
  abbrev New : Moment
  New = Invoked client number call

  same_name : (c n : ℕ) (a : Call) → New ≡ Invoked c n a → (client ≡ c) × (number ≡ n)
  same_name c n a h = (cc, cc)

  module _ (may : MayCall trace client number) where
    -- the client's calls so far have smaller numbers
    pub numbers_below : (n : ℕ) → IsCalled trace client n → n < number
    numbers_below n h = elim may.2 [
      | inl latest ↦
          let before : h.0 ≤ latest.1.0 = latest.1.3 h.0 n h.1 h.2 in
          let rising : latest.0 < n → latest.1.0 < h.0 = tidy.rising client latest.0 n latest.1.0 h.0 latest.1.1 h.1 latest.1.2 h.2 in
          let number_is : number ≡ latest.0 + 1 = latest.2 in
          elim (cases_lt latest.0 n) [
            | inl above ↦ let late = rising above in absurd (omega (arith, before, late))
            | inr under ↦ omega (arith, under, number_is)
          ]
      | inr none ↦ absurd (none.0 n h)
    ]

    -- and are all the smaller numbers
    below_called : (n : ℕ) → 0 < n → n < number → IsCalled trace client n
    below_called n above below = elim may.2 [
      | inl latest ↦ tidy.dense client latest.0 n (latest.1.0, latest.1.1, latest.1.2) above (let number_is : number ≡ latest.0 + 1 = latest.2 in omega (arith, number_is))
      | inr none ↦ let number_is : number ≡ 1 = none.1 in absurd (omega (arith, number_is))
    ]

    number_positive : 0 < number
    number_positive = elim may.2 [
      | inl latest ↦ let number_is : number ≡ latest.0 + 1 = latest.2 in omega (arith, number_is)
      | inr none ↦ let number_is : number ≡ 1 = none.1 in omega (arith, number_is)
    ]

    no_reply : (c n : ℕ) (reply : Reply) → New ≡ Returned c n reply → ⊥
    no_reply c n reply h = cc

    next_positive : (c n : ℕ) → IsCalled (trace ++ New ∷ []) c n → 0 < n
    next_positive c n h = elim (get-push trace New h.0 (Invoked c n h.1) h.2) [
      | inl a ↦ tidy.positive c n (h.0, h.1, a)
      | inr b ↦ let is : number ≡ n = (same_name c n h.1 b.1).1 in omega (arith, is, number_positive)
    ]

    next_dense : (c n m : ℕ) → IsCalled (trace ++ New ∷ []) c n → 0 < m → m ≤ n → IsCalled (trace ++ New ∷ []) c m
    next_dense c n m h above below = elim (get-push trace New h.0 (Invoked c n h.1) h.2) [
      | inl a ↦ called-left trace (New ∷ []) c m (tidy.dense c n m (h.0, h.1, a) above below)
      | inr b ↦
          let name = same_name c n h.1 b.1 in
          elim (cases_lt m number) [ inl less ↦ at_new name.0 (inl less) | inr more ↦ at_new name.0 (inr (omega (arith, more, below, name.1))) ]
    ]
      where
        here : client ≡ c → m ≡ number → IsCalled (trace ++ New ∷ []) c m
        here p q = rw (sym p, q) (length trace, call, get-last trace New)

        at_new : client ≡ c → (m < number) ⊎ (m ≡ number) → IsCalled (trace ++ New ∷ []) c m
        at_new p (inl less) = rw (sym p) (called-left trace (New ∷ []) client m (below_called m above less))
        at_new p (inr same) = here p same

    next_answered : (c n m : ℕ) → IsCalled (trace ++ New ∷ []) c n → IsCalled (trace ++ New ∷ []) c m → m < n → HasReturned (trace ++ New ∷ []) c m
    next_answered c n m h k below = elim (get-push trace New k.0 (Invoked c m k.1) k.2) [
      | inl old ↦ elim (get-push trace New h.0 (Invoked c n h.1) h.2) [
        | inl older ↦ returned-left trace (New ∷ []) c m (tidy.answered c n m (h.0, h.1, older) (k.0, k.1, old) below)
        | inr new ↦
            let p : c ≡ client = sym (same_name c n h.1 new.1).0 in
            returned-left trace (New ∷ []) c m (rw p (all_returned trace client may.0 m (rw (sym p) (k.0, k.1, old))))
      ]
      | inr now ↦
          let name = same_name c m k.1 now.1 in
          absurd (elim (get-push trace New h.0 (Invoked c n h.1) h.2) [
            | inl older ↦ let less = numbers_below n (rw name.0 (h.0, h.1, older)) in omega (arith, less, name.1)
            | inr new ↦ let same = (same_name c n h.1 new.1).1 in omega (arith, same, name.1)
          ])
    ]

    next_rising : (c n m i j : ℕ) (a b : Call) → slice_get (trace ++ New ∷ []) i ≡ Some (Invoked c n a) → slice_get (trace ++ New ∷ []) j ≡ Some (Invoked c m b) → n < m → i < j
    next_rising c n m i j a b h k less = elim (get-push trace New i (Invoked c n a) h) [
      | inl old ↦ elim (get-push trace New j (Invoked c m b) k) [
        | inl older ↦ tidy.rising c n m i j a b old older less
        | inr new ↦ let within = slice_get_within trace i (Invoked c n a) old in omega (arith, within, new.0)
      ]
      | inr now ↦
          let name = same_name c n a now.1 in
          absurd (elim (get-push trace New j (Invoked c m b) k) [
            | inl older ↦ let under = numbers_below m (rw name.0 (j, b, older)) in omega (arith, under, name.1)
            | inr new ↦ let same = (same_name c m b new.1).1 in omega (arith, same, name.1)
          ])
    ]

    next_once : (c n i j : ℕ) (a b : Call) → slice_get (trace ++ New ∷ []) i ≡ Some (Invoked c n a) → slice_get (trace ++ New ∷ []) j ≡ Some (Invoked c n b) → i ≡ j
    next_once c n i j a b h k = elim (get-push trace New i (Invoked c n a) h) [
      | inl old ↦ elim (get-push trace New j (Invoked c n b) k) [
        | inl older ↦ tidy.called_once c n i j a b old older
        | inr new ↦ let name = same_name c n b new.1 in let under = numbers_below n (rw name.0 (i, a, old)) in absurd (omega (arith, under, name.1))
      ]
      | inr now ↦ elim (get-push trace New j (Invoked c n b) k) [
        | inl older ↦ let name = same_name c n a now.1 in let under = numbers_below n (rw name.0 (j, b, older)) in absurd (omega (arith, under, name.1))
        | inr new ↦ now.0 ∙ sym new.0
      ]
    ]

    pub tidy-called : IsTidy (trace ++ New ∷ [])
    tidy-called = record {
      positive = next_positive;
      dense = next_dense;
      answered = next_answered;
      rising = next_rising;
      called_once = next_once;
      returned_once = λ c n i j a b h k. tidy.returned_once c n i j a b (old_reply trace New no_reply c n i a h) (old_reply trace New no_reply c n j b k);
      called_first = λ c n j a h. let old = tidy.called_first c n j a (old_reply trace New no_reply c n j a h) in (old.0, old.1, get-left trace (New ∷ []) old.0 (Invoked c n old.1) old.2, old.3);
    }

-- ---- a return

module _ (trace : List Moment) (tidy : IsTidy trace) (x : Moment) (other : (c n : ℕ) (call : Call) → x ≡ Invoked c n call → ⊥) where
  abbrev Next : List Moment
  Next = trace ++ x ∷ []

  -- no call is new, so that only what is said of replies is left
  tidy-replies :
      ((c n i j : ℕ) (a b : Reply) → slice_get Next i ≡ Some (Returned c n a) → slice_get Next j ≡ Some (Returned c n b) → i ≡ j)
      → ((c n j : ℕ) (a : Reply) → slice_get Next j ≡ Some (Returned c n a) → (i : ℕ) × (call : Call) × (slice_get Next i ≡ Some (Invoked c n call)) × (i < j))
      → IsTidy Next
  tidy-replies once first = record {
    positive = λ c n h. tidy.positive c n (old_called trace x other c n h);
    dense = λ c n m h above below. called-left trace (x ∷ []) c m (tidy.dense c n m (old_called trace x other c n h) above below);
    answered = λ c n m h k below. returned-left trace (x ∷ []) c m (tidy.answered c n m (old_called trace x other c n h) (old_called trace x other c m k) below);
    rising = λ c n m i j a b h k less. tidy.rising c n m i j a b (old_call trace x other c n i a h) (old_call trace x other c m j b k) less;
    called_once = λ c n i j a b h k. tidy.called_once c n i j a b (old_call trace x other c n i a h) (old_call trace x other c n j b k);
    returned_once = once;
    called_first = first;
  }

module _ (trace : List Moment) (tidy : IsTidy trace) (client number : ℕ) (reply : Reply) (may : MayReturn trace client number) where
  abbrev Reply_now : Moment
  Reply_now = Returned client number reply

  no_call : (c n : ℕ) (call : Call) → Reply_now ≡ Invoked c n call → ⊥
  no_call c n call h = cc

  same_call : (c n : ℕ) (a : Reply) → Reply_now ≡ Returned c n a → (client ≡ c) × (number ≡ n)
  same_call c n a h = (cc, cc)

  -- the call has not returned before
  not_before : (c n i : ℕ) (a : Reply) → slice_get trace i ≡ Some (Returned c n a) → client ≡ c → number ≡ n → ⊥
  not_before c n i a h p q = may.0.1 (rw (p, q) (i, a, h))

  pub tidy-returned : IsTidy (trace ++ Reply_now ∷ [])
  tidy-returned = tidy-replies trace tidy Reply_now no_call
      (λ c n i j a b h k. elim (get-push trace Reply_now i (Returned c n a) h) [
        | inl old ↦ elim (get-push trace Reply_now j (Returned c n b) k) [
          | inl older ↦ tidy.returned_once c n i j a b old older
          | inr new ↦ let name = same_call c n b new.1 in absurd (not_before c n i a old name.0 name.1)
        ]
        | inr now ↦ elim (get-push trace Reply_now j (Returned c n b) k) [
          | inl older ↦ let name = same_call c n a now.1 in absurd (not_before c n j b older name.0 name.1)
          | inr new ↦ now.0 ∙ sym new.0
        ]
      ])
      (λ c n j a h. elim (get-push trace Reply_now j (Returned c n a) h) [
        | inl old ↦ let first = tidy.called_first c n j a old in (first.0, first.1, get-left trace (Reply_now ∷ []) first.0 (Invoked c n first.1) first.2, first.3)
        | inr now ↦
            let name = same_call c n a now.1 in
            let there : IsCalled trace c n = rw (sym name.0, sym name.1) may.0.0 in
            let within = slice_get_within trace there.0 (Invoked c n there.1) there.2 in
            (there.0, there.1, get-left trace (Reply_now ∷ []) there.0 (Invoked c n there.1) there.2, omega (arith, within, now.0))
      ])

-- ---- a stop

module _ (trace : List Moment) (tidy : IsTidy trace) (client : ℕ) where
  stop_no_call : (c n : ℕ) (call : Call) → Stopped client ≡ Invoked c n call → ⊥
  stop_no_call c n call h = cc

  stop_no_reply : (c n : ℕ) (reply : Reply) → Stopped client ≡ Returned c n reply → ⊥
  stop_no_reply c n reply h = cc

  pub tidy-stopped : IsTidy (trace ++ Stopped client ∷ [])
  tidy-stopped = tidy-replies trace tidy (Stopped client) stop_no_call
      (λ c n i j a b h k. tidy.returned_once c n i j a b (old_reply trace (Stopped client) stop_no_reply c n i a h) (old_reply trace (Stopped client) stop_no_reply c n j b k))
      (λ c n j a h. let old = tidy.called_first c n j a (old_reply trace (Stopped client) stop_no_reply c n j a h) in (old.0, old.1, get-left trace (Stopped client ∷ []) old.0 (Invoked c n old.1) old.2, old.3))

-- ---- the trace of lines that fit

tidy-line : (trace : List Moment) → IsTidy trace → (out : OutLine) → FitsAfter trace out → IsTidy (trace ++ moments_of out)
tidy-line trace tidy (line.Called client number call) may = tidy-called trace tidy client number (call_of call) may
tidy-line trace tidy (line.Ended client number reply) may = tidy-returned trace tidy client number (reply_of reply) may
tidy-line trace tidy (line.Stopped client) may = tidy-stopped trace tidy client
tidy-line trace tidy out may = subst IsTidy (sym (append-nil trace)) tidy

tidy-nothing : IsTidy []
tidy-nothing = record {
  positive = λ c n h. let e = h.2 in cc;
  dense = λ c n m h above below. let e = h.2 in cc;
  answered = λ c n m h k less. let e = h.2 in cc;
  rising = λ c n m i j a b h k less. cc;
  called_once = λ c n i j a b h k. cc;
  returned_once = λ c n i j a b h k. cc;
  called_first = λ c n j a h. cc;
}

tidy-so_far : (lines : List OutLine) → Fits lines → (i : ℕ) → i ≤ length lines → IsTidy (trace_of (take i lines))
tidy-so_far lines fits zero within = tidy-nothing
tidy-so_far [] fits (suc i) within = absurd (omega arith)
tidy-so_far (x ∷ lines) fits (suc i) within =
    let out = get_or (x ∷ lines) i x in
    let less : i < length (x ∷ lines) = omega arith in
    let there = slice_get-get_or (x ∷ lines) i x less in
    let more = trace_of-more (x ∷ lines) i out less (sym (get_or_from_slice_get (x ∷ lines) i out out there)) in
    let step : suc i ≡ i + 1 = omega arith in
    subst IsTidy (sym (ap (λ k. trace_of (take k (x ∷ lines))) step ∙ more)) (tidy-line (trace_of (take i (x ∷ lines))) (tidy-so_far (x ∷ lines) fits i (omega arith)) out (fits i out there))

pub tidy-fits : (lines : List OutLine) → Fits lines → IsTidy (trace_of lines)
tidy-fits lines fits = subst (λ l. IsTidy (trace_of l)) (take_all (length lines) lines (omega arith)) (tidy-so_far lines fits (length lines) (omega arith))
