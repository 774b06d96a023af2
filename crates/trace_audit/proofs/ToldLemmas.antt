-- The table of a trace goes on with one more moment that fits.
use Rattle.std.proofs.Common.{◌≡◌, ℕ, ◌+◌, ◌-◌, ◌<◌, ◌≤◌, ◌⊎◌, inl, inr, Bool, true, false, ◌&&◌, ◌==◌, if◌then◌else◌, List, [], ◌∷◌, ◌++◌, length, Option, Some, None, refl, sym, ◌∙◌, ap, arith, length-append}
use Rattle.std.specs.Prelude.{slice_get, MatchOption, MatchBool}
use Rattle.std.specs.BTreeSet as set
use Rattle.std.specs.Ordering.{nat_cmp}
use Rattle.std.proofs.lemmas.Bool.{cases_lt, cases_eq}
use Rattle.std.proofs.lemmas.Bool.Decides.{nat_tests}
use Rattle.map_model.specs.declared.calls.Call.{Call}
use Rattle.map_model.specs.declared.calls.Reply.{Reply}
use Rattle.map_model.specs.Trace.{Moment, Invoked, Returned, Stopped}
use Rattle.map_model.proofs.LinearLemmas.{get-push}
use Rattle.trace_audit.specs.declared.calls.Calls.{Calls}
use Rattle.trace_audit.specs.declared.tables.Row.{Row}
use Rattle.trace_audit.specs.Fits.{IsCalled, HasReturned, IsStopped, IsOpen, MayCall, MayReturn}
use Rattle.trace_audit.specs.Tables.{call_row}
use Rattle.trace_audit.specs.Told.{call_of, reply_of}
use Rattle.trace_audit.specs.Traced.{IsRow, IsTold}
use Rattle.trace_audit.proofs.NameLemmas.{same_or_other}
use Rattle.trace_audit.proofs.PlaceLemmas.{get-left, get-last}
use Rattle.trace_audit.proofs.TidyLemmas.{old_called, old_returned, old_stopped, numbers_below, tidy-called, tidy-returned, tidy-stopped}

-- ---- what is said of an option or a test

pub match_cases : {X : Type 0} (o : Option X) (P : Type 0) (Q : X → Type 0) → MatchOption o P Q → ((o ≡ None) × P) ⊎ ((x : X) × (o ≡ Some x) × Q x)
match_cases None P Q h = inl (refl, h)
match_cases (Some x) P Q h = inr (x, refl, h)

pub match_map : {X : Type 0} (o : Option X) (P P' : Type 0) (Q Q' : X → Type 0) → (P → P') → ((x : X) → Q x → Q' x) → MatchOption o P Q → MatchOption o P' Q'
match_map None P P' Q Q' f g h = f h
match_map (Some x) P P' Q Q' f g h = g x h

pub match_same : {X : Type 0} (o o' : Option X) (P : Type 0) (Q : X → Type 0) → o ≡ o' → MatchOption o' P Q → MatchOption o P Q
match_same o o' P Q e h = rw e h

pub bool_map : (b : Bool) (P P' Q Q' : Type 0) → (P → P') → (Q → Q') → MatchBool b P Q → MatchBool b P' Q'
bool_map true P P' Q Q' f g h = f h
bool_map false P P' Q Q' f g h = g h

pub bool_same : (b b' : Bool) (P Q : Type 0) → b ≡ b' → MatchBool b' P Q → MatchBool b P Q
bool_same b b' P Q e h = rw e h

-- ---- rows and stops that stay

row-left : (trace more : List Moment) (c n : ℕ) (row : Row) → (HasReturned (trace ++ more) c n → HasReturned trace c n) → IsRow trace c n row → IsRow (trace ++ more) c n row
row-left trace more c n row old is = record {
  called = get-left trace more row.invoked _ is.called;
  replied = match_map row.returned _ _ _ _ (λ not h. not (old h)) (λ r at. get-left trace more r.0 _ at) is.replied;
}

stopped-left : (trace more : List Moment) (c : ℕ) → IsStopped trace c → IsStopped (trace ++ more) c
stopped-left trace more c h = (h.0, get-left trace more h.0 (Stopped c) h.1)

module _ (trace : List Moment) (calls : Calls) (told : IsTold trace calls) where
  -- a call that was not made has not returned
  pub not_returned : (c n : ℕ) → (IsCalled trace c n → ⊥) → HasReturned trace c n → ⊥
  not_returned c n not r = let first = told.tidy.called_first c n r.0 r.1 r.2 in not (first.0, first.1, first.2)

  -- the moments of one more
  more_moments : (calls' : Calls) (x : Moment) → calls'.moments ≡ calls.moments + 1 → calls'.moments ≡ length (trace ++ x ∷ [])
  more_moments calls' x e = let size : length (trace ++ x ∷ []) ≡ length trace + 1 = length-append trace (x ∷ []) in omega (arith, size, e, told.moments)

  same_stops : (calls' : Calls) (x : Moment) → ((c : ℕ) → x ≡ Stopped c → ⊥) → calls'.stopped ≡ calls.stopped → (c : ℕ) → MatchBool (set.contains nat_cmp calls'.stopped c) (IsStopped (trace ++ x ∷ []) c) (IsStopped (trace ++ x ∷ []) c → ⊥)
  same_stops calls' x other e c = bool_same _ _ _ _ (ap (λ s. set.contains nat_cmp s c) e)
      (bool_map (set.contains nat_cmp calls.stopped c) _ _ _ _ (stopped-left trace (x ∷ []) c) (λ not h. not (old_stopped trace x other c h)) (told.stopped c))

  module _ (calls' : Calls) (client number : ℕ) (row : Row) (entered : (c n : ℕ) → call_row calls'.table c n ≡ (if (c == client) && (n == number) then Some row else call_row calls.table c n)) where
    entered_same : (c n : ℕ) → ((c == client) && (n == number)) ≡ true → call_row calls'.table c n ≡ Some row
    entered_same c n e = entered c n ∙ ap (λ b. if b then Some row else call_row calls.table c n) e

    entered_other : (c n : ℕ) → ((c == client) && (n == number)) ≡ false → call_row calls'.table c n ≡ call_row calls.table c n
    entered_other c n e = entered c n ∙ ap (λ b. if b then Some row else call_row calls.table c n) e

  -- ---- a call

  module _ (calls' : Calls) (client number : ℕ) (call : Call) (row : Row) (may : MayCall trace client number) where
    abbrev Call_now : Moment
    Call_now = Invoked client number call

    call_no_reply : (c n : ℕ) (reply : Reply) → Call_now ≡ Returned c n reply → ⊥
    call_no_reply c n reply h = cc

    call_no_stop : (c : ℕ) → Call_now ≡ Stopped c → ⊥
    call_no_stop c h = cc

    not_yet : IsCalled trace client number → ⊥
    not_yet h = let below = numbers_below trace told.tidy client number call may number h in omega (arith, below)

    new_row : row.invoked ≡ calls.moments → row.returned ≡ None → call_of row.call.now ≡ call → IsRow (trace ++ Call_now ∷ []) client number row
    new_row at pending is = record {
      called = rw (at, told.moments, is) (get-last trace Call_now);
      replied = match_same row.returned None _ _ pending (λ h. let old = old_returned trace Call_now call_no_reply client number h in let first = told.tidy.called_first client number old.0 old.1 old.2 in not_yet (first.0, first.1, first.2));
    }

    not_called : (c n : ℕ) → (c ≡ client → n ≡ number → ⊥) → (IsCalled trace c n → ⊥) → IsCalled (trace ++ Call_now ∷ []) c n → ⊥
    not_called c n apart not h = elim (get-push trace Call_now h.0 (Invoked c n h.1) h.2) [ inl a ↦ not (h.0, h.1, a) | inr b ↦ apart (cc) (cc) ]

    pub called_step : row.invoked ≡ calls.moments → row.returned ≡ None → call_of row.call.now ≡ call
        → ((c n : ℕ) → call_row calls'.table c n ≡ (if (c == client) && (n == number) then Some row else call_row calls.table c n))
        → calls'.stopped ≡ calls.stopped → calls'.moments ≡ calls.moments + 1 → IsTold (trace ++ Invoked client number call ∷ []) calls'
    called_step at pending is entered stops moments = record {
      moments = more_moments calls' Call_now moments;
      stopped = same_stops calls' Call_now call_no_stop stops;
      rows = λ c n. elim (same_or_other client number c n) [
        | inl same ↦ match_same (call_row calls'.table c n) (Some row) _ _ (entered_same calls' client number row entered c n same.2) (rw (same.0, same.1) (new_row at pending is))
        | inr other ↦ match_same (call_row calls'.table c n) (call_row calls.table c n) _ _ (entered_other calls' client number row entered c n other.1)
            (match_map (call_row calls.table c n) _ _ _ _ (not_called c n other.0) (λ old. row-left trace (Call_now ∷ []) c n old (old_returned trace Call_now call_no_reply c n)) (told.rows c n))
      ];
      tidy = tidy-called trace told.tidy client number call may;
    }

  -- ---- a return

  module _ (calls' : Calls) (client number : ℕ) (reply : Reply) (row before : Row) (may : MayReturn trace client number) where
    abbrev Reply_now : Moment
    Reply_now = Returned client number reply

    reply_no_call : (c n : ℕ) (call : Call) → Reply_now ≡ Invoked c n call → ⊥
    reply_no_call c n call h = cc

    reply_no_stop : (c : ℕ) → Reply_now ≡ Stopped c → ⊥
    reply_no_stop c h = cc

    other_reply : (c n : ℕ) → (c ≡ client → n ≡ number → ⊥) → HasReturned (trace ++ Reply_now ∷ []) c n → HasReturned trace c n
    other_reply c n apart h = elim (get-push trace Reply_now h.0 (Returned c n h.1) h.2) [ inl a ↦ (h.0, h.1, a) | inr b ↦ absurd (apart (cc) (cc)) ]

    -- the row of a call that returns now
    returned_row : (r : ℕ × _) → row.invoked ≡ before.invoked → row.call ≡ before.call → row.returned ≡ Some r → r.0 ≡ calls.moments → reply_of r.1.now ≡ reply → IsRow trace client number before → IsRow (trace ++ Reply_now ∷ []) client number row
    returned_row r at call_is is now reply_is old = record {
      called = rw (at, call_is) (get-left trace (Reply_now ∷ []) before.invoked _ old.called);
      replied = match_same row.returned (Some r) _ _ is (rw (now, told.moments, reply_is) (get-last trace Reply_now));
    }

    pub returned_step : (r : ℕ × _) → row.invoked ≡ before.invoked → row.call ≡ before.call → row.returned ≡ Some r → r.0 ≡ calls.moments → reply_of r.1.now ≡ reply → IsRow trace client number before
        → ((c n : ℕ) → call_row calls'.table c n ≡ (if (c == client) && (n == number) then Some row else call_row calls.table c n))
        → calls'.stopped ≡ calls.stopped → calls'.moments ≡ calls.moments + 1 → IsTold (trace ++ Returned client number reply ∷ []) calls'
    returned_step r at call_is is now reply_is old entered stops moments = record {
      moments = more_moments calls' Reply_now moments;
      stopped = same_stops calls' Reply_now reply_no_stop stops;
      rows = λ c n. elim (same_or_other client number c n) [
        | inl same ↦ match_same (call_row calls'.table c n) (Some row) _ _ (entered_same calls' client number row entered c n same.2) (rw (same.0, same.1) (returned_row r at call_is is now reply_is old))
        | inr other ↦ match_same (call_row calls'.table c n) (call_row calls.table c n) _ _ (entered_other calls' client number row entered c n other.1)
            (match_map (call_row calls.table c n) _ _ _ _ (λ not h. not (old_called trace Reply_now reply_no_call c n h)) (λ kept. row-left trace (Reply_now ∷ []) c n kept (other_reply c n other.0)) (told.rows c n))
      ];
      tidy = tidy-returned trace told.tidy client number reply may;
    }

  -- ---- a stop

  module _ (calls' : Calls) (client : ℕ) where
    abbrev Stop_now : Moment
    Stop_now = Stopped client

    stop_no_call : (c n : ℕ) (call : Call) → Stop_now ≡ Invoked c n call → ⊥
    stop_no_call c n call h = cc

    stop_no_reply : (c n : ℕ) (reply : Reply) → Stop_now ≡ Returned c n reply → ⊥
    stop_no_reply c n reply h = cc

    not_stopped : (c : ℕ) → (c ≡ client → ⊥) → (IsStopped trace c → ⊥) → IsStopped (trace ++ Stop_now ∷ []) c → ⊥
    not_stopped c apart not h = elim (get-push trace Stop_now h.0 (Stopped c) h.1) [ inl a ↦ not (h.0, a) | inr b ↦ apart (cc) ]

    pub stopped_step : ((c : ℕ) → set.contains nat_cmp calls'.stopped c ≡ (if c == client then true else set.contains nat_cmp calls.stopped c)) → calls'.table ≡ calls.table → calls'.moments ≡ calls.moments + 1 → IsTold (trace ++ Stopped client ∷ []) calls'
    stopped_step entered table moments = record {
      moments = more_moments calls' Stop_now moments;
      stopped = λ c. by_client c (c == client) refl;
      rows = λ c n. match_same (call_row calls'.table c n) (call_row calls.table c n) _ _ (ap (λ t. call_row t c n) table)
          (match_map (call_row calls.table c n) _ _ _ _ (λ not h. not (old_called trace Stop_now stop_no_call c n h)) (λ kept. row-left trace (Stop_now ∷ []) c n kept (old_returned trace Stop_now stop_no_reply c n)) (told.rows c n));
      tidy = tidy-stopped trace told.tidy client;
    }
      where
        by_client : (c : ℕ) (b : Bool) → (c == client) ≡ b → MatchBool (set.contains nat_cmp calls'.stopped c) (IsStopped (trace ++ Stop_now ∷ []) c) (IsStopped (trace ++ Stop_now ∷ []) c → ⊥)
        by_client c true e =
            let is : c ≡ client = grind (arith, nat_tests) in
            bool_same _ true _ _ (entered c ∙ ap (λ b. if b then true else set.contains nat_cmp calls.stopped c) e) (length trace, rw is (get-last trace Stop_now))
        by_client c false e =
            bool_same _ (set.contains nat_cmp calls.stopped c) _ _ (entered c ∙ ap (λ b. if b then true else set.contains nat_cmp calls.stopped c) e)
            (bool_map (set.contains nat_cmp calls.stopped c) _ _ _ _ (stopped-left trace (Stop_now ∷ []) c) (not_stopped c (λ same. grind (arith, nat_tests))) (told.stopped c))

  -- ---- when a client may call

  pub no_call_again : (client number : ℕ) → IsCalled trace client number → MayCall trace client number → ⊥
  no_call_again client number h may = let below = numbers_below trace told.tidy client number h.1 may number h in omega (arith, below)

  pub no_call_zero : (client : ℕ) → MayCall trace client 0 → ⊥
  no_call_zero client may = elim may.2 [ inl latest ↦ let is : 0 ≡ latest.0 + 1 = latest.2 in omega (arith, is) | inr none ↦ let is : 0 ≡ 1 = none.1 in omega (arith, is) ]

  pub no_call_gap : (client number : ℕ) → 1 < number → (HasReturned trace client (number - 1) → ⊥) → MayCall trace client number → ⊥
  no_call_gap client number above not may = elim may.2 [
    | inl latest ↦
        let is : number ≡ latest.0 + 1 = latest.2 in
        let last : number - 1 ≡ latest.0 = omega (arith, is) in
        may.0 latest.0 ((latest.1.0, latest.1.1, latest.1.2), rw last at not)
    | inr none ↦ let is : number ≡ 1 = none.1 in omega (arith, is)
  ]

  pub may_call_first : (client number : ℕ) → number ≡ 1 → (IsStopped trace client → ⊥) → (IsCalled trace client number → ⊥) → MayCall trace client number
  may_call_first client number is on not =
      let none : (n : ℕ) → IsCalled trace client n → ⊥ = λ n h. not (told.tidy.dense client n number h (omega arith) (let above = told.tidy.positive client n h in omega (arith, above, is))) in
      ((λ n pending. none n pending.0), on, inr (none, is))

  pub may_call_next : (client number : ℕ) → 1 < number → (IsStopped trace client → ⊥) → (IsCalled trace client number → ⊥) → HasReturned trace client (number - 1) → MayCall trace client number
  may_call_next client number above on not returned =
      (none_open, on, inl (number - 1, (before.0, before.1, before.2, latest), omega arith))
    where
      before : IsCalled trace client (number - 1)
      before = let first = told.tidy.called_first client (number - 1) returned.0 returned.1 returned.2 in (first.0, first.1, first.2)

      upto : (n : ℕ) → IsCalled trace client n → n < number
      upto n h = elim (cases_lt n number) [ inl a ↦ a | inr b ↦ absurd (not (told.tidy.dense client n number h (omega arith) b)) ]

      latest : (other m : ℕ) (call : Call) → slice_get trace other ≡ Some (Invoked client m call) → other ≤ before.0
      latest other m call h = elim (cases_eq m (number - 1)) [
        | inl same ↦ let once : other ≡ before.0 = told.tidy.called_once client (number - 1) other before.0 call before.1 (rw (sym same) h) before.2 in omega (arith, once)
        | inr apart ↦
            let below = upto m (other, call, h) in
            let earlier = told.tidy.rising client m (number - 1) other before.0 call before.1 h before.2 (omega (arith, below, apart)) in
            omega (arith, earlier)
      ]

      none_open : (n : ℕ) → IsOpen trace client n → ⊥
      none_open n pending = elim (cases_eq n (number - 1)) [
        | inl same ↦ pending.1 (rw same returned)
        | inr apart ↦ let below = upto n pending.0 in pending.1 (told.tidy.answered client (number - 1) n before pending.0 (omega (arith, below, apart)))
      ]
