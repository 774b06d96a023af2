-- A state is what the lines so far and their answers tell.
use Rattle.std.proofs.Common.{◌≡◌, ◌≢◌, ℕ, zero, suc, ◌+◌, ◌-◌, ◌≤◌, ◌<◌, Bool, true, false, ◌&&◌, ◌||◌, ◌==◌, if◌then◌else◌, inl, inr, nat_lt, nat_le, List, [], ◌∷◌, ◌++◌, length, map, get_or, set, append-nil, Option, Some, None, refl, sym, ◌∙◌, ap, subst, eq-eqb, arith}
use Rattle.std.proofs.lemmas.Bool.{cases_lt, cases_eq}
use Rattle.std.proofs.lemmas.Bool.Decides.{nat_tests}
use Rattle.std.proofs.lemmas.List.{get_or-replicate, get_or-set_same, get_or-set_other, get_or_append_left, get_or_push, length_push, length-map, length-set, map-append, map-set, set-get_or}
use Rattle.std.specs.Int.{abs_diff}
use Rattle.std.specs.Prelude.{max}
use Rattle.lease_core.specs.declared.granting.TheConstants.{CLIENTS}
use Rattle.lease_core.specs.declared.lease_lines.LeaseLine.{LeaseLine}
use Rattle.lease_core.specs.declared.lease_lines.LeaseLine.TheVariants as event
use Rattle.lease_core.specs.declared.answering.LeaseAnswer.{LeaseAnswer}
use Rattle.lease_core.specs.declared.answering.LeaseAnswer.TheVariants as told
use Rattle.lease_core.specs.declared.answering.LeaseRefusal.{LeaseRefusal}
use Rattle.lease_core.specs.declared.answering.LeaseRefusal.TheVariants as refusal
use Rattle.lease_core.specs.declared.members.Ask.{Ask}
use Rattle.lease_core.specs.Terms.{Agreed, AreTerms}
use Rattle.lease_core.specs.Book.{IsClient, expiry_of, is_client, is_fenced, longer_expiry, place_of}
use Rattle.lease_core.specs.Claims.{is_accepted}
use Rattle.lease_core.specs.Holder.{end_of}
use Rattle.lease_core.specs.Line.{client_of, client_clock, master_clock}
use Rattle.lease_core.specs.Past.{Told, answer_after, answer_by_kind, answers_after, are_clocks_off, asked, has_asked, is_ask_of, is_fencing_of, is_grant_of, is_of_ask, last_clock, last_expiry, last_master_clock, last_until, kind_refused, refused, until_with, was_fenced, was_granted}
use Rattle.lease_core.specs.Run.{Member, Run, accepted, accepted_answer, answer_of, answer_unless, answers, answers_along, ask_of, asking, granting, has_ask, is_out_of_time, kind_refusal, member_after, member_of, new_member, no_ask, opening, passing, refusal_of, run_after, run_unless, taking, ◌or_else◌}
use Rattle.lease_core.proofs.AcceptedLemmas.{InTime, and_true, fence_accepted, fenced-other, fenced-own, expiry-other, expiry-own, grant_accepted, in_time, is_known, member-other, member-own, own_expiry, own_fenced, take_accepted}
use Rattle.lease_core.proofs.SafetyLemmas.{IsSound, sound_after, sound_opening}

-- ---- a state is what the lines and their answers tell

pub record IsClientTold (terms : Agreed) (past : List Told) (client : ℕ) (member : Member) (expiry : ℕ) (fenced : Bool) : Type 0 where
  pub clock : member.clock ≡ last_clock client past
  pub asks : map (λ (ask : Ask). ask.at) member.asks ≡ asked client past
  pub granted : (ask : ℕ) → 0 < ask → ask ≤ length member.asks → (ask_of member ask).granted ≡ was_granted client ask past
  pub none_else : (ask : ℕ) → length member.asks < ask → was_granted client ask past ≡ false
  pub until : member.holder.until ≡ last_until terms client past
  pub expiry_is : expiry ≡ last_expiry terms client past
  pub fenced_is : fenced ≡ was_fenced client past

pub record IsTold (terms : Agreed) (past : List Told) (run : Run) : Type 0 where
  pub clock : run.clock ≡ last_master_clock past
  pub each : (client : ℕ) → IsClient client → IsClientTold terms past client (member_of run client) (expiry_of run.book client) (is_fenced run.book client)

-- ---- tests

not_same : (a b : ℕ) → a ≢ b → (a == b) ≡ false
not_same a b h = grind (arith, nat_tests)

abbrev one_of : LeaseLine → LeaseAnswer → Told
one_of line answer = record { line = line; answer = answer }

-- a refused line tells nothing
told_refused : (terms : Agreed) (past : List Told) (line : LeaseLine) (why : LeaseRefusal) (client : ℕ) (member : Member) (expiry : ℕ) (fenced : Bool) → IsClientTold terms past client member expiry fenced → IsClientTold terms (one_of line (told.Refused why) ∷ past) client member expiry fenced
told_refused terms past line why client member expiry fenced is = record {
  clock = is.clock;
  asks = is.asks ∙ sym (append-nil (asked client past));
  granted = is.granted;
  none_else = is.none_else;
  until = is.until;
  expiry_is = is.expiry_is;
  fenced_is = is.fenced_is;
}

-- what an answer does not tell of a client
record IsQuiet (terms : Agreed) (past : List Told) (client : ℕ) (answer : LeaseAnswer) : Type 0 where
  ask : is_ask_of client answer ≡ false
  grant : is_grant_of client answer ≡ false
  take : (before : ℕ) → until_with terms client past answer before ≡ before
  fence : is_fencing_of client answer ≡ false

was_granted-quiet : (client ask : ℕ) (one : Told) (past : List Told) → is_grant_of client one.answer ≡ false → was_granted client ask (one ∷ past) ≡ was_granted client ask past
was_granted-quiet client ask one past h = ap (λ b. (b && is_of_ask ask one.answer) || was_granted client ask past) h

asked-quiet : (client : ℕ) (one : Told) (past : List Told) → is_ask_of client one.answer ≡ false → asked client (one ∷ past) ≡ asked client past
asked-quiet client one past h = ap (λ b. asked client past ++ (if b then client_clock one.line ∷ [] else [])) h ∙ append-nil (asked client past)

last_expiry-quiet : (terms : Agreed) (client : ℕ) (one : Told) (past : List Told) → is_grant_of client one.answer ≡ false → last_expiry terms client (one ∷ past) ≡ last_expiry terms client past
last_expiry-quiet terms client one past h = ap (λ b. if b then max (last_expiry terms client past) (master_clock one.line + terms.length) else last_expiry terms client past) h

was_fenced-quiet : (client : ℕ) (one : Told) (past : List Told) → is_fencing_of client one.answer ≡ false → was_fenced client (one ∷ past) ≡ was_fenced client past
was_fenced-quiet client one past h = ap (λ b. b || was_fenced client past) h

neither : (b : Bool) (x y : ℕ) → (if b && false then x else y) ≡ y
neither true x y = refl
neither false x y = refl

last_clock-other : (client : ℕ) (one : Told) (past : List Told) → (client_of one.line == client) ≡ false → last_clock client (one ∷ past) ≡ last_clock client past
last_clock-other client one past h = rw h (neither (is_accepted one.answer) (client_clock one.line) (last_clock client past))

last_clock-own : (client : ℕ) (one : Told) (past : List Told) → is_accepted one.answer ≡ true → (client_of one.line == client) ≡ true → last_clock client (one ∷ past) ≡ client_clock one.line
last_clock-own client one past h same = rw (h, same) refl

-- an answer that is quiet on a client, to a line of another client or to one that moves its clock alone
told_quiet : (terms : Agreed) (past : List Told) (one : Told) (client : ℕ) (member : Member) (clock expiry : ℕ) (fenced : Bool) → IsQuiet terms past client one.answer → clock ≡ last_clock client (one ∷ past) → IsClientTold terms past client member expiry fenced → IsClientTold terms (one ∷ past) client (record { clock = clock; asks = member.asks; holder = member.holder }) expiry fenced
told_quiet terms past one client member clock expiry fenced quiet same is = record {
  clock = same;
  asks = is.asks ∙ sym (asked-quiet client one past quiet.ask);
  granted = λ ask some few. is.granted ask some few ∙ sym (was_granted-quiet client ask one past quiet.grant);
  none_else = λ ask more. was_granted-quiet client ask one past quiet.grant ∙ is.none_else ask more;
  until = is.until ∙ sym (quiet.take (last_until terms client past));
  expiry_is = is.expiry_is ∙ sym (last_expiry-quiet terms client one past quiet.grant);
  fenced_is = is.fenced_is ∙ sym (was_fenced-quiet client one past quiet.fence);
}

-- ---- answers to lines of another client

verb_quiet : (terms : Agreed) (past : List Told) (client other : ℕ) (b : Bool) → IsQuiet terms past client (if b then told.Lawful other else told.Unlawful other)
verb_quiet terms past client other true = record { ask = refl; grant = refl; take = λ before. refl; fence = refl }
verb_quiet terms past client other false = record { ask = refl; grant = refl; take = λ before. refl; fence = refl }

fence_quiet : (terms : Agreed) (past : List Told) (client other x : ℕ) (b : Bool) → (other == client) ≡ false → IsQuiet terms past client (if b then told.Early other x else told.Fenced other)
fence_quiet terms past client other x true h = record { ask = refl; grant = refl; take = λ before. refl; fence = refl }
fence_quiet terms past client other x false h = record { ask = refl; grant = refl; take = λ before. refl; fence = h }

other_quiet : (terms : Agreed) (past : List Told) (run : Run) (line : LeaseLine) (client : ℕ) → (client_of line == client) ≡ false → IsQuiet terms past client (accepted_answer run line)
other_quiet terms past run (event.Ask other p m) client h = record { ask = h; grant = refl; take = λ before. refl; fence = refl }
other_quiet terms past run (event.Grant other ask p m) client h = record { ask = refl; grant = h; take = λ before. refl; fence = refl }
other_quiet terms past run (event.Take other ask p m) client h = record { ask = refl; grant = refl; take = λ before. rw h refl; fence = refl }
other_quiet terms past run (event.Verb other p m) client h = verb_quiet terms past client other (nat_lt p (member_of run other).holder.until)
other_quiet terms past run (event.Fence other p m) client h = fence_quiet terms past client other (expiry_of run.book other) (nat_lt m (expiry_of run.book other)) h

told_other : (terms : Agreed) (past : List Told) (run : Run) (line : LeaseLine) (client : ℕ) (member : Member) (expiry : ℕ) (fenced : Bool) → (client_of line == client) ≡ false → IsClientTold terms past client member expiry fenced → IsClientTold terms (one_of line (accepted_answer run line) ∷ past) client member expiry fenced
told_other terms past run line client member expiry fenced h is =
    told_quiet terms past (one_of line (accepted_answer run line)) client member member.clock expiry fenced (other_quiet terms past run line client h) (is.clock ∙ sym (last_clock-other client (one_of line (accepted_answer run line)) past h)) is

-- ---- answers to lines of the client

verb_accepted : (b : Bool) (client : ℕ) → is_accepted (if b then told.Lawful client else told.Unlawful client) ≡ true
verb_accepted true client = refl
verb_accepted false client = refl

fence_is : (b : Bool) (client x : ℕ) → is_accepted (if b then told.Early client x else told.Fenced client) ≡ true
fence_is true client x = refl
fence_is false client x = refl

accepted_is : (run : Run) (line : LeaseLine) → is_accepted (accepted_answer run line) ≡ true
accepted_is run (event.Ask client p m) = refl
accepted_is run (event.Grant client ask p m) = refl
accepted_is run (event.Take client ask p m) = refl
accepted_is run (event.Verb client p m) = verb_accepted (nat_lt p (member_of run client).holder.until) client
accepted_is run (event.Fence client p m) = fence_is (nat_lt m (expiry_of run.book client)) client (expiry_of run.book client)

itself : (client : ℕ) → (client == client) ≡ true
itself client = eq-eqb client client refl

clock_told : (run : Run) (line : LeaseLine) (past : List Told) → client_clock line ≡ last_clock (client_of line) (one_of line (accepted_answer run line) ∷ past)
clock_told run line past = sym (last_clock-own (client_of line) (one_of line (accepted_answer run line)) past (accepted_is run line) (itself (client_of line)))

at_map : (xs : List Ask) (i : ℕ) → (get_or xs i no_ask).at ≡ get_or (map (λ (ask : Ask). ask.at) xs) i 0
at_map [] i = refl
at_map (x ∷ xs) zero = refl
at_map (x ∷ xs) (suc i) = at_map xs i

module _ (terms : Agreed) (past : List Told) (client : ℕ) (member : Member) (expiry : ℕ) (fenced : Bool) (is : IsClientTold terms past client member expiry fenced) where
  told_ask : (p m k : ℕ) → p ≡ last_clock client (one_of (event.Ask client p m) (told.Asked client k) ∷ past) → IsClientTold terms (one_of (event.Ask client p m) (told.Asked client k) ∷ past) client (asking member p) expiry fenced
  told_ask p m k clock =
      let new : Ask = record { at = p; granted = false } in
      record {
        clock = clock;
        asks = map-append (λ (ask : Ask). ask.at) member.asks (new ∷ []) ∙ ap (λ l. l ++ p ∷ []) is.asks ∙ sym (ap (λ b. asked client past ++ (if b then p ∷ [] else [])) (itself client));
        granted = λ ask some few. elim (cases_lt (length member.asks) ask) [
          | inl last ↦
              let at : ask - 1 ≡ length member.asks = omega (arith, length_push member.asks new, few, last) in
              ap (λ (a : Ask). a.granted) (get_or_push member.asks new no_ask (ask - 1) (sym at)) ∙ sym (is.none_else ask last)
          | inr old ↦ ap (λ (a : Ask). a.granted) (get_or_append_left member.asks (new ∷ []) no_ask (ask - 1) (omega arith)) ∙ is.granted ask some old
        ];
        none_else = λ ask more. is.none_else ask (omega (arith, length_push member.asks new, more));
        until = is.until;
        expiry_is = is.expiry_is;
        fenced_is = is.fenced_is;
      }

  told_grant : (k p m x : ℕ) → 0 < k → k ≤ length member.asks → p ≡ last_clock client (one_of (event.Grant client k p m) (told.Granted client k x) ∷ past) → IsClientTold terms (one_of (event.Grant client k p m) (told.Granted client k x) ∷ past) client (granting member k p) (max expiry (m + terms.length)) fenced
  told_grant k p m x some within clock =
      let old = ask_of member k in
      let new : Ask = record { at = old.at; granted = true } in
      let size = length-set member.asks (k - 1) new in
      let kept : set (map (λ (ask : Ask). ask.at) member.asks) (k - 1) old.at ≡ map (λ (ask : Ask). ask.at) member.asks =
      sym (map-set (λ (ask : Ask). ask.at) member.asks (k - 1) old) ∙ ap (map (λ (ask : Ask). ask.at)) (set-get_or member.asks (k - 1) no_ask) in
      let told_of : (ask : ℕ) → was_granted client ask (one_of (event.Grant client k p m) (told.Granted client k x) ∷ past) ≡ ((k == ask) || was_granted client ask past) = λ ask. ap (λ b. (b && (k == ask)) || was_granted client ask past) (itself client) in
      record {
        clock = clock;
        asks = map-set (λ (ask : Ask). ask.at) member.asks (k - 1) new ∙ kept ∙ is.asks ∙ sym (append-nil (asked client past));
        granted = λ ask some' few. elim (cases_eq k ask) [
          | inl same ↦
              let at : ask - 1 ≡ k - 1 = omega arith in
              let yes' : (k == ask) ≡ true = eq-eqb k ask same in
              ap (λ i. (get_or (set member.asks (k - 1) new) i no_ask).granted) at
              ∙ ap (λ (a : Ask). a.granted) (get_or-set_same member.asks (k - 1) new no_ask (omega arith))
              ∙ sym (told_of ask ∙ ap (λ b. b || was_granted client ask past) yes')
          | inr other ↦
              let no' : (k == ask) ≡ false = not_same k ask other in
              ap (λ (a : Ask). a.granted) (get_or-set_other member.asks (k - 1) (ask - 1) new no_ask (λ at. other (omega arith)))
              ∙ is.granted ask some' (omega (arith, size, few))
              ∙ sym (told_of ask ∙ ap (λ b. b || was_granted client ask past) no')
        ];
        none_else = λ ask more.
            let no' : (k == ask) ≡ false = not_same k ask (λ same. omega (arith, size, more, within, same)) in
            told_of ask ∙ ap (λ b. b || was_granted client ask past) no' ∙ is.none_else ask (omega (arith, size, more));
        until = is.until;
        expiry_is = ap (λ e. max e (m + terms.length)) is.expiry_is ∙ sym (ap (λ b. if b then max (last_expiry terms client past) (m + terms.length) else last_expiry terms client past) (itself client));
        fenced_is = is.fenced_is;
      }

  told_take : (k p m x : ℕ) → member.holder.terms ≡ terms → 0 < k → k ≤ length member.asks → p ≡ last_clock client (one_of (event.Take client k p m) (told.Taken client k x) ∷ past) → IsClientTold terms (one_of (event.Take client k p m) (told.Taken client k x) ∷ past) client (taking member k p) expiry fenced
  told_take k p m x same some within clock =
      let at : (ask_of member k).at ≡ get_or (asked client past) (k - 1) 0 = at_map member.asks (k - 1) ∙ ap (λ l. get_or l (k - 1) 0) is.asks in
      record {
        clock = clock;
        asks = is.asks ∙ sym (append-nil (asked client past));
        granted = is.granted;
        none_else = is.none_else;
        until =
            ap (λ (t : Agreed). max member.holder.until (end_of t (ask_of member k).at)) same
            ∙ ap (λ u. max u (end_of terms (ask_of member k).at)) is.until
            ∙ ap (λ n. max (last_until terms client past) (end_of terms n)) at
            ∙ sym (ap (λ b. if b then max (last_until terms client past) (end_of terms (get_or (asked client past) (k - 1) 0)) else last_until terms client past) (itself client));
        expiry_is = is.expiry_is;
        fenced_is = is.fenced_is;
      }

  told_fence : (p m : ℕ) → p ≡ last_clock client (one_of (event.Fence client p m) (told.Fenced client) ∷ past) → IsClientTold terms (one_of (event.Fence client p m) (told.Fenced client) ∷ past) client (passing member p) expiry true
  told_fence p m clock = record {
    clock = clock;
    asks = is.asks ∙ sym (append-nil (asked client past));
    granted = is.granted;
    none_else = is.none_else;
    until = is.until;
    expiry_is = is.expiry_is;
    fenced_is = sym (ap (λ b. b || was_fenced client past) (itself client));
  }

-- ---- an accepted line

counted : (member : Member) (ask : ℕ) → has_ask member ask ≡ true → (0 < ask) × (ask ≤ length member.asks)
counted member ask has =
    let parts = and_true (nat_lt 0 ask) (nat_le ask (length member.asks)) has in
    let low : nat_lt 0 ask ≡ true = parts.0 in
    let high : nat_le ask (length member.asks) ≡ true = parts.1 in
    let some : 0 < ask = grind (arith, nat_tests) in
    let within : ask ≤ length member.asks = grind (arith, nat_tests) in
    (some, within)

fenced_told : (terms : Agreed) (past : List Told) (client p m : ℕ) (member : Member) (expiry : ℕ) (b : Bool)
    → p ≡ last_clock client (one_of (event.Fence client p m) (if b then told.Early client expiry else told.Fenced client) ∷ past)
    → IsClientTold terms past client member expiry false
    → IsClientTold terms (one_of (event.Fence client p m) (if b then told.Early client expiry else told.Fenced client) ∷ past) client (passing member p) expiry (if b then false else true)
fenced_told terms past client p m member expiry true clock is =
    told_quiet terms past (one_of (event.Fence client p m) (told.Early client expiry)) client member p expiry false (record { ask = refl; grant = refl; take = λ before. refl; fence = refl }) clock is
fenced_told terms past client p m member expiry false clock is = told_fence terms past client member expiry false is p m clock

told_own : (terms : Agreed) (past : List Told) (run : Run) (line : LeaseLine) → IsSound terms run → InTime run line → IsClientTold terms past (client_of line) (member_of run (client_of line)) (expiry_of run.book (client_of line)) (is_fenced run.book (client_of line)) → IsClientTold terms (one_of line (accepted_answer run line) ∷ past) (client_of line) (member_after (member_of run (client_of line)) line) (own_expiry terms.length (expiry_of run.book (client_of line)) (is_fenced run.book (client_of line)) line) (own_fenced (expiry_of run.book (client_of line)) (is_fenced run.book (client_of line)) line)
told_own terms past run (event.Ask client p m) sound time is =
    told_ask terms past client (member_of run client) (expiry_of run.book client) (is_fenced run.book client) is p m (length (member_of run client).asks + 1) (clock_told run (event.Ask client p m) past)
told_own terms past run (event.Grant client ask p m) sound time is =
    let facts = grant_accepted run client ask p m time.kind in
    let count = counted (member_of run client) ask facts.0 in
    let new = told_grant terms past client (member_of run client) (expiry_of run.book client) (is_fenced run.book client) is ask p m (longer_expiry run.book client m) count.0 count.1 (clock_told run (event.Grant client ask p m) past) in
    let same : (if is_fenced run.book client then expiry_of run.book client else max (expiry_of run.book client) (m + terms.length)) ≡ max (expiry_of run.book client) (m + terms.length) = rw facts.1 refl in
    subst (λ x. IsClientTold terms (one_of (event.Grant client ask p m) (told.Granted client ask (longer_expiry run.book client m)) ∷ past) client (granting (member_of run client) ask p) x (is_fenced run.book client)) (sym same) new
told_own terms past run (event.Take client ask p m) sound time is =
    let facts = take_accepted run client ask p m time.kind in
    let count = counted (member_of run client) ask facts.0 in
    told_take terms past client (member_of run client) (expiry_of run.book client) (is_fenced run.book client) is ask p m (taking (member_of run client) ask p).holder.until (sound.each client time.known).holder count.0 count.1 (clock_told run (event.Take client ask p m) past)
told_own terms past run (event.Verb client p m) sound time is =
    told_quiet terms past (one_of (event.Verb client p m) (accepted_answer run (event.Verb client p m))) client (member_of run client) p (expiry_of run.book client) (is_fenced run.book client) (verb_quiet terms past client client (nat_lt p (member_of run client).holder.until)) (clock_told run (event.Verb client p m) past) is
told_own terms past run (event.Fence client p m) sound time is =
    let not_fenced = fence_accepted run client p m time.kind in
    let x = expiry_of run.book client in
    let new = fenced_told terms past client p m (member_of run client) x (nat_lt m x) (clock_told run (event.Fence client p m) past) (subst (IsClientTold terms past client (member_of run client) x) not_fenced is) in
    let same : own_fenced x (is_fenced run.book client) (event.Fence client p m) ≡ (if nat_lt m x then false else true) = rw not_fenced refl in
    subst (IsClientTold terms (one_of (event.Fence client p m) (accepted_answer run (event.Fence client p m)) ∷ past) client (passing (member_of run client) p) x) (sym same) new

told_at : (terms : Agreed) (past : List Told) (client : ℕ) (member member' : Member) (expiry expiry' : ℕ) (fenced fenced' : Bool) → member' ≡ member → expiry' ≡ expiry → fenced' ≡ fenced → IsClientTold terms past client member expiry fenced → IsClientTold terms past client member' expiry' fenced'
told_at terms past client member member' expiry expiry' fenced fenced' m e f is =
    subst (λ x. IsClientTold terms past client x expiry' fenced') (sym m) (subst (λ x. IsClientTold terms past client member x fenced') (sym e) (subst (IsClientTold terms past client member expiry) (sym f) is))

told_each : (terms : Agreed) (past : List Told) (run : Run) (line : LeaseLine) → IsSound terms run → InTime run line → IsTold terms past run → (d : ℕ) → IsClient d → IsClientTold terms (one_of line (accepted_answer run line) ∷ past) d (member_of (accepted run line) d) (expiry_of (accepted run line).book d) (is_fenced (accepted run line).book d)
told_each terms past run line sound time is d is_d = elim (cases_eq (client_of line) d) [
  | inl same ↦ subst (λ x. IsClientTold terms (one_of line (accepted_answer run line) ∷ past) x (member_of (accepted run line) x) (expiry_of (accepted run line).book x) (is_fenced (accepted run line).book x)) same
      (told_at terms _ (client_of line) _ _ _ _ _ _ (member-own run line sound.whole time.known)
      (expiry-own run.book line sound.whole.expiries time.known ∙ ap (λ (t : Agreed). own_expiry t.length (expiry_of run.book (client_of line)) (is_fenced run.book (client_of line)) line) sound.book_is)
      (fenced-own run.book line sound.whole.fenced time.known) (told_own terms past run line sound time (is.each (client_of line) time.known)))
  | inr other ↦ told_at terms _ d _ _ _ _ _ _ (member-other run line sound.whole time.known d is_d other) (expiry-other run.book line d time.known is_d other) (fenced-other run.book line d time.known is_d other)
      (told_other terms past run line d (member_of run d) (expiry_of run.book d) (is_fenced run.book d) (not_same (client_of line) d other) (is.each d is_d))
]

told_unless : (terms : Agreed) (past : List Told) (run : Run) (line : LeaseLine) (why : Option LeaseRefusal) → refusal_of run line ≡ why → IsSound terms run → IsTold terms past run → IsTold terms (one_of line (answer_unless why (accepted_answer run line)) ∷ past) (run_unless why run (accepted run line))
told_unless terms past run line None h sound is = record {
  clock = sym (ap (λ b. if b then master_clock line else last_master_clock past) (accepted_is run line));
  each = told_each terms past run line sound (in_time run line h) is;
}
told_unless terms past run line (Some why) h sound is = record {
  clock = is.clock;
  each = λ d is_d. told_refused terms past line why d (member_of run d) (expiry_of run.book d) (is_fenced run.book d) (is.each d is_d);
}

told_opening : (terms : Agreed) → IsTold terms [] (opening terms)
told_opening terms = record {
  clock = refl;
  each = λ d is_d. told_at terms [] d (new_member terms) _ 0 _ false _ (get_or-replicate CLIENTS (place_of d) (new_member terms) (new_member terms) (omega arith)) (get_or-replicate {A = ℕ} CLIENTS (place_of d) 0 0 (omega arith)) (get_or-replicate CLIENTS (place_of d) false false (omega arith))
      (record {
        clock = refl;
        asks = refl;
        granted = λ ask some few. absurd (omega (arith, some, few));
        none_else = λ ask more. refl;
        until = refl;
        expiry_is = refl;
        fenced_is = refl;
      });
}

-- ---- answers

off_clocks : (terms : Agreed) (past : List Told) (run : Run) (line : LeaseLine) → run.terms ≡ terms → IsTold terms past run → IsClient (client_of line) → is_out_of_time run (client_of line) (client_clock line) (master_clock line) ≡ are_clocks_off terms past line
off_clocks terms past run line same is known =
    ap (λ (t : Agreed). nat_lt t.error (abs_diff (client_clock line) (master_clock line)) || nat_lt (client_clock line) (member_of run (client_of line)).clock || nat_lt (master_clock line) run.clock) same
    ∙ ap (λ n. nat_lt terms.error (abs_diff (client_clock line) (master_clock line)) || nat_lt (client_clock line) n || nat_lt (master_clock line) run.clock) (is.each (client_of line) known).clock
    ∙ ap (λ n. nat_lt terms.error (abs_diff (client_clock line) (master_clock line)) || nat_lt (client_clock line) (last_clock (client_of line) past) || nat_lt (master_clock line) n) is.clock

has_told : (terms : Agreed) (past : List Told) (client : ℕ) (member : Member) (expiry : ℕ) (fenced : Bool) (ask : ℕ) → IsClientTold terms past client member expiry fenced → has_ask member ask ≡ has_asked client ask past
has_told terms past client member expiry fenced ask is = ap (λ n. nat_lt 0 ask && nat_le ask n) (sym (length-map member.asks (λ (a : Ask). a.at)) ∙ ap length is.asks)

grant_refusal : (has f : Bool) (client ask : ℕ) → (if has then None else Some (refusal.Ask ask)) or_else None or_else (if f then Some (refusal.Fenced client) else None) ≡ (if has then (if f then Some (refusal.Fenced client) else None) else Some (refusal.Ask ask))
grant_refusal true f client ask = refl
grant_refusal false f client ask = refl

only_one : (g : Bool) (ask : ℕ) → ((if g then None else Some (refusal.Grant ask)) or_else None) ≡ (if g then None else Some (refusal.Grant ask))
only_one true ask = refl
only_one false ask = refl

take_refusal : (has g g' : Bool) (ask : ℕ) → (has ≡ true → g ≡ g') → (if has then None else Some (refusal.Ask ask)) or_else (if g then None else Some (refusal.Grant ask)) or_else None ≡ (if has then (if g' then None else Some (refusal.Grant ask)) else Some (refusal.Ask ask))
take_refusal false g g' ask same = refl
take_refusal true g g' ask same = rw (same refl) (only_one g' ask)

kind_told : (terms : Agreed) (past : List Told) (run : Run) (line : LeaseLine) → IsClientTold terms past (client_of line) (member_of run (client_of line)) (expiry_of run.book (client_of line)) (is_fenced run.book (client_of line)) → kind_refusal run line ≡ kind_refused past line
kind_told terms past run (event.Ask client p m) is = refl
kind_told terms past run (event.Grant client ask p m) is =
    grant_refusal (has_ask (member_of run client) ask) (is_fenced run.book client) client ask
    ∙ ap (λ h. if h then (if is_fenced run.book client then Some (refusal.Fenced client) else None) else Some (refusal.Ask ask)) (has_told terms past client (member_of run client) (expiry_of run.book client) (is_fenced run.book client) ask is)
    ∙ ap (λ f. if has_asked client ask past then (if f then Some (refusal.Fenced client) else None) else Some (refusal.Ask ask)) is.fenced_is
kind_told terms past run (event.Take client ask p m) is =
    let member = member_of run client in
    take_refusal (has_ask member ask) (ask_of member ask).granted (was_granted client ask past) ask (λ has. let count = counted member ask has in is.granted ask count.0 count.1)
    ∙ ap (λ h. if h then (if was_granted client ask past then None else Some (refusal.Grant ask)) else Some (refusal.Ask ask)) (has_told terms past client member (expiry_of run.book client) (is_fenced run.book client) ask is)
kind_told terms past run (event.Verb client p m) is = refl
kind_told terms past run (event.Fence client p m) is = ap (λ f. if f then Some (refusal.Fenced client) else None) is.fenced_is

answer_told : (terms : Agreed) (past : List Told) (run : Run) (line : LeaseLine) → run.book.terms ≡ terms → (member_of run (client_of line)).holder.terms ≡ terms → IsClientTold terms past (client_of line) (member_of run (client_of line)) (expiry_of run.book (client_of line)) (is_fenced run.book (client_of line)) → accepted_answer run line ≡ answer_by_kind terms past line
answer_told terms past run (event.Ask client p m) book holder is = ap (λ n. told.Asked client (n + 1)) (sym (length-map (member_of run client).asks (λ (a : Ask). a.at)) ∙ ap length is.asks)
answer_told terms past run (event.Grant client ask p m) book holder is =
    ap (λ (t : Agreed). told.Granted client ask (max (expiry_of run.book client) (m + t.length))) book ∙ ap (λ x. told.Granted client ask (max x (m + terms.length))) is.expiry_is
answer_told terms past run (event.Take client ask p m) book holder is =
    let member = member_of run client in
    ap (λ (t : Agreed). told.Taken client ask (max member.holder.until (end_of t (ask_of member ask).at))) holder
    ∙ ap (λ u. told.Taken client ask (max u (end_of terms (ask_of member ask).at))) is.until
    ∙ ap (λ n. told.Taken client ask (max (last_until terms client past) (end_of terms n))) (at_map member.asks (ask - 1) ∙ ap (λ l. get_or l (ask - 1) 0) is.asks)
answer_told terms past run (event.Verb client p m) book holder is = ap (λ u. if nat_lt p u then told.Lawful client else told.Unlawful client) is.until
answer_told terms past run (event.Fence client p m) book holder is = ap (λ x. if nat_lt m x then told.Early client x else told.Fenced client) is.expiry_is

in_order : (off : Bool) (kind : Option LeaseRefusal) → ((if off then Some refusal.Clocks else None) or_else kind) ≡ (if off then Some refusal.Clocks else kind)
in_order true kind = refl
in_order false kind = refl

-- the answer to a line is told by what came before
answer_of-told : (terms : Agreed) (past : List Told) (run : Run) (line : LeaseLine) (known : Bool) → is_client (client_of line) ≡ known → IsSound terms run → IsTold terms past run → answer_of run line ≡ answer_after terms past line
answer_of-told terms past run line false h sound is = rw h refl
answer_of-told terms past run line true h sound is =
    let client = is_known (client_of line) h in
    let told_of = is.each (client_of line) client in
    let off = off_clocks terms past run line sound.terms_is is client in
    let kind = kind_told terms past run line told_of in
    let answer = answer_told terms past run line sound.book_is (sound.each (client_of line) client).holder told_of in
    let why : refusal_of run line ≡ refused terms past line =
    rw h (ap (λ t. (if t then Some refusal.Clocks else None) or_else kind_refusal run line) off
    ∙ ap (λ k. (if are_clocks_off terms past line then Some refusal.Clocks else None) or_else k) kind
    ∙ in_order (are_clocks_off terms past line) (kind_refused past line)) in
    ap (λ w. answer_unless w (accepted_answer run line)) why ∙ ap (answer_unless (refused terms past line)) answer

-- all answers are
answers_told : (terms : Agreed) (past : List Told) (run : Run) (lines : List LeaseLine) → AreTerms terms → IsSound terms run → IsTold terms past run → answers_along run lines ++ told.End ∷ [] ≡ answers_after terms past lines
answers_told terms past run [] are sound is = refl
answers_told terms past run (line ∷ lines) are sound is =
    let same = answer_of-told terms past run line (is_client (client_of line)) refl sound is in
    let rest = answers_told terms (one_of line (answer_of run line) ∷ past) (run_after run line) lines are (sound_after terms run line are sound) (told_unless terms past run line (refusal_of run line) refl sound is) in
    ap (λ l. answer_of run line ∷ l) rest ∙ ap (λ a. a ∷ answers_after terms (one_of line a ∷ past) lines) same

pub answers-told : (terms : Agreed) (lines : List LeaseLine) → AreTerms terms → answers terms lines ≡ answers_after terms [] lines
answers-told terms lines are = answers_told terms [] (opening terms) lines are (sound_opening terms) (told_opening terms)
