-- An owner's objects stay sound at each event.
use Rattle.std.proofs.Common.{◌≡◌, ◌≢◌, ℕ, ◌+◌, ◌%◌, ◌<◌, ◌≤◌, Bool, true, false, not, ◌==◌, nat_lt, nat_le, ◌⊎◌, if◌then◌else◌, List, [], ◌∷◌, ◌++◌, filter, Contains, refl, sym, ◌∙◌, ap, subst, arith, inl, inr, eq-eqb, ne_eqb}
use Rattle.std.proofs.lemmas.Bool.{cases_eq, cases_Bool, cond_both, eqb-true, eqb-false, leb-true, and_parts}
use Rattle.std.proofs.lemmas.List.Elements.{Contains-append_left, Contains-append_right, Contains-append_cases}
use Rattle.reuse_epoch.specs.Awaited.{Awaited, client_of, noted, is_still_awaited}
use Rattle.reuse_grace.specs.Stock.{State, Mark, Unmarked, Waiting, Ripe, Event, Begin, End, Take, GiveBack, Grant, Note, AskAnew, Ask, Look, Ripen, updated, is_inside, taken, unasked, waiting, asked_next, looked, is_nobody, is_over, ripened, happens, opening}
use Rattle.reuse_grace.specs.Allowed.{MayHappen}
use Rattle.reuse_grace.proofs.Soundness.{IsSound, at_updated, updated-other, updated-same}

true_false : {A : Type 0} (b : Bool) → b ≡ true → b ≡ false → A
true_false b is fails = absurd cc

unmarked_waiting : Unmarked ≡ Waiting → ⊥
unmarked_waiting is = cc

unmarked_ripe : Unmarked ≡ Ripe → ⊥
unmarked_ripe is = cc

waiting_ripe : Waiting ≡ Ripe → ⊥
waiting_ripe is = cc

waiting_marked : (mark : Mark) → mark ≡ Waiting → mark ≢ Unmarked
waiting_marked mark is unmarked = unmarked_waiting (sym unmarked ∙ is)

pub ripe_marked : (mark : Mark) → mark ≡ Ripe → mark ≢ Unmarked
ripe_marked mark is unmarked = unmarked_ripe (sym unmarked ∙ is)

pub IsSound-opening : (owner clients : ℕ) (stock : ℕ → Bool) → IsSound (opening owner clients stock)
IsSound-opening owner clients stock =
    record {
      known = λ client is. absurd cc;
      inside = λ client object is. absurd cc;
      out = λ client object is. absurd cc;
      stocked = λ object marked. absurd (marked refl);
      ripe = λ client object other is. absurd (unmarked_ripe is);
      waits = λ client object other is. absurd (unmarked_waiting is);
    }

-- ---- a client begins and ends a call

odd_next : (begin : ℕ) → (begin % 2 == 1) ≡ false → ((begin + 1) % 2 == 1) ≡ true
odd_next begin even =
    let not_one = eqb-false (begin % 2) 1 even in
    eq-eqb ((begin + 1) % 2) 1 (omega arith)

even_next : (begin : ℕ) → (begin % 2 == 1) ≡ true → ((begin + 1) % 2 == 1) ≡ false
even_next begin odd =
    let one = eqb-true (begin % 2) 1 odd in
    ne_eqb ((begin + 1) % 2) 1 (omega arith)

IsSound-begun : (state : State) (client : ℕ) → IsSound state → MayHappen state (Begin client) → IsSound (happens state (Begin client))
IsSound-begun state client sound may =
    let next = state.begins client + 1 in
    let out_of_stock : ℕ → Bool = λ object. not (state.stock object) in
    let odd : (next % 2 == 1) ≡ true = odd_next (state.begins client) may.2 in
    record {
      known = λ other.
          at_updated (λ b. (b % 2 == 1) ≡ true → (0 < other) × (other ≤ state.clients)) state.begins client next other
          (λ same _. subst (λ c. (0 < c) × (c ≤ state.clients)) same (may.0, may.1))
          (λ apart is. sound.known other is);
      inside = λ other object.
          at_updated (λ (objects : ℕ → Bool). objects object ≡ true → (updated state.begins client next other % 2 == 1) ≡ true)
          state.met client out_of_stock other
          (λ same _. rw (updated-same state.begins client next other same) odd)
          (λ apart is. rw (updated-other state.begins client next other apart) (sound.inside other object is));
      out = λ other object is none.
          at_updated (λ (objects : ℕ → Bool). objects object ≡ true) state.met client out_of_stock other
          (λ same. rw none refl)
          (λ apart. sound.out other object (rw (updated-other state.begins client next other apart) at is) none);
      stocked = sound.stocked;
      ripe = λ other object others is.
          at_updated (λ (objects : ℕ → Bool). objects object ≡ true → ⊥) state.met client out_of_stock other
          (λ same out. not_both (state.stock object) (sound.stocked object (ripe_marked (state.marks object) is)) out)
          (λ apart met. sound.ripe other object others is met);
      waits = λ other object others is met below.
          at_updated (λ (objects : ℕ → Bool). objects object ≡ true → Contains state.awaited (other, updated state.begins client next other))
          state.met client out_of_stock other
          (λ same out. absurd (not_both (state.stock object) (sound.stocked object (waiting_marked (state.marks object) is)) out))
          (λ apart met. rw (updated-other state.begins client next other apart) (sound.waits other object others is met below))
          met;
    }
  where
    not_both : (b : Bool) → b ≡ true → not b ≡ true → ⊥
    not_both true is fails = cc
    not_both false is fails = cc

IsSound-ended : (state : State) (client : ℕ) → IsSound state → MayHappen state (End client) → IsSound (happens state (End client))
IsSound-ended state client sound may =
    let next = state.begins client + 1 in
    let nothing : ℕ → Bool = λ object. false in
    let even : (next % 2 == 1) ≡ false = even_next (state.begins client) may in
    record {
      known = λ other.
          at_updated (λ b. (b % 2 == 1) ≡ true → (0 < other) × (other ≤ state.clients)) state.begins client next other
          (λ same is. true_false (next % 2 == 1) is even)
          (λ apart is. sound.known other is);
      inside = λ other object.
          at_updated (λ (objects : ℕ → Bool). objects object ≡ true → (updated state.begins client next other % 2 == 1) ≡ true)
          state.met client nothing other
          (λ same is. absurd cc)
          (λ apart is. rw (updated-other state.begins client next other apart) (sound.inside other object is));
      out = λ other object.
          at_updated (λ b. (b % 2 == 1) ≡ true → state.stock object ≡ false → updated state.met client nothing other object ≡ true)
          state.begins client next other
          (λ same is. true_false (next % 2 == 1) is even)
          (λ apart is none.
          at_updated (λ (objects : ℕ → Bool). objects object ≡ true) state.met client nothing other
          (λ same. absurd (apart same)) (λ _. sound.out other object is none));
      stocked = sound.stocked;
      ripe = λ other object others is.
          at_updated (λ (objects : ℕ → Bool). objects object ≡ true → ⊥) state.met client nothing other
          (λ same out. cc)
          (λ apart met. sound.ripe other object others is met);
      waits = λ other object others is met below.
          at_updated (λ (objects : ℕ → Bool). objects object ≡ true → Contains state.awaited (other, updated state.begins client next other))
          state.met client nothing other
          (λ same out. absurd cc)
          (λ apart met. rw (updated-other state.begins client next other apart) (sound.waits other object others is met below))
          met;
    }

-- ---- an object is taken, given back, granted

-- what a client has met once an object was taken
met_taken : (state : State) (object : ℕ) → ℕ → ℕ → Bool
met_taken state object client = if is_inside state client then updated (state.met client) object true else state.met client

-- it has met the object, or what it had met before
met-taken : (state : State) (object client other : ℕ) → (taken state object).met client other ≡ true
    → ((object ≡ other) × (is_inside state client ≡ true)) ⊎ (state.met client other ≡ true)
met-taken state object client other is =
    elim (cases_Bool (is_inside state client)) [
      | inl within ↦
          let met : updated (state.met client) object true other ≡ true = rw within at is in
          elim (cases_eq object other) [
            | inl same ↦ inl (same, within)
            | inr apart ↦ inr (rw (updated-other (state.met client) object true other apart) at met)
          ]
      | inr outside ↦ inr (rw outside at is)
    ]

IsSound-taken : (state : State) (object : ℕ) → IsSound state → IsSound (happens state (Take object))
IsSound-taken state object sound =
    record {
      known = sound.known;
      inside = λ client other is.
          elim (met-taken state object client other is) [ inl here ↦ here.1 | inr met ↦ sound.inside client other met ];
      out = λ client other within.
          at_updated (λ b. b ≡ false → (taken state object).met client other ≡ true) state.stock object false other
          (λ same _. rw (within, updated-same (state.met client) object true other same) refl)
          (λ apart none. rw (within, updated-other (state.met client) object true other apart) (sound.out client other within none));
      stocked = λ other.
          at_updated (λ m. m ≢ Unmarked → updated state.stock object false other ≡ true) state.marks object Unmarked other
          (λ same marked. absurd (marked refl))
          (λ apart marked. rw (updated-other state.stock object false other apart) (sound.stocked other marked));
      ripe = λ client other others.
          at_updated (λ m. m ≡ Ripe → (taken state object).met client other ≡ true → ⊥) state.marks object Unmarked other
          (λ same is. absurd (unmarked_ripe is))
          (λ apart is met.
          elim (met-taken state object client other met) [
            | inl here ↦ apart here.0
            | inr before ↦ sound.ripe client other others is before
          ]);
      waits = λ client other others.
          at_updated (λ m. m ≡ Waiting → (taken state object).met client other ≡ true → client ≤ state.asked
          → Contains state.awaited (client, state.begins client)) state.marks object Unmarked other
          (λ same is. absurd (unmarked_waiting is))
          (λ apart is met below.
          elim (met-taken state object client other met) [
            | inl here ↦ absurd (apart here.0)
            | inr before ↦ sound.waits client other others is before below
          ]);
    }

IsSound-given_back : (state : State) (object : ℕ) → IsSound state → IsSound (happens state (GiveBack object))
IsSound-given_back state object sound =
    record {
      known = sound.known;
      inside = sound.inside;
      out = λ client other within.
          at_updated (λ b. b ≡ false → state.met client other ≡ true) state.stock object true other
          (λ same none. absurd cc)
          (λ apart none. sound.out client other within none);
      stocked = λ other marked.
          at_updated (λ b. b ≡ true) state.stock object true other (λ _. refl) (λ _. sound.stocked other marked);
      ripe = sound.ripe;
      waits = sound.waits;
    }

IsSound-granted : (state : State) (object : ℕ) → IsSound state → MayHappen state (Grant object) → IsSound (happens state (Grant object))
IsSound-granted state object sound may =
    record {
      known = sound.known;
      inside = sound.inside;
      out = sound.out;
      stocked = λ other.
          at_updated (λ m. m ≢ Unmarked → state.stock other ≡ true) state.marks object Ripe other
          (λ same _. subst (λ o. state.stock o ≡ true) same may.0)
          (λ apart marked. sound.stocked other marked);
      ripe = λ client other others.
          at_updated (λ m. m ≡ Ripe → state.met client other ≡ true → ⊥) state.marks object Ripe other
          (λ same _ met.
          true_false (state.met client other) met (subst (λ o. state.met client o ≡ false) same (may.1 client others)))
          (λ apart is met. sound.ripe client other others is met);
      waits = λ client other others.
          at_updated (λ m. m ≡ Waiting → state.met client other ≡ true → client ≤ state.asked
          → Contains state.awaited (client, state.begins client)) state.marks object Ripe other
          (λ same is. absurd (waiting_ripe (sym is)))
          (λ apart is met below. sound.waits client other others is met below);
    }

-- ---- the owner notes an object, and asks

-- who is not asked is not waited for
unasked_waits : (state : State) → IsSound state → (client object : ℕ) → state.met client object ≡ true → client ≤ 0 → ⊥
unasked_waits state sound client object met below =
    let is = sound.known client (sound.inside client object met) in omega arith

IsSound-unasked : (state : State) → IsSound state → IsSound (unasked state)
IsSound-unasked state sound =
    record {
      known = sound.known;
      inside = sound.inside;
      out = sound.out;
      stocked = sound.stocked;
      ripe = sound.ripe;
      waits = λ client object others is met below. absurd (unasked_waits state sound client object met below);
    }

IsSound-waiting : (state : State) (object : ℕ) → IsSound state → state.stock object ≡ true → IsSound (waiting state object)
IsSound-waiting state object sound in_stock =
    record {
      known = sound.known;
      inside = sound.inside;
      out = sound.out;
      stocked = λ other.
          at_updated (λ m. m ≢ Unmarked → state.stock other ≡ true) state.marks object Waiting other
          (λ same _. subst (λ o. state.stock o ≡ true) same in_stock)
          (λ apart marked. sound.stocked other marked);
      ripe = λ client other others.
          at_updated (λ m. m ≡ Ripe → state.met client other ≡ true → ⊥) state.marks object Waiting other
          (λ same is. absurd (waiting_ripe is))
          (λ apart is met. sound.ripe client other others is met);
      waits = λ client other others is met below. absurd (unasked_waits state sound client other met below);
    }

IsSound-noted : (state : State) (object : ℕ) → IsSound state → IsSound (happens state (Note object))
IsSound-noted state object sound =
    cond_both (state.stock object) (waiting state object) state IsSound
    (λ in_stock. IsSound-waiting state object sound in_stock) (λ _. sound)

-- the clients that are waited for once the next one was asked
awaited_next : State → List Awaited
awaited_next state =
    if state.asked + 1 == state.owner then state.awaited
    else noted state.awaited (state.asked + 1) (state.begins (state.asked + 1))

-- who was waited for is so still
Contains-awaited_next : (state : State) (one : Awaited) → Contains state.awaited one → Contains (asked_next state).awaited one
Contains-awaited_next state one has =
    cond_both (state.asked + 1 == state.owner) state.awaited
    (noted state.awaited (state.asked + 1) (state.begins (state.asked + 1))) (λ list. Contains list one)
    (λ _. has)
    (λ _.
    cond_both (state.begins (state.asked + 1) % 2 == 1)
    (state.awaited ++ (state.asked + 1, state.begins (state.asked + 1)) ∷ []) state.awaited (λ list. Contains list one)
    (λ _. Contains-append_left state.awaited ((state.asked + 1, state.begins (state.asked + 1)) ∷ []) one has)
    (λ _. has))

-- who is asked inside a call is waited for
Contains-asked : (state : State) → state.asked + 1 ≢ state.owner → is_inside state (state.asked + 1) ≡ true
    → Contains (asked_next state).awaited (state.asked + 1, state.begins (state.asked + 1))
Contains-asked state others within =
    let one : Awaited = (state.asked + 1, state.begins (state.asked + 1)) in
    rw (ne_eqb (state.asked + 1) state.owner others, within)
    (Contains-append_right state.awaited (one ∷ []) one (0, omega arith, refl))

IsSound-asked : (state : State) → IsSound state → IsSound (asked_next state)
IsSound-asked state sound =
    record {
      known = sound.known;
      inside = sound.inside;
      out = sound.out;
      stocked = sound.stocked;
      ripe = sound.ripe;
      waits = λ client object others is met below.
          elim (cases_eq client (state.asked + 1)) [
            | inl same ↦
                subst (λ c. Contains (asked_next state).awaited (c, state.begins c)) (sym same)
                (Contains-asked state (λ owner. others (same ∙ owner))
                (subst (λ c. is_inside state c ≡ true) same (sound.inside client object met)))
            | inr apart ↦
                Contains-awaited_next state (client, state.begins client)
                (sound.waits client object others is met (omega arith))
          ];
    }

-- ---- the owner looks again

-- who has still the begin word stays in the list
Contains-filter : (test : Awaited → Bool) (list : List Awaited) (one : Awaited) → test one ≡ true → Contains list one
    → Contains (filter test list) one
Contains-filter test [] one passes has = absurd (omega (arith, has.1))
Contains-filter test (first ∷ rest) one passes has =
    elim (Contains-append_cases (first ∷ []) rest one has) [
      | inl here ↦
          let at : here.0 ≡ 0 = omega (arith, here.1) in
          let is : first ≡ one = rw at at here.2 in
          cond_both (test first) (first ∷ filter test rest) (filter test rest) (λ list. Contains list one)
          (λ _. (0, omega arith, is))
          (λ fails. true_false (test first) (subst (λ a. test a ≡ true) (sym is) passes) fails)
      | inr later ↦
          let still = Contains-filter test rest one passes later in
          cond_both (test first) (first ∷ filter test rest) (filter test rest) (λ list. Contains list one)
          (λ _. Contains-append_right (first ∷ []) (filter test rest) one still)
          (λ _. still)
    ]

Contains-looked : (begins : ℕ → ℕ) (list : List Awaited) (client : ℕ) → Contains list (client, begins client)
    → Contains (looked begins list) (client, begins client)
Contains-looked begins [] client has = has
Contains-looked begins (one ∷ rest) client has =
    Contains-filter (is_still_awaited (client_of one) (begins (client_of one))) (one ∷ rest) (client, begins client)
    (passes (client_of one)) has
  where
    passes : (looked_at : ℕ) → is_still_awaited looked_at (begins looked_at) (client, begins client) ≡ true
    passes looked_at =
        elim (cases_eq client looked_at) [
          | inl same ↦ rw (eq-eqb client looked_at same, eq-eqb (begins client) (begins looked_at) (ap begins same))
          | inr apart ↦ rw (ne_eqb client looked_at apart)
        ]

IsSound-looked : (state : State) → IsSound state → IsSound (happens state Look)
IsSound-looked state sound =
    record {
      known = sound.known;
      inside = sound.inside;
      out = sound.out;
      stocked = sound.stocked;
      ripe = sound.ripe;
      waits = λ client object others is met below.
          Contains-looked state.begins state.awaited client (sound.waits client object others is met below);
    }

-- ---- what waits is ripe

ripened-marked : (mark : Mark) → ripened mark ≢ Unmarked → mark ≢ Unmarked
ripened-marked Unmarked marked is = marked refl
ripened-marked Waiting marked is = unmarked_waiting (sym is)
ripened-marked Ripe marked is = unmarked_ripe (sym is)

ripened-ripe : (mark : Mark) → ripened mark ≡ Ripe → (mark ≡ Waiting) ⊎ (mark ≡ Ripe)
ripened-ripe Unmarked is = absurd (unmarked_ripe is)
ripened-ripe Waiting is = inl refl
ripened-ripe Ripe is = inr refl

ripened-waiting : (mark : Mark) → ripened mark ≡ Waiting → ⊥
ripened-waiting Unmarked is = unmarked_waiting is
ripened-waiting Waiting is = waiting_ripe (sym is)
ripened-waiting Ripe is = waiting_ripe (sym is)

nobody_awaited : (list : List Awaited) (one : Awaited) → is_nobody list ≡ true → Contains list one → ⊥
nobody_awaited [] one nobody has = omega (arith, has.1)
nobody_awaited (first ∷ rest) one nobody has = cc

IsSound-all_ripe : (state : State) → IsSound state → is_over state ≡ true
    → IsSound (record state { marks = λ object. ripened (state.marks object) })
IsSound-all_ripe state sound over =
    let both = and_parts (nat_le state.clients state.asked) (is_nobody state.awaited) over in
    record {
      known = sound.known;
      inside = sound.inside;
      out = sound.out;
      stocked = λ object marked. sound.stocked object (ripened-marked (state.marks object) marked);
      ripe = λ client object others is met.
          elim (ripened-ripe (state.marks object) is) [
            | inl waits ↦
                let known = sound.known client (sound.inside client object met) in
                let asked = leb-true state.clients state.asked both.0 in
                nobody_awaited state.awaited (client, state.begins client) both.1
                (sound.waits client object others waits met (omega arith))
            | inr ripe ↦ sound.ripe client object others ripe met
          ];
      waits = λ client object others is. absurd (ripened-waiting (state.marks object) is);
    }

IsSound-ripened : (state : State) → IsSound state → IsSound (happens state Ripen)
IsSound-ripened state sound =
    cond_both (is_over state) (record state { marks = λ object. ripened (state.marks object) }) state IsSound
    (λ over. IsSound-all_ripe state sound over) (λ _. sound)

-- ---- any event

pub IsSound-happens : (state : State) (event : Event) → MayHappen state event → IsSound state → IsSound (happens state event)
IsSound-happens state (Begin client) may sound = IsSound-begun state client sound may
IsSound-happens state (End client) may sound = IsSound-ended state client sound may
IsSound-happens state (Take object) may sound = IsSound-taken state object sound
IsSound-happens state (GiveBack object) may sound = IsSound-given_back state object sound
IsSound-happens state (Grant object) may sound = IsSound-granted state object sound may
IsSound-happens state (Note object) may sound = IsSound-noted state object sound
IsSound-happens state AskAnew may sound = IsSound-unasked state sound
IsSound-happens state Ask may sound =
    cond_both (nat_lt state.asked state.clients) (asked_next state) state IsSound (λ _. IsSound-asked state sound) (λ _. sound)
IsSound-happens state Look may sound = IsSound-looked state sound
IsSound-happens state Ripen may sound = IsSound-ripened state sound
