-- What the machine of one owner's objects can be led to, without that a call begins or ends.
use Rattle.std.proofs.Common.{◌≡◌, ◌≢◌, ℕ, ◌+◌, ◌≤◌, true, false, nat_lt, nat_le, inl, inr, List, [], ◌∷◌, ◌++◌, refl, sym, ◌∙◌, ap, subst, arith, eq-eqb, ne_eqb}
use Rattle.std.proofs.lemmas.Bool.{and_from, cases_Bool, cond_both, le-leb, lt-ltb}
use Rattle.reuse_epoch.specs.Awaited.{Awaited, noted}
use Rattle.reuse_grace.specs.Stock.{State, Mark, Unmarked, Waiting, Ripe, Event, GiveBack, Note, AskAnew, Ask, Look, Ripen, waiting, asked_next, is_nobody, is_over, ripened, happens, run}
use Rattle.reuse_grace.specs.Allowed.{MayHappen, IsAllowed}
use Rattle.reuse_grace.proofs.Soundness.{updated-same}

-- a later state in the same calls: a mark of the object has gone no step back
pub record IsOnward (state later : State) (object : ℕ) : Type 0 where
  pub owner : later.owner ≡ state.owner
  pub clients : later.clients ≡ state.clients
  pub begins : later.begins ≡ state.begins
  pub ripe : state.marks object ≡ Ripe → later.marks object ≡ Ripe
  pub marked : state.marks object ≢ Unmarked → later.marks object ≢ Unmarked

-- some events may happen that lead to such a state
pub record Leads (state : State) (object : ℕ) (P : State → Type 0) : Type 0 where
  pub events : List Event
  pub allowed : IsAllowed state events
  pub onward : IsOnward state (run state events) object
  pub after : P (run state events)

pub run-both : (state : State) (first later : List Event) → run state (first ++ later) ≡ run (run state first) later
run-both state [] later = refl
run-both state (event ∷ first) later = run-both (happens state event) first later

pub IsAllowed-both : (state : State) (first later : List Event) → IsAllowed state first → IsAllowed (run state first) later
    → IsAllowed state (first ++ later)
IsAllowed-both state [] later allowed more = more
IsAllowed-both state (event ∷ first) later allowed more =
    (allowed.0, IsAllowed-both (happens state event) first later allowed.1 more)

-- nothing that is known of the object changes
onward_same : (state later : State) (object : ℕ) → later.owner ≡ state.owner → later.clients ≡ state.clients
    → later.begins ≡ state.begins → later.marks object ≡ state.marks object → IsOnward state later object
onward_same state later object owner clients begins marks =
    record {
      owner = owner;
      clients = clients;
      begins = begins;
      ripe = λ is. marks ∙ is;
      marked = λ marked is. marked (sym marks ∙ is);
    }

onward_on : (state middle later : State) (object : ℕ) → IsOnward state middle object → IsOnward middle later object
    → IsOnward state later object
onward_on state middle later object first second =
    record {
      owner = second.owner ∙ first.owner;
      clients = second.clients ∙ first.clients;
      begins = second.begins ∙ first.begins;
      ripe = λ is. second.ripe (first.ripe is);
      marked = λ is. second.marked (first.marked is);
    }

pub leads_nowhere : (state : State) (object : ℕ) (P : State → Type 0) → P state → Leads state object P
leads_nowhere state object P here =
    record { events = []; allowed = tt; onward = onward_same state state object refl refl refl refl; after = here }

pub leads_on : (state : State) (object : ℕ) (P Q : State → Type 0) → Leads state object P
    → ((later : State) → IsOnward state later object → P later → Leads later object Q) → Leads state object Q
leads_on state object P Q first second =
    let middle = run state first.events in
    let rest = second middle first.onward first.after in
    let same = run-both state first.events rest.events in
    record {
      events = first.events ++ rest.events;
      allowed = IsAllowed-both state first.events rest.events first.allowed rest.allowed;
      onward =
          subst (λ later. IsOnward state later object) (sym same)
          (onward_on state middle (run middle rest.events) object first.onward rest.onward);
      after = subst Q (sym same) rest.after;
    }

leads_by : (state : State) (object : ℕ) (P : State → Type 0) (event : Event) → MayHappen state event
    → IsOnward state (happens state event) object → P (happens state event) → Leads state object P
leads_by state object P event may onward after =
    record { events = event ∷ []; allowed = (may, tt); onward = onward; after = after }

-- ---- the object waits, or is ripe already

waiting_marked : Waiting ≢ Unmarked
waiting_marked is = cc

unmarked_ripe : {A : Type 0} (mark : Mark) → mark ≡ Unmarked → mark ≡ Ripe → A
unmarked_ripe mark unmarked ripe = let both : Unmarked ≡ Ripe = sym unmarked ∙ ripe in absurd cc

onward_waiting : (state : State) (object : ℕ) → state.marks object ≡ Unmarked → IsOnward state (waiting state object) object
onward_waiting state object unmarked =
    record {
      owner = refl;
      clients = refl;
      begins = refl;
      ripe = λ ripe. unmarked_ripe (state.marks object) unmarked ripe;
      marked = λ marked. absurd (marked unmarked);
    }

waits : (state : State) (object : ℕ) → (waiting state object).marks object ≢ Unmarked
waits state object is = waiting_marked (sym (updated-same state.marks object Waiting object refl) ∙ is)

note_leads : (state : State) (object : ℕ) → state.stock object ≡ true → state.marks object ≡ Unmarked
    → Leads state object (λ later. later.marks object ≢ Unmarked)
note_leads state object stocked unmarked =
    leads_by state object (λ later. later.marks object ≢ Unmarked) (Note object) tt
    (rw stocked (onward_waiting state object unmarked)) (rw stocked (waits state object))

give_leads : (state : State) (object : ℕ) → state.stock object ≡ false → state.marks object ≡ Unmarked
    → Leads state object (λ later. (later.stock object ≡ true) × (later.marks object ≡ Unmarked))
give_leads state object out unmarked =
    leads_by state object (λ later. (later.stock object ≡ true) × (later.marks object ≡ Unmarked)) (GiveBack object) out
    (onward_same state (happens state (GiveBack object)) object refl refl refl refl)
    (updated-same state.stock object true object refl, unmarked)

pub marks_lead : (state : State) (object : ℕ) → Leads state object (λ later. later.marks object ≢ Unmarked)
marks_lead state object = by (state.marks object) refl
  where
    Marked : State → Type 0
    Marked later = later.marks object ≢ Unmarked

    by : (mark : Mark) → state.marks object ≡ mark → Leads state object Marked
    by Waiting is = leads_nowhere state object Marked (λ unmarked. waiting_marked (sym is ∙ unmarked))
    by Ripe is = leads_nowhere state object Marked (λ unmarked. unmarked_ripe (state.marks object) unmarked is)
    by Unmarked is =
        elim (cases_Bool (state.stock object)) [
          | inl stocked ↦ note_leads state object stocked is
          | inr out ↦
              leads_on state object (λ later. (later.stock object ≡ true) × (later.marks object ≡ Unmarked)) Marked
              (give_leads state object out is)
              (λ later onward both. note_leads later object both.0 both.1)
        ]

-- ---- the owner asks

pub anew_leads : (state : State) (object : ℕ)
    → Leads state object (λ later. (later.awaited ≡ []) × (later.asked ≡ 0))
anew_leads state object =
    leads_by state object (λ later. (later.awaited ≡ []) × (later.asked ≡ 0)) AskAnew tt
    (onward_same state (happens state AskAnew) object refl refl refl refl) (refl, refl)

-- the next client was asked, where one was left
pub record IsAsked (state later : State) : Type 0 where
  pub other : (client : ℕ) → state.asked + 1 ≡ client → client ≤ state.clients → client ≢ state.owner
      → (later.awaited ≡ noted state.awaited client (state.begins client)) × (later.asked ≡ client)
  pub owner : state.asked + 1 ≡ state.owner → state.owner ≤ state.clients
      → (later.awaited ≡ state.awaited) × (later.asked ≡ state.owner)

asked_other : (state : State) (client : ℕ) → state.asked + 1 ≡ client → client ≤ state.clients → client ≢ state.owner
    → ((happens state Ask).awaited ≡ noted state.awaited client (state.begins client)) × ((happens state Ask).asked ≡ client)
asked_other state client next within apart =
    subst (λ c. ((happens state Ask).awaited ≡ noted state.awaited c (state.begins c)) × ((happens state Ask).asked ≡ c)) next
    (rw (
      lt-ltb state.asked state.clients (omega (arith, next, within)),
      ne_eqb (state.asked + 1) state.owner (λ is. apart (sym next ∙ is)),
    ) (refl, refl))

asked_owner : (state : State) → state.asked + 1 ≡ state.owner → state.owner ≤ state.clients
    → ((happens state Ask).awaited ≡ state.awaited) × ((happens state Ask).asked ≡ state.owner)
asked_owner state next within =
    rw (lt-ltb state.asked state.clients (omega (arith, next, within)), eq-eqb (state.asked + 1) state.owner next) (refl, next)

pub ask_leads : (state : State) (object : ℕ) → Leads state object (IsAsked state)
ask_leads state object =
    leads_by state object (IsAsked state) Ask tt
    (cond_both (nat_lt state.asked state.clients) (asked_next state) state (λ later. IsOnward state later object)
    (λ _. onward_same state (asked_next state) object refl refl refl refl)
    (λ _. onward_same state state object refl refl refl refl))
    (record { other = asked_other state; owner = asked_owner state })

-- ---- the owner looks again, and what waits is ripe

pub look_leads : (state : State) (object : ℕ)
    → Leads state object (λ later. (later.awaited ≡ (happens state Look).awaited) × (later.asked ≡ state.asked))
look_leads state object =
    leads_by state object (λ later. (later.awaited ≡ (happens state Look).awaited) × (later.asked ≡ state.asked)) Look tt
    (onward_same state (happens state Look) object refl refl refl refl) (refl, refl)

-- what was marked is ripe, if all were asked and nobody is awaited
pub record IsRipened (state later : State) (object : ℕ) : Type 0 where
  pub awaited : later.awaited ≡ state.awaited
  pub asked : later.asked ≡ state.asked
  pub ripe : state.clients ≤ state.asked → state.awaited ≡ [] → state.marks object ≢ Unmarked → later.marks object ≡ Ripe

marked_ripened : (mark : Mark) → mark ≢ Unmarked → ripened mark ≡ Ripe
marked_ripened Unmarked marked = absurd (marked refl)
marked_ripened Waiting marked = refl
marked_ripened Ripe marked = refl

ripe_marked : Ripe ≢ Unmarked
ripe_marked is = cc

onward_ripened : (state : State) (object : ℕ) → IsOnward state (record state { marks = λ o. ripened (state.marks o) }) object
onward_ripened state object =
    record {
      owner = refl;
      clients = refl;
      begins = refl;
      ripe = λ is. ap ripened is;
      marked = λ marked is. ripe_marked (sym (marked_ripened (state.marks object) marked) ∙ is);
    }

nobody : (list : List Awaited) → list ≡ [] → is_nobody list ≡ true
nobody list none = ap is_nobody none

over : (state : State) → state.clients ≤ state.asked → state.awaited ≡ [] → is_over state ≡ true
over state all none =
    and_from (nat_le state.clients state.asked) (is_nobody state.awaited) (le-leb state.clients state.asked all)
    (nobody state.awaited none)

is_ripened : (state : State) (object : ℕ) → IsRipened state (happens state Ripen) object
is_ripened state object =
    record {
      awaited =
          cond_both (is_over state) (record state { marks = λ o. ripened (state.marks o) }) state
          (λ (later : State). later.awaited ≡ state.awaited) (λ _. refl) (λ _. refl);
      asked =
          cond_both (is_over state) (record state { marks = λ o. ripened (state.marks o) }) state
          (λ (later : State). later.asked ≡ state.asked) (λ _. refl) (λ _. refl);
      ripe = λ all none marked. rw (over state all none) (marked_ripened (state.marks object) marked);
    }

pub ripen_leads : (state : State) (object : ℕ) → Leads state object (λ later. IsRipened state later object)
ripen_leads state object =
    leads_by state object (λ later. IsRipened state later object) Ripen tt
    (cond_both (is_over state) (record state { marks = λ o. ripened (state.marks o) }) state (λ later. IsOnward state later object)
    (λ _. onward_ripened state object)
    (λ _. onward_same state state object refl refl refl refl))
    (is_ripened state object)
