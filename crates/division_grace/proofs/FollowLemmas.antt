-- The steps of a pool are followed by the machine of one client's objects.
use Rattle.std.proofs.Common.{◌≡◌, ◌≢◌, ℕ, ◌+◌, ◌%◌, ◌≤◌, ◌==◌, inl, inr, Bool, true, false, List, [], ◌∷◌, ◌++◌, refl, sym, ap, subst, ◌∙◌, arith}
use Rattle.machine.specs.EpochRead.{IsView}
use Rattle.machine.specs.ObjectNames.{IsObject, Object}
use Rattle.machine.specs.Places.{control}
use Rattle.region_view.specs.Control.{Begin as begin_of}
use Rattle.region_view.specs.Placed.{Viewed}
use Rattle.reuse_grace.proofs.Soundness.{at_updated}
use Rattle.reuse_grace.specs.Allowed as graced
use Rattle.reuse_grace.specs.Stock as grace
use Rattle.reuse_grace.specs.Stock.{Unmarked}
use Rattle.verb_words.proofs.AppliedLemmas.{word_at-words_after-same}
use Rattle.verb_words.specs.declared.verbs.Verb.TheVariants.{Write}
use Rattle.object_division.specs.Allowed.{IsAllowed, MayHappen}
use Rattle.object_division.specs.Claims.{IsGranted}
use Rattle.object_division.specs.Run.{Begin, Choose, Clear, ClearNext, End, Event, Name, Release, ReleaseNext, Renew, Retire, Return, ReturnNext, Seek, State, begin_word, happens, is_inside, moved_on, opening, renewed, run}
use Rattle.object_division.proofs.BlockLemmas.{IsSound-opening, IsSound-run}
use Rattle.object_division.proofs.CallLemmas.{begins_stay}
use Rattle.object_division.proofs.ClassLemmas.{granted_kept, view-happens, view-run}
use Rattle.object_division.proofs.Soundness.{IsSound}
use Rattle.division_grace.proofs.ClientLemmas.{IsOf, IsSpared, SameBegins, SeesClient, step_leads}
use Rattle.division_grace.proofs.LeadLemmas.{IsAllowed-both as allowed-both, IsOnward, run-both}
use Rattle.division_grace.proofs.SeenLemmas.{sees_same}

-- ---- states that a pool reaches

-- some steps lead to the state
pub record IsReached (view : Viewed) (state : State) : Type 0 where
  pub is_view : IsView view
  pub past : List Event
  pub allowed : IsAllowed (opening view) past
  pub is : run (opening view) past ≡ state

pub run-more : (state : State) (events : List Event) (event : Event)
    → run state (events ++ event ∷ []) ≡ happens (run state events) event
run-more state [] event = refl
run-more state (first ∷ events) event = run-more (happens state first) events event

allowed-more : (state : State) (events : List Event) (event : Event) → IsAllowed state events
    → MayHappen (run state events) event → IsAllowed state (events ++ event ∷ [])
allowed-more state [] event allowed may = (may, tt)
allowed-more state (first ∷ events) event allowed may =
    (allowed.0, allowed-more (happens state first) events event allowed.1 may)

pub reached_next : (view : Viewed) (state : State) (event : Event) → IsReached view state → MayHappen state event
    → IsReached view (happens state event)
reached_next view state event reached may =
    record {
      is_view = reached.is_view;
      past = reached.past ++ event ∷ [];
      allowed =
          allowed-more (opening view) reached.past event reached.allowed
          (subst (λ s. MayHappen s event) (sym reached.is) may);
      is = run-more (opening view) reached.past event ∙ ap (λ s. happens s event) reached.is;
    }

pub reached_run : (view : Viewed) (state : State) (events : List Event) → IsReached view state → IsAllowed state events
    → IsReached view (run state events)
reached_run view state [] reached allowed = reached
reached_run view state (event ∷ events) reached allowed =
    reached_run view (happens state event) events (reached_next view state event reached allowed.0) allowed.1

pub reached_sound : (view : Viewed) (state : State) → IsReached view state → IsSound state
reached_sound view state reached =
    subst IsSound reached.is
    (IsSound-run (opening view) reached.past reached.allowed (IsSound-opening view reached.is_view))

pub reached_view : (view : Viewed) (state : State) → IsReached view state → state.view ≡ view
reached_view view state reached = ap (λ (s : State). s.view) (sym reached.is) ∙ view-run (opening view) reached.past

-- what holds of each state that steps lead to, and of the next step
at_reached : (view : Viewed) (state : State) (event : Event) (P : State → Type 0) → IsReached view state
    → MayHappen state event
    → ((past : List Event) → IsAllowed (opening view) past → IsAllowed (opening view) (past ++ event ∷ []) → P (run (opening view) past))
    → P state
at_reached view state event P reached may holds =
    subst P reached.is
    (holds reached.past reached.allowed
    (allowed-more (opening view) reached.past event reached.allowed (subst (λ s. MayHappen s event) (sym reached.is) may)))

pub spared_next : (view : Viewed) (state : State) (event : Event) (object : Object) → IsReached view state
    → MayHappen state event → IsSpared state object → IsSpared (happens state event) object
spared_next view state event object reached may (inr none) = inr none
spared_next view state event object reached may (inl granted) =
    let is_object : IsObject view.shape object =
    subst (λ (v : Viewed). IsObject v.shape object) (reached_view view state reached) granted.0 in
    inl (
      subst (λ (v : Viewed). IsObject v.shape object) (sym (view-happens state event)) granted.0,
      at_reached view state event (λ s. IsGranted s object → IsGranted (happens s event) object) reached may
          (λ past allowed all. granted_kept view past (event ∷ []) reached.is_view all object is_object) granted.1,
    )

-- ---- begin words

-- the event begins or ends a call
abbrev is_call : Event → Bool
is_call (Begin client) = true
is_call (End client) = true
is_call other = false

call_quiet : {A : Type 0} (event call : Event) → is_call event ≡ false → event ≡ call → is_call call ≡ true → A
call_quiet event call quiet same is = let both : false ≡ true = sym quiet ∙ (ap is_call same ∙ is) in absurd cc

no_call : (view : Viewed) (state : State) (event : Event) (client : ℕ) → IsReached view state → MayHappen state event
    → 1 ≤ client → client ≤ state.view.shape.clients → event ≢ Begin client → event ≢ End client
    → begin_word (happens state event) client ≡ begin_word state client
no_call view state event client reached may least most no_begin no_end =
    let within : client ≤ view.shape.clients =
    subst (λ (v : Viewed). client ≤ v.shape.clients) (reached_view view state reached) most in
    at_reached view state event (λ s. begin_word (happens s event) client ≡ begin_word s client) reached may
    (λ past allowed all. begins_stay view past event reached.is_view all client least within no_begin no_end)

same_begin : (client other : ℕ) → Begin client ≡ Begin other → client ≡ other
same_begin client other is = cc

same_end : (client other : ℕ) → End client ≡ End other → client ≡ other
same_end client other is = cc

begin_end : (client other : ℕ) → Begin client ≡ End other → ⊥
begin_end client other is = cc

-- the begin word that is written
begin_moves : (state : State) (client : ℕ) → IsSound state → 1 ≤ client → client ≤ state.view.shape.clients
    → begin_word (moved_on state client) client ≡ begin_word state client + 1
begin_moves state client sound least most =
    word_at-words_after-same state.words (Write (control (begin_of client)) (begin_word state client + 1)) false
    (sound.places (control (begin_of client))
    (inl (refl, omega (arith, least, most, sound.is_view.limits.clients)))) refl

-- the machine's begin words after a call's begin or end
begins_moved : (state : State) (machine : grace.State) (number client : ℕ) → IsSound state → 1 ≤ number
    → number ≤ state.view.shape.clients → SameBegins state machine → 1 ≤ client → client ≤ state.view.shape.clients
    → (number ≢ client → begin_word (moved_on state number) client ≡ begin_word state client)
    → grace.updated machine.begins number (machine.begins number + 1) client ≡ begin_word (moved_on state number) client
begins_moved state machine number client sound least' most' begins least most stay =
    at_updated (λ w. w ≡ begin_word (moved_on state number) client) machine.begins number (machine.begins number + 1) client
    (λ same.
    subst (λ c. machine.begins number + 1 ≡ begin_word (moved_on state number) c) same
    (ap (λ w. w + 1) (begins number least' most') ∙ sym (begin_moves state number sound least' most')))
    (λ apart. begins client least most ∙ sym (stay apart))

-- ---- the machine follows

-- the machine is that of the client's objects, and sees the client's stock
pub record Follows (state : State) (owner : ℕ) (object : Object) (machine : grace.State) : Type 0 where
  pub of : IsOf state owner machine
  pub sees : SeesClient object (state.clients owner) machine

-- some events may happen that lead to such a state
pub record Goes (machine : grace.State) (P : grace.State → Type 0) : Type 0 where
  pub events : List grace.Event
  pub allowed : graced.IsAllowed machine events
  pub after : P (grace.run machine events)

pub goes_nowhere : (machine : grace.State) (P : grace.State → Type 0) → P machine → Goes machine P
goes_nowhere machine P here = record { events = []; allowed = tt; after = here }

pub goes_on : (machine : grace.State) (P Q : grace.State → Type 0) → Goes machine P
    → ((later : grace.State) → P later → Goes later Q) → Goes machine Q
goes_on machine P Q first second =
    let rest = second (grace.run machine first.events) first.after in
    record {
      events = first.events ++ rest.events;
      allowed = allowed-both machine first.events rest.events first.allowed rest.allowed;
      after = subst Q (sym (run-both machine first.events rest.events)) rest.after;
    }

inside_same : (state : State) (machine : grace.State) (client : ℕ) → machine.begins client ≡ begin_word state client
    → (b : Bool) → is_inside state client ≡ b → grace.is_inside machine client ≡ b
inside_same state machine client same b is = ap (λ w. w % 2 == 1) same ∙ is

-- a call begins
begin_goes : (view : Viewed) (state : State) (number owner : ℕ) (machine : grace.State) → IsReached view state
    → MayHappen state (Begin number) → IsOf state owner machine
    → graced.IsAllowed machine (grace.Begin number ∷ [])
    × IsOf (happens state (Begin number)) owner (grace.happens machine (grace.Begin number))
begin_goes view state number owner machine reached may of = (
  (
    (
      may.0.number.0,
      omega (arith, may.0.number.1, of.clients_are),
      inside_same state machine number (of.begins number may.0.number.0 may.0.number.1) false may.1,
    ),
    tt,
  ),
  record {
    owner_is = of.owner_is;
    clients_are = of.clients_are;
    begins = λ client least most.
        begins_moved state machine number client (reached_sound view state reached) may.0.number.0 may.0.number.1 of.begins
        least most
        (λ apart.
        no_call view state (Begin number) client reached may least most (λ is. apart (same_begin number client is))
        (begin_end number client));
  },
)

-- a call ends
end_goes : (view : Viewed) (state : State) (number owner : ℕ) (machine : grace.State) → IsReached view state
    → MayHappen state (End number) → IsOf state owner machine
    → graced.IsAllowed machine (grace.End number ∷ [])
    × IsOf (happens state (End number)) owner (grace.happens machine (grace.End number))
end_goes view state number owner machine reached may of = (
  (inside_same state machine number (of.begins number may.0.number.0 may.0.number.1) true may.1, tt),
  record {
    owner_is = of.owner_is;
    clients_are = of.clients_are;
    begins = λ client least most.
        begins_moved state machine number client (reached_sound view state reached) may.0.number.0 may.0.number.1 of.begins
        least most
        (λ apart.
        no_call view state (End number) client reached may least most (λ is. begin_end client number (sym is))
        (λ is. apart (same_end number client is)));
  },
)

-- no call begins or ends
quiet_of : (view : Viewed) (state : State) (event : Event) (owner : ℕ) (machine : grace.State) → IsReached view state
    → MayHappen state event → is_call event ≡ false → IsOf state owner machine → IsOf (happens state event) owner machine
quiet_of view state event owner machine reached may quiet of =
    let views : (happens state event).view ≡ state.view = view-happens state event in
    record {
      owner_is = of.owner_is;
      clients_are = of.clients_are ∙ ap (λ (v : Viewed). v.shape.clients) (sym views);
      begins = λ client least most.
          let within = subst (λ (v : Viewed). client ≤ v.shape.clients) views most in
          of.begins client least within
          ∙ sym
          (no_call view state event client reached may least within
          (λ is. call_quiet event (Begin client) quiet is refl) (λ is. call_quiet event (End client) quiet is refl));
    }

of_onward : (state : State) (owner object : ℕ) (machine later : grace.State) → IsOf state owner machine
    → IsOnward machine later object → IsOf state owner later
of_onward state owner object machine later of onward =
    record {
      owner_is = onward.owner ∙ of.owner_is;
      clients_are = onward.clients ∙ of.clients_are;
      begins = λ client least most. ap (λ (b : ℕ → ℕ). b client) onward.begins ∙ of.begins client least most;
    }

quiet_follows : (view : Viewed) (state : State) (event : Event) (object : Object) (owner : ℕ) (machine : grace.State)
    → IsReached view state → MayHappen state event → IsSpared state object → is_call event ≡ false
    → Follows state owner object machine → Goes machine (λ later. Follows (happens state event) owner object later)
quiet_follows view state event object owner machine reached may spared quiet follows =
    let leads = step_leads state event object owner machine may (reached_sound view state reached) spared follows.of follows.sees in
    record {
      events = leads.events;
      allowed = leads.allowed;
      after = record {
        of =
            of_onward (happens state event) owner object.pointer machine (grace.run machine leads.events)
            (quiet_of view state event owner machine reached may quiet follows.of) leads.onward;
        sees = leads.after;
      };
    }

sees_moved : (object : Object) (state : State) (owner : ℕ) (machine later : grace.State) → later.marks ≡ machine.marks
    → later.awaited ≡ machine.awaited → later.asked ≡ machine.asked → later.clients ≡ machine.clients
    → SeesClient object (state.clients owner) machine → SeesClient object (state.clients owner) later
sees_moved object state owner machine later marks awaited asked clients sees active =
    sees_same object (renewed (state.clients owner) (state.clients owner).clearing).stock machine later marks awaited asked clients (sees active)

follows_next : (view : Viewed) (state : State) (event : Event) (object : Object) (owner : ℕ) (machine : grace.State)
    → IsReached view state → MayHappen state event → IsSpared state object
    → Follows state owner object machine → Goes machine (λ later. Follows (happens state event) owner object later)
follows_next view state (Begin number) object owner machine reached may spared follows =
    let next = begin_goes view state number owner machine reached may follows.of in
    record {
      events = grace.Begin number ∷ [];
      allowed = next.0;
      after = record {
        of = next.1;
        sees =
            sees_moved object state owner machine (grace.happens machine (grace.Begin number)) refl refl refl refl
            follows.sees;
      };
    }
follows_next view state (End number) object owner machine reached may spared follows =
    let next = end_goes view state number owner machine reached may follows.of in
    record {
      events = grace.End number ∷ [];
      allowed = next.0;
      after = record {
        of = next.1;
        sees =
            sees_moved object state owner machine (grace.happens machine (grace.End number)) refl refl refl refl
            follows.sees;
      };
    }
follows_next view state (Choose number class) object owner machine reached may spared follows =
    quiet_follows view state (Choose number class) object owner machine reached may spared refl follows
follows_next view state (Seek number) object owner machine reached may spared follows =
    quiet_follows view state (Seek number) object owner machine reached may spared refl follows
follows_next view state (Clear number class) object owner machine reached may spared follows =
    quiet_follows view state (Clear number class) object owner machine reached may spared refl follows
follows_next view state (ClearNext number) object owner machine reached may spared follows =
    quiet_follows view state (ClearNext number) object owner machine reached may spared refl follows
follows_next view state (Renew number) object owner machine reached may spared follows =
    quiet_follows view state (Renew number) object owner machine reached may spared refl follows
follows_next view state (Name number one) object owner machine reached may spared follows =
    quiet_follows view state (Name number one) object owner machine reached may spared refl follows
follows_next view state (Return number one look) object owner machine reached may spared follows =
    quiet_follows view state (Return number one look) object owner machine reached may spared refl follows
follows_next view state (ReturnNext number one) object owner machine reached may spared follows =
    quiet_follows view state (ReturnNext number one) object owner machine reached may spared refl follows
follows_next view state (Retire number) object owner machine reached may spared follows =
    quiet_follows view state (Retire number) object owner machine reached may spared refl follows
follows_next view state (Release number region block class) object owner machine reached may spared follows =
    quiet_follows view state (Release number region block class) object owner machine reached may spared refl follows
follows_next view state (ReleaseNext number) object owner machine reached may spared follows =
    quiet_follows view state (ReleaseNext number) object owner machine reached may spared refl follows

pub follows_run : (view : Viewed) (state : State) (events : List Event) (object : Object) (owner : ℕ) (machine : grace.State)
    → IsReached view state → IsAllowed state events → IsSpared state object
    → Follows state owner object machine → Goes machine (λ later. Follows (run state events) owner object later)
follows_run view state [] object owner machine reached allowed spared follows =
    goes_nowhere machine (λ later. Follows state owner object later) follows
follows_run view state (event ∷ events) object owner machine reached allowed spared follows =
    goes_on machine (λ later. Follows (happens state event) owner object later)
    (λ later. Follows (run (happens state event) events) owner object later)
    (follows_next view state event object owner machine reached allowed.0 spared follows)
    (λ later then.
    follows_run view (happens state event) events object owner later (reached_next view state event reached allowed.0) allowed.1
    (spared_next view state event object reached allowed.0 spared) then)

-- ---- the machine follows the calls alone, while the object is out of stock

-- nothing is known of the object, and it is out of stock
pub record IsOut (state : State) (owner : ℕ) (object : Object) (machine : grace.State) : Type 0 where
  pub of : IsOf state owner machine
  pub unmarked : machine.marks object.pointer ≡ Unmarked
  pub out : machine.stock object.pointer ≡ false

quiet_out : (view : Viewed) (state : State) (event : Event) (object : Object) (owner : ℕ) (machine : grace.State)
    → IsReached view state → MayHappen state event → is_call event ≡ false → IsOut state owner object machine
    → Goes machine (λ later. IsOut (happens state event) owner object later)
quiet_out view state event object owner machine reached may quiet is =
    goes_nowhere machine (λ later. IsOut (happens state event) owner object later)
    (record { of = quiet_of view state event owner machine reached may quiet is.of; unmarked = is.unmarked; out = is.out })

out_next : (view : Viewed) (state : State) (event : Event) (object : Object) (owner : ℕ) (machine : grace.State)
    → IsReached view state → MayHappen state event → IsOut state owner object machine
    → Goes machine (λ later. IsOut (happens state event) owner object later)
out_next view state (Begin number) object owner machine reached may is =
    let next = begin_goes view state number owner machine reached may is.of in
    record {
      events = grace.Begin number ∷ [];
      allowed = next.0;
      after = record { of = next.1; unmarked = is.unmarked; out = is.out };
    }
out_next view state (End number) object owner machine reached may is =
    let next = end_goes view state number owner machine reached may is.of in
    record {
      events = grace.End number ∷ [];
      allowed = next.0;
      after = record { of = next.1; unmarked = is.unmarked; out = is.out };
    }
out_next view state (Choose number class) object owner machine reached may is =
    quiet_out view state (Choose number class) object owner machine reached may refl is
out_next view state (Seek number) object owner machine reached may is =
    quiet_out view state (Seek number) object owner machine reached may refl is
out_next view state (Clear number class) object owner machine reached may is =
    quiet_out view state (Clear number class) object owner machine reached may refl is
out_next view state (ClearNext number) object owner machine reached may is =
    quiet_out view state (ClearNext number) object owner machine reached may refl is
out_next view state (Renew number) object owner machine reached may is =
    quiet_out view state (Renew number) object owner machine reached may refl is
out_next view state (Name number one) object owner machine reached may is =
    quiet_out view state (Name number one) object owner machine reached may refl is
out_next view state (Return number one look) object owner machine reached may is =
    quiet_out view state (Return number one look) object owner machine reached may refl is
out_next view state (ReturnNext number one) object owner machine reached may is =
    quiet_out view state (ReturnNext number one) object owner machine reached may refl is
out_next view state (Retire number) object owner machine reached may is =
    quiet_out view state (Retire number) object owner machine reached may refl is
out_next view state (Release number region block class) object owner machine reached may is =
    quiet_out view state (Release number region block class) object owner machine reached may refl is
out_next view state (ReleaseNext number) object owner machine reached may is =
    quiet_out view state (ReleaseNext number) object owner machine reached may refl is

pub out_run : (view : Viewed) (state : State) (events : List Event) (object : Object) (owner : ℕ) (machine : grace.State)
    → IsReached view state → IsAllowed state events → IsOut state owner object machine
    → Goes machine (λ later. IsOut (run state events) owner object later)
out_run view state [] object owner machine reached allowed is =
    goes_nowhere machine (λ later. IsOut state owner object later) is
out_run view state (event ∷ events) object owner machine reached allowed is =
    goes_on machine (λ later. IsOut (happens state event) owner object later)
    (λ later. IsOut (run (happens state event) events) owner object later)
    (out_next view state event object owner machine reached allowed.0 is)
    (λ later then.
    out_run view (happens state event) events object owner later (reached_next view state event reached allowed.0) allowed.1 then)
