-- The theorem on grace: what is taken was met by no call of another client that still runs.
use Rattle.std.proofs.Common.{◌≡◌, ◌≢◌, ℕ, ◌+◌, ◌≤◌, Bool, true, false, not, nat_lt, List, [], ◌∷◌, ◌++◌, refl, sym, ◌∙◌, ap, subst, arith}
use Rattle.std.proofs.lemmas.Bool.{cond_both, false_from_ne_true}
use Rattle.reuse_grace.specs.Stock.{State, Event, Begin, End, Take, GiveBack, Grant, Note, AskAnew, Ask, Look, Ripen, updated, is_inside, taken, waiting, asked_next, is_over, ripened, happens, opening, run}
use Rattle.reuse_grace.specs.Allowed.{MayHappen, IsAllowed}
use Rattle.reuse_grace.specs.Claims.{Holds, HoldsAlong}
use Rattle.reuse_grace.proofs.Soundness.{IsSound, at_updated}
use Rattle.reuse_grace.proofs.EventLemmas.{IsSound-happens, IsSound-opening, ripe_marked}

-- ---- each event

pub holds : (state : State) (event : Event) → MayHappen state event → IsSound state → Holds state event
holds state event may sound =
    record {
      stocked = λ object is. sound.stocked object (ripe_marked (state.marks object) (ripe object is));
      unmet = λ object is client other.
          false_from_ne_true (state.met client object) (sound.ripe client object other (ripe object is));
    }
  where
    ripe : (object : ℕ) → event ≡ Take object → MayHappen state (Take object)
    ripe object is = subst (MayHappen state) is may

pub HoldsAlong-sound : (state : State) (events : List Event) → IsSound state → IsAllowed state events → HoldsAlong state events
HoldsAlong-sound state [] sound allowed = tt
HoldsAlong-sound state (event ∷ events) sound allowed = (
  holds state event allowed.0 sound,
  HoldsAlong-sound (happens state event) events (IsSound-happens state event allowed.0 sound) allowed.1,
)

pub HoldsAlong-opening : (owner clients : ℕ) (stock : ℕ → Bool) (events : List Event)
    → IsAllowed (opening owner clients stock) events → HoldsAlong (opening owner clients stock) events
HoldsAlong-opening owner clients stock events allowed =
    HoldsAlong-sound (opening owner clients stock) events (IsSound-opening owner clients stock) allowed

-- ---- what a call has met while its begin word stays

-- the begin word of a client rises, or it has met what it had met
record MovesOn (state later : State) (client object : ℕ) : Type 0 where
  pub rises : state.begins client ≤ later.begins client
  pub keeps : later.begins client ≡ state.begins client → state.met client object ≡ true → later.met client object ≡ true

stays : (state later : State) (client object : ℕ) → later.begins client ≡ state.begins client
    → (state.met client object ≡ true → later.met client object ≡ true) → MovesOn state later client object
stays state later client object same keeps = record { rises = omega (arith, same); keeps = λ _ met. keeps met }

moves : (state : State) (one : ℕ) (objects : ℕ → Bool) (client object : ℕ)
    → MovesOn state
    (record state { begins = updated state.begins one (state.begins one + 1); met = updated state.met one objects })
    client object
moves state one objects client object =
    record {
      rises =
          at_updated (λ b. state.begins client ≤ b) state.begins one (state.begins one + 1) client
          (λ same. omega (arith, ap state.begins same)) (λ _. omega arith);
      keeps = λ is met.
          at_updated (λ (some : ℕ → Bool). some object ≡ true) state.met one objects client
          (λ same. absurd (omega (arith, ap state.begins same, moved same, is)))
          (λ _. met);
    }
  where
    moved : one ≡ client → updated state.begins one (state.begins one + 1) client ≡ state.begins one + 1
    moved same = at_updated (λ b. b ≡ state.begins one + 1) state.begins one (state.begins one + 1) client (λ _. refl) (λ apart. absurd (apart same))

MovesOn-happens : (state : State) (event : Event) (client object : ℕ) → MovesOn state (happens state event) client object
MovesOn-happens state (Begin one) client object = moves state one (λ o. not (state.stock o)) client object
MovesOn-happens state (End one) client object = moves state one (λ o. false) client object
MovesOn-happens state (Take one) client object =
    stays state (taken state one) client object refl
    (λ met.
    cond_both (is_inside state client) (updated (state.met client) one true) (state.met client) (λ (some : ℕ → Bool). some object ≡ true)
    (λ _. at_updated (λ b. b ≡ true) (state.met client) one true object (λ _. refl) (λ _. met))
    (λ _. met))
MovesOn-happens state (GiveBack one) client object = stays state (happens state (GiveBack one)) client object refl (λ met. met)
MovesOn-happens state (Grant one) client object = stays state (happens state (Grant one)) client object refl (λ met. met)
MovesOn-happens state (Note one) client object =
    cond_both (state.stock one) (waiting state one) state (λ later. MovesOn state later client object)
    (λ _. stays state (waiting state one) client object refl (λ met. met))
    (λ _. stays state state client object refl (λ met. met))
MovesOn-happens state AskAnew client object = stays state (happens state AskAnew) client object refl (λ met. met)
MovesOn-happens state Ask client object =
    cond_both (nat_lt state.asked state.clients) (asked_next state) state (λ later. MovesOn state later client object)
    (λ _. stays state (asked_next state) client object refl (λ met. met))
    (λ _. stays state state client object refl (λ met. met))
MovesOn-happens state Look client object = stays state (happens state Look) client object refl (λ met. met)
MovesOn-happens state Ripen client object =
    cond_both (is_over state) (record state { marks = λ o. ripened (state.marks o) }) state (λ later. MovesOn state later client object)
    (λ _. stays state (record state { marks = λ o. ripened (state.marks o) }) client object refl (λ met. met))
    (λ _. stays state state client object refl (λ met. met))

MovesOn-run : (state : State) (events : List Event) (client object : ℕ) → MovesOn state (run state events) client object
MovesOn-run state [] client object = stays state state client object refl (λ met. met)
MovesOn-run state (event ∷ events) client object =
    let first = MovesOn-happens state event client object in
    let rest = MovesOn-run (happens state event) events client object in
    record {
      rises = omega (arith, first.rises, rest.rises);
      keeps = λ same met.
          let middle : (happens state event).begins client ≡ state.begins client = omega (arith, first.rises, rest.rises, same) in
          rest.keeps (same ∙ sym middle) (first.keeps middle met);
    }

-- ---- runs in parts

owner-happens : (state : State) (event : Event) → (happens state event).owner ≡ state.owner
owner-happens state (Begin one) = refl
owner-happens state (End one) = refl
owner-happens state (Take one) = refl
owner-happens state (GiveBack one) = refl
owner-happens state (Grant one) = refl
owner-happens state (Note one) =
    cond_both (state.stock one) (waiting state one) state (λ (later : State). later.owner ≡ state.owner) (λ _. refl) (λ _. refl)
owner-happens state AskAnew = refl
owner-happens state Ask =
    cond_both (nat_lt state.asked state.clients) (asked_next state) state (λ (later : State). later.owner ≡ state.owner)
    (λ _. refl) (λ _. refl)
owner-happens state Look = refl
owner-happens state Ripen =
    cond_both (is_over state) (record state { marks = λ o. ripened (state.marks o) }) state
    (λ (later : State). later.owner ≡ state.owner) (λ _. refl) (λ _. refl)

owner-run : (state : State) (events : List Event) → (run state events).owner ≡ state.owner
owner-run state [] = refl
owner-run state (event ∷ events) = owner-run (happens state event) events ∙ owner-happens state event

pub IsSound-run : (state : State) (events later : List Event) → IsSound state → IsAllowed state (events ++ later)
    → IsSound (run state events) × IsAllowed (run state events) later
IsSound-run state [] later sound allowed = (sound, allowed)
IsSound-run state (event ∷ events) later sound allowed =
    IsSound-run (happens state event) events later (IsSound-happens state event allowed.0 sound) allowed.1

-- an object that a client has met is not taken while its begin word stays
not_taken : (state : State) (between : List Event) (client object : ℕ) → IsSound state
    → IsAllowed state (between ++ Take object ∷ []) → client ≢ state.owner → state.met client object ≡ true
    → (run state between).begins client ≢ state.begins client
not_taken state between client object sound allowed other met same =
    let later = IsSound-run state between (Take object ∷ []) sound allowed in
    let still = (MovesOn-run state between client object).keeps same met in
    later.0.ripe client object (λ is. other (is ∙ owner-run state between)) later.1.0 still

pub begins-taken : (owner clients : ℕ) (stock : ℕ → Bool) (before between : List Event) (client object : ℕ)
    → IsAllowed (opening owner clients stock) (before ++ (between ++ Take object ∷ []))
    → client ≢ owner
    → is_inside (run (opening owner clients stock) before) client ≡ true
    → (run (opening owner clients stock) before).stock object ≡ false
    → (run (run (opening owner clients stock) before) between).begins client
    ≢ (run (opening owner clients stock) before).begins client
begins-taken owner clients stock before between client object allowed other within none =
    let start = opening owner clients stock in
    let now = IsSound-run start before (between ++ Take object ∷ []) (IsSound-opening owner clients stock) allowed in
    not_taken (run start before) between client object now.0 now.1
    (λ is. other (is ∙ owner-run start before)) (now.0.out client object within none)
