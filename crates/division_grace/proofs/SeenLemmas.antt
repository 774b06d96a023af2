-- The stock of a client is seen in the machine of one owner's objects, whatever class it chooses for.
use Rattle.std.proofs.Common.{◌≡◌, ◌≢◌, ℕ, inl, inr, [], refl, sym, ap, subst, ◌∙◌, arith}
use Rattle.std.specs.Prelude.{false}
use Rattle.std.proofs.lemmas.Bool.{cases_eq}
use Rattle.machine.specs.Choosing.{IsAt, begins, next, taken, turn}
use Rattle.machine.specs.ObjectNames.{Object}
use Rattle.machine.specs.Stock.{AskFirst, Ask, Claim, ClassStock, Phase, ReadBitmap, ReadBlock, Rest, Scan, Spread, Stock, WriteHead, class_stock, with_reserve}
use Rattle.reuse_grace.specs.Stock.{Mark, State}
use Rattle.verb_words.specs.Verb.{answer_of}
use Rattle.object_division.proofs.GiftLemmas.{class_replaced}
use Rattle.division_grace.proofs.HoldLemmas.{IsWaitingIn, ripe-cleared, waiting-cleared}
use Rattle.division_grace.proofs.LeadLemmas.{Leads, leads_nowhere, leads_on}
use Rattle.division_grace.proofs.OtherLemmas.{LeavesOthers, class_of, leaves-chooses, leaves-turn}
use Rattle.division_grace.proofs.StandLemmas.{HasSeat, IsAsking, IsCalm, IsKnown, IsSettled, IsStanding, Matches, calm_begins}
use Rattle.division_grace.proofs.TurnLemmas.{IsRead, turn_leads}

-- the stock of the object's class is seen so in the machine, whether or not it is chosen for
pub record Sees (object : Object) (stock : Stock) (state : State) : Type 0 where
  pub known : IsKnown object (class_of stock object.class).own state
  pub here : stock.class ≡ object.class → IsStanding stock.phase object stock state
  pub aside : stock.class ≢ object.class → IsSettled object (class_of stock object.class) state

-- ---- a turn

matched : (object : Object) (stock : Stock) (state : State) → stock.class ≡ object.class → Sees object stock state
    → Matches object stock state
matched object stock state same sees =
    record {
      known = subst (λ k. IsKnown object (class_of stock k).own state) (sym same) sees.known;
      standing = sees.here same;
    }

seen_matched : (object : Object) (stock : Stock) (state : State) → stock.class ≡ object.class → Matches object stock state
    → Sees object stock state
seen_matched object stock state same matches =
    record {
      known = subst (λ k. IsKnown object (class_of stock k).own state) same matches.known;
      here = λ _. matches.standing;
      aside = λ apart. absurd (apart same);
    }

seen_aside : (object : Object) (stock new : Stock) (state : State) → stock.class ≢ object.class → LeavesOthers stock new
    → IsCalm object (class_of stock object.class) state → Sees object new state
seen_aside object stock new state apart leaves calm =
    let same : class_of new object.class ≡ class_of stock object.class =
    leaves.others object.class (λ is. apart (sym is)) in
    record {
      known = subst (λ (c : ClassStock). IsKnown object c.own state) (sym same) calm.known;
      here = λ is. absurd (apart (sym leaves.class ∙ is));
      aside = λ _. subst (λ c. IsSettled object c state) (sym same) calm.settled;
    }

pub turn_sees : (object : Object) (stock : Stock) (found : ℕ) (state : State) → IsAt stock.phase stock → HasSeat stock state
    → (stock.class ≡ object.class → IsRead stock.phase object stock found state) → Sees object stock state
    → Leads state object.pointer (λ later. Sees object (turn stock (answer_of (next stock) found)).state later)
turn_sees object stock found state at seat reads sees =
    elim (cases_eq stock.class object.class) [
      | inl same ↦
          let matches = matched object stock state same sees in
          leads_on state object.pointer (λ later. Matches object new later) (λ later. Sees object new later)
          (turn_leads object stock stock.phase found state refl at seat (reads same) matches.known matches.standing)
          (λ later onward is.
          leads_nowhere later object.pointer (λ end. Sees object new end)
          (seen_matched object new later (leaves.class ∙ same) is))
      | inr apart ↦
          leads_nowhere state object.pointer (λ later. Sees object new later)
          (seen_aside object stock new state apart leaves (record { known = sees.known; settled = sees.aside apart }))
    ]
  where
    new : Stock
    new = (turn stock (answer_of (next stock) found)).state

    leaves : LeavesOthers stock new
    leaves = leaves-turn stock stock.phase found

-- ---- a new choosing, where no client is asked

settled_from : (object : Object) (stock : Stock) (phase : Phase) (state : State) → ((client : ℕ) → phase ≢ Ask client)
    → IsStanding phase object stock state → IsSettled object (class_stock stock) state
settled_from object stock Rest state none standing = standing
settled_from object stock AskFirst state none standing = standing
settled_from object stock (Scan i) state none standing = λ waits. inl standing
settled_from object stock (Ask client) state none standing = absurd (none client refl)
settled_from object stock ReadBlock state none standing = standing
settled_from object stock (Claim word) state none standing = standing
settled_from object stock (Spread unused backup) state none standing = standing.0
settled_from object stock ReadBitmap state none standing = standing
settled_from object stock WriteHead state none standing = standing

calm_from : (object : Object) (stock : Stock) (state : State) → ((client : ℕ) → stock.phase ≢ Ask client)
    → Sees object stock state → IsCalm object (class_of stock object.class) state
calm_from object stock state none sees =
    record {
      known = sees.known;
      settled =
          elim (cases_eq stock.class object.class) [
            | inl same ↦
                subst (λ k. IsSettled object (class_of stock k) state) same
                (settled_from object stock stock.phase state none (sees.here same))
            | inr apart ↦ sees.aside apart
          ];
    }

pub begins_sees : (object : Object) (stock : Stock) (mask class : ℕ) (state : State)
    → ((client : ℕ) → stock.phase ≢ Ask client) → Sees object stock state → Sees object (begins stock mask class).state state
begins_sees object stock mask class state none sees =
    elim (cases_eq class object.class) [
      | inl same ↦
          seen_matched object new state (leaves.class ∙ same)
          (calm_begins object stock mask class state (subst (λ k. IsCalm object (class_of stock k) state) (sym same) calm))
      | inr apart ↦ seen_aside object first new state apart leaves calm
    ]
  where
    first : Stock
    first = record stock { mask = mask; class = class; scanned = false; position = 0 }

    new : Stock
    new = (begins stock mask class).state

    leaves : LeavesOthers first new
    leaves = leaves-chooses first

    calm : IsCalm object (class_of stock object.class) state
    calm = calm_from object stock state none sees

-- ---- the next reserve is the reserve

class_taken : (P : ClassStock → Type 0) (stock : Stock) (class next other : ℕ)
    → ((of_class : ClassStock) → P of_class → P (with_reserve class of_class next)) → P (class_of stock other)
    → P (class_of (taken stock class next) other)
class_taken P stock class next other cleared old =
    class_replaced P stock.classes class other (with_reserve class (class_of stock class) next)
    (λ same. cleared (class_of stock class) (subst (λ k. P (class_of stock k)) same old)) old

known_cleared : (object : Object) (class next : ℕ) (of_class : ClassStock) (state : State) → IsKnown object of_class.own state
    → IsKnown object (with_reserve class of_class next).own state
known_cleared object class next of_class state known =
    record {
      ripe = λ ripe. known.ripe (ripe-cleared object class of_class of_class.own ripe);
      waits = λ waits. known.waits (waiting-cleared object class of_class of_class.own waits);
    }

settled_cleared : (object : Object) (class next : ℕ) (of_class : ClassStock) (state : State) → IsSettled object of_class state
    → IsSettled object (with_reserve class of_class next) state
settled_cleared object class next of_class state settled waits =
    settled (waiting-cleared object class of_class of_class.own waits)

settled_taken : (object : Object) (stock : Stock) (class next other : ℕ) (state : State)
    → IsSettled object (class_of stock other) state → IsSettled object (class_of (taken stock class next) other) state
settled_taken object stock class next other state =
    class_taken (λ c. IsSettled object c state) stock class next other
    (λ of_class. settled_cleared object class next of_class state)

standing_taken : (object : Object) (stock : Stock) (class next : ℕ) (phase : Phase) (state : State)
    → IsStanding phase object stock state → IsStanding phase object (taken stock class next) state
standing_taken object stock class next Rest state standing = settled_taken object stock class next stock.class state standing
standing_taken object stock class next AskFirst state standing = settled_taken object stock class next stock.class state standing
standing_taken object stock class next (Scan i) state standing =
    class_taken (λ c. c.awaited ≡ []) stock class next stock.class (λ of_class none. none) standing
standing_taken object stock class next (Ask client) state standing = (
  class_taken (λ c. IsWaitingIn object c.own → client ≢ stock.client) stock class next stock.class
      (λ of_class other waits. other (waiting-cleared object class of_class of_class.own waits)) standing.0,
  class_taken (λ c. IsAsking object c client state) stock class next stock.class
      (λ of_class asking waits. asking (waiting-cleared object class of_class of_class.own waits)) standing.1,
)
standing_taken object stock class next ReadBlock state standing = settled_taken object stock class next stock.class state standing
standing_taken object stock class next (Claim word) state standing = settled_taken object stock class next stock.class state standing
standing_taken object stock class next (Spread unused backup) state standing =
    (settled_taken object stock class next stock.class state standing.0, standing.1)
standing_taken object stock class next ReadBitmap state standing = settled_taken object stock class next stock.class state standing
standing_taken object stock class next WriteHead state standing = settled_taken object stock class next stock.class state standing

pub taken_sees : (object : Object) (stock : Stock) (class next : ℕ) (state : State) → Sees object stock state
    → Sees object (taken stock class next) state
taken_sees object stock class next state sees =
    record {
      known =
          class_taken (λ c. IsKnown object c.own state) stock class next object.class
          (λ of_class. known_cleared object class next of_class state) sees.known;
      here = λ same. standing_taken object stock class next stock.phase state (sees.here same);
      aside = λ apart. settled_taken object stock class next object.class state (sees.aside apart);
    }

-- ---- another state that has the same marks, and awaits the same clients

settled_same : (object : Object) (of_class : ClassStock) (state later : State) → later.awaited ≡ state.awaited
    → later.asked ≡ state.asked → later.clients ≡ state.clients → IsSettled object of_class state
    → IsSettled object of_class later
settled_same object of_class state later awaited asked clients settled waits =
    elim (settled waits) [
      | inl none ↦ inl none
      | inr all ↦ inr (awaited ∙ all.0, omega (arith, asked, clients, all.1))
    ]

standing_same : (object : Object) (stock : Stock) (phase : Phase) (state later : State) → later.awaited ≡ state.awaited
    → later.asked ≡ state.asked → later.clients ≡ state.clients → IsStanding phase object stock state
    → IsStanding phase object stock later
standing_same object stock phase state later awaited asked clients = by phase
  where
    settled : IsSettled object (class_stock stock) state → IsSettled object (class_stock stock) later
    settled = settled_same object (class_stock stock) state later awaited asked clients

    by : (p : Phase) → IsStanding p object stock state → IsStanding p object stock later
    by Rest standing = settled standing
    by AskFirst standing = settled standing
    by (Scan i) standing = standing
    by (Ask client) standing =
        (standing.0, λ waits. (awaited ∙ (standing.1 waits).0, omega (arith, asked, (standing.1 waits).1)))
    by ReadBlock standing = settled standing
    by (Claim word) standing = settled standing
    by (Spread unused backup) standing = (settled standing.0, standing.1)
    by ReadBitmap standing = settled standing
    by WriteHead standing = settled standing

pub sees_same : (object : Object) (stock : Stock) (state later : State) → later.marks ≡ state.marks
    → later.awaited ≡ state.awaited → later.asked ≡ state.asked → later.clients ≡ state.clients → Sees object stock state
    → Sees object stock later
sees_same object stock state later marks awaited asked clients sees =
    record {
      known = record {
        ripe = λ ripe. ap (λ (m : ℕ → Mark). m object.pointer) marks ∙ sees.known.ripe ripe;
        waits = λ waits is. sees.known.waits waits (sym (ap (λ (m : ℕ → Mark). m object.pointer) marks) ∙ is);
      };
      here = λ same. standing_same object stock stock.phase state later awaited asked clients (sees.here same);
      aside = λ apart.
          settled_same object (class_of stock object.class) state later awaited asked clients (sees.aside apart);
    }
