-- How the stock of a client that chooses is seen in the machine of one owner's objects, for one object.
use Rattle.std.proofs.Common.{◌≡◌, ◌≢◌, ℕ, ◌+◌, ◌*◌, ◌<◌, ◌≤◌, ◌==◌, ◌⊎◌, inl, inr, Bool, true, false, ◌&&◌, List, [], ◌∷◌, length, Option, Some, None, refl, sym, subst, ◌∙◌, arith, length-set, get_or-set_same}
use Rattle.std.specs.Prelude.{not, nat_le, nat_lt, slice_index_or}
use Rattle.std.proofs.lemmas.Bool.{eqb-false, eqb-true, leb-false, ltb-false}
use Rattle.machine.specs.Choosing.{asked, asks_after, asks_from, at_block, begins, block_at, chooses, looks, next_block, not_awaited, region_at, ripens, takes}
use Rattle.machine.specs.ObjectNames.{Object, block_of}
use Rattle.machine.specs.Stock.{AskFirst, Ask, ClassStock, OwnBlock, Phase, Scan, Spread, Stock, class_stock, first_free, no_stock, ripened, with_class_stock}
use Rattle.pointer_fields.specs.Pointer.{region_of}
use Rattle.reuse_epoch.specs.Awaited.{Awaited}
use Rattle.reuse_grace.specs.Stock.{State, Unmarked, Ripe}
use Rattle.object_division.proofs.GiftLemmas.{class_replaced}
use Rattle.division_grace.proofs.HoldLemmas.{IsRipeIn, IsWaitingIn, ripe-ripened, waiting-ripened}
use Rattle.division_grace.proofs.LeadLemmas.{IsAsked, IsOnward, IsRipened, Leads, anew_leads, ask_leads, leads_nowhere, leads_on, ripen_leads}

-- what is ripe or waits in these blocks is so at least in the machine
pub record IsKnown (object : Object) (list : List OwnBlock) (state : State) : Type 0 where
  pub ripe : IsRipeIn object list → state.marks object.pointer ≡ Ripe
  pub waits : IsWaitingIn object list → state.marks object.pointer ≢ Unmarked

-- all clients were asked, and the same are awaited
abbrev pub IsReady : Object → ClassStock → State → Type 0
IsReady object of_class state =
    IsWaitingIn object of_class.own → (state.awaited ≡ of_class.awaited) × (state.clients ≤ state.asked)

-- while the object waits nobody is awaited, so that the clients are asked before it is ripe; or all were asked, and the same
-- are awaited
abbrev pub IsSettled : Object → ClassStock → State → Type 0
IsSettled object of_class state =
    IsWaitingIn object of_class.own
    → (of_class.awaited ≡ []) ⊎ ((state.awaited ≡ of_class.awaited) × (state.clients ≤ state.asked))

-- while the object waits the clients before this one were asked, and the same are awaited
abbrev pub IsAsking : Object → ClassStock → ℕ → State → Type 0
IsAsking object of_class client state =
    IsWaitingIn object of_class.own → (state.awaited ≡ of_class.awaited) × (state.asked + 1 ≡ client)

-- the block at the position is not the object's
abbrev pub IsElsewhere : Object → Stock → Type 0
IsElsewhere object stock = region_at stock ≡ region_of object.pointer → block_at stock ≡ block_of object.pointer → ⊥

-- how the choosing stands
abbrev pub IsStanding : Phase → Object → Stock → State → Type 0
IsStanding (Ask client) object stock state =
    (IsWaitingIn object (class_stock stock).own → client ≢ stock.client) × IsAsking object (class_stock stock) client state
IsStanding (Scan i) object stock state = (class_stock stock).awaited ≡ []
IsStanding (Spread unused backup) object stock state =
    IsSettled object (class_stock stock) state × (unused ≡ true → IsElsewhere object stock)
IsStanding other object stock state = IsSettled object (class_stock stock) state

-- the class that is chosen for is seen so in the machine
pub record Matches (object : Object) (stock : Stock) (state : State) : Type 0 where
  pub known : IsKnown object (class_stock stock).own state
  pub standing : IsStanding stock.phase object stock state

-- nobody is asked at present
pub record IsCalm (object : Object) (of_class : ClassStock) (state : State) : Type 0 where
  pub known : IsKnown object of_class.own state
  pub settled : IsSettled object of_class state

-- the client is the machine's owner
pub record IsSeat (class count client clients : ℕ) (state : State) : Type 0 where
  pub within : class < count
  pub owner : client ≡ state.owner
  pub clients_are : clients ≡ state.clients
  pub number : (1 ≤ client) × (client ≤ clients)

abbrev pub HasSeat : Stock → State → Type 0
HasSeat stock state = IsSeat stock.class (length stock.classes) stock.client stock.shape.clients state

pub HasSeat-onward : (stock : Stock) (state later : State) (object : ℕ) → HasSeat stock state → IsOnward state later object
    → HasSeat stock later
HasSeat-onward stock state later object seat onward =
    record {
      within = seat.within;
      owner = seat.owner ∙ sym onward.owner;
      clients_are = seat.clients_are ∙ sym onward.clients;
      number = seat.number;
    }

pub HasSeat-with : (stock : Stock) (of_class : ClassStock) (state : State) → HasSeat stock state
    → HasSeat (with_class_stock stock of_class) state
HasSeat-with stock of_class state seat =
    record {
      within = omega (arith, seat.within, length-set stock.classes stock.class of_class);
      owner = seat.owner;
      clients_are = seat.clients_are;
      number = seat.number;
    }

pub class_after : (stock : Stock) (of_class : ClassStock) → stock.class < length stock.classes
    → class_stock (with_class_stock stock of_class) ≡ of_class
class_after stock of_class within = get_or-set_same stock.classes stock.class of_class no_stock within

pub known_onward : (object : Object) (list : List OwnBlock) (state later : State) → IsKnown object list state
    → IsOnward state later object.pointer → IsKnown object list later
known_onward object list state later known onward =
    record { ripe = λ is. onward.ripe (known.ripe is); waits = λ is. onward.marked (known.waits is) }

pub none_left : (list : List Awaited) → (length list == 0) ≡ true → list ≡ []
none_left [] none = refl
none_left (one ∷ rest) none = absurd (omega (arith, eqb-true (length (one ∷ rest)) 0 none))

none_first : (list : List Awaited) → nat_lt 0 (length list) ≡ false → list ≡ []
none_first [] none = refl
none_first (one ∷ rest) none = absurd (omega (arith, ltb-false 0 (length (one ∷ rest)) none))

-- ---- the choosing goes on, and nobody is asked

pub calm_at_block : (object : Object) (stock : Stock) (state : State) → IsCalm object (class_stock stock) state
    → Matches object (at_block stock).state state
calm_at_block object stock state calm = by (nat_lt stock.position (stock.shape.regions * stock.shape.blocks)) refl
  where
    by : (t : Bool) → nat_lt stock.position (stock.shape.regions * stock.shape.blocks) ≡ t → Matches object (at_block stock).state state
    by true within = rw within (record { known = calm.known; standing = calm.settled })
    by false last = rw last (record { known = calm.known; standing = calm.settled })

pub calm_next_block : (object : Object) (stock : Stock) (state : State) → IsCalm object (class_stock stock) state
    → Matches object (next_block stock).state state
calm_next_block object stock state calm = calm_at_block object (record stock { position = stock.position + 1 }) state calm

calm_takes : (object : Object) (stock : Stock) (free : ℕ) (state : State) → IsCalm object (class_stock stock) state
    → Matches object (takes stock free).state state
calm_takes object stock free state calm = by (class_stock stock).reserve refl
  where
    by : (reserve : Option ℕ) → (class_stock stock).reserve ≡ reserve → Matches object (takes stock free).state state
    by (Some reserve) some = rw some (record { known = calm.known; standing = calm.settled })
    by None none =
        let new : ClassStock = record (class_stock stock) { reserve = Some free } in
        let after : IsCalm object (class_stock (with_class_stock stock new)) state =
        class_replaced (λ c. IsCalm object c state) stock.classes stock.class stock.class new
        (λ same. record { known = calm.known; settled = calm.settled }) calm in
        rw none (record { known = after.known; standing = after.settled })

calm_looks : (object : Object) (stock : Stock) (state : State) → IsCalm object (class_stock stock) state
    → Matches object (looks stock).state state
calm_looks object stock state calm =
    by (nat_lt 0 (length (class_stock stock).awaited)) refl (not stock.scanned && nat_lt 0 (length (class_stock stock).own)) refl
  where
    by : (t : Bool) → nat_lt 0 (length (class_stock stock).awaited) ≡ t → (u : Bool)
        → (not stock.scanned && nat_lt 0 (length (class_stock stock).own)) ≡ u → Matches object (looks stock).state state
    by true some u scan = rw some (record { known = calm.known; standing = calm.settled })
    by false none true scan =
        rw (none, scan) (record { known = calm.known; standing = none_first (class_stock stock).awaited none })
    by false none false done = rw (none, done) (calm_at_block object stock state calm)

pub calm_chooses : (object : Object) (stock : Stock) (state : State) → IsCalm object (class_stock stock) state
    → Matches object (chooses stock).state state
calm_chooses object stock state calm = by (first_free stock.class (class_stock stock)) refl
  where
    by : (free : Option ℕ) → first_free stock.class (class_stock stock) ≡ free → Matches object (chooses stock).state state
    by None none = rw none (calm_looks object stock state calm)
    by (Some free) some = rw some (calm_takes object stock free state calm)

-- a new choosing
pub calm_begins : (object : Object) (stock : Stock) (mask class : ℕ) (state : State)
    → IsCalm object (slice_index_or stock.classes class no_stock) state → Matches object (begins stock mask class).state state
calm_begins object stock mask class state calm =
    calm_chooses object (record stock { mask = mask; class = class; scanned = false; position = 0 }) state calm

-- ---- all were asked

ripens_leads : (object : Object) (stock : Stock) (state : State) → HasSeat stock state
    → IsKnown object (class_stock stock).own state
    → (IsWaitingIn object (class_stock stock).own → (state.awaited ≡ []) × (state.clients ≤ state.asked))
    → Leads state object.pointer (λ later. Matches object (ripens stock).state later)
ripens_leads object stock state seat known ready =
    leads_on state object.pointer (λ later. IsRipened state later object.pointer) (λ later. Matches object (ripens stock).state later)
    (ripen_leads state object.pointer)
    (λ later onward is.
    leads_nowhere later object.pointer (λ end. Matches object (ripens stock).state end)
    (calm_chooses object (with_class_stock stock new) later
    (subst (λ c. IsCalm object c later) (sym (class_after stock new seat.within)) (calm later onward is))))
  where
    list : List OwnBlock
    list = (class_stock stock).own

    new : ClassStock
    new = ripened (class_stock stock)

    calm : (later : State) → IsOnward state later object.pointer → IsRipened state later object.pointer → IsCalm object new later
    calm later onward is =
        record {
          known = record {
            ripe = λ ripe.
                elim (ripe-ripened object list ripe) [
                  | inl before ↦ onward.ripe (known.ripe before)
                  | inr waits ↦ is.ripe (ready waits).1 (ready waits).0 (known.waits waits)
                ];
            waits = λ waits. waiting-ripened object list waits;
          };
          settled = λ waits. waiting-ripened object list waits;
        }

asked_leads : (object : Object) (stock : Stock) (state : State) → HasSeat stock state
    → IsKnown object (class_stock stock).own state → IsReady object (class_stock stock) state
    → Leads state object.pointer (λ later. Matches object (asked stock).state later)
asked_leads object stock state seat known ready = by (length (class_stock stock).awaited == 0) refl
  where
    by : (t : Bool) → (length (class_stock stock).awaited == 0) ≡ t
        → Leads state object.pointer (λ later. Matches object (asked stock).state later)
    by true none =
        rw none
        (ripens_leads object stock state seat known
        (λ waits. ((ready waits).0 ∙ none_left (class_stock stock).awaited none, (ready waits).1)))
    by false some =
        rw some
        (leads_nowhere state object.pointer (λ later. Matches object (at_block stock).state later)
        (calm_at_block object stock state (record { known = known; settled = λ waits. inr (ready waits) })))

pub not_awaited_leads : (object : Object) (stock : Stock) (state : State) → HasSeat stock state
    → IsKnown object (class_stock stock).own state → IsReady object (class_stock stock) state
    → Leads state object.pointer (λ later. Matches object (not_awaited stock).state later)
not_awaited_leads object stock state seat known ready = by (length (class_stock stock).awaited == 0) refl
  where
    by : (t : Bool) → (length (class_stock stock).awaited == 0) ≡ t
        → Leads state object.pointer (λ later. Matches object (not_awaited stock).state later)
    by true none =
        rw none
        (ripens_leads object stock state seat known
        (λ waits. ((ready waits).0 ∙ none_left (class_stock stock).awaited none, (ready waits).1)))
    by false some =
        rw some
        (leads_nowhere state object.pointer (λ later. Matches object (record stock { phase = AskFirst }) later)
        (record { known = known; standing = λ waits. inr (ready waits) }))

-- ---- clients are asked

asks_after_leads : (object : Object) (stock : Stock) (client : ℕ) (state : State) → HasSeat stock state
    → IsKnown object (class_stock stock).own state → client ≢ stock.client → IsAsking object (class_stock stock) client state
    → Leads state object.pointer (λ later. Matches object (asks_after stock client).state later)
asks_after_leads object stock client state seat known other asking = by (nat_le client stock.shape.clients) refl
  where
    by : (t : Bool) → nat_le client stock.shape.clients ≡ t
        → Leads state object.pointer (λ later. Matches object (asks_after stock client).state later)
    by true within =
        rw within
        (leads_nowhere state object.pointer (λ later. Matches object (record stock { phase = Ask client }) later)
        (record { known = known; standing = (λ waits. other, asking) }))
    by false beyond =
        rw beyond
        (asked_leads object stock state seat known
        (λ waits. (
          (asking waits).0,
          omega (arith, (asking waits).1, leb-false client stock.shape.clients beyond, seat.clients_are),
        )))

pub asks_from_leads : (object : Object) (stock : Stock) (client : ℕ) (state : State) → HasSeat stock state
    → IsKnown object (class_stock stock).own state → IsAsking object (class_stock stock) client state
    → Leads state object.pointer (λ later. Matches object (asks_from stock client).state later)
asks_from_leads object stock client state seat known asking = by (client == stock.client) refl
  where
    by : (t : Bool) → (client == stock.client) ≡ t
        → Leads state object.pointer (λ later. Matches object (asks_from stock client).state later)
    by true own =
        let same : client ≡ stock.client = eqb-true client stock.client own in
        rw own
        (leads_on state object.pointer (IsAsked state) (λ later. Matches object (asks_after stock (client + 1)).state later)
        (ask_leads state object.pointer)
        (λ later onward is.
        asks_after_leads object stock (client + 1) later (HasSeat-onward stock state later object.pointer seat onward)
        (known_onward object (class_stock stock).own state later known onward) (omega (arith, same))
        (λ waits.
        let both = is.owner ((asking waits).1 ∙ (same ∙ seat.owner)) (omega (arith, seat.owner, seat.clients_are, seat.number.1)) in (
          both.0 ∙ (asking waits).0,
          omega (arith, both.1, seat.owner, same),
        ))))
    by false other =
        rw other
        (asks_after_leads object stock client state seat known (eqb-false client stock.client other) asking)

-- the clients are asked anew where nobody is awaited
pub asks_anew_leads : (object : Object) (stock : Stock) (state : State) → HasSeat stock state
    → IsKnown object (class_stock stock).own state → (class_stock stock).awaited ≡ []
    → Leads state object.pointer (λ later. Matches object (asks_from stock 1).state later)
asks_anew_leads object stock state seat known none =
    leads_on state object.pointer (λ later. (later.awaited ≡ []) × (later.asked ≡ 0))
    (λ later. Matches object (asks_from stock 1).state later) (anew_leads state object.pointer)
    (λ later onward is.
    asks_from_leads object stock 1 later (HasSeat-onward stock state later object.pointer seat onward)
    (known_onward object (class_stock stock).own state later known onward)
    (λ waits. (is.0 ∙ sym none, omega (arith, is.1))))
