-- A turn of a choosing is seen in the machine of one owner's objects.
use Rattle.std.proofs.Common.{◌≡◌, ◌≢◌, ℕ, ◌+◌, ◌<◌, ◌≤◌, ◌==◌, inl, inr, Bool, true, false, ◌&&◌, List, [], ◌∷◌, ◌++◌, length, Option, Some, None, refl, sym, ap, subst, ◌∙◌, arith}
use Rattle.std.specs.Prelude.{bit_and, nat_lt, slice_index_or, slice_set}
use Rattle.std.specs.Int.{bit_at}
use Rattle.std.proofs.lemmas.Bool.{eqb-true}
use Rattle.block_alloc.specs.declared.BlockWord.{BlockWord}
use Rattle.block_alloc.specs.declared.BlockWord.TheVariants.{Unused, Owned, Released}
use Rattle.block_alloc.specs.BlockWord.{block_in}
use Rattle.machine.specs.Choosing.{IsAt, asks_from, at_block, block_at, first_awaited, not_awaited, on_block, on_block_word, on_first, on_scan, own_at, owns, region_at, scanned_all, spreads_from, turn_at, verb_at, with_awaited, with_block, with_scanned, word_at_block}
use Rattle.machine.specs.ObjectNames.{Object, number_of}
use Rattle.machine.specs.Places.{replica_count}
use Rattle.machine.specs.Stock.{AskFirst, Ask, Claim, ClassStock, OwnBlock, Phase, ReadBitmap, ReadBlock, Rest, Scan, Spread, Stock, WriteHead, any_waits, class_stock, is_own, object_bits, scanned_block, view_of}
use Rattle.reuse_epoch.specs.Awaited.{Awaited, begin_of, client_of, noted, still_awaited}
use Rattle.reuse_grace.specs.Stock.{State, Look, Unmarked, happens, looked}
use Rattle.verb_words.specs.declared.verbs.Answer.TheVariants.{Word}
use Rattle.verb_words.specs.Verb.{answer_of}
use Rattle.object_division.proofs.BitLemmas.{no_bit}
use Rattle.division_grace.proofs.HoldLemmas.{IsIn-append, IsRipeIn, IsWaitingIn, ripe-scanned}
use Rattle.division_grace.proofs.LeadLemmas.{IsAsked, IsOnward, Leads, ask_leads, leads_nowhere, leads_on, look_leads, marks_lead}
use Rattle.division_grace.proofs.StandLemmas.{HasSeat, HasSeat-onward, HasSeat-with, IsAsking, IsCalm, IsElsewhere, IsKnown, IsReady, IsStanding, Matches, asks_anew_leads, asks_from_leads, calm_at_block, calm_begins, calm_chooses, calm_next_block, class_after, known_onward, not_awaited_leads}

-- what the word says that was read: a begin word, or that the block at the position is unused
abbrev pub IsRead : Phase → Object → Stock → ℕ → State → Type 0
IsRead AskFirst object stock found state = state.begins (client_of (first_awaited stock)) ≡ found
IsRead (Ask client) object stock found state = state.begins client ≡ found
IsRead (Claim word) object stock found state = found ≡ 0 → IsElsewhere object stock
IsRead other object stock found state = Unit {0}

-- ---- the first awaited client is looked at

looked_first : (begins : ℕ → ℕ) (list : List Awaited) (found : ℕ) → 0 < length list
    → begins (client_of (slice_index_or list 0 (0, 0))) ≡ found
    → looked begins list ≡ still_awaited list (client_of (slice_index_or list 0 (0, 0))) found
looked_first begins [] found some reads = absurd (omega (arith, some))
looked_first begins (one ∷ rest) found some reads = ap (λ word. still_awaited (one ∷ rest) (client_of one) word) reads

first_leads : (object : Object) (stock : Stock) (found : ℕ) (state : State) → 0 < length (class_stock stock).awaited
    → HasSeat stock state → state.begins (client_of (first_awaited stock)) ≡ found
    → IsCalm object (class_stock stock) state
    → Leads state object.pointer (λ later. Matches object (on_first stock found).state later)
first_leads object stock found state some seat reads calm = by (found == begin_of (first_awaited stock)) refl
  where
    list : List Awaited
    list = (class_stock stock).awaited

    still : List Awaited
    still = still_awaited list (client_of (first_awaited stock)) found

    new : ClassStock
    new = record (class_stock stock) { awaited = still }

    IsLooked : State → Type 0
    IsLooked later = (later.awaited ≡ (happens state Look).awaited) × (later.asked ≡ state.asked)

    ready : (later : State) → IsOnward state later object.pointer → IsLooked later → IsReady object new later
    ready later onward is waits =
        elim (calm.settled waits) [
          | inl none ↦ absurd (omega (arith, some, ap (λ (l : List Awaited). length l) none))
          | inr all ↦ (
            is.0 ∙ (ap (looked state.begins) all.0 ∙ looked_first state.begins list found some reads),
            omega (arith, is.1, onward.clients, all.1),
          )
        ]

    by : (t : Bool) → (found == begin_of (first_awaited stock)) ≡ t
        → Leads state object.pointer (λ later. Matches object (on_first stock found).state later)
    by true same =
        rw same
        (leads_nowhere state object.pointer (λ later. Matches object (at_block stock).state later)
        (calm_at_block object stock state calm))
    by false other =
        rw other
        (leads_on state object.pointer IsLooked (λ later. Matches object (not_awaited (with_awaited stock still)).state later)
        (look_leads state object.pointer)
        (λ later onward is.
        let after = sym (class_after stock new seat.within) in
        not_awaited_leads object (with_awaited stock still) later
        (HasSeat-with stock new later (HasSeat-onward stock state later object.pointer seat onward))
        (subst (λ (c : ClassStock). IsKnown object c.own later) after
        (known_onward object (class_stock stock).own state later calm.known onward))
        (subst (λ c. IsReady object c later) after (ready later onward is))))

-- ---- a block is scanned

scanned_all_leads : (object : Object) (stock : Stock) (state : State) → HasSeat stock state
    → IsKnown object (class_stock stock).own state → (class_stock stock).awaited ≡ []
    → Leads state object.pointer (λ later. Matches object (scanned_all stock).state later)
scanned_all_leads object stock state seat known none = by (any_waits (class_stock stock)) refl
  where
    by : (t : Bool) → any_waits (class_stock stock) ≡ t
        → Leads state object.pointer (λ later. Matches object (scanned_all stock).state later)
    by true some = rw some (asks_anew_leads object stock state seat known none)
    by false nothing =
        rw nothing
        (leads_nowhere state object.pointer (λ later. Matches object (at_block stock).state later)
        (calm_at_block object stock state (record { known = known; settled = λ waits. inl none })))

on_scan_leads : (object : Object) (stock : Stock) (i : ℕ) (state : State) → HasSeat stock state
    → IsKnown object (class_stock stock).own state → (class_stock stock).awaited ≡ []
    → Leads state object.pointer (λ later. Matches object (on_scan stock i).state later)
on_scan_leads object stock i state seat known none = by (nat_lt (i + 1) (length (class_stock stock).own)) refl
  where
    by : (t : Bool) → nat_lt (i + 1) (length (class_stock stock).own) ≡ t
        → Leads state object.pointer (λ later. Matches object (on_scan stock i).state later)
    by true more =
        rw more
        (leads_nowhere state object.pointer (λ later. Matches object (record stock { phase = Scan (i + 1) }) later)
        (record { known = known; standing = none }))
    by false last = rw last (scanned_all_leads object (record stock { scanned = true }) state seat known none)

scan_leads : (object : Object) (stock : Stock) (i found : ℕ) (state : State) → i < length (class_stock stock).own
    → HasSeat stock state → IsKnown object (class_stock stock).own state → (class_stock stock).awaited ≡ []
    → Leads state object.pointer (λ later. Matches object (on_scan (with_scanned stock i found) i).state later)
scan_leads object stock i found state below seat known none =
    leads_on state object.pointer (λ later. later.marks object.pointer ≢ Unmarked)
    (λ later. Matches object (on_scan (with_scanned stock i found) i).state later) (marks_lead state object.pointer)
    (λ later onward marked.
    let after = sym (class_after stock new seat.within) in
    on_scan_leads object (with_scanned stock i found) i later
    (HasSeat-with stock new later (HasSeat-onward stock state later object.pointer seat onward))
    (subst (λ (c : ClassStock). IsKnown object c.own later) after
    (record {
      ripe = λ ripe. onward.ripe (known.ripe (ripe-scanned object stock.class (class_stock stock) list i found below ripe));
      waits = λ waits. marked;
    }))
    (subst (λ (c : ClassStock). c.awaited ≡ []) after none))
  where
    list : List OwnBlock
    list = (class_stock stock).own

    new : ClassStock
    new = record (class_stock stock) {
      own = slice_set list i (scanned_block stock.class (class_stock stock) (own_at stock i) found);
    }

-- ---- a client is asked

client_leads : (object : Object) (stock : Stock) (client found : ℕ) (state : State) → client ≤ stock.shape.clients
    → HasSeat stock state → state.begins client ≡ found → IsKnown object (class_stock stock).own state
    → (IsWaitingIn object (class_stock stock).own → client ≢ stock.client)
    → IsAsking object (class_stock stock) client state
    → Leads state object.pointer (λ later.
    Matches object (asks_from (with_awaited stock (noted (class_stock stock).awaited client found)) (client + 1)).state later)
client_leads object stock client found state within seat reads known other asking =
    leads_on state object.pointer (IsAsked state)
    (λ later. Matches object (asks_from (with_awaited stock awaited) (client + 1)).state later) (ask_leads state object.pointer)
    (λ later onward is.
    let after = sym (class_after stock new seat.within) in
    asks_from_leads object (with_awaited stock awaited) (client + 1) later
    (HasSeat-with stock new later (HasSeat-onward stock state later object.pointer seat onward))
    (subst (λ (c : ClassStock). IsKnown object c.own later) after
    (known_onward object (class_stock stock).own state later known onward))
    (subst (λ c. IsAsking object c (client + 1) later) after (now later is)))
  where
    awaited : List Awaited
    awaited = noted (class_stock stock).awaited client found

    new : ClassStock
    new = record (class_stock stock) { awaited = awaited }

    now : (later : State) → IsAsked state later → IsAsking object new (client + 1) later
    now later is waits =
        let both = is.other client (asking waits).1 (omega (arith, within, seat.clients_are)) (λ same. other waits (same ∙ sym seat.owner)) in (
          both.0
              ∙ (ap (λ (l : List Awaited). noted l client (state.begins client)) (asking waits).0
              ∙ ap (λ word. noted (class_stock stock).awaited client word) reads),
          omega (arith, both.1),
        )

-- ---- a block is gained

-- the blocks that the client had, and the one at the position
gained : Stock → ℕ → ℕ → ClassStock
gained stock ripe waiting =
    record (class_stock stock) {
      own = (class_stock stock).own
          ++ record { region = region_at stock; block = block_at stock; ripe = ripe; waiting = waiting } ∷ [];
    }

calm_owns : (object : Object) (stock : Stock) (unused : Bool) (state : State) → HasSeat stock state
    → IsCalm object (class_stock stock) state → (unused ≡ true → IsElsewhere object stock)
    → Matches object (owns stock unused).state state
unfolding gained
calm_owns object stock true state seat calm elsewhere =
    calm_chooses object (with_block stock (object_bits stock.class) 0) state
    (subst (λ c. IsCalm object c state) (sym (class_after stock new seat.within))
    (record {
      known = record { ripe = λ ripe. calm.known.ripe (ripe_before ripe); waits = λ waits. calm.known.waits (waits_before waits) };
      settled = λ waits. calm.settled (waits_before waits);
    }))
  where
    new : ClassStock
    new = gained stock (object_bits stock.class) 0

    one : OwnBlock
    one = record { region = region_at stock; block = block_at stock; ripe = object_bits stock.class; waiting = 0 }

    ripe_before : IsRipeIn object new.own → IsRipeIn object (class_stock stock).own
    ripe_before ripe =
        elim (IsIn-append (λ own. bit_at own.ripe (number_of object.pointer object.class) ≡ 1) object (class_stock stock).own one ripe) [
          | inl before ↦ before
          | inr here ↦ absurd (elsewhere refl here.0.region_is here.0.block_is)
        ]

    waits_before : IsWaitingIn object new.own → IsWaitingIn object (class_stock stock).own
    waits_before waits =
        elim (IsIn-append (λ own. bit_at own.waiting (number_of object.pointer object.class) ≡ 1) object (class_stock stock).own one waits) [
          | inl before ↦ before
          | inr here ↦ absurd (elsewhere refl here.0.region_is here.0.block_is)
        ]
calm_owns object stock false state seat calm elsewhere = record { known = calm.known; standing = calm.settled }

calm_spreads : (object : Object) (stock : Stock) (unused : Bool) (backup : ℕ) (state : State) → HasSeat stock state
    → IsCalm object (class_stock stock) state → (unused ≡ true → IsElsewhere object stock)
    → Matches object (spreads_from stock unused backup).state state
calm_spreads object stock unused backup state seat calm elsewhere =
    by (nat_lt (backup + 1) (replica_count (view_of stock) (word_at_block stock))) refl
  where
    by : (t : Bool) → nat_lt (backup + 1) (replica_count (view_of stock) (word_at_block stock)) ≡ t
        → Matches object (spreads_from stock unused backup).state state
    by true more = rw more (record { known = calm.known; standing = (calm.settled, elsewhere) })
    by false last = rw last (calm_owns object stock unused state seat calm elsewhere)

false_true : {A : Type 0} → false ≡ true → A
false_true is = absurd cc

calm_on_block : (object : Object) (stock : Stock) (found : ℕ) (block : Option BlockWord) (state : State) → HasSeat stock state
    → IsCalm object (class_stock stock) state → Matches object (on_block stock found block).state state
calm_on_block object stock found None state seat calm = calm_next_block object stock state calm
calm_on_block object stock found (Some Unused) state seat calm = record { known = calm.known; standing = calm.settled }
calm_on_block object stock found (Some (Released class)) state seat calm = by (class == stock.class) refl
  where
    by : (t : Bool) → (class == stock.class) ≡ t → Matches object (on_block stock found (Some (Released class))).state state
    by true same = rw same (record { known = calm.known; standing = calm.settled })
    by false other = rw other (calm_next_block object stock state calm)
calm_on_block object stock found (Some (Owned client class)) state seat calm =
    by ((client == stock.client) && (class == stock.class)) refl
  where
    by : (t : Bool) → ((client == stock.client) && (class == stock.class)) ≡ t
        → Matches object (on_block stock found (Some (Owned client class))).state state
    by true own = rw own (calm_spreads object stock false 0 state seat calm (λ is. false_true is))
    by false other = rw other (calm_next_block object stock state calm)

calm_on_block_word : (object : Object) (stock : Stock) (found : ℕ) (state : State) → HasSeat stock state
    → IsCalm object (class_stock stock) state → Matches object (on_block_word stock found).state state
calm_on_block_word object stock found state seat calm = by (is_own stock (region_at stock) (block_at stock)) refl
  where
    by : (t : Bool) → is_own stock (region_at stock) (block_at stock) ≡ t → Matches object (on_block_word stock found).state state
    by true own = rw own (calm_next_block object stock state calm)
    by false other = rw other (calm_on_block object stock found (block_in found) state seat calm)

calm_claim : (object : Object) (stock : Stock) (word found : ℕ) (state : State) → HasSeat stock state
    → IsCalm object (class_stock stock) state → (found ≡ 0 → IsElsewhere object stock)
    → Matches object (turn_at (Claim word) stock (Word found)).state state
calm_claim object stock word found state seat calm elsewhere = by (found == word) refl
  where
    by : (t : Bool) → (found == word) ≡ t → Matches object (turn_at (Claim word) stock (Word found)).state state
    by true swapped =
        rw swapped
        (calm_spreads object stock (word == 0) 0 state seat calm
        (λ unused. elsewhere (eqb-true found word swapped ∙ eqb-true word 0 unused)))
    by false lost = rw lost (calm_next_block object stock state calm)

bitmap_leads : (object : Object) (stock : Stock) (waiting : ℕ) (state : State) → HasSeat stock state
    → IsKnown object (class_stock stock).own state
    → Leads state object.pointer (λ later. Matches object (asks_from (with_awaited (with_block stock 0 waiting) []) 1).state later)
unfolding gained
bitmap_leads object stock waiting state seat known =
    leads_on state object.pointer (λ later. later.marks object.pointer ≢ Unmarked)
    (λ later. Matches object (asks_from (with_awaited with_it []) 1).state later) (marks_lead state object.pointer)
    (λ later onward marked.
    let after = sym (class_after with_it (record (class_stock with_it) { awaited = [] }) with_seat.within) in
    asks_anew_leads object (with_awaited with_it []) later
    (HasSeat-with with_it (record (class_stock with_it) { awaited = [] }) later
    (HasSeat-onward with_it state later object.pointer with_seat onward))
    (subst (λ (c : ClassStock). IsKnown object c.own later) after
    (subst (λ (c : ClassStock). IsKnown object c.own later) (sym (class_after stock new seat.within))
    (record { ripe = λ ripe. onward.ripe (known.ripe (ripe_before ripe)); waits = λ waits. marked })))
    (subst (λ (c : ClassStock). c.awaited ≡ []) after refl))
  where
    with_it : Stock
    with_it = with_block stock 0 waiting

    new : ClassStock
    new = gained stock 0 waiting

    one : OwnBlock
    one = record { region = region_at stock; block = block_at stock; ripe = 0; waiting = waiting }

    with_seat : HasSeat with_it state
    with_seat = HasSeat-with stock new state seat

    ripe_before : IsRipeIn object new.own → IsRipeIn object (class_stock stock).own
    ripe_before ripe =
        elim (IsIn-append (λ own. bit_at own.ripe (number_of object.pointer object.class) ≡ 1) object (class_stock stock).own one ripe) [
          | inl before ↦ before
          | inr here ↦ no_bit (number_of object.pointer object.class) here.1
        ]

-- ---- any turn whose verb was not refused

pub turn_leads : (object : Object) (stock : Stock) (phase : Phase) (found : ℕ) (state : State) → stock.phase ≡ phase
    → IsAt phase stock → HasSeat stock state → IsRead phase object stock found state
    → IsKnown object (class_stock stock).own state → IsStanding phase object stock state
    → Leads state object.pointer (λ later. Matches object (turn_at phase stock (answer_of (verb_at phase stock) found)).state later)
turn_leads object stock Rest found state same at seat reads known standing =
    leads_nowhere state object.pointer (λ later. Matches object stock later)
    (record { known = known; standing = subst (λ p. IsStanding p object stock state) (sym same) standing })
turn_leads object stock AskFirst found state same at seat reads known standing =
    first_leads object stock found state at seat reads (record { known = known; settled = standing })
turn_leads object stock (Scan i) found state same at seat reads known standing =
    scan_leads object stock i found state at seat known standing
turn_leads object stock (Ask client) found state same at seat reads known standing =
    client_leads object stock client found state at.1 seat reads known standing.0 standing.1
turn_leads object stock ReadBlock found state same at seat reads known standing =
    leads_nowhere state object.pointer (λ later. Matches object (on_block_word stock found).state later)
    (calm_on_block_word object stock found state seat (record { known = known; settled = standing }))
turn_leads object stock (Claim word) found state same at seat reads known standing =
    leads_nowhere state object.pointer (λ later. Matches object (turn_at (Claim word) stock (Word found)).state later)
    (calm_claim object stock word found state seat (record { known = known; settled = standing }) reads)
turn_leads object stock (Spread unused backup) found state same at seat reads known standing =
    leads_nowhere state object.pointer (λ later. Matches object (spreads_from stock unused (backup + 1)).state later)
    (calm_spreads object stock unused (backup + 1) state seat (record { known = known; settled = standing.0 }) standing.1)
turn_leads object stock ReadBitmap found state same at seat reads known standing =
    bitmap_leads object stock (bit_and found (object_bits stock.class)) state seat known
turn_leads object stock WriteHead found state same at seat reads known standing =
    leads_nowhere state object.pointer (λ later. Matches object (turn_at WriteHead stock (answer_of (verb_at WriteHead stock) found)).state later)
    (calm_begins object stock stock.mask stock.class state (record { known = known; settled = standing }))
