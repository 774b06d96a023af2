-- The opening of a view as the world enters it.
use Rattle.std.proofs.Common.{◌≡◌, ℕ, zero, suc, ◌+◌, ◌-◌, ◌*◌, ◌<◌, ◌≤◌, ◌==◌, inl, inr, Bool, true, false, not, ◌&&◌, if◌then◌else◌, List, [], ◌∷◌, ◌++◌, length, map, get_or, refl, sym, ap, ◌∙◌, arith, Option, Some, None, slice_get}
use Rattle.std.specs.List.{range_with_len}
use Rattle.std.specs.Option.{option_and_then}
use Rattle.std.specs.Prelude.{nat_lt}
use Rattle.std.proofs.lemmas.Bool.Decides.{nat_tests}
use Rattle.std.proofs.lemmas.List.{get_or_default}
use Rattle.std.proofs.lemmas.Option.{slice_get_cases}
use Rattle.machine.specs.Client.{fresh_of, is_idle, own_object}
use Rattle.machine.specs.ObjectNames.{Object, object_in}
use Rattle.machine.specs.Places.{object_word}
use Rattle.machine.specs.Stage.{Client}
use Rattle.machine_world.specs.Ledger.{Caller, caller_in, caller_of, has_word, linked_caller, with_decision, with_holder, with_opened_client, with_opened_clients, with_opened_slot, with_opened_slots, with_opening, with_taking}
use Rattle.machine_world.specs.Readings.{deciding_word, is_in_stock, word_in_force}
use Rattle.machine_world.specs.World.{Ledger, World, client_at, first_ledger, first_master, is_among, nobody}
use Rattle.object_form.specs.declared.links.Link.{Link}
use Rattle.object_form.specs.Link.{link_in}
use Rattle.region_view.specs.Sizes.{Sizes}
use Rattle.world_core.specs.Openings.{AreInPlace, caller_among, caller_with, changes_of, has_stock, is_open, opening_world, with_changes, with_takings}
use Rattle.world_ledger.specs.Kept.{with_taking_of}

-- Calls.

-- the call of a client, where there is one of its number
judged : List ℕ → ℕ → Bool → Client → ℕ → Option Caller
judged settled word there client number =
    if (there && not (is_idle client) && not (is_among number settled)) && (fresh_of client == word) then Some (caller_of client) else None

linked_of : (sizes : Sizes) (clients : List Client) (settled : List ℕ) (word : ℕ) (link : Link) (m : ℕ) → link.client ≡ suc m
    → linked_caller (opening_world sizes [] clients settled 0) word link
    ≡ judged settled word (nat_lt 0 (suc m) && nat_lt (suc m) (length (nobody sizes ∷ clients))) (get_or clients m (nobody sizes)) (suc m)
unfolding client_at judged
linked_of sizes clients settled word link m named =
    let world = opening_world sizes [] clients settled 0 in
    ap (λ n. if has_word world word n then Some (caller_of (client_at world n)) else None) named

linked_among : (sizes : Sizes) (clients : List Client) (settled : List ℕ) (word : ℕ) (link : Link) (n : ℕ) → link.client ≡ n → 1 ≤ n → AreInPlace sizes clients
    → caller_among clients settled word n ≡ linked_caller (opening_world sizes [] clients settled 0) word link
unfolding judged
linked_among sizes clients settled word link zero named least in_place = absurd (omega arith)
linked_among sizes clients settled word link (suc m) named least in_place =
    let before : suc m - 1 ≡ m = omega arith in
    ap (λ place. option_and_then (caller_with settled word) (slice_get clients place)) before
    ∙ elim (slice_get_cases clients m).1 [
      | inl found ↦
          let at : get_or clients m (nobody sizes) ≡ found.0 = get_or_default clients m (nobody sizes) found.0 found.1 ∙ found.3 in
          let own : suc m ≡ found.0.client = omega (arith, (in_place m found.1).own) ∙ ap (λ (client : Client). client.client) at in
          let known : (nat_lt 0 (suc m) && nat_lt (suc m) (length (nobody sizes ∷ clients))) ≡ true = grind (arith, nat_tests, found.1) in
          ap (option_and_then (caller_with settled word)) found.2
          ∙ sym (λ i. judged settled word (known i) (at i) (own i))
      | inr none ↦
          let known : (nat_lt 0 (suc m) && nat_lt (suc m) (length (nobody sizes ∷ clients))) ≡ false = grind (arith, nat_tests, none.0) in
          ap (option_and_then (caller_with settled word)) none.1
          ∙ sym (λ i. judged settled word (known i) (get_or clients m (nobody sizes)) (suc m))
    ]
    ∙ sym (linked_of sizes clients settled word link m named)

-- the link of a word's object names a client
pub caller_named : (sizes : Sizes) (now : List (List ℕ)) (clients : List Client) (settled : List ℕ) (word read : ℕ) (object : Object) (link : Link)
    → Some object ≡ object_in sizes word → read ≡ word_in_force sizes now (object_word object.pointer 0) → Some link ≡ link_in read
    → 1 ≤ link.client → AreInPlace sizes clients
    → caller_among clients settled word link.client ≡ caller_in (opening_world sizes [] clients settled 0) now word
caller_named sizes now clients settled word read object link named reads linked least in_place =
    let world = opening_world sizes [] clients settled 0 in
    linked_among sizes clients settled word link link.client refl least in_place
    ∙ ap (option_and_then (linked_caller world word)) (linked ∙ ap link_in reads)
    ∙ ap (option_and_then (λ (o : Object). option_and_then (linked_caller world word) (link_in (word_in_force sizes now (object_word o.pointer 0))))) named

-- the words and the events are of no matter to it
caller_same : (sizes : Sizes) (old now : List (List ℕ)) (clients : List Client) (settled : List ℕ) (event word : ℕ)
    → caller_in (opening_world sizes [] clients settled 0) now word ≡ caller_in (opening_world sizes old clients settled event) now word
unfolding client_at
caller_same sizes old now clients settled event word = refl

-- Slots.

opened_slots : (world : World) (now : List (List ℕ)) (caller : ℕ → Option Caller) → ((word : ℕ) → caller word ≡ caller_in world now word) → (slots : List ℕ) (ledger : Ledger)
    → with_changes world.shape world.events (changes_of (deciding_word world.shape world.nodes) (deciding_word world.shape now) caller slots) ledger
    ≡ with_opened_slots world now ledger slots
opened_slots world now caller same [] ledger = refl
opened_slots world now caller same (slot ∷ slots) ledger =
    let sizes = world.shape in
    let before = deciding_word sizes world.nodes in
    let after = deciding_word sizes now in
    let rest = changes_of before after caller slots in
    elim (before slot == after slot) as (λ b.
    with_changes sizes world.events ((if b then [] else record { slot = slot; replaced = before slot; caller = caller (after slot) } ∷ []) ++ rest) ledger
    ≡ with_opened_slots world now (if b then ledger else with_decision sizes world.events slot (before slot) (caller_in world now (after slot)) ledger) slots) [
      | true ↦ opened_slots world now caller same slots ledger
      | false ↦
          ap (λ found. with_changes sizes world.events rest (with_decision sizes world.events slot (before slot) found ledger)) (same (after slot))
          ∙ opened_slots world now caller same slots (with_decision sizes world.events slot (before slot) (caller_in world now (after slot)) ledger)
    ]

-- Objects.

-- whether the call is open is asked before or after
taken : (is_on none was is : Bool) (held ledger : Ledger)
    → (if is_on then (if not none && (was && not is) then held else ledger) else ledger)
    ≡ (if not none && (((is_on && not none) && was) && not ((is_on && not none) && is)) then held else ledger)
taken true true was is held ledger = refl
taken true false was is held ledger = refl
taken false true was is held ledger = refl
taken false false was is held ledger = refl

opened_client : (world : World) (now : List (List ℕ)) (ledger : Ledger) (n : ℕ) (client : Client) → 1 ≤ n → n < length world.clients → client_at world n ≡ client → client.client ≡ n
    → with_opened_client world now ledger n
    ≡ with_taking_of world.shape client.client client.object (has_stock world.shape world.nodes world.master.settled client) (has_stock world.shape now world.master.settled client) ledger
opened_client world now ledger n client least below at own =
    let sizes = world.shape in
    let settled = world.master.settled in
    let known : (nat_lt 0 n && nat_lt n (length world.clients)) ≡ true = grind (arith, nat_tests) in
    (λ i. if known i && not (is_idle (at i)) && not (is_among (sym own i) settled) then with_taking sizes world.nodes now (at i) ledger else ledger)
    ∙ taken (is_open settled client) (client.object == 0) (is_in_stock sizes world.nodes (own_object client)) (is_in_stock sizes now (own_object client)) (with_holder sizes ledger client.object client.client) ledger

opened_clients : (world : World) (now : List (List ℕ)) (a : ℕ) (clients : List Client) (ledger : Ledger) → 1 ≤ a → a + length clients ≤ length world.clients
    → ((k : ℕ) → k < length clients → client_at world (a + k) ≡ get_or clients k (nobody world.shape))
    → ((k : ℕ) → k < length clients → (get_or clients k (nobody world.shape)).client ≡ a + k)
    → with_opened_clients world now ledger (range_with_len a (length clients))
    ≡ with_takings world.shape (has_stock world.shape now world.master.settled) clients (map (has_stock world.shape world.nodes world.master.settled) clients) ledger
opened_clients world now a [] ledger least fits at own = refl
opened_clients world now a (client ∷ clients) ledger least fits at own =
    let first : client_at world a ≡ client = ap (client_at world) (omega arith) ∙ at 0 (omega arith) in
    let number : client.client ≡ a = own 0 (omega arith) ∙ omega arith in
    let taking = with_taking_of world.shape client.client client.object (has_stock world.shape world.nodes world.master.settled client) (has_stock world.shape now world.master.settled client) ledger in
    ap (λ made. with_opened_clients world now made (range_with_len (a + 1) (length clients))) (opened_client world now ledger a client least (omega arith) first number)
    ∙ opened_clients world now (a + 1) clients taking (omega arith) (omega arith)
    (λ k below. ap (client_at world) (omega arith) ∙ at (suc k) (omega arith))
    (λ k below. own (suc k) (omega arith) ∙ omega arith)

-- The opening.

first_of : (sizes : Sizes) (old : List (List ℕ)) (clients : List Client) (settled : List ℕ) (event k : ℕ) → client_at (opening_world sizes old clients settled event) (1 + k) ≡ get_or clients k (nobody sizes)
unfolding client_at
first_of sizes old clients settled event k = ap (λ n. get_or (nobody sizes ∷ clients) n (nobody sizes)) (add_one k)
  where
    add_one : (k : ℕ) → 1 + k ≡ suc k
    add_one k = omega arith

pub opened : (sizes : Sizes) (old now : List (List ℕ)) (clients : List Client) (settled : List ℕ) (event : ℕ) (ledger : Ledger) → AreInPlace sizes clients
    → with_takings sizes (has_stock sizes now settled) clients (map (has_stock sizes old settled) clients)
    (with_changes sizes event (changes_of (deciding_word sizes old) (deciding_word sizes now) (caller_in (opening_world sizes [] clients settled 0) now) (range_with_len 0 (24 * sizes.groups))) ledger)
    ≡ with_opening (opening_world sizes old clients settled event) now ledger
unfolding with_opening
opened sizes old now clients settled event ledger in_place =
    let world = opening_world sizes old clients settled event in
    let caller = caller_in (opening_world sizes [] clients settled 0) now in
    let slots = range_with_len 0 (24 * sizes.groups) in
    let entered = with_opened_slots world now ledger slots in
    ap (with_takings sizes (has_stock sizes now settled) clients (map (has_stock sizes old settled) clients))
    (opened_slots world now caller (caller_same sizes old now clients settled event) slots ledger)
    ∙ sym (opened_clients world now 1 clients entered (omega arith) (omega arith)
    (λ k below. first_of sizes old clients settled event k)
    (λ k below. (in_place k below).own ∙ omega arith))

-- Of the world it reads these fields alone.

seen : World → World
seen world = record world {
  clients = world.clients;
  master = record first_master { settled = world.master.settled };
  stopped = [];
  trace = [];
  ledger = first_ledger world.shape;
}

seen_slots : (world : World) (now : List (List ℕ)) (ledger : Ledger) (slots : List ℕ) → with_opened_slots world now ledger slots ≡ with_opened_slots (seen world) now ledger slots
unfolding seen client_at
seen_slots world now ledger [] = refl
seen_slots world now ledger (slot ∷ slots) = seen_slots world now (with_opened_slot (seen world) now ledger slot) slots

seen_clients : (world : World) (now : List (List ℕ)) (ledger : Ledger) (clients : List ℕ) → with_opened_clients world now ledger clients ≡ with_opened_clients (seen world) now ledger clients
unfolding seen client_at
seen_clients world now ledger [] = refl
seen_clients world now ledger (client ∷ clients) = seen_clients world now (with_opened_client (seen world) now ledger client) clients

seen_opening : (world : World) (now : List (List ℕ)) (ledger : Ledger) → with_opening world now ledger ≡ with_opening (seen world) now ledger
unfolding with_opening seen
seen_opening world now ledger =
    let slots = range_with_len 0 (24 * world.shape.groups) in
    let clients = range_with_len 0 (length world.clients) in
    ap (λ made. with_opened_clients world now made clients) (seen_slots world now ledger slots)
    ∙ seen_clients world now (with_opened_slots (seen world) now ledger slots) clients

pub opening_of_world : (world : World) (now : List (List ℕ)) (ledger : Ledger) (sizes : Sizes) (old : List (List ℕ)) (clients : List Client) (settled : List ℕ) (event : ℕ)
    → world.shape ≡ sizes → world.nodes ≡ old → world.clients ≡ nobody sizes ∷ clients → world.master.settled ≡ settled → world.events ≡ event
    → with_opening world now ledger ≡ with_opening (opening_world sizes old clients settled event) now ledger
unfolding seen
opening_of_world world now ledger sizes old clients settled event is_shape is_nodes is_clients is_settled is_event =
    seen_opening world now ledger
    ∙ (λ i. with_opening (record {
      shape = is_shape i;
      nodes = is_nodes i;
      clients = is_clients i;
      master = record first_master { settled = is_settled i };
      stopped = [];
      trace = [];
      ledger = first_ledger (is_shape i);
      events = is_event i;
    }) now ledger)
