-- What becomes of the past at each step: its lists keep their lengths, and at most one beaten call is counted.
use Rattle.std.proofs.Common.{◌≡◌, ◌≢◌, ℕ, zero, suc, ◌+◌, ◌-◌, ◌*◌, ◌<◌, ◌≤◌, ◌==◌, ◌⊎◌, inl, inr, Bool, true, false, ◌&&◌, List, [], ◌∷◌, ◌++◌, length, get_or, Option, Some, None, refl, sym, ap, subst, ◌∙◌, arith, length-set, set}
use Rattle.std.specs.Prelude.{not, if◌then◌else◌, slice_get, slice_index_or, slice_set}
use Rattle.std.specs.List.{range_with_len}
use Rattle.std.specs.Option.{option_map_or}
use Rattle.std.proofs.Math.ListN.{get_or-append}
use Rattle.std.proofs.lemmas.Bool.{cases_lt}
use Rattle.std.proofs.lemmas.Bool.Decides.{eqb_tells}
use Rattle.std.proofs.lemmas.List.{get_or-append_right, get_or-set_other, get_or-set_same, set_past}
use Rattle.std.proofs.lemmas.Option.{get_or_from_slice_get}
use Rattle.machine.specs.declared.client_call.Outcome.{Outcome}
use Rattle.machine.specs.declared.client_call.Outcome.TheVariants as outcome
use Rattle.machine.specs.declared.client_call.Step.{Step}
use Rattle.machine.specs.declared.client_call.Step.TheVariants as step
use Rattle.machine.specs.Client.{own_object}
use Rattle.machine.specs.ObjectNames.{Object, object_in}
use Rattle.machine.specs.SlotWrite.{SlotWrite}
use Rattle.machine.specs.Stage.{Client}
use Rattle.machine_world.specs.Events.{ledger_after}
use Rattle.machine_world.specs.Ledger.{Caller, at_event, caller_in, caller_of, decided_at, final_of, is_decided, is_taken, is_word, reads_slot, with_beaten, with_caller, with_decision, with_done, with_entry, with_final, with_holder, with_loss, with_opened_client, with_opened_clients, with_opened_slot, with_opened_slots, with_opening, with_outcome, with_read, with_replaced, with_return, with_return_done, with_search, with_taking}
use Rattle.machine_world.specs.Readings.{deciding_word, is_unfinished, unit_index}
use Rattle.machine_world.specs.World.{Decided, Entered, Ledger, Point, World, client_at}
use Rattle.region_view.specs.Sizes.{Sizes}
use Rattle.verb_words.specs.declared.verbs.Answer.{Answer}

-- no word has become deciding
abbrev pub no_decision : Decided
no_decision = record { event = 0; beaten = 0 }

-- how many beaten calls were entered before the call with this place in the slot's decisions; none where there is no such call
abbrev pub beaten_at : Ledger → ℕ → ℕ → ℕ
beaten_at ledger slot place = (slice_index_or (decided_at ledger slot) place no_decision).beaten

-- the past has lists of the same lengths, and of each winner so many more beaten calls at most
pub record Grows (more : ℕ) (old new : Ledger) : Type 0 where
  pub decided : length new.decided ≡ length old.decided
  pub holders : length new.holders ≡ length old.holders
  pub reads : length new.reads ≡ length old.reads
  pub beaten : (slot place : ℕ) → beaten_at new slot place ≤ beaten_at old slot place + more

pub stays : (ledger : Ledger) → Grows 0 ledger ledger
stays ledger = record { decided = refl; holders = refl; reads = refl; beaten = λ slot place. omega arith }

pub grows-then : (one two three : ℕ) (old now new : Ledger) → one + two ≤ three → Grows one old now → Grows two now new → Grows three old new
grows-then one two three old now new most first second = record {
  decided = second.decided ∙ first.decided;
  holders = second.holders ∙ first.holders;
  reads = second.reads ∙ first.reads;
  beaten = λ slot place. omega (arith, first.beaten slot place, second.beaten slot place, most);
}

at_most : (more : ℕ) (old new : Ledger) → Grows 0 old new → Grows more old new
at_most more old new grows = record { decided = grows.decided; holders = grows.holders; reads = grows.reads; beaten = λ slot place. omega (arith, grows.beaten slot place) }

-- what holds of each element, and of the one that is written, holds after the write
pub by_set : {A : Type 0} (P : A → Type 0) (list : List A) (i j : ℕ) (x d : A) → (j ≡ i → P x) → P (get_or list j d) → P (get_or (set list i x) j d)
by_set P list i j x d written before = by (eqb_tells j i)
  where
    by : (((j == i) ≡ true) × (j ≡ i)) ⊎ (((j == i) ≡ false) × (j ≢ i)) → P (get_or (set list i x) j d)
    by (inr (test, differ)) = subst P (sym (get_or-set_other list i j x d differ)) before
    by (inl (test, same)) = within (cases_lt i (length list))
      where
        within : (i < length list) ⊎ (length list ≤ i) → P (get_or (set list i x) j d)
        within (inl inside) = subst P (sym (ap (λ n. get_or (set list i x) n d) same ∙ get_or-set_same list i x d inside)) (written same)
        within (inr past) = subst P (sym (ap (λ l. get_or l j d) (set_past list i x past))) before

pub either : (t : Bool) (more : ℕ) (old one other : Ledger) → Grows more old one → Grows more old other → Grows more old (if t then one else other)
either true more old one other first second = first
either false more old one other first second = second

-- Holders and reads.

holder-grows : (sizes : Sizes) (ledger : Ledger) (pointer client : ℕ) → Grows 0 ledger (with_holder sizes ledger pointer client)
holder-grows sizes ledger pointer client = record {
  decided = refl;
  holders = length-set ledger.holders (unit_index sizes pointer) client;
  reads = refl;
  beaten = λ slot place. omega arith;
}

taking-grows : (sizes : Sizes) (before now : List (List ℕ)) (client : Client) (ledger : Ledger) → Grows 0 ledger (with_taking sizes before now client ledger)
taking-grows sizes before now client ledger =
    either (not (client.object == 0) && is_taken sizes before now (own_object client)) 0 ledger _ ledger (holder-grows sizes ledger client.object client.client) (stays ledger)

read-grows : (event : ℕ) (client : Client) (answer : Answer) (ledger : Ledger) → Grows 0 ledger (with_read event client answer ledger)
read-grows event client answer ledger = either (reads_slot client.stage && is_word answer) 0 ledger _ ledger read (stays ledger)
  where
    read : Grows 0 ledger (record ledger { reads = slice_set ledger.reads client.client event })
    read = record { decided = refl; holders = refl; reads = length-set ledger.reads client.client event; beaten = λ slot place. omega arith }

-- Decisions.

-- a decision that has beaten none yet
fresh : ℕ → Decided
fresh event = record { event = event; beaten = 0 }

one-fresh : (event place : ℕ) → (get_or (fresh event ∷ []) place no_decision).beaten ≡ 0
unfolding fresh
one-fresh event zero = refl
one-fresh event (suc place) = refl

pushed : (list : List Decided) (event place : ℕ) → (get_or (list ++ fresh event ∷ []) place no_decision).beaten ≤ (get_or list place no_decision).beaten
pushed list event place = by (cases_lt place (length list))
  where
    by : (place < length list) ⊎ (length list ≤ place) → (get_or (list ++ fresh event ∷ []) place no_decision).beaten ≤ (get_or list place no_decision).beaten
    by (inl before) = rw (get_or-append list (fresh event ∷ []) no_decision place before) (omega arith)
    by (inr past) = rw (get_or-append_right list (fresh event ∷ []) (length list) place no_decision refl (omega arith)) (omega (arith, one-fresh event (place - length list)))

pushed-grows : (event slot : ℕ) (ledger : Ledger) → Grows 0 ledger (record ledger { decided = slice_set ledger.decided slot (decided_at ledger slot ++ record { event = event; beaten = 0 } ∷ []) })
unfolding fresh
pushed-grows event slot ledger = record {
  decided = length-set ledger.decided slot (decided_at ledger slot ++ fresh event ∷ []);
  holders = refl;
  reads = refl;
  beaten = λ other place.
      let P : List Decided → Type 0 = λ list. (get_or list place no_decision).beaten ≤ beaten_at ledger other place + 0 in
      by_set P ledger.decided slot other (decided_at ledger slot ++ fresh event ∷ []) []
      (λ same.
      let here = pushed (decided_at ledger slot) event place in
      let Q : ℕ → Type 0 = λ n. (get_or (decided_at ledger slot ++ fresh event ∷ []) place no_decision).beaten ≤ beaten_at ledger n place + 0 in
      subst Q (sym same) (omega (arith, here)))
      (omega arith);
}

entries-grow : (entries : List Entered) (ledger : Ledger) → Grows 0 ledger (record ledger { entries = entries })
entries-grow entries ledger = record { decided = refl; holders = refl; reads = refl; beaten = λ slot place. omega arith }

replaced-grows : (sizes : Sizes) (word : ℕ) (caller : Caller) (ledger : Ledger) → Grows 0 ledger (with_replaced sizes word caller ledger)
replaced-grows sizes word caller ledger = by (object_in sizes word)
  where
    by : (object : Option Object) → Grows 0 ledger (option_map_or (λ o. with_holder sizes ledger o.pointer caller.client) object ledger)
    by None = stays ledger
    by (Some object) = holder-grows sizes ledger object.pointer caller.client

caller-grows : (sizes : Sizes) (event slot word : ℕ) (caller : Option Caller) (ledger : Ledger) → Grows 0 ledger (with_caller sizes event slot word caller ledger)
caller-grows sizes event slot word None ledger = stays ledger
caller-grows sizes event slot word (Some caller) ledger =
    let done = with_done event slot caller ledger in
    grows-then 0 0 0 ledger done (with_replaced sizes word caller done) (omega arith) (entries-grow done.entries ledger) (replaced-grows sizes word caller done)

pub decision-grows : (sizes : Sizes) (event slot word : ℕ) (caller : Option Caller) (ledger : Ledger) → Grows 0 ledger (with_decision sizes event slot word caller ledger)
decision-grows sizes event slot word caller ledger =
    let now : Ledger = record ledger { decided = slice_set ledger.decided slot (decided_at ledger slot ++ record { event = event; beaten = 0 } ∷ []) } in
    grows-then 0 0 0 ledger now (with_decision sizes event slot word caller ledger) (omega arith) (pushed-grows event slot ledger) (caller-grows sizes event slot word caller now)

-- a write whose word may be deciding now
pub final-grows : (sizes : Sizes) (before now : List (List ℕ)) (event : ℕ) (caller : Caller) (write : Option SlotWrite) (ledger : Ledger) → Grows 0 ledger (with_final sizes before now event caller write ledger)
final-grows sizes before now event caller None ledger = stays ledger
final-grows sizes before now event caller (Some write) ledger =
    either (is_decided sizes before now write.slot write.fresh) 0 ledger _ ledger
    (decision-grows sizes event write.slot (deciding_word sizes before write.slot) (Some caller) ledger) (stays ledger)

-- Returns.

-- one more is counted as beaten by the call that has this place among the slot's decisions
beaten-grows : (slot version : ℕ) (decided : Decided) (ledger : Ledger) → slice_get (decided_at ledger slot) (version - 1) ≡ Some decided → Grows 1 ledger (with_beaten slot version decided ledger)
beaten-grows slot version decided ledger found = record {
  decided = length-set ledger.decided slot (slice_set (decided_at ledger slot) (version - 1) more);
  holders = refl;
  reads = refl;
  beaten = λ other place.
      let P : List Decided → Type 0 = λ list. (get_or list place no_decision).beaten ≤ beaten_at ledger other place + 1 in
      by_set P ledger.decided slot other (slice_set (decided_at ledger slot) (version - 1) more) []
      (λ same.
      let Q : ℕ → Type 0 = λ n. (get_or (slice_set (decided_at ledger slot) (version - 1) more) place no_decision).beaten ≤ beaten_at ledger n place + 1 in
      subst Q (sym same) (here place))
      (omega arith);
}
  where
    more : Decided
    more = record decided { beaten = decided.beaten + 1 }

    here : (place : ℕ) → (get_or (slice_set (decided_at ledger slot) (version - 1) more) place no_decision).beaten ≤ beaten_at ledger slot place + 1
    here place =
        let P : Decided → Type 0 = λ d. d.beaten ≤ beaten_at ledger slot place + 1 in
        by_set P (decided_at ledger slot) (version - 1) place more no_decision
        (λ same.
        let is = ap (λ n. (get_or (decided_at ledger slot) n no_decision).beaten) same ∙ ap (λ (d : Decided). d.beaten) (get_or_from_slice_get (decided_at ledger slot) (version - 1) decided no_decision found) in
        omega (arith, is))
        (omega arith)

entry-grows : (client : Client) (result : Outcome) (at : Point) (ledger : Ledger) → Grows 0 ledger (with_entry client result at ledger)
entry-grows client result at ledger = entries-grow (with_entry client result at ledger).entries ledger

search-grows : (client : Client) (result : Outcome) (ledger : Ledger) → Grows 0 ledger (with_search client result ledger)
search-grows client result ledger = entries-grow (with_search client result ledger).entries ledger

loss-grows : (client : Client) (result : Outcome) (event : ℕ) (at : ℕ × ℕ) (ledger : Ledger) → Grows 1 ledger (with_loss client result event at ledger)
loss-grows client result event at ledger = by (slice_get (decided_at ledger at.0) (at.1 - 1)) refl
  where
    by : (found : Option Decided) → slice_get (decided_at ledger at.0) (at.1 - 1) ≡ found → Grows 1 ledger (with_loss client result event at ledger)
    by None none = rw none (at_most 1 ledger _ (entry-grows client result (at_event event) ledger))
    by (Some decided) some =
        let before : Point = record { event = decided.event; slot = at.0; rank = decided.beaten } in
        let entered = with_entry client result before ledger in
        rw some (grows-then 0 1 1 ledger entered (with_beaten at.0 at.1 decided entered) (omega arith) (entry-grows client result before ledger) (beaten-grows at.0 at.1 decided entered some))

return_done-grows : (client : Client) (event : ℕ) (ledger : Ledger) → Grows 1 ledger (with_return_done client event ledger)
return_done-grows client event ledger =
    either (client.object == 0) 1 ledger _ _ (at_most 1 ledger _ (search-grows client outcome.Done ledger)) (by client.beaten)
  where
    by : (beaten : Option (ℕ × ℕ)) → Grows 1 ledger (option_map_or (λ at. with_loss client outcome.Done event at ledger) beaten ledger)
    by None = at_most 1 ledger ledger (stays ledger)
    by (Some at) = loss-grows client outcome.Done event at ledger

outcome-grows : (client : Client) (result : Outcome) (event : ℕ) (ledger : Ledger) → Grows 1 ledger (with_outcome client result event ledger)
outcome-grows client outcome.Done event ledger = return_done-grows client event ledger
outcome-grows client outcome.Value event ledger = at_most 1 ledger _ (search-grows client outcome.Value ledger)
outcome-grows client outcome.Absent event ledger = at_most 1 ledger _ (search-grows client outcome.Absent ledger)
outcome-grows client outcome.Full event ledger = at_most 1 ledger _ (entry-grows client outcome.Full (at_event event) ledger)
outcome-grows client (outcome.NoSpace class awaited begin) event ledger = at_most 1 ledger _ (entry-grows client (outcome.NoSpace class awaited begin) (at_event event) ledger)

-- how many calls a step ends
abbrev pub ended_by : Step → ℕ
ended_by (step.Ended result) = 1
ended_by step.Going = 0
ended_by (step.NotYet reason) = 0

return-grows : (client : Client) (tells : Step) (event : ℕ) (ledger : Ledger) → Grows (ended_by tells) ledger (with_return client tells event ledger)
return-grows client (step.Ended result) event ledger = outcome-grows client result event ledger
return-grows client step.Going event ledger = stays ledger
return-grows client (step.NotYet reason) event ledger = stays ledger

-- a client's verb counts one more beaten call at most, and that only where it ends the call
pub answer-grows : (world : World) (now : List (List ℕ)) (client : Client) (answer : Answer) (tells : Step) → Grows (ended_by tells) world.ledger (ledger_after world now client answer tells)
answer-grows world now client answer tells =
    let read = with_read world.events client answer world.ledger in
    let final = with_final world.shape world.nodes now world.events (caller_of client) (final_of client.stage) read in
    let taken = with_taking world.shape world.nodes now client final in
    grows-then 0 (ended_by tells) (ended_by tells) world.ledger taken _ (omega arith)
    (grows-then 0 0 0 world.ledger final taken (omega arith)
    (grows-then 0 0 0 world.ledger read final (omega arith) (read-grows world.events client answer world.ledger)
    (final-grows world.shape world.nodes now world.events (caller_of client) (final_of client.stage) read))
    (taking-grows world.shape world.nodes now client final))
    (return-grows client tells world.events taken)

-- The opening of a view.

opened_slot-grows : (world : World) (now : List (List ℕ)) (ledger : Ledger) (slot : ℕ) → Grows 0 ledger (with_opened_slot world now ledger slot)
opened_slot-grows world now ledger slot =
    either (deciding_word world.shape world.nodes slot == deciding_word world.shape now slot) 0 ledger ledger _ (stays ledger)
    (decision-grows world.shape world.events slot (deciding_word world.shape world.nodes slot) (caller_in world now (deciding_word world.shape now slot)) ledger)

opened_slots-grow : (world : World) (now : List (List ℕ)) (ledger : Ledger) (slots : List ℕ) → Grows 0 ledger (with_opened_slots world now ledger slots)
opened_slots-grow world now ledger [] = stays ledger
opened_slots-grow world now ledger (slot ∷ slots) =
    let first = with_opened_slot world now ledger slot in
    grows-then 0 0 0 ledger first _ (omega arith) (opened_slot-grows world now ledger slot) (opened_slots-grow world now first slots)

opened_client-grows : (world : World) (now : List (List ℕ)) (ledger : Ledger) (client : ℕ) → Grows 0 ledger (with_opened_client world now ledger client)
opened_client-grows world now ledger client =
    either (is_unfinished world client) 0 ledger _ ledger (taking-grows world.shape world.nodes now (client_at world client) ledger) (stays ledger)

opened_clients-grow : (world : World) (now : List (List ℕ)) (ledger : Ledger) (clients : List ℕ) → Grows 0 ledger (with_opened_clients world now ledger clients)
opened_clients-grow world now ledger [] = stays ledger
opened_clients-grow world now ledger (client ∷ clients) =
    let first = with_opened_client world now ledger client in
    grows-then 0 0 0 ledger first _ (omega arith) (opened_client-grows world now ledger client) (opened_clients-grow world now first clients)

pub opening-grows : (world : World) (now : List (List ℕ)) (ledger : Ledger) → Grows 0 ledger (with_opening world now ledger)
unfolding with_opening
opening-grows world now ledger =
    let slots = with_opened_slots world now ledger (range_with_len 0 (24 * world.shape.groups)) in
    grows-then 0 0 0 ledger slots _ (omega arith) (opened_slots-grow world now ledger (range_with_len 0 (24 * world.shape.groups)))
    (opened_clients-grow world now slots (range_with_len 0 (length world.clients)))
