-- Why a call comes to the stages outside its view, what its steps tell, and how it is to return.
use Rattle.std.proofs.Common.{◌≡◌, ◌≢◌, ℕ, zero, suc, ◌+◌, ◌*◌, ◌<◌, ◌≤◌, ◌⊎◌, inl, inr, ◌==◌, nat_lt, Bool, true, false, not, ◌&&◌, length, Option, Some, None, refl, sym, ap, subst, ◌∙◌, arith}
use Rattle.std.proofs.lemmas.Bool.{false≢true}
use Rattle.std.proofs.lemmas.Bool.Decides.{eqb_tells, nat_tests}
use Rattle.kv_find.proofs.PassedLemmas.{turn-moves}
use Rattle.kv_ops.proofs.RefusalLemmas.{bits-refused, passed-refused, resolution-refused, search-refused, slots-refused, test-refused, values-refused, words-refused}
use Rattle.kv_ops.proofs.StageLemmas.{finds-other, finds-own}
use Rattle.machine.specs.KeySearch.{is_at_slot}
use Rattle.kv_ops.specs.Standings.{reads_own}
use Rattle.kv_ops.specs.Causes.{Enters, FindPasses, HasOtherKey, IsRefused, IsUnderView, ReadsEpoch, Results, StaysUnchanged, Tells}
use Rattle.machine.specs.declared.bit_change.Changed.{Changed}
use Rattle.machine.specs.declared.bit_change.Changed.TheVariants as changed
use Rattle.machine.specs.declared.choosing.Took.{Took}
use Rattle.machine.specs.declared.choosing.Took.TheVariants as took
use Rattle.machine.specs.declared.client_call.Outcome.{Outcome}
use Rattle.machine.specs.declared.client_call.Outcome.TheVariants as outcome
use Rattle.machine.specs.declared.client_call.Step.{Step}
use Rattle.machine.specs.declared.key_search.Found.{Found}
use Rattle.machine.specs.declared.key_search.Found.TheVariants as found_as
use Rattle.machine.specs.declared.key_test.Tested.{Tested}
use Rattle.machine.specs.declared.key_test.Tested.TheVariants as tested
use Rattle.machine.specs.declared.object_write.Written.{Written}
use Rattle.machine.specs.declared.object_write.Written.TheVariants as written
use Rattle.machine.specs.declared.resolution.Resolved.{Resolved}
use Rattle.machine.specs.declared.resolution.Resolved.TheVariants as resolved
use Rattle.machine.specs.declared.slot_write.Wrote.{Wrote}
use Rattle.machine.specs.declared.slot_write.Wrote.TheVariants as wrote
use Rattle.machine.specs.declared.value_read.Fetched.{Fetched}
use Rattle.machine.specs.declared.value_read.Fetched.TheVariants as fetched_as
use Rattle.machine.specs.BitChange as bits
use Rattle.machine.specs.BitChange.{BitChange}
use Rattle.machine.specs.Choosing as choosing
use Rattle.machine.specs.Client.{absent, chooses, ends, fetches, finds_at, finds_on, first_turn, frees_again, fresh_of, gives_back, goes_to, is_beaten, kept_of, next, on_body, on_changed, on_clear, on_epoch, on_fetch, on_find, on_free, on_kind, on_log, on_lost, on_paused, on_resolved, on_return, on_round, on_searching, on_seek, on_test, on_took, on_version, on_wrote, refused, remembers, resumes, search_of, slot_of, turn, turn_at, verb_at, view_of, won}
use Rattle.machine.specs.EpochRead.{open_mask}
use Rattle.machine.specs.KeySearch as search
use Rattle.machine.specs.KeySearch.{IsKeySearch, KeySearch, key_search_of}
use Rattle.machine.specs.KeyTest as test
use Rattle.machine.specs.KeyTest.{KeyTest}
use Rattle.machine.specs.ObjectNames.{Object, candidate_in, object_in}
use Rattle.machine.specs.Resolution as resolution
use Rattle.machine.specs.Resolution.{Resolution}
use Rattle.machine.specs.SlotWrite as slots
use Rattle.machine.specs.Places.{backup_count}
use Rattle.machine.specs.SlotWrite.{IsSlotWrite, SlotWrite, judged}
use Rattle.machine.specs.Stage.{Client, Kept, FromStart, FromSeek, FromChoose, FromClear, FromBody, FromFind, FromResolve, FromFree, FromReturn, Operation, Get, Put, Delete, Stage, Idle, Start, ReadEpoch, Pause, Paused, LostNode, Seek, Fetch, Choose, Clear, Body, Find, ReadVersion, Log, WriteSlot, AwaitRound, TestKey, Resolve, Free, Return, End}
use Rattle.machine.specs.Standing.{IsAt, IsClient}
use Rattle.machine.specs.Stock.{Stock, class_stock, first_free}
use Rattle.machine.specs.Turn.{Turn}
use Rattle.machine.specs.ValueRead as values
use Rattle.machine.specs.ValueRead.{ValueRead}
use Rattle.machine.specs.WordsWrite as words
use Rattle.machine.specs.WordsWrite.{WordsWrite}
use Rattle.object_alloc.proofs.CauseLemmas.{turn-refused}
use Rattle.object_form.specs.Class.{class_in}
use Rattle.object_form.specs.declared.metas.Kind.{Kind}
use Rattle.object_form.specs.declared.metas.Kind.TheVariants.{Value, Tombstone}
use Rattle.region_view.specs.Sizes.{Sizes}
use Rattle.slot_order.specs.Slots.{order_of}
use Rattle.snapshot_rules.specs.declared.rules.Verdict.TheVariants.{Lose}
use Rattle.verb_words.specs.declared.verbs.Answer.{Answer}
use Rattle.verb_words.specs.declared.verbs.Answer.TheVariants.{Word, Done, Lost}
use Rattle.verb_words.specs.Verb.{place_of}

-- the causes of a turn, in the client that its answer came to
pub record IsCaused (origin : Client) (answer : Answer) (turned : Turn Client Step) : Type 0 where
  pub enters : Enters origin answer turned.state.stage
  pub tells : Tells origin answer turned.told
  pub results : Results origin answer turned.state.outcome

-- A choosing that begins tells that it goes on, or has its object.

abbrev IsBegun : Took → Type 0
IsBegun took.Going = Unit {0}
IsBegun (took.Have object next) = Unit {0}
IsBegun (took.NoSpace class awaited begin) = ⊥
IsBegun (took.Refused node) = ⊥

block-begun : (stock : Stock) → stock.position < stock.shape.regions * stock.shape.blocks → IsBegun (choosing.at_block stock).told
block-begun stock below = by (nat_lt stock.position (stock.shape.regions * stock.shape.blocks)) refl
  where
    by : (t : Bool) → nat_lt stock.position (stock.shape.regions * stock.shape.blocks) ≡ t → IsBegun (choosing.at_block stock).told
    by true within = rw within tt
    by false past = absurd (grind (arith, nat_tests))

looks-begun : (stock : Stock) → stock.position < stock.shape.regions * stock.shape.blocks → IsBegun (choosing.looks stock).told
looks-begun stock below = by (nat_lt 0 (length (class_stock stock).awaited)) refl (not stock.scanned && nat_lt 0 (length (class_stock stock).own)) refl
  where
    by : (t : Bool) → nat_lt 0 (length (class_stock stock).awaited) ≡ t → (u : Bool) → (not stock.scanned && nat_lt 0 (length (class_stock stock).own)) ≡ u → IsBegun (choosing.looks stock).told
    by true some u scan = rw some tt
    by false none true scan = rw (none, scan) tt
    by false none false done = rw (none, done) (block-begun stock below)

takes-begun : (stock : Stock) (free : ℕ) → IsBegun (choosing.takes stock free).told
takes-begun stock free = by (class_stock stock).reserve refl
  where
    by : (reserve : Option ℕ) → (class_stock stock).reserve ≡ reserve → IsBegun (choosing.takes stock free).told
    by None none = rw none tt
    by (Some reserve) some = rw some tt

chooses-begun : (stock : Stock) → stock.position < stock.shape.regions * stock.shape.blocks → IsBegun (choosing.chooses stock).told
chooses-begun stock below = by (first_free stock.class (class_stock stock)) refl
  where
    by : (free : Option ℕ) → first_free stock.class (class_stock stock) ≡ free → IsBegun (choosing.chooses stock).told
    by None none = rw none (looks-begun stock below)
    by (Some free) some = rw some (takes-begun stock free)

-- Turns, row by row. The client of a row may differ from the one that the answer came to.

goes-caused : (origin : Client) (answer : Answer) (client : Client) (stage : Stage) → Enters origin answer stage → Results origin answer client.outcome → IsCaused origin answer (goes_to client stage)
goes-caused origin answer client stage enters results = record { enters = enters; tells = tt; results = results }

ends-caused : (origin : Client) (answer : Answer) (client : Client) (result : Outcome) → Results origin answer result → IsCaused origin answer (ends client result)
ends-caused origin answer client result results = record { enters = tt; tells = tt; results = results }

gives_back-caused : (origin : Client) (answer : Answer) (client : Client) (result : Outcome) → Results origin answer result → IsCaused origin answer (gives_back client result)
gives_back-caused origin answer client result results = record { enters = tt; tells = tt; results = results }

refused-caused : (origin : Client) (answer : Answer) (client : Client) (node : ℕ) → IsRefused origin answer node → kept_of client.stage ≡ kept_of origin.stage → Results origin answer client.outcome → IsCaused origin answer (refused client node)
refused-caused origin answer client node is same results = record { enters = inr (is, same); tells = inl is; results = results }

took-caused : (origin : Client) (answer : Answer) (client : Client) (stock : Stock) (told : Took) → ((node : ℕ) → told ≡ took.Refused node → IsRefused origin answer node) → kept_of client.stage ≡ kept_of origin.stage
    → ((class awaited begin : ℕ) → told ≡ took.NoSpace class awaited begin → Results origin answer (outcome.NoSpace class awaited begin)) → Results origin answer client.outcome
    → IsCaused origin answer (on_took client stock told)
took-caused origin answer client stock took.Going refuses same spent results = record { enters = tt; tells = tt; results = results }
took-caused origin answer client stock (took.Have object next) refuses same spent results = record { enters = tt; tells = tt; results = results }
took-caused origin answer client stock (took.NoSpace class awaited begin) refuses same spent results = ends-caused origin answer (record client { stock = stock }) (outcome.NoSpace class awaited begin) (spent class awaited begin refl)
took-caused origin answer client stock (took.Refused node) refuses same spent results = refused-caused origin answer (record client { stock = stock }) node (refuses node refl) same results

chooses-caused : (origin : Client) (answer : Answer) (client : Client) → 0 < client.stock.shape.regions * client.stock.shape.blocks → kept_of client.stage ≡ kept_of origin.stage → Results origin answer client.outcome
    → IsCaused origin answer (chooses client)
chooses-caused origin answer client some same results =
    let begun = choosing.begins client.stock client.mask client.class in
    let is : IsBegun begun.told = chooses-begun (record client.stock { mask = client.mask; class = client.class; scanned = false; position = 0 }) some in
    took-caused origin answer client begun.state begun.told (λ node tells. absurd (subst IsBegun tells is)) same (λ class awaited begin tells. absurd (subst IsBegun tells is)) results

-- a pool has a block
abbrev HasBlock : Client → Type 0
HasBlock client = 0 < client.stock.shape.regions * client.stock.shape.blocks

first-caused : (origin : Client) (answer : Answer) (operation : Operation) (client : Client) → HasBlock client → kept_of client.stage ≡ kept_of origin.stage → Results origin answer client.outcome → IsCaused origin answer (first_turn operation client)
first-caused origin answer Put client some same results = chooses-caused origin answer (record client { class = class_in (length client.key) (length client.value) }) some same results
first-caused origin answer Get client some same results = goes-caused origin answer client (Seek (search_of client)) tt results
first-caused origin answer Delete client some same results = goes-caused origin answer client (Seek (search_of client)) tt results

absent-results : (origin : Client) (answer : Answer) (operation : Operation) → Results origin answer (absent operation)
absent-results origin answer Get = tt
absent-results origin answer Put = tt
absent-results origin answer Delete = tt

kind-caused : (origin : Client) (answer : Answer) (kind : Kind) (operation : Operation) (client : Client) (word value_len : ℕ) → HasBlock client → kept_of client.stage ≡ kept_of origin.stage → Results origin answer client.outcome
    → IsCaused origin answer (on_kind kind (record client { operation = operation }) word value_len)
kind-caused origin answer Tombstone operation client word value_len some same results = ends-caused origin answer (record client { operation = operation }) (absent operation) (absent-results origin answer operation)
kind-caused origin answer Value Put client word value_len some same results = chooses-caused origin answer (record client { operation = Put; class = class_in (length client.key) (length client.value) }) some same results
kind-caused origin answer Value Delete client word value_len some same results = chooses-caused origin answer (record client { operation = Delete; class = class_in (length client.key) (length client.value) }) some same results
kind-caused origin answer Value Get client word value_len some same results = by (value_len == 0) refl
  where
    getting : Client
    getting = record client { operation = Get }

    by : (t : Bool) → (value_len == 0) ≡ t → IsCaused origin answer (fetches getting word value_len)
    by true none = rw none (record { enters = tt; tells = tt; results = tt })
    by false rest = rw rest (record { enters = tt; tells = tt; results = results })

seek-caused : (origin : Client) (answer : Answer) (key_search : KeySearch) (found : Found) → ((node : ℕ) → found ≡ found_as.Refused node → IsRefused origin answer node) → HasBlock origin → Results origin answer origin.outcome
    → IsCaused origin answer (on_seek origin key_search found)
seek-caused origin answer key_search found_as.Going refuses some results = goes-caused origin answer origin (Seek key_search) tt results
seek-caused origin answer key_search (found_as.Empty slot) refuses some results = ends-caused origin answer origin (absent origin.operation) (absent-results origin answer origin.operation)
seek-caused origin answer key_search (found_as.At slot word kind value_len) refuses some results = kind-caused origin answer kind origin.operation (remembers origin key_search.place) word value_len some refl results
seek-caused origin answer key_search found_as.Nowhere refuses some results = ends-caused origin answer origin (absent origin.operation) (absent-results origin answer origin.operation)
seek-caused origin answer key_search (found_as.Refused node) refuses some results = refused-caused origin answer origin node (refuses node refl) refl results

fetch-caused : (origin : Client) (answer : Answer) (value_read : ValueRead) (told : Fetched) → ((node : ℕ) → told ≡ fetched_as.Refused node → IsRefused origin answer node) → Results origin answer origin.outcome
    → IsCaused origin answer (on_fetch origin value_read told)
fetch-caused origin answer value_read fetched_as.Going refuses results = goes-caused origin answer origin (Fetch value_read) tt results
fetch-caused origin answer value_read fetched_as.Whole refuses results = record { enters = tt; tells = tt; results = tt }
fetch-caused origin answer value_read (fetched_as.Refused node) refuses results = refused-caused origin answer origin node (refuses node refl) refl results

clear-caused : (origin : Client) (answer : Answer) (change : BitChange) (told : Changed) → ((node : ℕ) → told ≡ changed.Refused node → IsRefused origin answer node) → Results origin answer origin.outcome
    → IsCaused origin answer (on_clear origin change told)
clear-caused origin answer change changed.Going refuses results = goes-caused origin answer origin (Clear change) tt results
clear-caused origin answer change changed.Whole refuses results = record { enters = tt; tells = tt; results = results }
clear-caused origin answer change (changed.Refused node) refuses results = refused-caused origin answer origin node (refuses node refl) refl results

body-caused : (origin : Client) (answer : Answer) (write : WordsWrite) (told : Written) → ((node : ℕ) → told ≡ written.Refused node → IsRefused origin answer node) → Results origin answer origin.outcome
    → IsCaused origin answer (on_body origin write told)
body-caused origin answer write written.Going refuses results = goes-caused origin answer origin (Body write) tt results
body-caused origin answer write written.Whole refuses results = goes-caused origin answer origin (Find (search_of origin)) tt results
body-caused origin answer write (written.Refused node) refuses results = refused-caused origin answer origin node (refuses node refl) refl results

free-caused : (origin : Client) (answer : Answer) (change : BitChange) (told : Changed) → ((node : ℕ) → told ≡ changed.Refused node → IsRefused origin answer node) → Results origin answer origin.outcome
    → IsCaused origin answer (on_free origin change told)
free-caused origin answer change changed.Going refuses results = goes-caused origin answer origin (Free change) tt results
free-caused origin answer change changed.Whole refuses results = goes-caused origin answer origin End tt results
free-caused origin answer change (changed.Refused node) refuses results = refused-caused origin answer origin node (refuses node refl) refl results

return-caused : (origin : Client) (answer : Answer) (change : BitChange) (told : Changed) → ((node : ℕ) → told ≡ changed.Refused node → IsRefused origin answer node) → Results origin answer origin.outcome
    → IsCaused origin answer (on_return origin change told)
return-caused origin answer change changed.Going refuses results = goes-caused origin answer origin (Return change) tt results
return-caused origin answer change changed.Whole refuses results = goes-caused origin answer origin End tt results
return-caused origin answer change (changed.Refused node) refuses results = refused-caused origin answer origin node (refuses node refl) refl results

-- The search for the slot.

find-caused : (origin : Client) (answer : Answer) (key_search : KeySearch) (found : Found) → ((node : ℕ) → found ≡ found_as.Refused node → IsRefused origin answer node)
    → (found ≡ found_as.Nowhere → Results origin answer outcome.Full) → Results origin answer origin.outcome → IsCaused origin answer (on_find origin key_search found)
find-caused origin answer key_search found_as.Going refuses full results = goes-caused origin answer origin (Find key_search) tt results
find-caused origin answer key_search (found_as.Empty slot) refuses full results = record { enters = tt; tells = tt; results = results }
find-caused origin answer key_search (found_as.At slot word kind value_len) refuses full results = record { enters = tt; tells = tt; results = results }
find-caused origin answer key_search found_as.Nowhere refuses full results = gives_back-caused origin answer origin outcome.Full (full refl)
find-caused origin answer key_search (found_as.Refused node) refuses full results = refused-caused origin answer origin node (refuses node refl) refl results

-- a search that passes its slot over and tells that the key is nowhere was at its last slot
passed-last : (key_search : KeySearch) → key_search.place < length key_search.order → (search.passed key_search).told ≡ found_as.Nowhere → key_search.place + 1 ≡ length key_search.order
passed-last key_search below = by (nat_lt (key_search.place + 1) (length key_search.order)) refl
  where
    by : (t : Bool) → nat_lt (key_search.place + 1) (length key_search.order) ≡ t → (search.passed key_search).told ≡ found_as.Nowhere → key_search.place + 1 ≡ length key_search.order
    by true more = rw more (λ tells. absurd cc)
    by false last = rw last (λ tells. let past : length key_search.order ≤ key_search.place + 1 = grind (arith, nat_tests) in omega (arith, below, past))

finds_on-caused : (origin : Client) (answer : Answer) → HasOtherKey origin answer → origin.place < length (order_of origin.key origin.shape.groups) → Results origin answer origin.outcome → IsCaused origin answer (finds_on origin)
finds_on-caused origin answer other below results =
    let start = key_search_of (view_of origin) origin.key origin.place in
    find-caused origin answer (search.passed start).state (search.passed start).told (λ node tells. absurd (passed-refused start node tells))
    (λ tells. inr (origin.place, inr (other, refl), passed-last start below tells)) results

order-is : (key_search : KeySearch) (client : Client) → IsKeySearch (view_of client) client.key key_search → key_search.order ≡ order_of client.key client.shape.groups
order-is key_search client is = is.order ∙ (λ i. order_of (is.same i) (is.held i).shape.groups)

pub own-word : (client : Client) (answer : Answer) → reads_own client answer ≡ true → answer ≡ Word (fresh_of client)
own-word client (Word word) own = let same : word ≡ fresh_of client = grind (arith, nat_tests) in ap Word same
own-word client Done own = absurd (false≢true own)
own-word client Lost own = absurd (false≢true own)

pub slot-phase : (phase : search.Phase) → is_at_slot phase ≡ true → phase ≡ search.AtSlot
slot-phase search.AtSlot at = refl
slot-phase (search.AtKey word key_test) at = absurd (false≢true at)

finds_at-caused : (client : Client) (key_search : KeySearch) (answer : Answer) → IsAt (Find key_search) client
    → let origin = record client { stage = Find key_search } in Results origin answer origin.outcome → IsCaused origin answer (finds_at key_search.phase origin key_search answer)
finds_at-caused client key_search answer at results = by (reads_own origin answer) refl (is_at_slot key_search.phase) refl
  where
    origin : Client
    origin = record client { stage = Find key_search }

    below : key_search.place < length key_search.order
    below = at.1.place

    full : FindPasses origin key_search answer → key_search.place + 1 ≡ length key_search.order → Results origin answer outcome.Full
    full passes last = inr (key_search.place, inl (key_search, refl, refl, passes), last ∙ ap length (order-is key_search client at.1))

    turning : IsCaused origin answer (on_searching origin (search.turn key_search answer))
    turning =
        find-caused origin answer (search.turn key_search answer).state (search.turn key_search answer).told (λ node tells. let is = search-refused key_search answer node tells in (tt, is.0, is.1))
        (λ tells. let moved = (turn-moves key_search answer).nowhere tells in full (inl moved.1) (omega (arith, moved.0, below))) results

    passing : reads_own origin answer ≡ true → is_at_slot key_search.phase ≡ true → IsCaused origin answer (on_searching origin (search.passed key_search))
    passing own here =
        find-caused origin answer (search.passed key_search).state (search.passed key_search).told (λ node tells. absurd (passed-refused key_search node tells))
        (λ tells. full (inr (slot-phase key_search.phase here, own-word origin answer own)) (passed-last key_search below tells)) results

    by : (t : Bool) → reads_own origin answer ≡ t → (u : Bool) → is_at_slot key_search.phase ≡ u → IsCaused origin answer (finds_at key_search.phase origin key_search answer)
    by true own true here = subst (IsCaused origin answer) (sym (finds-own origin key_search answer own here)) (passing own here)
    by true own false off = subst (IsCaused origin answer) (sym (finds-other origin key_search answer (inr off))) turning
    by false other u here = subst (IsCaused origin answer) (sym (finds-other origin key_search answer (inl other))) turning

version-caused : (origin : Client) (word : ℕ) (answer : Answer) → origin.stage ≡ ReadVersion word → Results origin answer origin.outcome → IsCaused origin answer (on_version origin word answer)
version-caused origin word (Word found) at results = record { enters = tt; tells = tt; results = results }
version-caused origin word Done at results = goes-caused origin Done origin (ReadVersion word) tt results
version-caused origin word Lost at results =
    let under : IsUnderView origin.stage = subst IsUnderView (sym at) tt in
    refused-caused origin Lost origin _ (under, refl, λ i. (place_of (verb_at (sym at i) origin)).node) refl results

-- The slot.

log-caused : (origin : Client) (answer : Answer) (write : WordsWrite) (told : Written) → ((node : ℕ) → told ≡ written.Refused node → IsRefused origin answer node) → Results origin answer origin.outcome
    → IsCaused origin answer (on_log origin write told)
log-caused origin answer write written.Going refuses results = goes-caused origin answer origin (Log write) tt results
log-caused origin answer write written.Whole refuses results = record { enters = tt; tells = tt; results = results }
log-caused origin answer write (written.Refused node) refuses results = refused-caused origin answer origin node (refuses node refl) refl results

won-caused : (origin : Client) (answer : Answer) → IsCaused origin answer (won origin)
won-caused origin answer = by (object_in origin.shape origin.expect) refl
  where
    by : (object : Option Object) → object_in origin.shape origin.expect ≡ object → IsCaused origin answer (won origin)
    by None none = rw none (record { enters = tt; tells = tt; results = tt })
    by (Some object) some = rw some (record { enters = tt; tells = tt; results = tt })

beaten-caused : (origin : Client) (answer : Answer) → IsCaused origin answer (is_beaten origin)
beaten-caused origin answer = record { enters = tt; tells = tt; results = tt }

changed-caused : (origin : Client) (answer : Answer) (word : ℕ) → (origin.expect ≡ 0 → candidate_in origin.shape origin.key word ≡ None → HasOtherKey origin answer) → origin.place < length (order_of origin.key origin.shape.groups)
    → Results origin answer origin.outcome → IsCaused origin answer (on_changed origin word)
changed-caused origin answer word other below results = by (eqb_tells origin.expect 0) (candidate_in origin.shape origin.key word) refl
  where
    by : (((origin.expect == 0) ≡ true) × (origin.expect ≡ 0)) ⊎ (((origin.expect == 0) ≡ false) × (origin.expect ≢ 0)) → (object : Option Object) → candidate_in origin.shape origin.key word ≡ object
        → IsCaused origin answer (on_changed origin word)
    by (inr (full, some)) object candidate = rw full (beaten-caused origin answer)
    by (inl (empty, nothing)) None none = rw (empty, none) (finds_on-caused origin answer (other nothing none) below results)
    by (inl (empty, nothing)) (Some object) some = rw (empty, some) (record { enters = tt; tells = tt; results = results })

wrote-caused : (origin : Client) (answer : Answer) (write : SlotWrite) (told : Wrote) → ((node : ℕ) → told ≡ wrote.Refused node → IsRefused origin answer node)
    → ((word : ℕ) → told ≡ wrote.Unchanged word → StaysUnchanged origin answer (slot_of origin) word)
    → ((word : ℕ) → told ≡ wrote.Changed word → origin.expect ≡ 0 → candidate_in origin.shape origin.key word ≡ None → HasOtherKey origin answer)
    → origin.place < length (order_of origin.key origin.shape.groups) → Results origin answer origin.outcome → IsCaused origin answer (on_wrote origin write told)
wrote-caused origin answer write wrote.Going refuses unchanged other below results = goes-caused origin answer origin (WriteSlot write) tt results
wrote-caused origin answer write wrote.Won refuses unchanged other below results = won-caused origin answer
wrote-caused origin answer write (wrote.Changed word) refuses unchanged other below results = changed-caused origin answer word (other word refl) below results
wrote-caused origin answer write (wrote.Unchanged word) refuses unchanged other below results = record { enters = tt; tells = unchanged word refl; results = results }
wrote-caused origin answer write (wrote.Refused node) refuses unchanged other below results = refused-caused origin answer origin node (refuses node refl) refl results

test-caused : (origin : Client) (answer : Answer) (key_test : KeyTest) (told : Tested) → ((node : ℕ) → told ≡ tested.Refused node → IsRefused origin answer node) → (told ≡ tested.Other → HasOtherKey origin answer)
    → origin.place < length (order_of origin.key origin.shape.groups) → Results origin answer origin.outcome → IsCaused origin answer (on_test origin key_test told)
test-caused origin answer key_test tested.Going refuses other below results = goes-caused origin answer origin (TestKey key_test) tt results
test-caused origin answer key_test (tested.Same kind value_len) refuses other below results = beaten-caused origin answer
test-caused origin answer key_test tested.Other refuses other below results = finds_on-caused origin answer (other refl) below results
test-caused origin answer key_test (tested.Refused node) refuses other below results = refused-caused origin answer origin node (refuses node refl) refl results

resolved-caused : (origin : Client) (answer : Answer) (resolving : Resolution) (told : Resolved) → ((node : ℕ) → told ≡ resolved.Refused node → IsRefused origin answer node) → (told ≡ resolved.OtherKey → HasOtherKey origin answer)
    → origin.place < length (order_of origin.key origin.shape.groups) → Results origin answer origin.outcome → IsCaused origin answer (on_resolved origin resolving told)
resolved-caused origin answer resolving resolved.Going refuses other below results = goes-caused origin answer origin (Resolve resolving) tt results
resolved-caused origin answer resolving resolved.Still refuses other below results = record { enters = tt; tells = tt; results = results }
resolved-caused origin answer resolving resolved.Won refuses other below results = won-caused origin answer
resolved-caused origin answer resolving resolved.Beaten refuses other below results = beaten-caused origin answer
resolved-caused origin answer resolving resolved.OtherKey refuses other below results = finds_on-caused origin answer (other refl) below results
resolved-caused origin answer resolving (resolved.Refused node) refuses other below results = refused-caused origin answer origin node (refuses node refl) refl results

-- The epoch word.

resumed-caused : (origin : Client) (answer : Answer) (kept : Kept) (client : Client) → HasBlock client → kept_of client.stage ≡ kept_of origin.stage → Results origin answer client.outcome → IsCaused origin answer (resumes kept client)
resumed-caused origin answer FromStart client some same results = first-caused origin answer client.operation client some same results
resumed-caused origin answer FromSeek client some same results = goes-caused origin answer client (Seek (search_of client)) tt results
resumed-caused origin answer FromChoose client some same results = chooses-caused origin answer client some same results
resumed-caused origin answer FromClear client some same results = record { enters = tt; tells = tt; results = results }
resumed-caused origin answer FromBody client some same results = record { enters = tt; tells = tt; results = results }
resumed-caused origin answer FromFind client some same results = goes-caused origin answer client (Find (search_of client)) tt results
resumed-caused origin answer FromResolve client some same results = record { enters = tt; tells = tt; results = results }
resumed-caused origin answer FromFree client some same results = by (object_in client.shape client.expect) refl
  where
    by : (object : Option Object) → object_in client.shape client.expect ≡ object → IsCaused origin answer (frees_again client)
    by None none = rw none (record { enters = tt; tells = tt; results = results })
    by (Some object) named = rw named (record { enters = tt; tells = tt; results = results })
resumed-caused origin answer FromReturn client some same results = record { enters = tt; tells = tt; results = results }

epoch-caused : (origin : Client) (found : ℕ) → origin.stage ≡ ReadEpoch → HasBlock origin → Results origin (Word found) origin.outcome → IsCaused origin (Word found) (on_epoch origin found)
epoch-caused origin found at some results = by (open_mask origin.shape found) refl
  where
    by : (mask : Option ℕ) → open_mask origin.shape found ≡ mask → IsCaused origin (Word found) (on_epoch origin found)
    by None none = rw none (goes-caused origin (Word found) origin (Pause found FromStart) (inr (subst ReadsEpoch (sym at) tt, refl, none)) results)
    by (Some mask) opened = rw opened (resumed-caused origin (Word found) FromStart (record origin { mask = mask }) some refl results)

paused-caused : (origin : Client) (word : ℕ) (kept : Kept) (found : ℕ) → origin.stage ≡ Paused word kept → HasBlock origin → Results origin (Word found) origin.outcome → IsCaused origin (Word found) (on_paused origin word kept found)
paused-caused origin word kept found at some results = by (open_mask origin.shape found) refl (eqb_tells found word)
  where
    by : (mask : Option ℕ) → open_mask origin.shape found ≡ mask → (((found == word) ≡ true) × (found ≡ word)) ⊎ (((found == word) ≡ false) × (found ≢ word)) → IsCaused origin (Word found) (on_paused origin word kept found)
    by (Some mask) opened same = rw opened (resumed-caused origin (Word found) kept (record origin { mask = mask }) some refl results)
    by None none (inl (same, is)) = rw (none, same) (record { enters = inl at; tells = ((kept, subst (λ w. origin.stage ≡ Paused w kept) (sym is) at), refl, none); results = results })
    by None none (inr (other, differs)) = rw (none, other) (goes-caused origin (Word found) origin (Pause found kept) (inr (subst ReadsEpoch (sym at) tt, refl, none)) results)

lost-caused : (origin : Client) (node : ℕ) (kept : Kept) (found : ℕ) → origin.stage ≡ LostNode node kept → Results origin (Word found) origin.outcome → IsCaused origin (Word found) (on_lost origin node kept found)
lost-caused origin node kept found at results = by (open_mask origin.shape found) refl
  where
    by : (mask : Option ℕ) → open_mask origin.shape found ≡ mask → IsCaused origin (Word found) (on_lost origin node kept found)
    by (Some mask) opened = rw opened (record { enters = inl at; tells = inr ((kept, at), (found, mask, refl, opened)); results = results })
    by None none = rw none (goes-caused origin (Word found) origin (Pause found kept) (inr (subst ReadsEpoch (sym at) tt, refl, none)) results)

round-caused : (origin : Client) (write : SlotWrite) (found : ℕ) → origin.stage ≡ AwaitRound write → Results origin (Word found) origin.outcome → IsCaused origin (Word found) (on_round origin write found)
round-caused origin write found at results = by (open_mask origin.shape found) refl
  where
    by : (mask : Option ℕ) → open_mask origin.shape found ≡ mask → IsCaused origin (Word found) (on_round origin write found)
    by (Some mask) opened = rw opened (goes-caused origin (Word found) origin (WriteSlot write) tt results)
    by None none = rw none (goes-caused origin (Word found) origin (Pause found FromResolve) (inr (subst ReadsEpoch (sym at) tt, refl, none)) results)

-- The whole: the turn of a call at a stage.

-- the primary was read as the expected word, after a list that names another writer
unchanged-is : (write : SlotWrite) (answer : Answer) (word : ℕ) → (slots.turn write answer).told ≡ wrote.Unchanged word → (write.phase ≡ slots.Wait) × (answer ≡ Word word) × (word ≡ write.expect)
unchanged-is write (Word found) word tells = at write.phase refl tells
  where
    at : (phase : slots.Phase) → write.phase ≡ phase → (slots.turn_at phase write found).told ≡ wrote.Unchanged word → (write.phase ≡ slots.Wait) × (Word found ≡ Word word) × (word ≡ write.expect)
    at slots.Gather here tells = absurd cc
    at (slots.Mend backup) here tells = absurd cc
    at slots.Final here tells = absurd cc
    at slots.Check here tells = by (found == write.expect) refl tells
      where
        by : (t : Bool) → (found == write.expect) ≡ t → (slots.turn_at slots.Check write found).told ≡ wrote.Unchanged word → (write.phase ≡ slots.Wait) × (Word found ≡ Word word) × (word ≡ write.expect)
        by true same = rw same (λ tells. absurd cc)
        by false other = rw other (λ tells. absurd cc)
    at slots.Wait here tells = by (eqb_tells found write.expect) tells
      where
        by : (((found == write.expect) ≡ true) × (found ≡ write.expect)) ⊎ (((found == write.expect) ≡ false) × (found ≢ write.expect)) → (slots.turn_at slots.Wait write found).told ≡ wrote.Unchanged word
            → (write.phase ≡ slots.Wait) × (Word found ≡ Word word) × (word ≡ write.expect)
        by (inl (same, is)) = rw same (λ tells. let read : found ≡ word = cc in (here, ap Word read, sym read ∙ is))
        by (inr (other, differs)) = rw other (λ tells. absurd cc)
unchanged-is write Done word tells = absurd cc
unchanged-is write Lost word tells = absurd cc

stays-unchanged : (client : Client) (write : SlotWrite) (answer : Answer) (word : ℕ) → IsSlotWrite (view_of client) write → (slots.turn write answer).told ≡ wrote.Unchanged word
    → let origin = record client { stage = WriteSlot write } in StaysUnchanged origin answer (slot_of origin) word
stays-unchanged client write answer word is tells =
    let read = unchanged-is write answer word tells in
    let lost : judged write.list write.fresh ≡ Lose = subst (λ p. slots.IsAt p write.fresh write.list (backup_count write.view write.slot)) read.0 is.phase in
    (write, refl, read.0, lost, read.1, read.2, refl)

same-results : (origin : Client) (answer : Answer) (result : Outcome) → origin.outcome ≡ result → Results origin answer result
same-results origin answer outcome.Done is = tt
same-results origin answer outcome.Value is = tt
same-results origin answer outcome.Absent is = tt
same-results origin answer outcome.Full is = inl is
same-results origin answer (outcome.NoSpace class awaited begin) is = inl is

caused-at : (stage : Stage) (client : Client) (answer : Answer) → IsAt stage client → HasBlock client
    → let origin = record client { stage = stage } in Results origin answer origin.outcome → IsCaused origin answer (turn_at stage origin answer)
caused-at Idle client answer at some results = record { enters = tt; tells = tt; results = results }
caused-at Start client (Word found) at some results = record { enters = tt; tells = tt; results = results }
caused-at Start client Done at some results = record { enters = tt; tells = tt; results = results }
caused-at Start client Lost at some results = record { enters = tt; tells = tt; results = results }
caused-at ReadEpoch client (Word found) at some results = epoch-caused (record client { stage = ReadEpoch }) found refl some results
caused-at ReadEpoch client Done at some results = record { enters = tt; tells = tt; results = results }
caused-at ReadEpoch client Lost at some results = record { enters = tt; tells = tt; results = results }
caused-at (Pause word kept) client Done at some results = record { enters = inr (refl, refl); tells = tt; results = results }
caused-at (Pause word kept) client (Word found) at some results = record { enters = inl refl; tells = tt; results = results }
caused-at (Pause word kept) client Lost at some results = record { enters = inl refl; tells = tt; results = results }
caused-at (Paused word kept) client (Word found) at some results = paused-caused (record client { stage = Paused word kept }) word kept found refl some results
caused-at (Paused word kept) client Done at some results = record { enters = inl refl; tells = tt; results = results }
caused-at (Paused word kept) client Lost at some results = record { enters = inl refl; tells = tt; results = results }
caused-at (LostNode node kept) client (Word found) at some results = lost-caused (record client { stage = LostNode node kept }) node kept found refl results
caused-at (LostNode node kept) client Done at some results = record { enters = inl refl; tells = tt; results = results }
caused-at (LostNode node kept) client Lost at some results = record { enters = inl refl; tells = tt; results = results }
caused-at (Seek key_search) client answer at some results =
    let turned = search.turn key_search answer in
    seek-caused (record client { stage = Seek key_search }) answer turned.state turned.told (λ node tells. let is = search-refused key_search answer node tells in (tt, is.0, is.1)) some results
caused-at (Fetch value_read) client answer at some results =
    let turned = values.turn value_read answer in
    fetch-caused (record client { stage = Fetch value_read }) answer turned.state turned.told (λ node tells. let is = values-refused value_read answer node tells in (tt, is.0, is.1)) results
caused-at Choose client answer at some results =
    let turned = choosing.turn client.stock answer in
    took-caused (record client { stage = Choose }) answer (record client { stage = Choose }) turned.state turned.told (λ node tells. let is = (turn-refused client.stock answer node).0 tells in (tt, is.0, is.1)) refl
    (λ class awaited begin tells. inr (refl, tells)) results
caused-at (Clear change) client answer at some results =
    let turned = bits.turn change answer in
    clear-caused (record client { stage = Clear change }) answer turned.state turned.told (λ node tells. let is = bits-refused change answer node tells in (tt, is.0, is.1)) results
caused-at (Body write) client answer at some results =
    let turned = words.turn write answer in
    body-caused (record client { stage = Body write }) answer turned.state turned.told (λ node tells. let is = words-refused write answer node tells in (tt, is.0, is.1)) results
caused-at (Find key_search) client answer at some results = finds_at-caused client key_search answer at results
caused-at (ReadVersion word) client answer at some results = version-caused (record client { stage = ReadVersion word }) word answer refl results
caused-at (Log write) client answer at some results =
    let turned = words.turn write answer in
    log-caused (record client { stage = Log write }) answer turned.state turned.told (λ node tells. let is = words-refused write answer node tells in (tt, is.0, is.1)) results
caused-at (WriteSlot write) client answer at some results =
    let turned = slots.turn write answer in
    wrote-caused (record client { stage = WriteSlot write }) answer turned.state turned.told (λ node tells. let is = slots-refused write answer node tells in (tt, is.0, is.1))
    (λ word tells. stays-unchanged client write answer word at.1 tells)
    (λ word tells nothing none. inl (write, word, refl, tells, nothing, none)) at.0.below results
caused-at (AwaitRound write) client (Word found) at some results = round-caused (record client { stage = AwaitRound write }) write found refl results
caused-at (AwaitRound write) client Done at some results = record { enters = tt; tells = tt; results = results }
caused-at (AwaitRound write) client Lost at some results = record { enters = tt; tells = tt; results = results }
caused-at (TestKey key_test) client answer at some results =
    let turned = test.turn key_test answer in
    test-caused (record client { stage = TestKey key_test }) answer turned.state turned.told (λ node tells. let is = test-refused key_test answer node tells in (tt, is.0, is.1)) (λ tells. inr (inl (key_test, refl, tells))) at.0.below results
caused-at (Resolve resolving) client answer at some results =
    let turned = resolution.turn resolving answer in
    resolved-caused (record client { stage = Resolve resolving }) answer turned.state turned.told (λ node tells. let is = resolution-refused resolving answer node tells in (tt, is.0, is.1)) (λ tells. inr (inr (resolving, refl, tells))) at.0.below results
caused-at (Free change) client answer at some results =
    let turned = bits.turn change answer in
    free-caused (record client { stage = Free change }) answer turned.state turned.told (λ node tells. let is = bits-refused change answer node tells in (tt, is.0, is.1)) results
caused-at (Return change) client answer at some results =
    let turned = bits.turn change answer in
    return-caused (record client { stage = Return change }) answer turned.state turned.told (λ node tells. let is = bits-refused change answer node tells in (tt, is.0, is.1)) results
caused-at End client Done at some results = record { enters = tt; tells = (refl, refl, refl); results = results }
caused-at End client (Word found) at some results = record { enters = tt; tells = tt; results = results }
caused-at End client Lost at some results = record { enters = tt; tells = tt; results = results }

some-product : (a b : ℕ) → 1 ≤ a → 1 ≤ b → 0 < a * b
some-product zero b some_a some_b = absurd (omega arith)
some-product (suc a) zero some_a some_b = absurd (omega arith)
some-product (suc a) (suc b) some_a some_b = omega arith

has-block : (client : Client) (s : Sizes) (n : ℕ) → IsClient s n client → HasBlock client
has-block client s n is =
    let limits = is.member.limits in
    let some : 0 < client.shape.regions * client.shape.blocks = some-product client.shape.regions client.shape.blocks limits.regions.0 limits.blocks.0 in
    subst (λ (sizes : Sizes). 0 < sizes.regions * sizes.blocks) (sym is.member.is_stock.shape) some

-- each turn of a client that stands well has its causes
pub caused : (s : Sizes) (n : ℕ) (client : Client) (answer : Answer) → IsClient s n client → IsCaused client answer (turn client answer)
caused s n client answer is = caused-at client.stage client answer is.stage (has-block client s n is) (same-results client answer client.outcome refl)

-- the choosing takes each answer that a call gets at its stage
took-stock : (client : Client) (stock : Stock) (told : Took) → (on_took client stock told).state.stock ≡ stock
took-stock client stock took.Going = refl
took-stock client stock (took.Have object next) = refl
took-stock client stock (took.NoSpace class awaited begin) = refl
took-stock client stock (took.Refused node) = refl

pub choosing-goes : (client : Client) (answer : Answer) → client.stage ≡ Choose → (turn client answer).state.stock ≡ (choosing.turn client.stock answer).state
choosing-goes client answer at =
    let turned = choosing.turn client.stock answer in
    ap (λ stage. (turn_at stage client answer).state.stock) at ∙ took-stock client turned.state turned.told
