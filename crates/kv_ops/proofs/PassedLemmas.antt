-- A call that returns that its key's slots are full has passed over each of them, from its search's first on.
use Rattle.std.proofs.Common.{◌≡◌, ◌≢◌, ℕ, ◌+◌, ◌<◌, ◌≤◌, ◌==◌, ◌⊎◌, inl, inr, Bool, true, false, List, [], ◌∷◌, ◌++◌, length, Option, Some, None, refl, sym, ap, subst, ◌∙◌, arith}
use Rattle.std.proofs.lemmas.Bool.{cases_lt}
use Rattle.std.proofs.lemmas.Bool.Decides.{eqb_tells}
use Rattle.kv_find.proofs.PassedLemmas.{passed-moves, turn-moves}
use Rattle.kv_find.specs.Passed.{PassesOver}
use Rattle.machine.specs.KeySearch.{is_at_slot}
use Rattle.kv_ops.proofs.CausedLemmas.{caused, own-word, slot-phase}
use Rattle.kv_ops.proofs.RefusalLemmas.{passed-refused}
use Rattle.kv_ops.proofs.StageLemmas.{finds-other, finds-own}
use Rattle.kv_ops.specs.Causes.{FindPasses, HasOtherKey, IsLastPlace, PassesPlace, Results}
use Rattle.kv_ops.specs.Passed.{GoesOnBehind, IsSearching, SearchesOn, WasPassed, after_all, place_in, place_of_call}
use Rattle.kv_ops.specs.Standings.{reads_own}
use Rattle.machine.specs.declared.client_call.Outcome.TheVariants as outcome
use Rattle.machine.specs.declared.client_call.Step.{Step}
use Rattle.machine.specs.declared.key_search.Found.{Found}
use Rattle.machine.specs.declared.key_search.Found.TheVariants as found_as
use Rattle.machine.specs.declared.key_test.Tested.{Tested}
use Rattle.machine.specs.declared.key_test.Tested.TheVariants as tested
use Rattle.machine.specs.declared.object_write.Written.{Written}
use Rattle.machine.specs.declared.object_write.Written.TheVariants as written
use Rattle.machine.specs.declared.resolution.Resolved.{Resolved}
use Rattle.machine.specs.declared.resolution.Resolved.TheVariants as resolved
use Rattle.machine.specs.declared.slot_write.Wrote.{Wrote}
use Rattle.machine.specs.declared.slot_write.Wrote.TheVariants as wrote
use Rattle.machine.specs.Client.{after, finds_at, finds_on, on_changed, on_find, on_log, on_lost, on_paused, on_resolved, on_round, on_searching, on_test, on_version, on_wrote, refused, turn_at, view_of, won}
use Rattle.machine.specs.EpochRead.{open_mask}
use Rattle.machine.specs.KeySearch as search
use Rattle.machine.specs.KeySearch.{KeySearch, key_search_of}
use Rattle.machine.specs.KeyTest as test
use Rattle.machine.specs.KeyTest.{KeyTest}
use Rattle.machine.specs.ObjectNames.{Object, candidate_in, object_in}
use Rattle.machine.specs.Resolution as resolution
use Rattle.machine.specs.Resolution.{Resolution}
use Rattle.machine.specs.SlotWrite as slots
use Rattle.machine.specs.SlotWrite.{SlotWrite}
use Rattle.machine.specs.Stage.{Client, Kept, FromStart, FromSeek, FromChoose, FromClear, FromBody, FromFind, FromResolve, FromFree, FromReturn, Stage, Idle, Start, ReadEpoch, Pause, Paused, LostNode, Seek, Fetch, Choose, Clear, Body, Find, ReadVersion, Log, WriteSlot, AwaitRound, TestKey, Resolve, Free, Return, End}
use Rattle.machine.specs.Standing.{IsClient}
use Rattle.machine.specs.Turn.{Turn}
use Rattle.machine.specs.WordsWrite as words
use Rattle.machine.specs.WordsWrite.{WordsWrite}
use Rattle.machine.proofs.ClientTurnLemmas.{turn-is}
use Rattle.region_view.specs.Sizes.{Sizes}
use Rattle.slot_order.specs.Slots.{order_of}
use Rattle.verb_words.specs.declared.verbs.Answer.{Answer}
use Rattle.verb_words.specs.declared.verbs.Answer.TheVariants.{Word, Done, Lost}

-- ---- one answer

-- where the call searches on it is of the same key, and at the same place, or the slot at its place was passed over
record Moves (origin : Client) (answer : Answer) (next : Client) : Type 0 where
  key : next.key ≡ origin.key
  place : IsSearching next.stage
      → (place_of_call next ≡ place_of_call origin) ⊎ ((place_of_call next ≡ place_of_call origin + 1) × PassesPlace origin answer (place_of_call origin))

stays : (origin : Client) (answer : Answer) (next : Client) → next.key ≡ origin.key → place_of_call next ≡ place_of_call origin → Moves origin answer next
stays origin answer next key same = record { key = key; place = λ on. inl same }

-- it does not search on
over : (origin : Client) (answer : Answer) (next : Client) → next.key ≡ origin.key → (IsSearching next.stage → ⊥) → Moves origin answer next
over origin answer next key never = record { key = key; place = λ on. absurd (never on) }

-- the search of a call is at a place that is its own, or the next one
abbrev IsBehind : Client → Answer → KeySearch → Type 0
IsBehind origin answer key_search =
    (key_search.place ≡ place_of_call origin) ⊎ ((key_search.place ≡ place_of_call origin + 1) × PassesPlace origin answer (place_of_call origin))

find-moves : (origin : Client) (answer : Answer) (key_search : KeySearch) (found : Found) → IsBehind origin answer key_search → ((node : ℕ) → found ≡ found_as.Refused node → Moves origin answer (refused origin node).state)
    → Moves origin answer (on_find origin key_search found).state
find-moves origin answer key_search found_as.Going behind lost = record { key = refl; place = λ on. behind }
find-moves origin answer key_search (found_as.Empty slot) behind lost = record { key = refl; place = λ on. behind }
find-moves origin answer key_search (found_as.At slot word kind value_len) behind lost = record { key = refl; place = λ on. behind }
find-moves origin answer key_search found_as.Nowhere behind lost = over origin answer _ refl (λ on. on)
find-moves origin answer key_search (found_as.Refused node) behind lost = lost node refl

finds_on-moves : (origin : Client) (answer : Answer) → HasOtherKey origin answer → place_of_call origin ≡ origin.place → Moves origin answer (finds_on origin).state
finds_on-moves origin answer other at =
    let start = key_search_of (view_of origin) origin.key origin.place in
    find-moves origin answer (search.passed start).state (search.passed start).told (by (passed-moves (HasOtherKey origin answer) start other).place) (λ node tells. absurd (passed-refused start node tells))
  where
    by : {next : ℕ} → (next ≡ origin.place) ⊎ ((next ≡ origin.place + 1) × HasOtherKey origin answer) → (next ≡ place_of_call origin) ⊎ ((next ≡ place_of_call origin + 1) × PassesPlace origin answer (place_of_call origin))
    by (inl same) = inl (same ∙ sym at)
    by (inr (more, is)) = inr (more ∙ ap (λ n. n + 1) (sym at), inr (is, sym at))

finds_at-moves : (client : Client) (key_search : KeySearch) (answer : Answer)
    → let origin = record client { stage = Find key_search } in Moves origin answer (finds_at key_search.phase origin key_search answer).state
finds_at-moves client key_search answer = by (reads_own origin answer) refl (is_at_slot key_search.phase) refl
  where
    origin : Client
    origin = record client { stage = Find key_search }

    Goal : Turn Client Step → Type 0
    Goal turned = Moves origin answer turned.state

    lost : (node : ℕ) → Moves origin answer (refused origin node).state
    lost node = over origin answer _ refl (λ on. on)

    behind : {next : ℕ} → (next ≡ key_search.place) ⊎ ((next ≡ key_search.place + 1) × FindPasses origin key_search answer) → (next ≡ key_search.place) ⊎ ((next ≡ key_search.place + 1) × PassesPlace origin answer key_search.place)
    behind (inl same) = inl same
    behind (inr (more, passes)) = inr (more, inl (key_search, refl, refl, passes))

    found : {next : ℕ} → (next ≡ key_search.place) ⊎ ((next ≡ key_search.place + 1) × PassesOver key_search answer) → (next ≡ key_search.place) ⊎ ((next ≡ key_search.place + 1) × FindPasses origin key_search answer)
    found (inl same) = inl same
    found (inr (more, passes)) = inr (more, inl passes)

    turning : Goal (on_searching origin (search.turn key_search answer))
    turning = find-moves origin answer (search.turn key_search answer).state (search.turn key_search answer).told (behind (found (turn-moves key_search answer).place)) (λ node tells. lost node)

    passing : reads_own origin answer ≡ true → is_at_slot key_search.phase ≡ true → Goal (on_searching origin (search.passed key_search))
    passing own here =
        find-moves origin answer (search.passed key_search).state (search.passed key_search).told
        (behind (passed-moves (FindPasses origin key_search answer) key_search (inr (slot-phase key_search.phase here, own-word origin answer own))).place) (λ node tells. lost node)

    by : (t : Bool) → reads_own origin answer ≡ t → (u : Bool) → is_at_slot key_search.phase ≡ u → Goal (finds_at key_search.phase origin key_search answer)
    by true own true here = subst Goal (sym (finds-own origin key_search answer own here)) (passing own here)
    by true own false off = subst Goal (sym (finds-other origin key_search answer (inr off))) turning
    by false other u here = subst Goal (sym (finds-other origin key_search answer (inl other))) turning

version-moves : (client : Client) (word : ℕ) (answer : Answer) → let origin = record client { stage = ReadVersion word } in Moves origin answer (on_version origin word answer).state
version-moves client word (Word found) = stays _ _ _ refl refl
version-moves client word Done = stays _ _ _ refl refl
version-moves client word Lost = over _ _ _ refl (λ on. on)

log-moves : (client : Client) (log write : WordsWrite) (told : Written) (answer : Answer) → let origin = record client { stage = Log log } in Moves origin answer (on_log origin write told).state
log-moves client log write written.Going answer = stays _ _ _ refl refl
log-moves client log write written.Whole answer = stays _ _ _ refl refl
log-moves client log write (written.Refused node) answer = stays _ _ _ refl refl

won-over : (origin : Client) (answer : Answer) → Moves origin answer (won origin).state
won-over origin answer = by (object_in origin.shape origin.expect) refl
  where
    by : (object : Option Object) → object_in origin.shape origin.expect ≡ object → Moves origin answer (won origin).state
    by None none = rw none (over origin answer _ refl (λ on. on))
    by (Some object) some = rw some (over origin answer _ refl (λ on. on))

changed-moves : (origin : Client) (answer : Answer) (word : ℕ) → (origin.expect ≡ 0 → candidate_in origin.shape origin.key word ≡ None → HasOtherKey origin answer) → place_of_call origin ≡ origin.place → Moves origin answer (on_changed origin word).state
changed-moves origin answer word other at = by (eqb_tells origin.expect 0) (candidate_in origin.shape origin.key word) refl
  where
    by : (((origin.expect == 0) ≡ true) × (origin.expect ≡ 0)) ⊎ (((origin.expect == 0) ≡ false) × (origin.expect ≢ 0)) → (object : Option Object) → candidate_in origin.shape origin.key word ≡ object
        → Moves origin answer (on_changed origin word).state
    by (inr (full, some)) object candidate = rw full (over origin answer _ refl (λ on. on))
    by (inl (empty, nothing)) None none = rw (empty, none) (finds_on-moves origin answer (other nothing none) at)
    by (inl (empty, nothing)) (Some object) some = rw (empty, some) (stays origin answer _ refl (sym at))

wrote-moves : (client : Client) (write : SlotWrite) (answer : Answer) → let origin = record client { stage = WriteSlot write } in Moves origin answer (turn_at (WriteSlot write) origin answer).state
wrote-moves client write answer = by (slots.turn write answer).told refl
  where
    origin : Client
    origin = record client { stage = WriteSlot write }

    by : (told : Wrote) → (slots.turn write answer).told ≡ told → Moves origin answer (on_wrote origin (slots.turn write answer).state (slots.turn write answer).told).state
    by wrote.Going tells = rw tells (stays origin answer _ refl refl)
    by wrote.Won tells = rw tells (won-over origin answer)
    by (wrote.Changed word) tells = rw tells (changed-moves origin answer word (λ nothing none. inl (write, word, refl, tells, nothing, none)) refl)
    by (wrote.Unchanged word) tells = rw tells (stays origin answer _ refl refl)
    by (wrote.Refused node) tells = rw tells (stays origin answer _ refl refl)

test-moves : (client : Client) (key_test : KeyTest) (answer : Answer) → let origin = record client { stage = TestKey key_test } in Moves origin answer (turn_at (TestKey key_test) origin answer).state
test-moves client key_test answer = by (test.turn key_test answer).told refl
  where
    origin : Client
    origin = record client { stage = TestKey key_test }

    by : (told : Tested) → (test.turn key_test answer).told ≡ told → Moves origin answer (on_test origin (test.turn key_test answer).state (test.turn key_test answer).told).state
    by tested.Going tells = rw tells (stays origin answer _ refl refl)
    by (tested.Same kind value_len) tells = rw tells (over origin answer _ refl (λ on. on))
    by tested.Other tells = rw tells (finds_on-moves origin answer (inr (inl (key_test, refl, tells))) refl)
    by (tested.Refused node) tells = rw tells (stays origin answer _ refl refl)

resolved-moves : (client : Client) (resolving : Resolution) (answer : Answer) → let origin = record client { stage = Resolve resolving } in Moves origin answer (turn_at (Resolve resolving) origin answer).state
resolved-moves client resolving answer = by (resolution.turn resolving answer).told refl
  where
    origin : Client
    origin = record client { stage = Resolve resolving }

    by : (told : Resolved) → (resolution.turn resolving answer).told ≡ told → Moves origin answer (on_resolved origin (resolution.turn resolving answer).state (resolution.turn resolving answer).told).state
    by resolved.Going tells = rw tells (stays origin answer _ refl refl)
    by resolved.Still tells = rw tells (stays origin answer _ refl refl)
    by resolved.Won tells = rw tells (won-over origin answer)
    by resolved.Beaten tells = rw tells (over origin answer _ refl (λ on. on))
    by resolved.OtherKey tells = rw tells (finds_on-moves origin answer (inr (inr (resolving, refl, tells))) refl)
    by (resolved.Refused node) tells = rw tells (stays origin answer _ refl refl)

round-moves : (client : Client) (write : SlotWrite) (answer : Answer) → let origin = record client { stage = AwaitRound write } in Moves origin answer (turn_at (AwaitRound write) origin answer).state
round-moves client write Done = stays _ _ _ refl refl
round-moves client write Lost = stays _ _ _ refl refl
round-moves client write (Word found) = by (open_mask client.shape found) refl
  where
    origin : Client
    origin = record client { stage = AwaitRound write }

    by : (mask : Option ℕ) → open_mask client.shape found ≡ mask → Moves origin (Word found) (on_round origin write found).state
    by None none = rw none (stays origin (Word found) _ refl refl)
    by (Some mask) some = rw some (stays origin (Word found) _ refl refl)

pause-moves : (client : Client) (word : ℕ) (answer : Answer) → let origin = record client { stage = Pause word FromResolve } in Moves origin answer (turn_at (Pause word FromResolve) origin answer).state
pause-moves client word (Word found) = stays _ _ _ refl refl
pause-moves client word Done = stays _ _ _ refl refl
pause-moves client word Lost = stays _ _ _ refl refl

paused-moves : (client : Client) (word : ℕ) (answer : Answer) → let origin = record client { stage = Paused word FromResolve } in Moves origin answer (turn_at (Paused word FromResolve) origin answer).state
paused-moves client word Done = stays _ _ _ refl refl
paused-moves client word Lost = stays _ _ _ refl refl
paused-moves client word (Word found) = by (open_mask client.shape found) refl (found == word) refl
  where
    origin : Client
    origin = record client { stage = Paused word FromResolve }

    by : (mask : Option ℕ) → open_mask client.shape found ≡ mask → (t : Bool) → (found == word) ≡ t → Moves origin (Word found) (on_paused origin word FromResolve found).state
    by (Some mask) some t same = rw some (stays origin (Word found) _ refl refl)
    by None none true same = rw (none, same) (stays origin (Word found) _ refl refl)
    by None none false other = rw (none, other) (stays origin (Word found) _ refl refl)

lost-moves : (client : Client) (node : ℕ) (answer : Answer) → let origin = record client { stage = LostNode node FromResolve } in Moves origin answer (turn_at (LostNode node FromResolve) origin answer).state
lost-moves client node Done = stays _ _ _ refl refl
lost-moves client node Lost = stays _ _ _ refl refl
lost-moves client node (Word found) = by (open_mask client.shape found) refl
  where
    origin : Client
    origin = record client { stage = LostNode node FromResolve }

    by : (mask : Option ℕ) → open_mask client.shape found ≡ mask → Moves origin (Word found) (on_lost origin node FromResolve found).state
    by (Some mask) some = rw some (stays origin (Word found) _ refl refl)
    by None none = rw none (stays origin (Word found) _ refl refl)

-- the kept stages that go on behind their place are one
behind : (kept : Kept) → GoesOnBehind kept → kept ≡ FromResolve
behind FromResolve on = refl
behind FromStart on = absurd on
behind FromSeek on = absurd on
behind FromChoose on = absurd on
behind FromClear on = absurd on
behind FromBody on = absurd on
behind FromFind on = absurd on
behind FromFree on = absurd on
behind FromReturn on = absurd on

abbrev MovesAt : Client → Answer → Stage → Type 0
MovesAt client answer stage = let origin = record client { stage = stage } in Moves origin answer (turn_at stage origin answer).state

moves-at : (stage : Stage) (client : Client) (answer : Answer) → IsSearching stage → MovesAt client answer stage
moves-at (Find key_search) client answer on = finds_at-moves client key_search answer
moves-at (ReadVersion word) client answer on = version-moves client word answer
moves-at (Log write) client answer on = log-moves client write (words.turn write answer).state (words.turn write answer).told answer
moves-at (WriteSlot write) client answer on = wrote-moves client write answer
moves-at (AwaitRound write) client answer on = round-moves client write answer
moves-at (TestKey key_test) client answer on = test-moves client key_test answer
moves-at (Resolve resolving) client answer on = resolved-moves client resolving answer
moves-at (Pause word kept) client answer on = subst (λ k. MovesAt client answer (Pause word k)) (sym (behind kept on)) (pause-moves client word answer)
moves-at (Paused word kept) client answer on = subst (λ k. MovesAt client answer (Paused word k)) (sym (behind kept on)) (paused-moves client word answer)
moves-at (LostNode node kept) client answer on = subst (λ k. MovesAt client answer (LostNode node k)) (sym (behind kept on)) (lost-moves client node answer)
moves-at Idle client answer on = absurd on
moves-at Start client answer on = absurd on
moves-at ReadEpoch client answer on = absurd on
moves-at (Seek key_search) client answer on = absurd on
moves-at (Fetch value_read) client answer on = absurd on
moves-at Choose client answer on = absurd on
moves-at (Clear change) client answer on = absurd on
moves-at (Body write) client answer on = absurd on
moves-at (Free change) client answer on = absurd on
moves-at (Return change) client answer on = absurd on
moves-at End client answer on = absurd on

moves : (client : Client) (answer : Answer) → IsSearching client.stage → Moves client answer (after client answer)
moves client answer on = moves-at client.stage client answer on

-- a call that comes to be full has passed over the slot at its place, the last of the order
full-last : (client : Client) (answer : Answer) (place : ℕ) → PassesPlace client answer place → IsLastPlace client place → PassesPlace client answer (place_of_call client) × IsLastPlace client (place_of_call client)
full-last client answer place passes last = by passes
  where
    at : place_of_call client ≡ place → PassesPlace client answer (place_of_call client) × IsLastPlace client (place_of_call client)
    at same = subst (λ p. PassesPlace client answer p × IsLastPlace client p) (sym same) (passes, last)

    here : (stage : Stage) → client.stage ≡ stage → place_in stage client.place ≡ place → PassesPlace client answer (place_of_call client) × IsLastPlace client (place_of_call client)
    here stage is same = at (ap (λ s. place_in s client.place) is ∙ same)

    by : PassesPlace client answer place → PassesPlace client answer (place_of_call client) × IsLastPlace client (place_of_call client)
    by (inl (key_search, is, same, passed)) = here (Find key_search) is same
    by (inr (inl other, same)) = here (WriteSlot other.0) other.2 same
    by (inr (inr (inl (key_test, is, tells)), same)) = here (TestKey key_test) is same
    by (inr (inr (inr (resolving, is, tells)), same)) = here (Resolve resolving) is same

full : (s : Sizes) (n : ℕ) (client : Client) (answer : Answer) → IsClient s n client → client.outcome ≢ outcome.Full → (after client answer).outcome ≡ outcome.Full
    → PassesPlace client answer (place_of_call client) × IsLastPlace client (place_of_call client)
full s n client answer is before returns = by (subst (Results client answer) returns (caused s n client answer is).results)
  where
    by : Results client answer outcome.Full → PassesPlace client answer (place_of_call client) × IsLastPlace client (place_of_call client)
    by (inl was) = absurd (before was)
    by (inr (place, passes, last)) = full-last client answer place passes last

-- ---- all answers of a search

passed-first : (client : Client) (answer : Answer) (answers : List Answer) (place : ℕ) → place_of_call client ≡ place → PassesPlace client answer (place_of_call client) → WasPassed client (answer ∷ answers) place
passed-first client answer answers place here passes = record { before = []; answer = answer; after_it = answers; split = refl; passes = subst (PassesPlace client answer) here passes }

passed-later : (client : Client) (answer : Answer) (answers : List Answer) (place : ℕ) → WasPassed (after client answer) answers place → WasPassed client (answer ∷ answers) place
passed-later client answer answers place was = record {
  before = answer ∷ was.before;
  answer = was.answer;
  after_it = was.after_it;
  split = ap (λ rest. answer ∷ rest) was.split;
  passes = was.passes;
}

pub full-passed : (s : Sizes) (n : ℕ) (start : Client) (answers : List Answer) (answer : Answer) → IsClient s n start → SearchesOn start answers
    → (after_all start answers).outcome ≢ outcome.Full → (after (after_all start answers) answer).outcome ≡ outcome.Full
    → (place : ℕ) → place_of_call start ≤ place → place < length (order_of start.key s.groups) → WasPassed start (answers ++ answer ∷ []) place
full-passed s n start [] answer is on before returns place from below =
    let last = full s n start answer is before returns in
    let groups : start.shape.groups ≡ s.groups = ap (λ (z : Sizes). z.groups) is.member.same_shape in
    let long : length (order_of start.key start.shape.groups) ≡ length (order_of start.key s.groups) = ap (λ g. length (order_of start.key g)) groups in
    passed-first start answer [] place (omega (arith, last.1, from, below, long)) last.0
full-passed s n start (one ∷ answers) answer is on before returns place from below = by (moved.place next-on) (full-passed s n next answers answer (turn-is s n start one is) on.1 before returns place)
  where
    next : Client
    next = after start one

    moved : Moves start one next
    moved = moves start one on.0

    first-on : (client : Client) (rest : List Answer) → SearchesOn client rest → IsSearching client.stage
    first-on client [] searching = searching
    first-on client (other ∷ rest) searching = searching.0

    next-on : IsSearching next.stage
    next-on = first-on next answers on.1

    Rest : Type 0
    Rest = place_of_call next ≤ place → place < length (order_of next.key s.groups) → WasPassed next (answers ++ answer ∷ []) place

    later : place_of_call next ≤ place → Rest → WasPassed start (one ∷ answers ++ answer ∷ []) place
    later from_next rest = passed-later start one (answers ++ answer ∷ []) place (rest from_next (subst (λ k. place < length (order_of k s.groups)) (sym moved.key) below))

    at : (place < place_of_call start + 1) ⊎ (place_of_call start + 1 ≤ place) → place_of_call next ≡ place_of_call start + 1 → PassesPlace start one (place_of_call start) → Rest → WasPassed start (one ∷ answers ++ answer ∷ []) place
    at (inl here) more passes rest = passed-first start one (answers ++ answer ∷ []) place (omega (arith, here, from)) passes
    at (inr beyond) more passes rest = later (omega (arith, beyond, more)) rest

    by : (place_of_call next ≡ place_of_call start) ⊎ ((place_of_call next ≡ place_of_call start + 1) × PassesPlace start one (place_of_call start)) → Rest → WasPassed start (one ∷ answers ++ answer ∷ []) place
    by (inl same) rest = later (omega (arith, same, from)) rest
    by (inr (more, passes)) rest = at (cases_lt place (place_of_call start + 1)) more passes rest
