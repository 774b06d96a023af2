-- What the program adds to the machine's standing holds after each turn.
use Rattle.std.proofs.Common.{◌≡◌, ◌≢◌, ℕ, ◌+◌, ◌⊎◌, inl, inr, ◌==◌, nat_lt, Bool, true, false, length, Option, Some, None, refl, sym, ap, subst, arith}
use Rattle.std.proofs.lemmas.Bool.Decides.{nat_tests}
use Rattle.machine.specs.KeySearch.{is_at_slot}
use Rattle.kv_ops.specs.Standings.{IsApart, IsHeld, IsOfClass, IsOn, IsOtherAt, KeepsMore, OwnsObject, reads_own}
use Rattle.kv_ops.proofs.KeptLemmas.{turn-kept}
use Rattle.kv_ops.proofs.CallLemmas.{fresh_of-some}
use Rattle.machine.specs.declared.bit_change.Changed.{Changed}
use Rattle.machine.specs.declared.bit_change.Changed.TheVariants as changed
use Rattle.machine.specs.declared.choosing.Took.{Took}
use Rattle.machine.specs.declared.choosing.Took.TheVariants as took
use Rattle.machine.specs.declared.client_call.Outcome.{Outcome}
use Rattle.machine.specs.declared.client_call.Outcome.TheVariants as outcome
use Rattle.machine.specs.declared.client_call.Step.{Step}
use Rattle.machine.specs.declared.key_search.Found.{Found}
use Rattle.machine.specs.declared.key_search.Found.TheVariants as found_as
use Rattle.machine.specs.declared.key_test.Tested.{Tested}
use Rattle.machine.specs.declared.key_test.Tested.TheVariants as tested
use Rattle.machine.specs.declared.object_write.Written.{Written}
use Rattle.machine.specs.declared.object_write.Written.TheVariants as written
use Rattle.machine.specs.declared.resolution.Resolved.{Resolved}
use Rattle.machine.specs.declared.resolution.Resolved.TheVariants as resolved
use Rattle.machine.specs.declared.slot_write.Wrote.{Wrote}
use Rattle.machine.specs.declared.slot_write.Wrote.TheVariants as wrote
use Rattle.machine.specs.declared.value_read.Fetched.{Fetched}
use Rattle.machine.specs.declared.value_read.Fetched.TheVariants as fetched_as
use Rattle.machine.specs.BitChange as bits
use Rattle.machine.specs.BitChange.{BitChange}
use Rattle.machine.specs.Choosing as choosing
use Rattle.machine.specs.Client.{chooses, chooses_for, ends, fetches, finds_at, finds_on, first_turn, frees_again, fresh_of, gives_back, goes_to, is_beaten, kept_of, on_body, on_changed, on_clear, on_epoch, on_fetch, on_find, on_free, on_kind, on_log, on_lost, on_paused, on_resolved, on_return, on_round, on_searching, on_seek, on_test, on_took, on_version, on_wrote, refused, remembers, resumes, resumes_with, slot_of, turn, turn_at, view_of, won}
use Rattle.machine.specs.EpochRead.{open_mask}
use Rattle.machine.specs.KeySearch as search
use Rattle.machine.specs.KeySearch.{KeySearch, key_search_of}
use Rattle.machine.specs.KeyTest as test
use Rattle.machine.specs.KeyTest.{KeyTest}
use Rattle.machine.specs.ObjectNames.{Object, candidate_in, object_in}
use Rattle.machine.specs.Resolution as resolution
use Rattle.machine.specs.Resolution.{Resolution}
use Rattle.machine.specs.SlotWrite as slots
use Rattle.machine.specs.SlotWrite.{SlotWrite}
use Rattle.machine.specs.Stage.{Client, Kept, FromStart, FromSeek, FromChoose, FromClear, FromBody, FromFind, FromResolve, FromFree, FromReturn, Operation, Get, Put, Delete, Stage, Idle, Start, ReadEpoch, Pause, Paused, LostNode, Seek, Fetch, Choose, Clear, Body, Find, ReadVersion, Log, WriteSlot, AwaitRound, TestKey, Resolve, Free, Return, End}
use Rattle.machine.specs.Standing.{IsAt, IsClient}
use Rattle.machine.proofs.ClientTurnLemmas.{turn-is}
use Rattle.machine.specs.Stock.{Stock}
use Rattle.machine.specs.Turn.{Turn}
use Rattle.machine.specs.ValueRead as values
use Rattle.machine.specs.ValueRead.{ValueRead}
use Rattle.machine.specs.WordsWrite as words
use Rattle.machine.specs.WordsWrite.{WordsWrite}
use Rattle.object_form.specs.Class.{class_in}
use Rattle.object_form.specs.declared.metas.Kind.{Kind}
use Rattle.object_form.specs.declared.metas.Kind.TheVariants.{Value, Tombstone}
use Rattle.region_view.specs.Sizes.{Sizes}
use Rattle.verb_words.specs.declared.verbs.Answer.{Answer}
use Rattle.verb_words.specs.declared.verbs.Answer.TheVariants.{Word, Done, Lost}

-- what the program adds holds after a turn
abbrev pub Turned : Turn Client Step → Type 0
Turned turned = IsOn turned.state.stage turned.state

more-stage : (kept : Kept) (client : Client) (stage : Stage) → KeepsMore kept client → KeepsMore kept (record client { stage = stage })
more-stage FromStart client stage keeps = keeps
more-stage FromSeek client stage keeps = keeps
more-stage FromChoose client stage keeps = keeps
more-stage FromClear client stage keeps = keeps
more-stage FromBody client stage keeps = keeps
more-stage FromFind client stage keeps = keeps
more-stage FromResolve client stage keeps = keeps
more-stage FromFree client stage keeps = keeps
more-stage FromReturn client stage keeps = keeps

more-stock : (kept : Kept) (client : Client) (stock : Stock) → KeepsMore kept client → KeepsMore kept (record client { stock = stock })
more-stock FromStart client stock keeps = keeps
more-stock FromSeek client stock keeps = keeps
more-stock FromChoose client stock keeps = keeps
more-stock FromClear client stock keeps = keeps
more-stock FromBody client stock keeps = keeps
more-stock FromFind client stock keeps = keeps
more-stock FromResolve client stock keeps = keeps
more-stock FromFree client stock keeps = keeps
more-stock FromReturn client stock keeps = keeps

more-mask : (kept : Kept) (client : Client) (mask : ℕ) → KeepsMore kept client → KeepsMore kept (record client { mask = mask })
more-mask FromStart client mask keeps = keeps
more-mask FromSeek client mask keeps = keeps
more-mask FromChoose client mask keeps = keeps
more-mask FromClear client mask keeps = keeps
more-mask FromBody client mask keeps = keeps
more-mask FromFind client mask keeps = keeps
more-mask FromResolve client mask keeps = keeps
more-mask FromFree client mask keeps = keeps
more-mask FromReturn client mask keeps = keeps

other-stage : (phase : search.Phase) (client : Client) (stage : Stage) → IsOtherAt phase client → IsOtherAt phase (record client { stage = stage })
other-stage search.AtSlot client stage on = on
other-stage (search.AtKey word key_test) client stage on = on

stage-on : (on : Stage) (client : Client) (stage : Stage) → IsOn on client → IsOn on (record client { stage = stage })
stage-on Idle client stage is = is
stage-on Start client stage is = is
stage-on ReadEpoch client stage is = is
stage-on (Pause word kept) client stage is = more-stage kept client stage is
stage-on (Paused word kept) client stage is = more-stage kept client stage is
stage-on (LostNode node kept) client stage is = more-stage kept client stage is
stage-on (Seek key_search) client stage is = is
stage-on (Fetch value_read) client stage is = is
stage-on Choose client stage is = is
stage-on (Clear change) client stage is = is
stage-on (Body write) client stage is = is
stage-on (Find key_search) client stage is = other-stage key_search.phase client stage is
stage-on (ReadVersion word) client stage is = is
stage-on (Log write) client stage is = is
stage-on (WriteSlot write) client stage is = is
stage-on (AwaitRound write) client stage is = is
stage-on (TestKey key_test) client stage is = is
stage-on (Resolve resolving) client stage is = is
stage-on (Free change) client stage is = is
stage-on (Return change) client stage is = is
stage-on End client stage is = is

refusing : (client : Client) (node : ℕ) → KeepsMore (kept_of client.stage) client → Turned (refused client node)
refusing client node keeps = more-stage (kept_of client.stage) client (LostNode node (kept_of client.stage)) keeps

pausing : (client : Client) (word : ℕ) (kept : Kept) → KeepsMore kept client → Turned (goes_to client (Pause word kept))
pausing client word kept keeps = (more-stage kept client (Pause word kept) keeps)

ending : (client : Client) (result : Outcome) → Turned (ends client result)
ending client result = tt

giving_back : (client : Client) (result : Outcome) → Turned (gives_back client result)
giving_back client result = tt

-- A choosing.

took-turned : (client : Client) (stock : Stock) (told : Took) → IsOfClass client → KeepsMore (kept_of client.stage) client → Turned (on_took client stock told)
took-turned client stock took.Going of_class keeps = of_class
took-turned client stock (took.Have object next) of_class keeps = of_class
took-turned client stock (took.NoSpace class awaited begin) of_class keeps = ending (record client { stock = stock }) (outcome.NoSpace class awaited begin)
took-turned client stock (took.Refused node) of_class keeps = refusing (record client { stock = stock }) node (more-stock (kept_of client.stage) client stock keeps)

chooses-turned : (client : Client) → IsOfClass client → KeepsMore (kept_of client.stage) client → Turned (chooses client)
chooses-turned client of_class keeps = let turned = choosing.begins client.stock client.mask client.class in took-turned client turned.state turned.told of_class keeps

chooses_for-turned : (client : Client) → ((other : Client) → KeepsMore (kept_of client.stage) other) → Turned (chooses_for client (length client.value))
chooses_for-turned client any = let chosen = record client { class = class_in (length client.key) (length client.value) } in chooses-turned chosen refl (any chosen)

first-turned : (operation : Operation) (client : Client) → ((other : Client) → KeepsMore (kept_of client.stage) other) → Turned (first_turn operation client)
first-turned Put client any = chooses_for-turned client any
first-turned Get client any = tt
first-turned Delete client any = tt

-- The first search, and the reading of a value.

kind-turned : (kind : Kind) (operation : Operation) (client : Client) (word value_len : ℕ) → ((other : Client) → KeepsMore (kept_of client.stage) other) → Turned (on_kind kind (record client { operation = operation }) word value_len)
kind-turned Tombstone operation client word value_len any = tt
kind-turned Value Put client word value_len any = chooses_for-turned (record client { operation = Put }) any
kind-turned Value Delete client word value_len any = chooses_for-turned (record client { operation = Delete }) any
kind-turned Value Get client word value_len any = by (value_len == 0) refl
  where
    getting : Client
    getting = record client { operation = Get }

    by : (t : Bool) → (value_len == 0) ≡ t → Turned (fetches getting word value_len)
    by true none = rw none (tt)
    by false some = rw some (tt)

seek-turned : (client : Client) (key_search : KeySearch) (found : Found) → ((other : Client) → KeepsMore (kept_of client.stage) other) → Turned (on_seek client key_search found)
seek-turned client key_search found_as.Going any = tt
seek-turned client key_search (found_as.Empty slot) any = tt
seek-turned client key_search (found_as.At slot word kind value_len) any = kind-turned kind client.operation (remembers client key_search.place) word value_len any
seek-turned client key_search found_as.Nowhere any = tt
seek-turned client key_search (found_as.Refused node) any = refusing client node (any client)

fetch-turned : (client : Client) (value_read : ValueRead) (told : Fetched) → ((other : Client) → KeepsMore (kept_of client.stage) other) → Turned (on_fetch client value_read told)
fetch-turned client value_read fetched_as.Going any = tt
fetch-turned client value_read fetched_as.Whole any = tt
fetch-turned client value_read (fetched_as.Refused node) any = refusing client node (any client)

-- The object.

clear-turned : (client : Client) (change : BitChange) (told : Changed) → IsOfClass client → KeepsMore (kept_of client.stage) client → Turned (on_clear client change told)
clear-turned client change changed.Going of_class keeps = of_class
clear-turned client change changed.Whole of_class keeps = of_class
clear-turned client change (changed.Refused node) of_class keeps = refusing client node keeps

body-turned : (client : Client) (write : WordsWrite) (told : Written) → IsOfClass client → KeepsMore (kept_of client.stage) client → Turned (on_body client write told)
body-turned client write written.Going of_class keeps = of_class
body-turned client write written.Whole of_class keeps = tt
body-turned client write (written.Refused node) of_class keeps = refusing client node keeps

free-turned : (client : Client) (change : BitChange) (told : Changed) → KeepsMore (kept_of client.stage) client → Turned (on_free client change told)
free-turned client change changed.Going keeps = tt
free-turned client change changed.Whole keeps = tt
free-turned client change (changed.Refused node) keeps = refusing client node keeps

return-turned : (client : Client) (change : BitChange) (told : Changed) → KeepsMore (kept_of client.stage) client → Turned (on_return client change told)
return-turned client change changed.Going keeps = tt
return-turned client change changed.Whole keeps = tt
return-turned client change (changed.Refused node) keeps = refusing client node keeps

-- The search for the slot: what it tells does not name the call's own word.

abbrev IsFoundOn : Client → KeySearch → Found → Type 0
IsFoundOn client key_search found_as.Going = IsOtherAt key_search.phase client
IsFoundOn client key_search (found_as.Empty slot) = Unit {0}
IsFoundOn client key_search (found_as.At slot word kind value_len) = word ≢ fresh_of client
IsFoundOn client key_search found_as.Nowhere = Unit {0}
IsFoundOn client key_search (found_as.Refused node) = Unit {0}

passed-on : (client : Client) (key_search : KeySearch) → IsFoundOn client (search.passed key_search).state (search.passed key_search).told
passed-on client key_search = by (nat_lt (key_search.place + 1) (length key_search.order)) refl
  where
    by : (t : Bool) → nat_lt (key_search.place + 1) (length key_search.order) ≡ t → IsFoundOn client (search.passed key_search).state (search.passed key_search).told
    by true more = rw more tt
    by false last = rw last tt

search-on : (client : Client) (key_search : KeySearch) (answer : Answer) → IsOtherAt key_search.phase client → (reads_own client answer ≡ false) ⊎ (is_at_slot key_search.phase ≡ false)
    → IsFoundOn client (search.turn key_search answer).state (search.turn key_search answer).told
search-on client key_search answer on = by key_search.phase answer on
  where
    tested-on : (word : ℕ) (key_test : KeyTest) (told : Tested) → word ≢ fresh_of client → IsFoundOn client (search.on_test key_search word key_test told).state (search.on_test key_search word key_test told).told
    tested-on word key_test tested.Going other = other
    tested-on word key_test (tested.Same kind value_len) other = other
    tested-on word key_test tested.Other other = passed-on client key_search
    tested-on word key_test (tested.Refused node) other = tt

    candidate-on : (word : ℕ) (object : Option Object) → candidate_in key_search.view.shape key_search.key word ≡ object → word ≢ fresh_of client
        → IsFoundOn client (search.tests key_search word).state (search.tests key_search word).told
    candidate-on word None none other = rw none (passed-on client key_search)
    candidate-on word (Some object) some other = rw some other

    word-on : (word : ℕ) (t : Bool) → (word == 0) ≡ t → word ≢ fresh_of client
        → IsFoundOn client (search.turn_at search.AtSlot key_search (Word word)).state (search.turn_at search.AtSlot key_search (Word word)).told
    word-on word true empty other = rw empty tt
    word-on word false some other = rw some (candidate-on word (candidate_in key_search.view.shape key_search.key word) refl other)

    by : (phase : search.Phase) (answer : Answer) → IsOtherAt phase client → (reads_own client answer ≡ false) ⊎ (is_at_slot phase ≡ false)
        → IsFoundOn client (search.turn_at phase key_search answer).state (search.turn_at phase key_search answer).told
    by search.AtSlot (Word word) is (inl other) = word-on word (word == 0) refl (grind (arith, nat_tests))
    by search.AtSlot (Word word) is (inr never) = absurd cc
    by search.AtSlot Done is other = on
    by search.AtSlot Lost is other = tt
    by (search.AtKey word key_test) answer is other = let turned = test.turn key_test answer in tested-on word turned.state turned.told is

found-turned : (client : Client) (key_search : KeySearch) (found : Found) → OwnsObject client → IsFoundOn client key_search found → KeepsMore (kept_of client.stage) client → Turned (on_find client key_search found)
found-turned client key_search found_as.Going owns on keeps = (other-stage key_search.phase client (Find key_search) on)
found-turned client key_search (found_as.Empty slot) owns on keeps = λ zero. fresh_of-some client owns (sym zero)
found-turned client key_search (found_as.At slot word kind value_len) owns on keeps = on
found-turned client key_search found_as.Nowhere owns on keeps = giving_back client outcome.Full
found-turned client key_search (found_as.Refused node) owns on keeps = refusing client node keeps

searching-turned : (client : Client) (searched : Turn KeySearch Found) → OwnsObject client → IsFoundOn client searched.state searched.told → KeepsMore (kept_of client.stage) client → Turned (on_searching client searched)
searching-turned client searched owns on keeps = found-turned client searched.state searched.told owns on keeps

finds_at-turned : (client : Client) (key_search : KeySearch) (answer : Answer) → OwnsObject client → IsOtherAt key_search.phase client → KeepsMore (kept_of client.stage) client → Turned (finds_at key_search.phase client key_search answer)
finds_at-turned client key_search answer owns on keeps = by key_search.phase refl answer
  where
    turning : (answer : Answer) → (reads_own client answer ≡ false) ⊎ (is_at_slot key_search.phase ≡ false) → Turned (on_searching client (search.turn key_search answer))
    turning answer other = searching-turned client (search.turn key_search answer) owns (search-on client key_search answer on other) keeps

    at-word : (word : ℕ) (t : Bool) → (word == fresh_of client) ≡ t → Turned (finds_at search.AtSlot client key_search (Word word))
    at-word word true own = rw own (searching-turned client (search.passed key_search) owns (passed-on client key_search) keeps)
    at-word word false other = rw other (turning (Word word) (inl other))

    at-key : (phase : search.Phase) → key_search.phase ≡ phase → is_at_slot phase ≡ false → is_at_slot key_search.phase ≡ false
    at-key phase at off = rw at off

    by : (phase : search.Phase) → key_search.phase ≡ phase → (answer : Answer) → Turned (finds_at phase client key_search answer)
    by search.AtSlot at (Word word) = at-word word (word == fresh_of client) refl
    by search.AtSlot at Done = turning Done (inl refl)
    by search.AtSlot at Lost = turning Lost (inl refl)
    by (search.AtKey word key_test) at (Word found) = turning (Word found) (inr (at-key (search.AtKey word key_test) at refl))
    by (search.AtKey word key_test) at Done = turning Done (inl refl)
    by (search.AtKey word key_test) at Lost = turning Lost (inl refl)

finds_on-turned : (client : Client) → OwnsObject client → KeepsMore (kept_of client.stage) client → Turned (finds_on client)
finds_on-turned client owns keeps =
    let key_search = key_search_of (view_of client) client.key client.place in
    searching-turned client (search.passed key_search) owns (passed-on client key_search) keeps

version-turned : (client : Client) (word : ℕ) (answer : Answer) → word ≢ fresh_of client → KeepsMore (kept_of client.stage) client → Turned (on_version client word answer)
version-turned client word (Word found) other keeps = other
version-turned client word Done other keeps = other
version-turned client word Lost other keeps = refusing client _ keeps

-- The slot.

log-turned : (client : Client) (write : WordsWrite) (told : Written) → IsApart client → KeepsMore (kept_of client.stage) client → Turned (on_log client write told)
log-turned client write written.Going apart keeps = apart
log-turned client write written.Whole apart keeps = apart
log-turned client write (written.Refused node) apart keeps = refusing client node keeps

won-turned : (client : Client) → Turned (won client)
won-turned client = by (object_in client.shape client.expect) refl
  where
    by : (object : Option Object) → object_in client.shape client.expect ≡ object → Turned (won client)
    by None none = rw none (ending (remembers client client.place) outcome.Done)
    by (Some object) some = rw some (tt)

beaten-turned : (client : Client) → Turned (is_beaten client)
beaten-turned client = giving_back (record client { beaten = Some (slot_of client, client.version) }) outcome.Done

changed-turned : (client : Client) (word : ℕ) → OwnsObject client → IsApart client → KeepsMore (kept_of client.stage) client → Turned (on_changed client word)
changed-turned client word owns apart keeps = by (client.expect == 0) refl (candidate_in client.shape client.key word) refl
  where
    by : (t : Bool) → (client.expect == 0) ≡ t → (object : Option Object) → candidate_in client.shape client.key word ≡ object → Turned (on_changed client word)
    by false full object candidate = rw full (beaten-turned client)
    by true empty None none = rw (empty, none) (finds_on-turned client owns keeps)
    by true empty (Some object) some = rw (empty, some) (apart)

wrote-turned : (client : Client) (write : SlotWrite) (told : Wrote) → OwnsObject client → IsApart client → KeepsMore (kept_of client.stage) client → Turned (on_wrote client write told)
wrote-turned client write wrote.Going owns apart keeps = apart
wrote-turned client write wrote.Won owns apart keeps = won-turned client
wrote-turned client write (wrote.Changed word) owns apart keeps = changed-turned client word owns apart keeps
wrote-turned client write (wrote.Unchanged word) owns apart keeps = apart
wrote-turned client write (wrote.Refused node) owns apart keeps = refusing client node keeps

test-turned : (client : Client) (key_test : KeyTest) (told : Tested) → OwnsObject client → IsApart client → KeepsMore (kept_of client.stage) client → Turned (on_test client key_test told)
test-turned client key_test tested.Going owns apart keeps = apart
test-turned client key_test (tested.Same kind value_len) owns apart keeps = beaten-turned client
test-turned client key_test tested.Other owns apart keeps = finds_on-turned client owns keeps
test-turned client key_test (tested.Refused node) owns apart keeps = refusing client node keeps

resolved-turned : (client : Client) (resolving : Resolution) (told : Resolved) → OwnsObject client → IsApart client → KeepsMore (kept_of client.stage) client → Turned (on_resolved client resolving told)
resolved-turned client resolving resolved.Going owns apart keeps = apart
resolved-turned client resolving resolved.Still owns apart keeps = apart
resolved-turned client resolving resolved.Won owns apart keeps = won-turned client
resolved-turned client resolving resolved.Beaten owns apart keeps = beaten-turned client
resolved-turned client resolving resolved.OtherKey owns apart keeps = finds_on-turned client owns keeps
resolved-turned client resolving (resolved.Refused node) owns apart keeps = refusing client node keeps

-- The epoch word.

resumed : (kept : Kept) (client : Client) → KeepsMore kept client → ((other : Client) → KeepsMore (kept_of client.stage) other) → Turned (resumes kept client)
resumed FromStart client keeps any = first-turned client.operation client any
resumed FromSeek client keeps any = tt
resumed FromChoose client keeps any = chooses-turned client keeps (any client)
resumed FromClear client keeps any = keeps
resumed FromBody client keeps any = keeps
resumed FromFind client keeps any = tt
resumed FromResolve client keeps any = keeps
resumed FromFree client keeps any = by (object_in client.shape client.expect) refl
  where
    by : (object : Option Object) → object_in client.shape client.expect ≡ object → Turned (frees_again client)
    by None none = rw none (tt)
    by (Some object) some = rw some (tt)
resumed FromReturn client keeps any = tt

resumed_with : (kept : Kept) (client : Client) (mask : ℕ) → KeepsMore kept client → ((other : Client) → KeepsMore (kept_of client.stage) other) → Turned (resumes_with kept client mask)
resumed_with kept client mask keeps any = resumed kept (record client { mask = mask }) (more-mask kept client mask keeps) any

epoch-turned : (client : Client) (found : ℕ) → ((other : Client) → KeepsMore (kept_of client.stage) other) → Turned (on_epoch client found)
epoch-turned client found any = by (open_mask client.shape found) refl
  where
    by : (mask : Option ℕ) → open_mask client.shape found ≡ mask → Turned (on_epoch client found)
    by None none = rw none (pausing client found FromStart tt)
    by (Some mask) some = rw some (resumed_with FromStart client mask tt any)

paused-turned : (client : Client) (word : ℕ) (kept : Kept) (found : ℕ) → KeepsMore kept client → ((other : Client) → KeepsMore (kept_of client.stage) other) → Turned (on_paused client word kept found)
paused-turned client word kept found keeps any = by (open_mask client.shape found) refl (found == word) refl
  where
    by : (mask : Option ℕ) → open_mask client.shape found ≡ mask → (t : Bool) → (found == word) ≡ t → Turned (on_paused client word kept found)
    by (Some mask) some t same = rw some (resumed_with kept client mask keeps any)
    by None none true same = rw (none, same) (more-stage kept client (Paused word kept) keeps)
    by None none false other = rw (none, other) (pausing client found kept keeps)

lost-turned : (client : Client) (node : ℕ) (kept : Kept) (found : ℕ) → KeepsMore kept client → Turned (on_lost client node kept found)
lost-turned client node kept found keeps = by (open_mask client.shape found) refl
  where
    by : (mask : Option ℕ) → open_mask client.shape found ≡ mask → Turned (on_lost client node kept found)
    by (Some mask) some = rw some (more-stage kept client (LostNode node kept) keeps)
    by None none = rw none (pausing client found kept keeps)

round-turned : (client : Client) (write : SlotWrite) (found : ℕ) → IsApart client → Turned (on_round client write found)
round-turned client write found apart = by (open_mask client.shape found) refl
  where
    by : (mask : Option ℕ) → open_mask client.shape found ≡ mask → Turned (on_round client write found)
    by (Some mask) some = rw some (apart)
    by None none = rw none (pausing client found FromResolve apart)

-- The whole: the turn of a call at a stage.

turned-at : (stage : Stage) (client : Client) (answer : Answer) → IsAt stage client → IsOn stage client → Turned (turn_at stage (record client { stage = stage }) answer)
turned-at Idle client answer at on = tt
turned-at Start client (Word found) at on = tt
turned-at Start client Done at on = tt
turned-at Start client Lost at on = tt
turned-at ReadEpoch client (Word found) at on = epoch-turned (record client { stage = ReadEpoch }) found (λ other. tt)
turned-at ReadEpoch client Done at on = tt
turned-at ReadEpoch client Lost at on = tt
turned-at (Pause word kept) client Done at on = (more-stage kept client (Paused word kept) on)
turned-at (Pause word kept) client (Word found) at on = stage-on (Pause word kept) client (Pause word kept) on
turned-at (Pause word kept) client Lost at on = stage-on (Pause word kept) client (Pause word kept) on
turned-at (Paused word kept) client (Word found) at on = paused-turned (record client { stage = Paused word kept }) word kept found (more-stage kept client (Paused word kept) on) (λ other. tt)
turned-at (Paused word kept) client Done at on = stage-on (Paused word kept) client (Paused word kept) on
turned-at (Paused word kept) client Lost at on = stage-on (Paused word kept) client (Paused word kept) on
turned-at (LostNode node kept) client (Word found) at on = lost-turned (record client { stage = LostNode node kept }) node kept found (more-stage kept client (LostNode node kept) on)
turned-at (LostNode node kept) client Done at on = stage-on (LostNode node kept) client (LostNode node kept) on
turned-at (LostNode node kept) client Lost at on = stage-on (LostNode node kept) client (LostNode node kept) on
turned-at (Seek key_search) client answer at on = let turned = search.turn key_search answer in seek-turned (record client { stage = Seek key_search }) turned.state turned.told (λ other. tt)
turned-at (Fetch value_read) client answer at on = let turned = values.turn value_read answer in fetch-turned (record client { stage = Fetch value_read }) turned.state turned.told (λ other. tt)
turned-at Choose client answer at on = let turned = choosing.turn client.stock answer in took-turned (record client { stage = Choose }) turned.state turned.told on on
turned-at (Clear change) client answer at on = let turned = bits.turn change answer in clear-turned (record client { stage = Clear change }) turned.state turned.told on on
turned-at (Body write) client answer at on = let turned = words.turn write answer in body-turned (record client { stage = Body write }) turned.state turned.told on on
turned-at (Find key_search) client answer at on = finds_at-turned (record client { stage = Find key_search }) key_search answer at.0 (other-stage key_search.phase client (Find key_search) on) tt
turned-at (ReadVersion word) client answer at on = version-turned (record client { stage = ReadVersion word }) word answer on tt
turned-at (Log write) client answer at on = let turned = words.turn write answer in log-turned (record client { stage = Log write }) turned.state turned.told on on
turned-at (WriteSlot write) client answer at on = let turned = slots.turn write answer in wrote-turned (record client { stage = WriteSlot write }) turned.state turned.told at.0.object on on
turned-at (AwaitRound write) client (Word found) at on = round-turned (record client { stage = AwaitRound write }) write found on
turned-at (AwaitRound write) client Done at on = stage-on (AwaitRound write) client (AwaitRound write) on
turned-at (AwaitRound write) client Lost at on = stage-on (AwaitRound write) client (AwaitRound write) on
turned-at (TestKey key_test) client answer at on = let turned = test.turn key_test answer in test-turned (record client { stage = TestKey key_test }) turned.state turned.told at.0.object on on
turned-at (Resolve resolving) client answer at on = let turned = resolution.turn resolving answer in resolved-turned (record client { stage = Resolve resolving }) turned.state turned.told at.0.object on on
turned-at (Free change) client answer at on = let turned = bits.turn change answer in free-turned (record client { stage = Free change }) turned.state turned.told tt
turned-at (Return change) client answer at on = let turned = bits.turn change answer in return-turned (record client { stage = Return change }) turned.state turned.told tt
turned-at End client Done at on = tt
turned-at End client (Word found) at on = tt
turned-at End client Lost at on = tt

-- Every client is held.

pub held-on : (client : Client) (answer : Answer) → IsHeld client → IsHeld (turn client answer).state
held-on client answer held =
    let next = (turn client answer).state in
    let is = turn-kept client answer in
    record {
      state = subst (λ (s : Sizes). IsClient s next.client next) (sym is.shape) (subst (λ n. IsClient client.shape n next) (sym is.owner) (turn-is client.shape client.client client answer held.state));
      number = omega (arith, held.number, is.number, ap (λ (s : Sizes). s.calls) is.shape);
      on = turned-at client.stage client answer held.state.stage held.on;
    }
