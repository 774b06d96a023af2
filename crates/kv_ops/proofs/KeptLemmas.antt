-- What each turn of a call leaves as it is; and the call is over exactly where the turn tells so.
use Rattle.std.proofs.Common.{◌≡◌, ℕ, ◌==◌, ◌⊎◌, inl, inr, Bool, true, false, length, Option, Some, None, refl, sym, ap, subst, ◌∙◌}
use Rattle.std.proofs.lemmas.Bool.{false≢true}
use Rattle.kv_ops.specs.Stepping.{is_ended, is_start}
use Rattle.machine.specs.declared.bit_change.Changed.{Changed}
use Rattle.machine.specs.declared.bit_change.Changed.TheVariants as changed
use Rattle.machine.specs.declared.choosing.Took.{Took}
use Rattle.machine.specs.declared.choosing.Took.TheVariants as took
use Rattle.machine.specs.declared.client_call.Step.{Step}
use Rattle.machine.specs.declared.client_call.Step.TheVariants.{Going}
use Rattle.machine.specs.declared.key_search.Found.{Found}
use Rattle.machine.specs.declared.key_search.Found.TheVariants as found_as
use Rattle.machine.specs.declared.key_test.Tested.{Tested}
use Rattle.machine.specs.declared.key_test.Tested.TheVariants as tested
use Rattle.machine.specs.declared.object_write.Written.{Written}
use Rattle.machine.specs.declared.object_write.Written.TheVariants as written
use Rattle.machine.specs.declared.resolution.Resolved.{Resolved}
use Rattle.machine.specs.declared.resolution.Resolved.TheVariants as resolved
use Rattle.machine.specs.declared.slot_write.Wrote.{Wrote}
use Rattle.machine.specs.declared.slot_write.Wrote.TheVariants as wrote
use Rattle.machine.specs.declared.value_read.Fetched.{Fetched}
use Rattle.machine.specs.declared.value_read.Fetched.TheVariants as fetched_as
use Rattle.machine.specs.BitChange as bits
use Rattle.machine.specs.BitChange.{BitChange}
use Rattle.machine.specs.Choosing as choosing
use Rattle.machine.specs.Client.{chooses, fetches, finds_at, finds_on, first_turn, frees_again, fresh_of, is_beaten, is_idle, is_idle_at, on_body, on_changed, on_clear, on_epoch, on_fetch, on_find, on_free, on_kind, on_log, on_lost, on_paused, on_resolved, on_return, on_round, on_searching, on_seek, on_test, on_took, on_version, on_wrote, refused, remembers, resumes, turn, turn_at, view_of, won}
use Rattle.machine.specs.EpochRead.{open_mask}
use Rattle.machine.specs.KeySearch as search
use Rattle.machine.specs.KeySearch.{KeySearch, key_search_of}
use Rattle.machine.specs.KeyTest as test
use Rattle.machine.specs.KeyTest.{KeyTest}
use Rattle.machine.specs.ObjectNames.{Object, candidate_in, object_in}
use Rattle.machine.specs.Resolution as resolution
use Rattle.machine.specs.Resolution.{Resolution}
use Rattle.machine.specs.SlotWrite as slots
use Rattle.machine.specs.SlotWrite.{SlotWrite}
use Rattle.machine.specs.Stage.{Client, Kept, FromStart, FromSeek, FromChoose, FromClear, FromBody, FromFind, FromResolve, FromFree, FromReturn, Operation, Get, Put, Delete, Stage, Idle, Start, ReadEpoch, Pause, Paused, LostNode, Seek, Fetch, Choose, Clear, Body, Find, ReadVersion, Log, WriteSlot, AwaitRound, TestKey, Resolve, Free, Return, End}
use Rattle.machine.specs.Stock.{Stock}
use Rattle.machine.specs.Turn.{Turn}
use Rattle.machine.specs.ValueRead as values
use Rattle.machine.specs.ValueRead.{ValueRead}
use Rattle.machine.specs.WordsWrite as words
use Rattle.machine.specs.WordsWrite.{WordsWrite}
use Rattle.object_form.specs.Class.{class_in}
use Rattle.object_form.specs.declared.metas.Kind.{Kind}
use Rattle.object_form.specs.declared.metas.Kind.TheVariants.{Value, Tombstone}
use Rattle.region_view.specs.Sizes.{Sizes}
use Rattle.verb_words.specs.declared.verbs.Answer.{Answer}
use Rattle.verb_words.specs.declared.verbs.Answer.TheVariants.{Word, Done, Lost}

-- the turn is of the same call of the same client; the call is over where the turn tells so, and does not begin anew
record IsOnWay (call member : ℕ) (sizes : Sizes) (turned : Turn Client Step) : Type 0 where
  number : turned.state.number ≡ call
  owner : turned.state.client ≡ member
  shape : turned.state.shape ≡ sizes
  idle : is_idle turned.state ≡ is_ended turned.told
  start : is_start turned.state.stage ≡ false

abbrev OnWay : Client → Turn Client Step → Type 0
OnWay client turned = IsOnWay client.number client.client client.shape turned

refused-way : (client : Client) (node : ℕ) → OnWay client (refused client node)
refused-way client node = record { number = refl; owner = refl; shape = refl; idle = refl; start = refl }

took-way : (client : Client) (stock : Stock) (told : Took) → OnWay client (on_took client stock told)
took-way client stock took.Going = record { number = refl; owner = refl; shape = refl; idle = refl; start = refl }
took-way client stock (took.Have object next) = record { number = refl; owner = refl; shape = refl; idle = refl; start = refl }
took-way client stock (took.NoSpace class awaited begin) = record { number = refl; owner = refl; shape = refl; idle = refl; start = refl }
took-way client stock (took.Refused node) = refused-way (record client { stock = stock }) node

chooses-way : (client : Client) → OnWay client (chooses client)
chooses-way client = let turned = choosing.begins client.stock client.mask client.class in took-way client turned.state turned.told

first-way : (operation : Operation) (client : Client) → OnWay client (first_turn operation client)
first-way Put client = chooses-way (record client { class = class_in (length client.key) (length client.value) })
first-way Get client = record { number = refl; owner = refl; shape = refl; idle = refl; start = refl }
first-way Delete client = record { number = refl; owner = refl; shape = refl; idle = refl; start = refl }

kind-way : (kind : Kind) (operation : Operation) (client : Client) (word value_len : ℕ) → OnWay client (on_kind kind (record client { operation = operation }) word value_len)
kind-way Tombstone operation client word value_len = record { number = refl; owner = refl; shape = refl; idle = refl; start = refl }
kind-way Value Put client word value_len = chooses-way (record client { operation = Put; class = class_in (length client.key) (length client.value) })
kind-way Value Delete client word value_len = chooses-way (record client { operation = Delete; class = class_in (length client.key) (length client.value) })
kind-way Value Get client word value_len = by (value_len == 0) refl
  where
    by : (t : Bool) → (value_len == 0) ≡ t → OnWay client (fetches (record client { operation = Get }) word value_len)
    by true none = rw none (record { number = refl; owner = refl; shape = refl; idle = refl; start = refl })
    by false some = rw some (record { number = refl; owner = refl; shape = refl; idle = refl; start = refl })

seek-way : (client : Client) (key_search : KeySearch) (found : Found) → OnWay client (on_seek client key_search found)
seek-way client key_search found_as.Going = record { number = refl; owner = refl; shape = refl; idle = refl; start = refl }
seek-way client key_search (found_as.Empty slot) = record { number = refl; owner = refl; shape = refl; idle = refl; start = refl }
seek-way client key_search (found_as.At slot word kind value_len) = kind-way kind client.operation (remembers client key_search.place) word value_len
seek-way client key_search found_as.Nowhere = record { number = refl; owner = refl; shape = refl; idle = refl; start = refl }
seek-way client key_search (found_as.Refused node) = refused-way client node

fetch-way : (client : Client) (value_read : ValueRead) (told : Fetched) → OnWay client (on_fetch client value_read told)
fetch-way client value_read fetched_as.Going = record { number = refl; owner = refl; shape = refl; idle = refl; start = refl }
fetch-way client value_read fetched_as.Whole = record { number = refl; owner = refl; shape = refl; idle = refl; start = refl }
fetch-way client value_read (fetched_as.Refused node) = refused-way client node

clear-way : (client : Client) (change : BitChange) (told : Changed) → OnWay client (on_clear client change told)
clear-way client change changed.Going = record { number = refl; owner = refl; shape = refl; idle = refl; start = refl }
clear-way client change changed.Whole = record { number = refl; owner = refl; shape = refl; idle = refl; start = refl }
clear-way client change (changed.Refused node) = refused-way client node

body-way : (client : Client) (write : WordsWrite) (told : Written) → OnWay client (on_body client write told)
body-way client write written.Going = record { number = refl; owner = refl; shape = refl; idle = refl; start = refl }
body-way client write written.Whole = record { number = refl; owner = refl; shape = refl; idle = refl; start = refl }
body-way client write (written.Refused node) = refused-way client node

find-way : (client : Client) (key_search : KeySearch) (found : Found) → OnWay client (on_find client key_search found)
find-way client key_search found_as.Going = record { number = refl; owner = refl; shape = refl; idle = refl; start = refl }
find-way client key_search (found_as.Empty slot) = record { number = refl; owner = refl; shape = refl; idle = refl; start = refl }
find-way client key_search (found_as.At slot word kind value_len) = record { number = refl; owner = refl; shape = refl; idle = refl; start = refl }
find-way client key_search found_as.Nowhere = record { number = refl; owner = refl; shape = refl; idle = refl; start = refl }
find-way client key_search (found_as.Refused node) = refused-way client node

searching-way : (client : Client) (searched : Turn KeySearch Found) → OnWay client (on_searching client searched)
searching-way client searched = find-way client searched.state searched.told

finds_at-way : (phase : search.Phase) (client : Client) (key_search : KeySearch) (answer : Answer) → OnWay client (finds_at phase client key_search answer)
finds_at-way search.AtSlot client key_search (Word word) = by (word == fresh_of client) refl
  where
    by : (t : Bool) → (word == fresh_of client) ≡ t → OnWay client (finds_at search.AtSlot client key_search (Word word))
    by true own = rw own (searching-way client (search.passed key_search))
    by false other = rw other (searching-way client (search.turn key_search (Word word)))
finds_at-way search.AtSlot client key_search Done = searching-way client (search.turn key_search Done)
finds_at-way search.AtSlot client key_search Lost = searching-way client (search.turn key_search Lost)
finds_at-way (search.AtKey word key_test) client key_search (Word found) = searching-way client (search.turn key_search (Word found))
finds_at-way (search.AtKey word key_test) client key_search Done = searching-way client (search.turn key_search Done)
finds_at-way (search.AtKey word key_test) client key_search Lost = searching-way client (search.turn key_search Lost)

finds_on-way : (client : Client) → OnWay client (finds_on client)
finds_on-way client = searching-way client (search.passed (key_search_of (view_of client) client.key client.place))

version-way : (client : Client) (word : ℕ) (answer : Answer) → OnWay client (on_version client word answer)
version-way client word (Word found) = record { number = refl; owner = refl; shape = refl; idle = refl; start = refl }
version-way client word Done = record { number = refl; owner = refl; shape = refl; idle = refl; start = refl }
version-way client word Lost = refused-way client _

log-way : (client : Client) (write : WordsWrite) (told : Written) → OnWay client (on_log client write told)
log-way client write written.Going = record { number = refl; owner = refl; shape = refl; idle = refl; start = refl }
log-way client write written.Whole = record { number = refl; owner = refl; shape = refl; idle = refl; start = refl }
log-way client write (written.Refused node) = refused-way client node

won-way : (client : Client) → OnWay client (won client)
won-way client = by (object_in client.shape client.expect) refl
  where
    by : (object : Option Object) → object_in client.shape client.expect ≡ object → OnWay client (won client)
    by None none = rw none (record { number = refl; owner = refl; shape = refl; idle = refl; start = refl })
    by (Some object) some = rw some (record { number = refl; owner = refl; shape = refl; idle = refl; start = refl })

beaten-way : (client : Client) → OnWay client (is_beaten client)
beaten-way client = record { number = refl; owner = refl; shape = refl; idle = refl; start = refl }

changed-way : (client : Client) (word : ℕ) → OnWay client (on_changed client word)
changed-way client word = by (client.expect == 0) refl (candidate_in client.shape client.key word) refl
  where
    by : (t : Bool) → (client.expect == 0) ≡ t → (object : Option Object) → candidate_in client.shape client.key word ≡ object → OnWay client (on_changed client word)
    by false full object candidate = rw full (beaten-way client)
    by true empty None none = rw (empty, none) (finds_on-way client)
    by true empty (Some object) some = rw (empty, some) (record { number = refl; owner = refl; shape = refl; idle = refl; start = refl })

wrote-way : (client : Client) (write : SlotWrite) (told : Wrote) → OnWay client (on_wrote client write told)
wrote-way client write wrote.Going = record { number = refl; owner = refl; shape = refl; idle = refl; start = refl }
wrote-way client write wrote.Won = won-way client
wrote-way client write (wrote.Changed word) = changed-way client word
wrote-way client write (wrote.Unchanged word) = record { number = refl; owner = refl; shape = refl; idle = refl; start = refl }
wrote-way client write (wrote.Refused node) = refused-way client node

test-way : (client : Client) (key_test : KeyTest) (told : Tested) → OnWay client (on_test client key_test told)
test-way client key_test tested.Going = record { number = refl; owner = refl; shape = refl; idle = refl; start = refl }
test-way client key_test (tested.Same kind value_len) = beaten-way client
test-way client key_test tested.Other = finds_on-way client
test-way client key_test (tested.Refused node) = refused-way client node

resolved-way : (client : Client) (resolving : Resolution) (told : Resolved) → OnWay client (on_resolved client resolving told)
resolved-way client resolving resolved.Going = record { number = refl; owner = refl; shape = refl; idle = refl; start = refl }
resolved-way client resolving resolved.Still = record { number = refl; owner = refl; shape = refl; idle = refl; start = refl }
resolved-way client resolving resolved.Won = won-way client
resolved-way client resolving resolved.Beaten = beaten-way client
resolved-way client resolving resolved.OtherKey = finds_on-way client
resolved-way client resolving (resolved.Refused node) = refused-way client node

free-way : (client : Client) (change : BitChange) (told : Changed) → OnWay client (on_free client change told)
free-way client change changed.Going = record { number = refl; owner = refl; shape = refl; idle = refl; start = refl }
free-way client change changed.Whole = record { number = refl; owner = refl; shape = refl; idle = refl; start = refl }
free-way client change (changed.Refused node) = refused-way client node

return-way : (client : Client) (change : BitChange) (told : Changed) → OnWay client (on_return client change told)
return-way client change changed.Going = record { number = refl; owner = refl; shape = refl; idle = refl; start = refl }
return-way client change changed.Whole = record { number = refl; owner = refl; shape = refl; idle = refl; start = refl }
return-way client change (changed.Refused node) = refused-way client node

resumes-way : (kept : Kept) (client : Client) → OnWay client (resumes kept client)
resumes-way FromStart client = first-way client.operation client
resumes-way FromSeek client = record { number = refl; owner = refl; shape = refl; idle = refl; start = refl }
resumes-way FromChoose client = chooses-way client
resumes-way FromClear client = record { number = refl; owner = refl; shape = refl; idle = refl; start = refl }
resumes-way FromBody client = record { number = refl; owner = refl; shape = refl; idle = refl; start = refl }
resumes-way FromFind client = record { number = refl; owner = refl; shape = refl; idle = refl; start = refl }
resumes-way FromResolve client = record { number = refl; owner = refl; shape = refl; idle = refl; start = refl }
resumes-way FromFree client = by (object_in client.shape client.expect) refl
  where
    by : (object : Option Object) → object_in client.shape client.expect ≡ object → OnWay client (frees_again client)
    by None none = rw none (record { number = refl; owner = refl; shape = refl; idle = refl; start = refl })
    by (Some object) some = rw some (record { number = refl; owner = refl; shape = refl; idle = refl; start = refl })
resumes-way FromReturn client = record { number = refl; owner = refl; shape = refl; idle = refl; start = refl }

epoch-way : (client : Client) (found : ℕ) → OnWay client (on_epoch client found)
epoch-way client found = by (open_mask client.shape found) refl
  where
    by : (mask : Option ℕ) → open_mask client.shape found ≡ mask → OnWay client (on_epoch client found)
    by None none = rw none (record { number = refl; owner = refl; shape = refl; idle = refl; start = refl })
    by (Some mask) some = rw some (resumes-way FromStart (record client { mask = mask }))

paused-way : (client : Client) (word : ℕ) (kept : Kept) (found : ℕ) → OnWay client (on_paused client word kept found)
paused-way client word kept found = by (open_mask client.shape found) refl (found == word) refl
  where
    by : (mask : Option ℕ) → open_mask client.shape found ≡ mask → (t : Bool) → (found == word) ≡ t → OnWay client (on_paused client word kept found)
    by (Some mask) some t same = rw some (resumes-way kept (record client { mask = mask }))
    by None none true same = rw (none, same) (record { number = refl; owner = refl; shape = refl; idle = refl; start = refl })
    by None none false other = rw (none, other) (record { number = refl; owner = refl; shape = refl; idle = refl; start = refl })

lost-way : (client : Client) (node : ℕ) (kept : Kept) (found : ℕ) → OnWay client (on_lost client node kept found)
lost-way client node kept found = by (open_mask client.shape found) refl
  where
    by : (mask : Option ℕ) → open_mask client.shape found ≡ mask → OnWay client (on_lost client node kept found)
    by (Some mask) some = rw some (record { number = refl; owner = refl; shape = refl; idle = refl; start = refl })
    by None none = rw none (record { number = refl; owner = refl; shape = refl; idle = refl; start = refl })

round-way : (client : Client) (write : SlotWrite) (found : ℕ) → OnWay client (on_round client write found)
round-way client write found = by (open_mask client.shape found) refl
  where
    by : (mask : Option ℕ) → open_mask client.shape found ≡ mask → OnWay client (on_round client write found)
    by (Some mask) some = rw some (record { number = refl; owner = refl; shape = refl; idle = refl; start = refl })
    by None none = rw none (record { number = refl; owner = refl; shape = refl; idle = refl; start = refl })

-- the call stays as it is
waits : (client : Client) (stage : Stage) → is_idle_at stage ≡ false → is_start stage ≡ false → OnWay client (record { state = record client { stage = stage }; told = Going })
waits client stage idle start = record { number = refl; owner = refl; shape = refl; idle = idle; start = start }

way-at : (stage : Stage) (client : Client) (answer : Answer) → is_idle_at stage ≡ false → is_start stage ≡ false → OnWay client (turn_at stage (record client { stage = stage }) answer)
way-at Idle client answer idle start = absurd (false≢true (sym idle))
way-at Start client answer idle start = absurd (false≢true (sym start))
way-at ReadEpoch client (Word found) idle start = epoch-way (record client { stage = ReadEpoch }) found
way-at ReadEpoch client Done idle start = waits client ReadEpoch refl refl
way-at ReadEpoch client Lost idle start = waits client ReadEpoch refl refl
way-at (Pause word kept) client Done idle start = record { number = refl; owner = refl; shape = refl; idle = refl; start = refl }
way-at (Pause word kept) client (Word found) idle start = waits client (Pause word kept) refl refl
way-at (Pause word kept) client Lost idle start = waits client (Pause word kept) refl refl
way-at (Paused word kept) client (Word found) idle start = paused-way (record client { stage = Paused word kept }) word kept found
way-at (Paused word kept) client Done idle start = waits client (Paused word kept) refl refl
way-at (Paused word kept) client Lost idle start = waits client (Paused word kept) refl refl
way-at (LostNode node kept) client (Word found) idle start = lost-way (record client { stage = LostNode node kept }) node kept found
way-at (LostNode node kept) client Done idle start = waits client (LostNode node kept) refl refl
way-at (LostNode node kept) client Lost idle start = waits client (LostNode node kept) refl refl
way-at (Seek key_search) client answer idle start = let turned = search.turn key_search answer in seek-way (record client { stage = Seek key_search }) turned.state turned.told
way-at (Fetch value_read) client answer idle start = let turned = values.turn value_read answer in fetch-way (record client { stage = Fetch value_read }) turned.state turned.told
way-at Choose client answer idle start = let turned = choosing.turn client.stock answer in took-way (record client { stage = Choose }) turned.state turned.told
way-at (Clear change) client answer idle start = let turned = bits.turn change answer in clear-way (record client { stage = Clear change }) turned.state turned.told
way-at (Body write) client answer idle start = let turned = words.turn write answer in body-way (record client { stage = Body write }) turned.state turned.told
way-at (Find key_search) client answer idle start = finds_at-way key_search.phase (record client { stage = Find key_search }) key_search answer
way-at (ReadVersion word) client answer idle start = version-way (record client { stage = ReadVersion word }) word answer
way-at (Log write) client answer idle start = let turned = words.turn write answer in log-way (record client { stage = Log write }) turned.state turned.told
way-at (WriteSlot write) client answer idle start = let turned = slots.turn write answer in wrote-way (record client { stage = WriteSlot write }) turned.state turned.told
way-at (AwaitRound write) client (Word found) idle start = round-way (record client { stage = AwaitRound write }) write found
way-at (AwaitRound write) client Done idle start = waits client (AwaitRound write) refl refl
way-at (AwaitRound write) client Lost idle start = waits client (AwaitRound write) refl refl
way-at (TestKey key_test) client answer idle start = let turned = test.turn key_test answer in test-way (record client { stage = TestKey key_test }) turned.state turned.told
way-at (Resolve resolving) client answer idle start = let turned = resolution.turn resolving answer in resolved-way (record client { stage = Resolve resolving }) turned.state turned.told
way-at (Free change) client answer idle start = let turned = bits.turn change answer in free-way (record client { stage = Free change }) turned.state turned.told
way-at (Return change) client answer idle start = let turned = bits.turn change answer in return-way (record client { stage = Return change }) turned.state turned.told
way-at End client Done idle start = record { number = refl; owner = refl; shape = refl; idle = refl; start = refl }
way-at End client (Word found) idle start = waits client End refl refl
way-at End client Lost idle start = waits client End refl refl

-- what holds of every turn
pub record IsKept (client : Client) (turned : Turn Client Step) : Type 0 where
  pub number : turned.state.number ≡ client.number
  pub owner : turned.state.client ≡ client.client
  pub shape : turned.state.shape ≡ client.shape
  pub idle : is_idle client ≡ false → is_idle turned.state ≡ is_ended turned.told
  pub start : is_start turned.state.stage ≡ true → is_start client.stage ≡ true

kept-way : (client : Client) (turned : Turn Client Step) → OnWay client turned → IsKept client turned
kept-way client turned way = record { number = way.number; owner = way.owner; shape = way.shape; idle = λ open'. way.idle; start = λ is. absurd (false≢true (sym way.start ∙ is)) }

kept-at : (stage : Stage) (client : Client) (answer : Answer) → let origin = record client { stage = stage } in IsKept origin (turn_at stage origin answer)
kept-at Idle client answer = record { number = refl; owner = refl; shape = refl; idle = λ never. absurd (false≢true (sym never)); start = λ is. is }
kept-at Start client (Word found) = record { number = refl; owner = refl; shape = refl; idle = λ open'. refl; start = λ is. refl }
kept-at Start client Done = record { number = refl; owner = refl; shape = refl; idle = λ open'. refl; start = λ is. refl }
kept-at Start client Lost = record { number = refl; owner = refl; shape = refl; idle = λ open'. refl; start = λ is. refl }
kept-at ReadEpoch client answer = let origin = record client { stage = ReadEpoch } in kept-way origin (turn_at ReadEpoch origin answer) (way-at ReadEpoch client answer refl refl)
kept-at (Pause word kept) client answer = let origin = record client { stage = (Pause word kept) } in kept-way origin (turn_at (Pause word kept) origin answer) (way-at (Pause word kept) client answer refl refl)
kept-at (Paused word kept) client answer = let origin = record client { stage = (Paused word kept) } in kept-way origin (turn_at (Paused word kept) origin answer) (way-at (Paused word kept) client answer refl refl)
kept-at (LostNode node kept) client answer = let origin = record client { stage = (LostNode node kept) } in kept-way origin (turn_at (LostNode node kept) origin answer) (way-at (LostNode node kept) client answer refl refl)
kept-at (Seek key_search) client answer = let origin = record client { stage = (Seek key_search) } in kept-way origin (turn_at (Seek key_search) origin answer) (way-at (Seek key_search) client answer refl refl)
kept-at (Fetch value_read) client answer = let origin = record client { stage = (Fetch value_read) } in kept-way origin (turn_at (Fetch value_read) origin answer) (way-at (Fetch value_read) client answer refl refl)
kept-at Choose client answer = let origin = record client { stage = Choose } in kept-way origin (turn_at Choose origin answer) (way-at Choose client answer refl refl)
kept-at (Clear change) client answer = let origin = record client { stage = (Clear change) } in kept-way origin (turn_at (Clear change) origin answer) (way-at (Clear change) client answer refl refl)
kept-at (Body write) client answer = let origin = record client { stage = (Body write) } in kept-way origin (turn_at (Body write) origin answer) (way-at (Body write) client answer refl refl)
kept-at (Find key_search) client answer = let origin = record client { stage = (Find key_search) } in kept-way origin (turn_at (Find key_search) origin answer) (way-at (Find key_search) client answer refl refl)
kept-at (ReadVersion word) client answer = let origin = record client { stage = (ReadVersion word) } in kept-way origin (turn_at (ReadVersion word) origin answer) (way-at (ReadVersion word) client answer refl refl)
kept-at (Log write) client answer = let origin = record client { stage = (Log write) } in kept-way origin (turn_at (Log write) origin answer) (way-at (Log write) client answer refl refl)
kept-at (WriteSlot write) client answer = let origin = record client { stage = (WriteSlot write) } in kept-way origin (turn_at (WriteSlot write) origin answer) (way-at (WriteSlot write) client answer refl refl)
kept-at (AwaitRound write) client answer = let origin = record client { stage = (AwaitRound write) } in kept-way origin (turn_at (AwaitRound write) origin answer) (way-at (AwaitRound write) client answer refl refl)
kept-at (TestKey key_test) client answer = let origin = record client { stage = (TestKey key_test) } in kept-way origin (turn_at (TestKey key_test) origin answer) (way-at (TestKey key_test) client answer refl refl)
kept-at (Resolve resolving) client answer = let origin = record client { stage = (Resolve resolving) } in kept-way origin (turn_at (Resolve resolving) origin answer) (way-at (Resolve resolving) client answer refl refl)
kept-at (Free change) client answer = let origin = record client { stage = (Free change) } in kept-way origin (turn_at (Free change) origin answer) (way-at (Free change) client answer refl refl)
kept-at (Return change) client answer = let origin = record client { stage = (Return change) } in kept-way origin (turn_at (Return change) origin answer) (way-at (Return change) client answer refl refl)
kept-at End client answer = let origin = record client { stage = End } in kept-way origin (turn_at End origin answer) (way-at End client answer refl refl)

pub turn-kept : (client : Client) (answer : Answer) → IsKept client (turn client answer)
turn-kept client answer = kept-at client.stage client answer

-- The begin word.

start-at : (client : Client) (answer : Answer) → ((turn_at Start (record client { stage = Start }) answer).state.stage ≡ Start) ⊎ ((answer ≡ Done) × ((turn_at Start (record client { stage = Start }) answer).state.stage ≡ ReadEpoch))
start-at client (Word found) = inl refl
start-at client Done = inr (refl, refl)
start-at client Lost = inl refl

pub start-goes : (client : Client) (answer : Answer) → client.stage ≡ Start → ((turn client answer).state.stage ≡ Start) ⊎ ((answer ≡ Done) × ((turn client answer).state.stage ≡ ReadEpoch))
start-goes client answer at =
    subst (λ stage. ((turn_at stage (record client { stage = stage }) answer).state.stage ≡ Start) ⊎ ((answer ≡ Done) × ((turn_at stage (record client { stage = stage }) answer).state.stage ≡ ReadEpoch))) (sym at) (start-at client answer)

is-start : (stage : Stage) → is_start stage ≡ true → stage ≡ Start
is-start Start is = refl
is-start Idle is = absurd (false≢true is)
is-start ReadEpoch is = absurd (false≢true is)
is-start (Pause word kept) is = absurd (false≢true is)
is-start (Paused word kept) is = absurd (false≢true is)
is-start (LostNode node kept) is = absurd (false≢true is)
is-start (Seek key_search) is = absurd (false≢true is)
is-start (Fetch value_read) is = absurd (false≢true is)
is-start Choose is = absurd (false≢true is)
is-start (Clear change) is = absurd (false≢true is)
is-start (Body write) is = absurd (false≢true is)
is-start (Find key_search) is = absurd (false≢true is)
is-start (ReadVersion word) is = absurd (false≢true is)
is-start (Log write) is = absurd (false≢true is)
is-start (WriteSlot write) is = absurd (false≢true is)
is-start (AwaitRound write) is = absurd (false≢true is)
is-start (TestKey key_test) is = absurd (false≢true is)
is-start (Resolve resolving) is = absurd (false≢true is)
is-start (Free change) is = absurd (false≢true is)
is-start (Return change) is = absurd (false≢true is)
is-start End is = absurd (false≢true is)

pub start-once : (client : Client) (answer : Answer) → (turn client answer).state.stage ≡ Start → client.stage ≡ Start
start-once client answer at = is-start client.stage ((turn-kept client answer).start (ap is_start at))
