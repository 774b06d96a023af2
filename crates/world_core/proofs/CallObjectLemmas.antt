-- The object of a client's call, stage by stage; and the one stage at which a call ends.
use Rattle.std.proofs.Common.{◌≡◌, ℕ, ◌==◌, ◌⊎◌, inl, Bool, true, false, length, Option, Some, None, refl}
use Rattle.kv_ops.specs.Stepping.{is_ended}
use Rattle.machine.specs.declared.bit_change.Changed.{Changed}
use Rattle.machine.specs.declared.bit_change.Changed.TheVariants as changed
use Rattle.machine.specs.declared.choosing.Took.{Took}
use Rattle.machine.specs.declared.choosing.Took.TheVariants as took
use Rattle.machine.specs.declared.client_call.Step.{Step}
use Rattle.machine.specs.declared.key_search.Found.{Found}
use Rattle.machine.specs.declared.key_search.Found.TheVariants as found_as
use Rattle.machine.specs.declared.key_test.Tested.{Tested}
use Rattle.machine.specs.declared.key_test.Tested.TheVariants as tested
use Rattle.machine.specs.declared.object_write.Written.{Written}
use Rattle.machine.specs.declared.object_write.Written.TheVariants as written
use Rattle.machine.specs.declared.resolution.Resolved.{Resolved}
use Rattle.machine.specs.declared.resolution.Resolved.TheVariants as resolved
use Rattle.machine.specs.declared.slot_write.Wrote.{Wrote}
use Rattle.machine.specs.declared.slot_write.Wrote.TheVariants as wrote
use Rattle.machine.specs.declared.value_read.Fetched.{Fetched}
use Rattle.machine.specs.declared.value_read.Fetched.TheVariants as fetched_as
use Rattle.machine.specs.BitChange.{BitChange}
use Rattle.machine.specs.Choosing as choosing
use Rattle.machine.specs.Client.{chooses, fetches, finds_at, finds_on, first_turn, frees_again, fresh_of, is_beaten, kept_of, on_body, on_changed, on_clear, on_epoch, on_fetch, on_find, on_free, on_kind, on_log, on_lost, on_paused, on_resolved, on_return, on_round, on_searching, on_seek, on_test, on_took, on_version, on_wrote, own_object, refused, remembers, resumes, view_of, won}
use Rattle.machine.specs.EpochRead.{open_mask}
use Rattle.machine.specs.KeySearch as search
use Rattle.machine.specs.KeySearch.{KeySearch, key_search_of}
use Rattle.machine.specs.KeyTest.{KeyTest}
use Rattle.machine.specs.ObjectNames.{IsObject, Object, candidate_in, object_in}
use Rattle.machine.specs.Resolution.{Resolution}
use Rattle.machine.specs.SlotWrite.{SlotWrite}
use Rattle.machine.specs.Stage.{Client, Kept, FromStart, FromSeek, FromChoose, FromClear, FromBody, FromFind, FromResolve, FromFree, FromReturn, Operation, Get, Put, Delete, Stage, Idle, Start, ReadEpoch, Pause, Paused, LostNode, Seek, Fetch, Choose, Clear, Body, Find, ReadVersion, Log, WriteSlot, AwaitRound, TestKey, Resolve, Free, Return, End}
use Rattle.machine.specs.Stock.{Stock}
use Rattle.machine.specs.Turn.{Turn}
use Rattle.machine.specs.ValueRead.{ValueRead}
use Rattle.machine.specs.WordsWrite.{WordsWrite}
use Rattle.object_form.specs.Class.{class_in}
use Rattle.object_form.specs.declared.metas.Kind.{Kind}
use Rattle.object_form.specs.declared.metas.Kind.TheVariants.{Value, Tombstone}
use Rattle.verb_words.specs.declared.verbs.Answer.{Answer}
use Rattle.verb_words.specs.declared.verbs.Answer.TheVariants.{Word, Done, Lost}

-- the call has no object yet, or has one
abbrev pub MayOwn : Client → Type 0
MayOwn client = (client.object ≡ 0) ⊎ IsObject client.shape (own_object client)

-- a call that goes on from before its choosing has no object
abbrev pub HasNone : Kept → ℕ → Type 0
HasNone FromStart object = object ≡ 0
HasNone FromSeek object = object ≡ 0
HasNone FromChoose object = object ≡ 0
HasNone FromClear object = Unit {0}
HasNone FromBody object = Unit {0}
HasNone FromFind object = Unit {0}
HasNone FromResolve object = Unit {0}
HasNone FromFree object = Unit {0}
HasNone FromReturn object = Unit {0}

-- what is to be said of the call's object at a stage, beside what the machine says there of every client
abbrev pub ObjectAt : Stage → Client → Type 0
ObjectAt Idle client = Unit {0}
ObjectAt Start client = client.object ≡ 0
ObjectAt ReadEpoch client = client.object ≡ 0
ObjectAt (Pause word kept) client = HasNone kept client.object
ObjectAt (Paused word kept) client = HasNone kept client.object
ObjectAt (LostNode node kept) client = HasNone kept client.object
ObjectAt (Seek key_search) client = client.object ≡ 0
ObjectAt (Fetch value_read) client = client.object ≡ 0
ObjectAt Choose client = client.object ≡ 0
ObjectAt (Clear change) client = Unit {0}
ObjectAt (Body write) client = Unit {0}
ObjectAt (Find key_search) client = Unit {0}
ObjectAt (ReadVersion word) client = Unit {0}
ObjectAt (Log write) client = Unit {0}
ObjectAt (WriteSlot write) client = Unit {0}
ObjectAt (AwaitRound write) client = Unit {0}
ObjectAt (TestKey key_test) client = Unit {0}
ObjectAt (Resolve resolving) client = Unit {0}
ObjectAt (Free change) client = Unit {0}
ObjectAt (Return change) client = Unit {0}
ObjectAt End client = MayOwn client

-- the turn does not end the call, and where this is given its object is as its stage has it
pub record IsRow (Given : Type 0) (turned : Turn Client Step) : Type 0 where
  pub goes : is_ended turned.told ≡ false
  pub object : Given → ObjectAt turned.state.stage turned.state

pub given : {G H : Type 0} {turned : Turn Client Step} → (G → H) → IsRow H turned → IsRow G turned
given from row = record { goes = row.goes; object = λ g. row.object (from g) }

-- a turn to a stage at which there is nothing to say
plain : {G : Type 0} {turned : Turn Client Step} → is_ended turned.told ≡ false → ObjectAt turned.state.stage turned.state → IsRow G turned
plain goes object = record { goes = goes; object = λ g. object }

none_for : (kept : Kept) (object : ℕ) → object ≡ 0 → HasNone kept object
none_for FromStart object none = none
none_for FromSeek object none = none
none_for FromChoose object none = none
none_for FromClear object none = tt
none_for FromBody object none = tt
none_for FromFind object none = tt
none_for FromResolve object none = tt
none_for FromFree object none = tt
none_for FromReturn object none = tt

-- Before the call has an object.

refused-row : (client : Client) (node : ℕ) → IsRow (HasNone (kept_of client.stage) client.object) (refused client node)
refused-row client node = record { goes = refl; object = λ none. none }

refused-early : (client : Client) (node : ℕ) → IsRow (client.object ≡ 0) (refused client node)
refused-early client node = given (none_for (kept_of client.stage) client.object) (refused-row client node)

pub took-row : (client : Client) (stock : Stock) (told : Took) → IsRow (client.object ≡ 0) (on_took client stock told)
took-row client stock took.Going = record { goes = refl; object = λ none. none }
took-row client stock (took.Have object next) = plain refl tt
took-row client stock (took.NoSpace class awaited begin) = record { goes = refl; object = λ none. inl none }
took-row client stock (took.Refused node) = refused-early (record client { stock = stock }) node

chooses-row : (client : Client) → IsRow (client.object ≡ 0) (chooses client)
chooses-row client = let turned = choosing.begins client.stock client.mask client.class in took-row client turned.state turned.told

first-row : (operation : Operation) (client : Client) → IsRow (client.object ≡ 0) (first_turn operation client)
first-row Put client = chooses-row (record client { class = class_in (length client.key) (length client.value) })
first-row Get client = record { goes = refl; object = λ none. none }
first-row Delete client = record { goes = refl; object = λ none. none }

kind-row : (kind : Kind) (operation : Operation) (client : Client) (word value_len : ℕ) → IsRow (client.object ≡ 0) (on_kind kind (record client { operation = operation }) word value_len)
kind-row Tombstone operation client word value_len = record { goes = refl; object = λ none. inl none }
kind-row Value Put client word value_len = chooses-row (record client { operation = Put; class = class_in (length client.key) (length client.value) })
kind-row Value Delete client word value_len = chooses-row (record client { operation = Delete; class = class_in (length client.key) (length client.value) })
kind-row Value Get client word value_len = by (value_len == 0) refl
  where
    by : (t : Bool) → (value_len == 0) ≡ t → IsRow (client.object ≡ 0) (fetches (record client { operation = Get }) word value_len)
    by true none = rw none (record { goes = refl; object = λ none. inl none })
    by false some = rw some (record { goes = refl; object = λ none. none })

pub seek-row : (client : Client) (key_search : KeySearch) (found : Found) → IsRow (client.object ≡ 0) (on_seek client key_search found)
seek-row client key_search found_as.Going = record { goes = refl; object = λ none. none }
seek-row client key_search (found_as.Empty slot) = record { goes = refl; object = λ none. inl none }
seek-row client key_search (found_as.At slot word kind value_len) = kind-row kind client.operation (remembers client key_search.place) word value_len
seek-row client key_search found_as.Nowhere = record { goes = refl; object = λ none. inl none }
seek-row client key_search (found_as.Refused node) = refused-early client node

pub fetch-row : (client : Client) (value_read : ValueRead) (told : Fetched) → IsRow (client.object ≡ 0) (on_fetch client value_read told)
fetch-row client value_read fetched_as.Going = record { goes = refl; object = λ none. none }
fetch-row client value_read fetched_as.Whole = record { goes = refl; object = λ none. inl none }
fetch-row client value_read (fetched_as.Refused node) = refused-early client node

-- Once it has one.

abbrev pub IsLate : Client → Type 0
IsLate client = MayOwn client × HasNone (kept_of client.stage) client.object

refused-late : (client : Client) (node : ℕ) → IsRow (IsLate client) (refused client node)
refused-late client node = given (λ g. g.1) (refused-row client node)

pub clear-row : (client : Client) (change : BitChange) (told : Changed) → IsRow (IsLate client) (on_clear client change told)
clear-row client change changed.Going = plain refl tt
clear-row client change changed.Whole = plain refl tt
clear-row client change (changed.Refused node) = refused-late client node

pub body-row : (client : Client) (write : WordsWrite) (told : Written) → IsRow (IsLate client) (on_body client write told)
body-row client write written.Going = plain refl tt
body-row client write written.Whole = plain refl tt
body-row client write (written.Refused node) = refused-late client node

find-row : (client : Client) (key_search : KeySearch) (found : Found) → IsRow (IsLate client) (on_find client key_search found)
find-row client key_search found_as.Going = plain refl tt
find-row client key_search (found_as.Empty slot) = plain refl tt
find-row client key_search (found_as.At slot word kind value_len) = plain refl tt
find-row client key_search found_as.Nowhere = plain refl tt
find-row client key_search (found_as.Refused node) = refused-late client node

searching-row : (client : Client) (searched : Turn KeySearch Found) → IsRow (IsLate client) (on_searching client searched)
searching-row client searched = find-row client searched.state searched.told

pub finds_at-row : (phase : search.Phase) (client : Client) (key_search : KeySearch) (answer : Answer) → IsRow (IsLate client) (finds_at phase client key_search answer)
finds_at-row search.AtSlot client key_search (Word word) = by (word == fresh_of client) refl
  where
    by : (t : Bool) → (word == fresh_of client) ≡ t → IsRow (IsLate client) (finds_at search.AtSlot client key_search (Word word))
    by true own = rw own (searching-row client (search.passed key_search))
    by false other = rw other (searching-row client (search.turn key_search (Word word)))
finds_at-row search.AtSlot client key_search Done = searching-row client (search.turn key_search Done)
finds_at-row search.AtSlot client key_search Lost = searching-row client (search.turn key_search Lost)
finds_at-row (search.AtKey word key_test) client key_search (Word found) = searching-row client (search.turn key_search (Word found))
finds_at-row (search.AtKey word key_test) client key_search Done = searching-row client (search.turn key_search Done)
finds_at-row (search.AtKey word key_test) client key_search Lost = searching-row client (search.turn key_search Lost)

finds_on-row : (client : Client) → IsRow (IsLate client) (finds_on client)
finds_on-row client = searching-row client (search.passed (key_search_of (view_of client) client.key client.place))

pub version-row : (client : Client) (word : ℕ) (answer : Answer) → IsRow (IsLate client) (on_version client word answer)
version-row client word (Word found) = plain refl tt
version-row client word Done = plain refl tt
version-row client word Lost = refused-late client _

pub log-row : (client : Client) (write : WordsWrite) (told : Written) → IsRow (IsLate client) (on_log client write told)
log-row client write written.Going = plain refl tt
log-row client write written.Whole = plain refl tt
log-row client write (written.Refused node) = refused-late client node

won-row : (client : Client) → IsRow (IsLate client) (won client)
won-row client = by (object_in client.shape client.expect) refl
  where
    by : (object : Option Object) → object_in client.shape client.expect ≡ object → IsRow (IsLate client) (won client)
    by None none = rw none (record { goes = refl; object = λ g. g.0 })
    by (Some object) some = rw some (plain refl tt)

beaten-row : (client : Client) → IsRow (IsLate client) (is_beaten client)
beaten-row client = plain refl tt

changed-row : (client : Client) (word : ℕ) → IsRow (IsLate client) (on_changed client word)
changed-row client word = by (client.expect == 0) refl (candidate_in client.shape client.key word) refl
  where
    by : (t : Bool) → (client.expect == 0) ≡ t → (object : Option Object) → candidate_in client.shape client.key word ≡ object → IsRow (IsLate client) (on_changed client word)
    by false full object candidate = rw full (beaten-row client)
    by true empty None none = rw (empty, none) (finds_on-row client)
    by true empty (Some object) some = rw (empty, some) (plain refl tt)

pub wrote-row : (client : Client) (write : SlotWrite) (told : Wrote) → IsRow (IsLate client) (on_wrote client write told)
wrote-row client write wrote.Going = plain refl tt
wrote-row client write wrote.Won = won-row client
wrote-row client write (wrote.Changed word) = changed-row client word
wrote-row client write (wrote.Unchanged word) = plain refl tt
wrote-row client write (wrote.Refused node) = refused-late client node

pub test-row : (client : Client) (key_test : KeyTest) (told : Tested) → IsRow (IsLate client) (on_test client key_test told)
test-row client key_test tested.Going = plain refl tt
test-row client key_test (tested.Same kind value_len) = beaten-row client
test-row client key_test tested.Other = finds_on-row client
test-row client key_test (tested.Refused node) = refused-late client node

pub resolved-row : (client : Client) (resolving : Resolution) (told : Resolved) → IsRow (IsLate client) (on_resolved client resolving told)
resolved-row client resolving resolved.Going = plain refl tt
resolved-row client resolving resolved.Still = plain refl tt
resolved-row client resolving resolved.Won = won-row client
resolved-row client resolving resolved.Beaten = beaten-row client
resolved-row client resolving resolved.OtherKey = finds_on-row client
resolved-row client resolving (resolved.Refused node) = refused-late client node

pub free-row : (client : Client) (change : BitChange) (told : Changed) → IsRow (IsLate client) (on_free client change told)
free-row client change changed.Going = plain refl tt
free-row client change changed.Whole = record { goes = refl; object = λ g. g.0 }
free-row client change (changed.Refused node) = refused-late client node

pub return-row : (client : Client) (change : BitChange) (told : Changed) → IsRow (IsLate client) (on_return client change told)
return-row client change changed.Going = plain refl tt
return-row client change changed.Whole = record { goes = refl; object = λ g. g.0 }
return-row client change (changed.Refused node) = refused-late client node

-- The epoch word.

resumes-row : (kept : Kept) (client : Client) → IsRow (MayOwn client × HasNone kept client.object) (resumes kept client)
resumes-row FromStart client = given (λ g. g.1) (first-row client.operation client)
resumes-row FromSeek client = record { goes = refl; object = λ g. g.1 }
resumes-row FromChoose client = given (λ g. g.1) (chooses-row client)
resumes-row FromClear client = plain refl tt
resumes-row FromBody client = plain refl tt
resumes-row FromFind client = plain refl tt
resumes-row FromResolve client = plain refl tt
resumes-row FromFree client = by (object_in client.shape client.expect) refl
  where
    by : (object : Option Object) → object_in client.shape client.expect ≡ object → IsRow (MayOwn client × HasNone FromFree client.object) (frees_again client)
    by None none = rw none (record { goes = refl; object = λ g. g.0 })
    by (Some object) some = rw some (plain refl tt)
resumes-row FromReturn client = plain refl tt

pub epoch-row : (client : Client) (found : ℕ) → IsRow (client.object ≡ 0) (on_epoch client found)
epoch-row client found = by (open_mask client.shape found) refl
  where
    by : (mask : Option ℕ) → open_mask client.shape found ≡ mask → IsRow (client.object ≡ 0) (on_epoch client found)
    by None none = rw none (record { goes = refl; object = λ g. g })
    by (Some mask) some = rw some (first-row client.operation (record client { mask = mask }))

pub paused-row : (client : Client) (word : ℕ) (kept : Kept) (found : ℕ) → IsRow (MayOwn client × HasNone kept client.object) (on_paused client word kept found)
paused-row client word kept found = by (open_mask client.shape found) refl (found == word) refl
  where
    by : (mask : Option ℕ) → open_mask client.shape found ≡ mask → (t : Bool) → (found == word) ≡ t → IsRow (MayOwn client × HasNone kept client.object) (on_paused client word kept found)
    by (Some mask) some t same = rw some (resumes-row kept (record client { mask = mask }))
    by None none true same = rw (none, same) (record { goes = refl; object = λ g. g.1 })
    by None none false other = rw (none, other) (record { goes = refl; object = λ g. g.1 })

pub lost-row : (client : Client) (node : ℕ) (kept : Kept) (found : ℕ) → IsRow (HasNone kept client.object) (on_lost client node kept found)
lost-row client node kept found = by (open_mask client.shape found) refl
  where
    by : (mask : Option ℕ) → open_mask client.shape found ≡ mask → IsRow (HasNone kept client.object) (on_lost client node kept found)
    by (Some mask) some = rw some (record { goes = refl; object = λ none. none })
    by None none = rw none (record { goes = refl; object = λ none. none })

pub round-row : (G : Type 0) (client : Client) (write : SlotWrite) (found : ℕ) → IsRow G (on_round client write found)
round-row G client write found = by (open_mask client.shape found) refl
  where
    by : (mask : Option ℕ) → open_mask client.shape found ≡ mask → IsRow G (on_round client write found)
    by (Some mask) some = rw some (plain refl tt)
    by None none = rw none (plain refl tt)
