-- The call of a client: its verbs, what each answer makes of it, and what it tells.
use Rattle.std.specs.Prelude.{ℕ, ◌+◌, ◌-◌, ◌*◌, ◌%◌, ◌^◌, Bool, true, false, ◌&&◌, ◌==◌, nat_lt, nat_le, if◌then◌else◌, List, [], length, slice_index, Option, Some, None}
use Rattle.std.specs.Option.{option_map_or}
use Rattle.machine.specs.declared.bit_change.Changed.{Changed}
use Rattle.machine.specs.declared.bit_change.Changed.TheVariants as changed
use Rattle.machine.specs.declared.choosing.Took.{Took}
use Rattle.machine.specs.declared.choosing.Took.TheVariants as took
use Rattle.machine.specs.declared.client_call.Before.{Before}
use Rattle.machine.specs.declared.client_call.Before.TheVariants.{KeyLength, ValueLength, Spent}
use Rattle.machine.specs.declared.client_call.Outcome.{Outcome}
use Rattle.machine.specs.declared.client_call.Outcome.TheVariants as outcome
use Rattle.machine.specs.declared.client_call.Step.{Step}
use Rattle.machine.specs.declared.client_call.Step.TheVariants.{Going, Ended, NotYet}
use Rattle.machine.specs.declared.key_search.Found.{Found}
use Rattle.machine.specs.declared.key_search.Found.TheVariants as found_as
use Rattle.machine.specs.declared.key_test.Tested.{Tested}
use Rattle.machine.specs.declared.key_test.Tested.TheVariants as tested
use Rattle.machine.specs.declared.object_write.Written.{Written}
use Rattle.machine.specs.declared.object_write.Written.TheVariants as written
use Rattle.machine.specs.declared.resolution.Resolved.{Resolved}
use Rattle.machine.specs.declared.resolution.Resolved.TheVariants as resolved
use Rattle.machine.specs.declared.slot_write.Wrote.{Wrote}
use Rattle.machine.specs.declared.slot_write.Wrote.TheVariants as wrote
use Rattle.machine.specs.declared.value_read.Fetched.{Fetched}
use Rattle.machine.specs.declared.value_read.Fetched.TheVariants as fetched_as
use Rattle.machine.specs.BitChange as bits
use Rattle.machine.specs.BitChange.{BitChange, bit_change_of}
use Rattle.machine.specs.Choosing as choosing
use Rattle.machine.specs.EpochRead.{open_mask}
use Rattle.machine.specs.KeySearch as search
use Rattle.machine.specs.KeySearch.{KeySearch, key_search_of}
use Rattle.machine.specs.KeyTest as test
use Rattle.machine.specs.KeyTest.{KeyTest, key_test_of}
use Rattle.machine.specs.ObjectNames.{Object, candidate_in, object_in, pointer_in, word_for}
use Rattle.machine.specs.Places.{control, object_word, primary_place}
use Rattle.machine.specs.Remembered.{place_for, with_place}
use Rattle.machine.specs.Resolution as resolution
use Rattle.machine.specs.Resolution.{Resolution, resolution_of}
use Rattle.machine.specs.SlotWrite as slots
use Rattle.machine.specs.SlotWrite.{SlotWrite, slot_write_of}
use Rattle.machine.specs.Stage.{Client, Kept, FromStart, FromSeek, FromChoose, FromClear, FromBody, FromFind, FromResolve, FromFree, FromReturn, Operation, Get, Put, Delete, Stage, Idle, Start, ReadEpoch, Pause, Paused, LostNode, Seek, Fetch, Choose, Clear, Body, Find, ReadVersion, Log, WriteSlot, AwaitRound, TestKey, Resolve, Free, Return, End}
use Rattle.machine.specs.Stock.{Stock}
use Rattle.machine.specs.Turn.{Turn}
use Rattle.machine.specs.ValueRead as values
use Rattle.machine.specs.ValueRead.{ValueRead, value_read_of}
use Rattle.machine.specs.WordsWrite as words
use Rattle.machine.specs.WordsWrite.{WordsWrite, body_of, log_of, words_write_of}
use Rattle.object_form.specs.declared.classes.TheConstants.{LONGEST}
use Rattle.object_form.specs.declared.links.Link.{Link}
use Rattle.object_form.specs.declared.metas.Kind.{Kind}
use Rattle.object_form.specs.declared.metas.Kind.TheVariants.{Value, Tombstone}
use Rattle.object_form.specs.Class.{class_in}
use Rattle.region_view.specs.Control.{EpochWord, Begin, Pause as pause_word}
use Rattle.region_view.specs.Placed.{Viewed}
use Rattle.slot_order.specs.Slots.{order_of}
use Rattle.verb_words.specs.declared.verbs.Answer.{Answer}
use Rattle.verb_words.specs.declared.verbs.Answer.TheVariants.{Word, Done, Lost}
use Rattle.verb_words.specs.declared.verbs.Place.{Place}
use Rattle.verb_words.specs.declared.verbs.Verb.{Verb}
use Rattle.verb_words.specs.declared.verbs.Verb.TheVariants.{Read, Write}
use Rattle.verb_words.specs.declared.verbs.Why.{Why}
use Rattle.verb_words.specs.declared.verbs.Why.TheVariants as why
use Rattle.verb_words.specs.Verb.{place_of}

-- Of the client and its call.

abbrev pub view_of : Client → Viewed
view_of client = record { shape = client.shape; mask = client.mask }

-- the call's object
abbrev pub own_object : Client → Object
own_object client = record { pointer = client.object; class = client.class }

-- the slot word that names the call's object
abbrev pub fresh_of : Client → ℕ
fresh_of client = word_for client.key client.class client.object

-- the slot at the call's place of the order
abbrev pub slot_of : Client → ℕ
slot_of client = slice_index (order_of client.key client.shape.groups) client.place

abbrev pub kind_of : Operation → Kind
kind_of Delete = Tombstone
kind_of operation = Value

abbrev pub link_of : Client → Link
link_of client = record { client = client.client; call = client.number; next = client.reserve }

abbrev pub remembers : Client → ℕ → Client
remembers client place = record client { place = place; remembered = with_place client.remembered client.key place }

-- The turns of a call.

abbrev pub goes_to : Client → Stage → Turn Client Step
goes_to client stage = record { state = record client { stage = stage }; told = Going }

abbrev pub stays : Client → Stage → Why → Turn Client Step
stays client stage reason = record { state = record client { stage = stage }; told = NotYet reason }

-- it goes on to return so
abbrev pub ends : Client → Outcome → Turn Client Step
ends client result = goes_to (record client { outcome = result }) End

-- what is kept of a stage that a lost node interrupts
abbrev pub kept_of : Stage → Kept
kept_of (Seek key_search) = FromSeek
kept_of (Fetch value_read) = FromSeek
kept_of Choose = FromChoose
kept_of (Clear change) = FromClear
kept_of (Body write) = FromBody
kept_of (Find key_search) = FromFind
kept_of (ReadVersion word) = FromFind
kept_of (Log write) = FromResolve
kept_of (WriteSlot write) = FromResolve
kept_of (AwaitRound write) = FromResolve
kept_of (TestKey key_test) = FromResolve
kept_of (Resolve resolving) = FromResolve
kept_of (Free change) = FromFree
kept_of (Return change) = FromReturn
kept_of stage = FromStart

-- a node refused the verb, since it is lost
abbrev pub refused : Client → ℕ → Turn Client Step
refused client node = stays client (LostNode node (kept_of client.stage)) (why.Lost node)

-- a search from the place that is remembered, else from the first of the order
abbrev pub search_of : Client → KeySearch
search_of client = key_search_of (view_of client) client.key (place_for client.remembered client.key)

-- A choosing, and what it tells.
abbrev pub on_took : Client → Stock → Took → Turn Client Step
on_took client stock took.Going = goes_to (record client { stock = stock }) Choose
on_took client stock (took.Have object next) =
    goes_to (record client { stock = stock; object = object; reserve = next })
    (Clear (bit_change_of (view_of client) (record { pointer = object; class = client.class }) false false))
on_took client stock (took.NoSpace class awaited begin) = ends (record client { stock = stock }) (outcome.NoSpace class awaited begin)
on_took client stock (took.Refused node) = refused (record client { stock = stock }) node

abbrev pub on_choosing : Client → Turn Stock Took → Turn Client Step
on_choosing client turn = on_took client turn.state turn.told

abbrev pub chooses : Client → Turn Client Step
chooses client = on_choosing client (choosing.begins client.stock client.mask client.class)

-- a choosing of an object for a key of the call and a value of this length
abbrev pub chooses_for : Client → ℕ → Turn Client Step
chooses_for client value_len = chooses (record client { class = class_in (length client.key) value_len })

-- the first phase of a call
abbrev pub first_turn : Operation → Client → Turn Client Step
first_turn Put client = chooses_for client (length client.value)
first_turn operation client = goes_to client (Seek (search_of client))

-- The clearing of the object's bit, and the writing of the object.
abbrev pub write_body : Client → WordsWrite
write_body client =
    words_write_of (view_of client) client.object (body_of (kind_of client.operation) client.key client.value (link_of client))

abbrev pub cleared : Client → Turn Client Step
cleared client =
    let with_next = record client { stock = choosing.taken client.stock client.class client.reserve } in
    goes_to with_next (Body (write_body with_next))

abbrev pub on_clear : Client → BitChange → Changed → Turn Client Step
on_clear client change changed.Going = goes_to client (Clear change)
on_clear client change changed.Whole = cleared client
on_clear client change (changed.Refused node) = refused client node

abbrev pub on_body : Client → WordsWrite → Written → Turn Client Step
on_body client write written.Going = goes_to client (Body write)
on_body client write written.Whole = goes_to client (Find (search_of client))
on_body client write (written.Refused node) = refused client node

-- The first search of a get or a delete.
abbrev pub absent : Operation → Outcome
absent Get = outcome.Absent
absent operation = outcome.Done

abbrev pub fetches : Client → ℕ → ℕ → Turn Client Step
fetches client word value_len =
    if value_len == 0
    then ends (record client { fetched = [] }) outcome.Value
    else goes_to client (Fetch (value_read_of (view_of client) (pointer_in word) (length client.key) value_len))

-- a value was found: a get reads it, and a delete, which has no value, chooses an object for its tombstone
abbrev pub on_value : Operation → Client → ℕ → ℕ → Turn Client Step
on_value Get client word value_len = fetches client word value_len
on_value operation client word value_len = chooses_for client (length client.value)

abbrev pub on_kind : Kind → Client → ℕ → ℕ → Turn Client Step
on_kind Value client word value_len = on_value client.operation client word value_len
on_kind Tombstone client word value_len = ends client (absent client.operation)

abbrev pub on_seek : Client → KeySearch → Found → Turn Client Step
on_seek client key_search found_as.Going = goes_to client (Seek key_search)
on_seek client key_search (found_as.Empty slot) = ends client (absent client.operation)
on_seek client key_search (found_as.At slot word kind value_len) = on_kind kind (remembers client key_search.place) word value_len
on_seek client key_search found_as.Nowhere = ends client (absent client.operation)
on_seek client key_search (found_as.Refused node) = refused client node

abbrev pub on_fetch : Client → ValueRead → Fetched → Turn Client Step
on_fetch client value_read fetched_as.Going = goes_to client (Fetch value_read)
on_fetch client value_read fetched_as.Whole = ends (record client { fetched = values.bytes_of value_read }) outcome.Value
on_fetch client value_read (fetched_as.Refused node) = refused client node

-- The search for the slot to write.

-- the object's bit is set again, and the call returns so
abbrev pub gives_back : Client → Outcome → Turn Client Step
gives_back client result =
    goes_to (record client { outcome = result }) (Return (bit_change_of (view_of client) (own_object client) true false))

-- what the slot had is logged, with the version after its version
abbrev pub logs : Client → Turn Client Step
logs client = goes_to client (Log (words_write_of (view_of client) client.object (log_of client.expect client.version)))

abbrev pub on_find : Client → KeySearch → Found → Turn Client Step
on_find client key_search found_as.Going = goes_to client (Find key_search)
on_find client key_search (found_as.Empty slot) = logs (record client { place = key_search.place; expect = 0; version = 1 })
on_find client key_search (found_as.At slot word kind value_len) = goes_to (remembers client key_search.place) (ReadVersion word)
on_find client key_search found_as.Nowhere = gives_back client outcome.Full
on_find client key_search (found_as.Refused node) = refused client node

abbrev pub on_searching : Client → Turn KeySearch Found → Turn Client Step
on_searching client turn = on_find client turn.state turn.told

-- the slot of a search that has its own word is passed over
abbrev pub finds_at : search.Phase → Client → KeySearch → Answer → Turn Client Step
finds_at search.AtSlot client key_search (Word word) =
    if word == fresh_of client
    then on_searching client (search.passed key_search)
    else on_searching client (search.turn key_search (Word word))
finds_at phase client key_search answer = on_searching client (search.turn key_search answer)

-- the search goes on behind the call's place
abbrev pub finds_on : Client → Turn Client Step
finds_on client = on_searching client (search.passed (key_search_of (view_of client) client.key client.place))

abbrev pub on_version : Client → ℕ → Answer → Turn Client Step
on_version client word (Word found) = logs (record client { expect = word; version = (found + 1) % 2 ^ 64 })
on_version client word Done = goes_to client (ReadVersion word)
on_version client word Lost = refused client (place_of (Read (primary_place (view_of client) (object_word (pointer_in word) 2)))).node

abbrev pub on_log : Client → WordsWrite → Written → Turn Client Step
on_log client write written.Going = goes_to client (Log write)
on_log client write written.Whole =
    goes_to client (WriteSlot (slot_write_of (view_of client) (slot_of client) client.expect (fresh_of client)))
on_log client write (written.Refused node) = refused client node

-- The slot write, and how it went.

-- the call's word was the slot's: the bit of the object that it replaced is set
abbrev pub won : Client → Turn Client Step
won client =
    option_map_or
    (λ object. goes_to (record (remembers client client.place) { outcome = outcome.Done }) (Free (bit_change_of (view_of client) object true false)))
    (object_in client.shape client.expect)
    (ends (remembers client client.place) outcome.Done)

abbrev pub is_beaten : Client → Turn Client Step
is_beaten client = gives_back (record client { beaten = Some (slot_of client, client.version) }) outcome.Done

-- the slot has another word than the one expected
abbrev pub on_changed : Client → ℕ → Turn Client Step
on_changed client word =
    if client.expect == 0
    then option_map_or
    (λ object. goes_to client (TestKey (key_test_of (view_of client) client.key object)))
    (candidate_in client.shape client.key word)
    (finds_on client)
    else is_beaten client

abbrev pub on_wrote : Client → SlotWrite → Wrote → Turn Client Step
on_wrote client write wrote.Going = goes_to client (WriteSlot write)
on_wrote client write wrote.Won = won client
on_wrote client write (wrote.Changed word) = on_changed client word
on_wrote client write (wrote.Unchanged word) = stays client (AwaitRound write) (why.Unchanged (slot_of client) word)
on_wrote client write (wrote.Refused node) = refused client node

abbrev pub on_test : Client → KeyTest → Tested → Turn Client Step
on_test client key_test tested.Going = goes_to client (TestKey key_test)
on_test client key_test (tested.Same kind value_len) = is_beaten client
on_test client key_test tested.Other = finds_on client
on_test client key_test (tested.Refused node) = refused client node

abbrev pub on_resolved : Client → Resolution → Resolved → Turn Client Step
on_resolved client resolving resolved.Going = goes_to client (Resolve resolving)
on_resolved client resolving resolved.Still = logs client
on_resolved client resolving resolved.Won = won client
on_resolved client resolving resolved.Beaten = is_beaten client
on_resolved client resolving resolved.OtherKey = finds_on client
on_resolved client resolving (resolved.Refused node) = refused client node

abbrev pub on_free : Client → BitChange → Changed → Turn Client Step
on_free client change changed.Going = goes_to client (Free change)
on_free client change changed.Whole = goes_to client End
on_free client change (changed.Refused node) = refused client node

abbrev pub on_return : Client → BitChange → Changed → Turn Client Step
on_return client change changed.Going = goes_to client (Return change)
on_return client change changed.Whole = goes_to client End
on_return client change (changed.Refused node) = refused client node

-- The epoch word.

abbrev pub resolution_for : Client → Resolution
resolution_for client =
    resolution_of (view_of client) (slot_of client) client.expect (fresh_of client) client.version client.key

-- where there is no object that was replaced, its bit is set already
abbrev pub frees_again : Client → Turn Client Step
frees_again client =
    option_map_or
    (λ object. goes_to client (Free (bit_change_of (view_of client) object true true)))
    (object_in client.shape client.expect)
    (goes_to client End)

-- the call goes on under the view that is held now
abbrev pub resumes : Kept → Client → Turn Client Step
resumes FromStart client = first_turn client.operation client
resumes FromSeek client = goes_to client (Seek (search_of client))
resumes FromChoose client = chooses client
resumes FromClear client = goes_to client (Clear (bit_change_of (view_of client) (own_object client) false true))
resumes FromBody client = goes_to client (Body (write_body client))
resumes FromFind client = goes_to client (Find (search_of client))
resumes FromResolve client = goes_to client (Resolve (resolution_for client))
resumes FromFree client = frees_again client
resumes FromReturn client = goes_to client (Return (bit_change_of (view_of client) (own_object client) true true))

abbrev pub resumes_with : Kept → Client → ℕ → Turn Client Step
resumes_with kept client mask = resumes kept (record client { mask = mask })

-- the epoch word is read for the first time in the call
abbrev pub on_epoch : Client → ℕ → Turn Client Step
on_epoch client found =
    option_map_or (resumes_with FromStart client) (open_mask client.shape found) (goes_to client (Pause found FromStart))

-- it is read after the pause word was written
abbrev pub on_paused : Client → ℕ → Kept → ℕ → Turn Client Step
on_paused client word kept found =
    option_map_or
    (resumes_with kept client)
    (open_mask client.shape found)
    (if found == word then stays client (Paused word kept) (why.Sealed found) else goes_to client (Pause found kept))

-- it is read after a node was found lost: the call waits until the epoch is sealed
abbrev pub on_lost : Client → ℕ → Kept → ℕ → Turn Client Step
on_lost client node kept found =
    option_map_or
    (λ mask. stays client (LostNode node kept) (why.Lost node))
    (open_mask client.shape found)
    (goes_to client (Pause found kept))

-- it is read while another writer's round goes on
abbrev pub on_round : Client → SlotWrite → ℕ → Turn Client Step
on_round client write found =
    option_map_or
    (λ mask. goes_to client (WriteSlot write))
    (open_mask client.shape found)
    (goes_to client (Pause found FromResolve))

-- The whole.

abbrev pub begin_place : Client → Place
begin_place client = control (Begin client.client)

abbrev pub verb_at : Stage → Client → Verb
verb_at Idle client = Read (control EpochWord)
verb_at Start client = Write (begin_place client) (2 * client.number - 1)
verb_at ReadEpoch client = Read (control EpochWord)
verb_at (Pause word kept) client = Write (control (pause_word client.client)) word
verb_at (Paused word kept) client = Read (control EpochWord)
verb_at (LostNode node kept) client = Read (control EpochWord)
verb_at (Seek key_search) client = search.next key_search
verb_at (Fetch value_read) client = values.next value_read
verb_at Choose client = choosing.next client.stock
verb_at (Clear change) client = bits.next change
verb_at (Body write) client = words.next write
verb_at (Find key_search) client = search.next key_search
verb_at (ReadVersion word) client = Read (primary_place (view_of client) (object_word (pointer_in word) 2))
verb_at (Log write) client = words.next write
verb_at (WriteSlot write) client = slots.next write
verb_at (AwaitRound write) client = Read (control EpochWord)
verb_at (TestKey key_test) client = test.next key_test
verb_at (Resolve resolving) client = resolution.next resolving
verb_at (Free change) client = bits.next change
verb_at (Return change) client = bits.next change
verb_at End client = Write (begin_place client) (2 * client.number)

-- the verb of the present stage
abbrev pub next : Client → Verb
next client = verb_at client.stage client

abbrev pub idles : Client → Turn Client Step
idles client = record { state = client; told = Going }

abbrev pub turn_at : Stage → Client → Answer → Turn Client Step
turn_at Start client Done = goes_to client ReadEpoch
turn_at ReadEpoch client (Word found) = on_epoch client found
turn_at (Pause word kept) client Done = goes_to client (Paused word kept)
turn_at (Paused word kept) client (Word found) = on_paused client word kept found
turn_at (LostNode node kept) client (Word found) = on_lost client node kept found
turn_at (Seek key_search) client answer = on_seek client (search.turn key_search answer).state (search.turn key_search answer).told
turn_at (Fetch value_read) client answer = on_fetch client (values.turn value_read answer).state (values.turn value_read answer).told
turn_at Choose client answer = on_choosing client (choosing.turn client.stock answer)
turn_at (Clear change) client answer = on_clear client (bits.turn change answer).state (bits.turn change answer).told
turn_at (Body write) client answer = on_body client (words.turn write answer).state (words.turn write answer).told
turn_at (Find key_search) client answer = finds_at key_search.phase client key_search answer
turn_at (ReadVersion word) client answer = on_version client word answer
turn_at (Log write) client answer = on_log client (words.turn write answer).state (words.turn write answer).told
turn_at (WriteSlot write) client answer = on_wrote client (slots.turn write answer).state (slots.turn write answer).told
turn_at (AwaitRound write) client (Word found) = on_round client write found
turn_at (TestKey key_test) client answer = on_test client (test.turn key_test answer).state (test.turn key_test answer).told
turn_at (Resolve resolving) client answer =
    on_resolved client (resolution.turn resolving answer).state (resolution.turn resolving answer).told
turn_at (Free change) client answer = on_free client (bits.turn change answer).state (bits.turn change answer).told
turn_at (Return change) client answer = on_return client (bits.turn change answer).state (bits.turn change answer).told
turn_at End client Done = record { state = record client { stage = Idle }; told = Ended client.outcome }
turn_at stage client answer = idles client

-- what an answer to the verb makes of the client, and what is told
abbrev pub turn : Client → Answer → Turn Client Step
turn client answer = turn_at client.stage client answer

abbrev pub after : Client → Answer → Client
after client answer = (turn client answer).state

abbrev pub told : Client → Answer → Step
told client answer = (turn client answer).told

-- Invocations.

-- why a call with a key and a value of these lengths is refused
abbrev pub refusal : Client → ℕ → ℕ → Option Before
refusal client key_len value_len =
    if nat_lt 0 key_len && nat_le key_len 64
    then (if nat_le value_len LONGEST
    then (if client.number == client.shape.calls then Some Spent else None)
    else Some (ValueLength value_len))
    else Some (KeyLength key_len)

-- the client once its next call is made: a get and a delete have no value
abbrev pub invoked : Client → Operation → List ℕ → List ℕ → Client
invoked client operation key value = record client {
  number = client.number + 1;
  stage = Start;
  operation = operation;
  key = key;
  value = value;
  object = 0;
  beaten = None;
  outcome = outcome.Done;
  fetched = [];
}

abbrev pub is_idle_at : Stage → Bool
is_idle_at Idle = true
is_idle_at stage = false

abbrev pub is_idle : Client → Bool
is_idle client = is_idle_at client.stage
