-- A client stays one, whatever its verbs are answered: row by row.
use Rattle.std.proofs.Common.{◌≡◌, ℕ, ◌+◌, ◌%◌, ◌^◌, ◌<◌, ◌==◌, Bool, true, false, length, Option, Some, None, refl, subst, arith}
use Rattle.std.proofs.lemmas.Bool.Decides.{nat_tests}
use Rattle.machine.specs.declared.bit_change.Changed.{Changed}
use Rattle.machine.specs.declared.bit_change.Changed.TheVariants as changed
use Rattle.machine.specs.declared.choosing.Took.{Took}
use Rattle.machine.specs.declared.choosing.Took.TheVariants as took
use Rattle.machine.specs.declared.client_call.Outcome.{Outcome}
use Rattle.machine.specs.declared.client_call.Outcome.TheVariants as outcome
use Rattle.machine.specs.declared.key_search.Found.{Found}
use Rattle.machine.specs.declared.key_search.Found.TheVariants as found_as
use Rattle.machine.specs.declared.key_test.Tested.{Tested}
use Rattle.machine.specs.declared.key_test.Tested.TheVariants as tested
use Rattle.machine.specs.declared.object_write.Written.{Written}
use Rattle.machine.specs.declared.object_write.Written.TheVariants as written
use Rattle.machine.specs.declared.resolution.Resolved.{Resolved}
use Rattle.machine.specs.declared.resolution.Resolved.TheVariants as resolved
use Rattle.machine.specs.declared.slot_write.Wrote.{Wrote}
use Rattle.machine.specs.declared.slot_write.Wrote.TheVariants as wrote
use Rattle.machine.specs.declared.value_read.Fetched.{Fetched}
use Rattle.machine.specs.declared.value_read.Fetched.TheVariants as fetched_as
use Rattle.machine.specs.BitChange.{BitChange, IsBitChange}
use Rattle.machine.specs.Choosing as choosing
use Rattle.machine.specs.Choosing.{IsChoosing, IsTaken}
use Rattle.machine.specs.Client.{absent, chooses, chooses_for, cleared, ends, fetches, finds_at, finds_on, first_turn, frees_again, fresh_of, gives_back, goes_to, is_beaten, kept_of, logs, next, on_body, on_changed, on_choosing, on_clear, on_epoch, on_fetch, on_find, on_free, on_kind, on_log, on_lost, on_paused, on_resolved, on_return, on_round, on_searching, on_seek, on_test, on_took, on_value, on_version, on_wrote, own_object, refused, remembers, resumes, resumes_with, search_of, slot_of, turn, view_of, won}
use Rattle.machine.specs.EpochRead.{IsView, open_mask}
use Rattle.machine.specs.KeySearch as search
use Rattle.machine.specs.KeySearch.{IsKeySearch, KeySearch}
use Rattle.machine.specs.KeyTest.{IsKeyTest, KeyTest}
use Rattle.machine.specs.ObjectNames.{IsObject, Object, candidate_in, object_in, pointer_in}
use Rattle.machine.specs.Resolution.{IsResolution, Resolution}
use Rattle.machine.specs.SlotWrite.{IsSlotWrite, SlotWrite}
use Rattle.machine.specs.Stage.{Client, Kept, FromStart, FromSeek, FromChoose, FromClear, FromBody, FromFind, FromResolve, FromFree, FromReturn, Operation, Get, Put, Delete, Stage, Pause, Paused, LostNode, Seek}
use Rattle.machine.specs.Standing.{HasClass, IsCall, IsClient, IsMember, KeepsFor}
use Rattle.machine.specs.Stock.{Stock}
use Rattle.machine.specs.Turn.{Turn}
use Rattle.machine.specs.ValueRead.{IsValueRead, ValueRead}
use Rattle.machine.specs.WordsWrite.{IsWordsWrite, WordsWrite}
use Rattle.machine.proofs.ViewLemmas.{open_mask-covers}
use Rattle.machine.proofs.BitChangeLemmas as of_bits
use Rattle.machine.proofs.ChoosingLemmas as of_choosing
use Rattle.machine.proofs.KeySearchLemmas as of_search
use Rattle.machine.proofs.KeySearchLemmas.{IsFoundAt}
use Rattle.machine.proofs.KeyTestLemmas as of_test
use Rattle.machine.proofs.KeyTestLemmas.{room_of-eight}
use Rattle.machine.proofs.ObjectNamesLemmas.{candidate_in-object, object_in-is, object_in-pointer}
use Rattle.machine.proofs.ResolutionLemmas as of_resolution
use Rattle.machine.proofs.SlotWriteLemmas as of_slots
use Rattle.machine.proofs.ValueReadLemmas as of_values
use Rattle.object_form.specs.Class.{class_in}
use Rattle.object_form.specs.declared.metas.Kind.{Kind}
use Rattle.object_form.specs.declared.metas.Kind.TheVariants.{Value, Tombstone}
use Rattle.region_view.specs.Placed.{Viewed}
use Rattle.region_view.specs.Sizes.{Sizes}
use Rattle.slot_order.specs.Slots.{order_of}
use Rattle.verb_words.specs.declared.verbs.Answer.{Answer}
use Rattle.verb_words.specs.declared.verbs.Answer.TheVariants.{Word, Done, Lost}
use Rattle.machine.proofs.ClientLemmas.{class_in-is, log-is, own_object-is, search_of-is, slot_of-below, with_place-all, write_body-is}

abbrev Member : Sizes → ℕ → Client → Type 0
Member s n client = IsMember s n client.shape client.client client.stock client.remembered

abbrev Called : Client → Type 0
Called client = IsCall client.key client.value

abbrev Classed : Client → Type 0
Classed client = HasClass client.key client.value client.class

-- what is kept for a stage stays when other fields change
pub keeps-stage : (kept : Kept) (client : Client) (stage : Stage) → KeepsFor kept client → KeepsFor kept (record client { stage = stage })
keeps-stage FromStart client stage keeps = keeps
keeps-stage FromSeek client stage keeps = keeps
keeps-stage FromChoose client stage keeps = keeps
keeps-stage FromClear client stage keeps = keeps
keeps-stage FromBody client stage keeps = keeps
keeps-stage FromFind client stage keeps = keeps
keeps-stage FromResolve client stage keeps = keeps
keeps-stage FromFree client stage keeps = keeps
keeps-stage FromReturn client stage keeps = keeps

keeps-stock : (kept : Kept) (client : Client) (stock : Stock) → KeepsFor kept client → KeepsFor kept (record client { stock = stock })
keeps-stock FromStart client stock keeps = keeps
keeps-stock FromSeek client stock keeps = keeps
keeps-stock FromChoose client stock keeps = keeps
keeps-stock FromClear client stock keeps = keeps
keeps-stock FromBody client stock keeps = keeps
keeps-stock FromFind client stock keeps = keeps
keeps-stock FromResolve client stock keeps = keeps
keeps-stock FromFree client stock keeps = keeps
keeps-stock FromReturn client stock keeps = keeps

keeps-mask : (kept : Kept) (client : Client) (mask : ℕ) → KeepsFor kept client → KeepsFor kept (record client { mask = mask })
keeps-mask FromStart client mask keeps = keeps
keeps-mask FromSeek client mask keeps = keeps
keeps-mask FromChoose client mask keeps = keeps
keeps-mask FromClear client mask keeps = keeps
keeps-mask FromBody client mask keeps = keeps
keeps-mask FromFind client mask keeps = keeps
keeps-mask FromResolve client mask keeps = keeps
keeps-mask FromFree client mask keeps = keeps
keeps-mask FromReturn client mask keeps = keeps

refused-is : (s : Sizes) (n : ℕ) (client : Client) (node : ℕ) → Member s n client → Called client → KeepsFor (kept_of client.stage) client → IsClient s n (refused client node).state
refused-is s n client node member call keeps = record { member = member; call = call; stage = keeps-stage (kept_of client.stage) client (LostNode node (kept_of client.stage)) keeps }

ends-is : (s : Sizes) (n : ℕ) (client : Client) (result : Outcome) → Member s n client → Called client → IsClient s n (ends client result).state
ends-is s n client result member call = record { member = member; call = call; stage = tt }

-- the view that an inner program is under
pub view-held : (client : Client) (view : Viewed) → view ≡ view_of client → IsView view → IsView (view_of client)
view-held client view held is = subst IsView held is

-- A choosing.

pub on_took-is : (s : Sizes) (n : ℕ) (client : Client) (stock : Stock) (told : Took) → Member s n client → Called client → Classed client → IsView (view_of client) → KeepsFor (kept_of client.stage) client
    → IsChoosing (view_of client) client.client client.class stock → IsTaken client.shape client.class told → IsClient s n (on_took client stock told).state
on_took-is s n client stock told member call has is keeps choosing taken = by told taken
  where
    member' : IsMember s n client.shape client.client stock client.remembered
    member' = record { same_shape = member.same_shape; same_number = member.same_number; limits = member.limits; least = member.least; most = member.most; is_stock = choosing.ready.is_stock; places = member.places }

    by : (told : Took) → IsTaken client.shape client.class told → IsClient s n (on_took client stock told).state
    by took.Going taken = record { member = member'; call = call; stage = (has, choosing) }
    by (took.Have object next) taken = record {
      member = member';
      call = call;
      stage = (
        (record { of_class = has; named = taken.0 }, taken.1),
        of_bits.bit_change_of-is (view_of client) (record { pointer = object; class = client.class }) false false is (record { class = has.below; named = taken.0 }),
      );
    }
    by (took.NoSpace class awaited begin) taken = record { member = member'; call = call; stage = tt }
    by (took.Refused node) taken = refused-is s n (record client { stock = stock }) node member' call (keeps-stock (kept_of client.stage) client stock keeps)

pub on_choosing-is : (s : Sizes) (n : ℕ) (client : Client) (turn : Turn Stock Took) → Member s n client → Called client → Classed client → IsView (view_of client) → KeepsFor (kept_of client.stage) client
    → of_choosing.IsTurned (view_of client) client.client client.class turn → IsClient s n (on_choosing client turn).state
on_choosing-is s n client turn member call has is keeps turned = on_took-is s n client turn.state turn.told member call has is keeps turned.choosing turned.taken

chooses-is : (s : Sizes) (n : ℕ) (client : Client) → Member s n client → Called client → Classed client → IsView (view_of client) → KeepsFor (kept_of client.stage) client → IsClient s n (chooses client).state
chooses-is s n client member call has is keeps =
    on_choosing-is s n client (choosing.begins client.stock client.mask client.class) member call has is keeps
    (of_choosing.begins-turned (view_of client) client.client client.class client.stock member.is_stock is (member.least, member.most) has.below)

chooses_for-is : (s : Sizes) (n : ℕ) (client : Client) → Member s n client → Called client → IsView (view_of client) → ((other : Client) → KeepsFor (kept_of client.stage) other) → IsClient s n (chooses_for client (length client.value)).state
chooses_for-is s n client member call is keeps =
    let class = class_in (length client.key) (length client.value) in
    let in_class = class_in-is (length client.key) (length client.value) call.key_len call.value_len in
    chooses-is s n (record client { class = class }) member call (record { below = in_class.0; room = in_class.1 }) is (keeps (record client { class = class }))

seeks-is : (s : Sizes) (n : ℕ) (client : Client) → Member s n client → Called client → IsView (view_of client) → IsClient s n (goes_to client (Seek (search_of client))).state
seeks-is s n client member call is = record { member = member; call = call; stage = search_of-is s n client member call is }

first_turn-is : (s : Sizes) (n : ℕ) (client : Client) (operation : Operation) → Member s n client → Called client → IsView (view_of client) → ((other : Client) → KeepsFor (kept_of client.stage) other)
    → IsClient s n (first_turn operation client).state
first_turn-is s n client Put member call is keeps = chooses_for-is s n client member call is keeps
first_turn-is s n client Get member call is keeps = seeks-is s n client member call is
first_turn-is s n client Delete member call is keeps = seeks-is s n client member call is

-- The clearing of the object's bit, and the writing of the object.

cleared-is : (s : Sizes) (n : ℕ) (client : Client) → Member s n client → Called client → IsView (view_of client) → KeepsFor FromClear client → IsClient s n (cleared client).state
cleared-is s n client member call is keeps = record {
  member = record {
    same_shape = member.same_shape;
    same_number = member.same_number;
    limits = member.limits;
    least = member.least;
    most = member.most;
    places = member.places;
    is_stock = of_choosing.taken-is client.shape client.client client.class client.reserve client.stock member.is_stock keeps.0.of_class.below keeps.1;
  };
  call = call;
  stage = (keeps.0, write_body-is (record client { stock = choosing.taken client.stock client.class client.reserve }) is keeps.0);
}

pub on_clear-is : (s : Sizes) (n : ℕ) (client : Client) (change : BitChange) (told : Changed) → Member s n client → Called client → IsView (view_of client) → KeepsFor FromClear client → KeepsFor (kept_of client.stage) client
    → IsBitChange (view_of client) change → IsClient s n (on_clear client change told).state
on_clear-is s n client change changed.Going member call is has keeps clears = record { member = member; call = call; stage = (has, clears) }
on_clear-is s n client change changed.Whole member call is has keeps clears = cleared-is s n client member call is has
on_clear-is s n client change (changed.Refused node) member call is has keeps clears = refused-is s n client node member call keeps

pub on_body-is : (s : Sizes) (n : ℕ) (client : Client) (write : WordsWrite) (told : Written) → Member s n client → Called client → IsView (view_of client) → KeepsFor FromBody client → KeepsFor (kept_of client.stage) client
    → IsWordsWrite (view_of client) write → IsClient s n (on_body client write told).state
on_body-is s n client write written.Going member call is has keeps writes = record { member = member; call = call; stage = (has, writes) }
on_body-is s n client write written.Whole member call is has keeps writes = record { member = member; call = call; stage = (has, search_of-is s n client member call is) }
on_body-is s n client write (written.Refused node) member call is has keeps writes = refused-is s n client node member call keeps

-- The first search of a get or a delete.

-- a place that is remembered
remembers-member : (s : Sizes) (n : ℕ) (client : Client) (place : ℕ) → Member s n client → place < length (order_of client.key client.shape.groups) → Member s n (remembers client place)
remembers-member s n client place member below =
    record { same_shape = member.same_shape; same_number = member.same_number; limits = member.limits; least = member.least; most = member.most; is_stock = member.is_stock; places = with_place-all client.shape client.remembered client.key place member.places below }

fetches-is : (s : Sizes) (n : ℕ) (client : Client) (word value_len : ℕ) → Member s n client → Called client → IsView (view_of client) → IsFoundAt (view_of client) client.key word value_len → IsClient s n (fetches client word value_len).state
fetches-is s n client word value_len member call is at = by (value_len == 0) refl
  where
    by : (t : Bool) → (value_len == 0) ≡ t → IsClient s n (fetches client word value_len).state
    by true empty = rw empty (record { member = member; call = call; stage = tt })
    by false some =
        let named = object_in-is client.shape word at.object at.named in
        let pointer = object_in-pointer client.shape word at.object at.named in
        let P : ℕ → Type 0 = λ p. IsObject client.shape (record { pointer = p; class = at.object.class }) in
        rw some (record {
          member = member;
          call = call;
          stage = of_values.value_read_of-is (view_of client) (pointer_in word) at.object.class (length client.key) value_len is (subst P pointer named) at.room (grind (arith, nat_tests));
        })

on_value-is : (s : Sizes) (n : ℕ) (client : Client) (operation : Operation) (word value_len : ℕ) → Member s n client → Called client → IsView (view_of client) → ((other : Client) → KeepsFor (kept_of client.stage) other)
    → IsFoundAt (view_of client) client.key word value_len → IsClient s n (on_value operation client word value_len).state
on_value-is s n client Get word value_len member call is keeps at = fetches-is s n client word value_len member call is at
on_value-is s n client Put word value_len member call is keeps at = chooses_for-is s n client member call is keeps
on_value-is s n client Delete word value_len member call is keeps at = chooses_for-is s n client member call is keeps

on_kind-is : (s : Sizes) (n : ℕ) (client : Client) (kind : Kind) (word value_len : ℕ) → Member s n client → Called client → IsView (view_of client) → ((other : Client) → KeepsFor (kept_of client.stage) other)
    → IsFoundAt (view_of client) client.key word value_len → IsClient s n (on_kind kind client word value_len).state
on_kind-is s n client Value word value_len member call is keeps at = on_value-is s n client client.operation word value_len member call is keeps at
on_kind-is s n client Tombstone word value_len member call is keeps at = ends-is s n client (absent client.operation) member call

pub on_seek-is : (s : Sizes) (n : ℕ) (client : Client) (key_search : KeySearch) (told : Found) → Member s n client → Called client → IsKeySearch (view_of client) client.key key_search
    → ((other : Client) → KeepsFor (kept_of client.stage) other)
    → ((slot word value_len : ℕ) (kind : Kind) → told ≡ found_as.At slot word kind value_len → IsFoundAt (view_of client) client.key word value_len) → IsClient s n (on_seek client key_search told).state
on_seek-is s n client key_search found_as.Going member call searches keeps found = record { member = member; call = call; stage = searches }
on_seek-is s n client key_search (found_as.Empty slot) member call searches keeps found = ends-is s n client (absent client.operation) member call
on_seek-is s n client key_search found_as.Nowhere member call searches keeps found = ends-is s n client (absent client.operation) member call
on_seek-is s n client key_search (found_as.Refused node) member call searches keeps found = refused-is s n client node member call (keeps client)
on_seek-is s n client key_search (found_as.At slot word kind value_len) member call searches keeps found =
    on_kind-is s n (remembers client key_search.place) kind word value_len
    (remembers-member s n client key_search.place member (of_search.place-below (view_of client) client.key key_search searches)) call
    (subst IsView searches.held searches.is_view) keeps (found slot word value_len kind refl)

pub on_fetch-is : (s : Sizes) (n : ℕ) (client : Client) (value_read : ValueRead) (told : Fetched) → Member s n client → Called client → KeepsFor (kept_of client.stage) client → (told ≡ fetched_as.Going → IsValueRead (view_of client) value_read)
    → IsClient s n (on_fetch client value_read told).state
on_fetch-is s n client value_read fetched_as.Going member call keeps reads = record { member = member; call = call; stage = reads refl }
on_fetch-is s n client value_read fetched_as.Whole member call keeps reads = record { member = member; call = call; stage = tt }
on_fetch-is s n client value_read (fetched_as.Refused node) member call keeps reads = refused-is s n client node member call keeps

-- The search for the slot to write.

gives_back-is : (s : Sizes) (n : ℕ) (client : Client) (result : Outcome) → Member s n client → Called client → IsView (view_of client) → KeepsFor FromReturn client → IsClient s n (gives_back client result).state
gives_back-is s n client result member call is has = record {
  member = member;
  call = call;
  stage = (has, of_bits.bit_change_of-is (view_of client) (own_object client) true false is (own_object-is client has));
}

logs-is : (s : Sizes) (n : ℕ) (client : Client) → Member s n client → Called client → IsView (view_of client) → KeepsFor FromResolve client → IsClient s n (logs client).state
logs-is s n client member call is has = record { member = member; call = call; stage = (has, log-is client client.expect client.version is has.object) }

pub on_find-is : (s : Sizes) (n : ℕ) (client : Client) (key_search : KeySearch) (told : Found) → Member s n client → Called client → KeepsFor FromFind client → KeepsFor (kept_of client.stage) client
    → IsKeySearch (view_of client) client.key key_search
    → ((slot word value_len : ℕ) (kind : Kind) → told ≡ found_as.At slot word kind value_len → IsFoundAt (view_of client) client.key word value_len) → IsClient s n (on_find client key_search told).state
on_find-is s n client key_search found_as.Going member call has keeps searches found = record { member = member; call = call; stage = (has, searches) }
on_find-is s n client key_search (found_as.Empty slot) member call has keeps searches found =
    logs-is s n (record client { place = key_search.place; expect = 0; version = 1 }) member call (subst IsView searches.held searches.is_view)
    (record { object = has; below = of_search.place-below (view_of client) client.key key_search searches })
on_find-is s n client key_search (found_as.At slot word kind value_len) member call has keeps searches found =
    let below = of_search.place-below (view_of client) client.key key_search searches in
    let at = found slot word value_len kind refl in
    record {
      member = remembers-member s n client key_search.place member below;
      call = call;
      stage = (record { object = has; below = below }, subst IsView searches.held searches.is_view, (at.object, at.named));
    }
on_find-is s n client key_search found_as.Nowhere member call has keeps searches found = gives_back-is s n client outcome.Full member call (subst IsView searches.held searches.is_view) has
on_find-is s n client key_search (found_as.Refused node) member call has keeps searches found = refused-is s n client node member call keeps

passes-is : (s : Sizes) (n : ℕ) (client : Client) (key_search : KeySearch) → Member s n client → Called client → KeepsFor FromFind client → KeepsFor (kept_of client.stage) client → IsKeySearch (view_of client) client.key key_search
    → IsClient s n (on_searching client (search.passed key_search)).state
passes-is s n client key_search member call has keeps searches =
    on_find-is s n client (search.passed key_search).state (search.passed key_search).told member call has keeps (of_search.passed-is (view_of client) client.key key_search searches)
    (λ slot word value_len kind tells. absurd (of_search.passed-never key_search slot word value_len kind tells))

searches-is : (s : Sizes) (n : ℕ) (client : Client) (key_search : KeySearch) (answer : Answer) → Member s n client → Called client → KeepsFor FromFind client → KeepsFor (kept_of client.stage) client
    → IsKeySearch (view_of client) client.key key_search → IsClient s n (on_searching client (search.turn key_search answer)).state
searches-is s n client key_search answer member call has keeps searches =
    on_find-is s n client (search.turn key_search answer).state (search.turn key_search answer).told member call has keeps (of_search.turn-is (view_of client) client.key key_search answer searches)
    (λ slot word value_len kind tells. of_search.turn-found (view_of client) client.key key_search answer slot word value_len kind searches tells)

pub finds_at-is : (s : Sizes) (n : ℕ) (client : Client) (phase : search.Phase) (key_search : KeySearch) (answer : Answer) → Member s n client → Called client → KeepsFor FromFind client → KeepsFor (kept_of client.stage) client
    → IsKeySearch (view_of client) client.key key_search → IsClient s n (finds_at phase client key_search answer).state
finds_at-is s n client search.AtSlot key_search (Word word) member call has keeps searches = by (word == fresh_of client) refl
  where
    by : (t : Bool) → (word == fresh_of client) ≡ t → IsClient s n (finds_at search.AtSlot client key_search (Word word)).state
    by true own = rw own (passes-is s n client key_search member call has keeps searches)
    by false other = rw other (searches-is s n client key_search (Word word) member call has keeps searches)
finds_at-is s n client search.AtSlot key_search Done member call has keeps searches = searches-is s n client key_search Done member call has keeps searches
finds_at-is s n client search.AtSlot key_search Lost member call has keeps searches = searches-is s n client key_search Lost member call has keeps searches
finds_at-is s n client (search.AtKey word key_test) key_search answer member call has keeps searches = searches-is s n client key_search answer member call has keeps searches

finds_on-is : (s : Sizes) (n : ℕ) (client : Client) → Member s n client → Called client → IsView (view_of client) → KeepsFor FromResolve client → KeepsFor (kept_of client.stage) client → IsClient s n (finds_on client).state
finds_on-is s n client member call is has keeps =
    passes-is s n client (search.key_search_of (view_of client) client.key client.place) member call has.object keeps (of_search.key_search_of-is (view_of client) client.key client.place is call.key_len.0 has.below)

pub on_version-is : (s : Sizes) (n : ℕ) (client : Client) (word : ℕ) (answer : Answer) → Member s n client → Called client → IsView (view_of client) → KeepsFor FromResolve client → KeepsFor (kept_of client.stage) client
    → ((object : Object) × (object_in client.shape word ≡ Some object)) → IsClient s n (on_version client word answer).state
on_version-is s n client word (Word found) member call is has keeps named = logs-is s n (record client { expect = word; version = (found + 1) % 2 ^ 64 }) member call is has
on_version-is s n client word Done member call is has keeps named = record { member = member; call = call; stage = (has, is, named) }
on_version-is s n client word Lost member call is has keeps named = refused-is s n client _ member call keeps

pub on_log-is : (s : Sizes) (n : ℕ) (client : Client) (write : WordsWrite) (told : Written) → Member s n client → Called client → IsView (view_of client) → KeepsFor FromResolve client → KeepsFor (kept_of client.stage) client
    → IsWordsWrite (view_of client) write → IsClient s n (on_log client write told).state
on_log-is s n client write written.Going member call is has keeps writes = record { member = member; call = call; stage = (has, writes) }
on_log-is s n client write written.Whole member call is has keeps writes = record {
  member = member;
  call = call;
  stage = (has, of_slots.slot_write_of-is (view_of client) (slot_of client) client.expect (fresh_of client) is (slot_of-below s n client member has.below));
}
on_log-is s n client write (written.Refused node) member call is has keeps writes = refused-is s n client node member call keeps

-- The slot write, and how it went.

won-is : (s : Sizes) (n : ℕ) (client : Client) → Member s n client → Called client → IsView (view_of client) → KeepsFor FromResolve client → IsClient s n (won client).state
won-is s n client member call is has = by (object_in client.shape client.expect) refl
  where
    member' : Member s n (remembers client client.place)
    member' = remembers-member s n client client.place member has.below

    by : (object : Option Object) → object_in client.shape client.expect ≡ object → IsClient s n (won client).state
    by None none = rw none (ends-is s n (remembers client client.place) outcome.Done member' call)
    by (Some object) some = rw some (record {
      member = member';
      call = call;
      stage = (has, of_bits.bit_change_of-is (view_of client) object true false is (object_in-is client.shape client.expect object some));
    })

is_beaten-is : (s : Sizes) (n : ℕ) (client : Client) → Member s n client → Called client → IsView (view_of client) → KeepsFor FromResolve client → IsClient s n (is_beaten client).state
is_beaten-is s n client member call is has = gives_back-is s n (record client { beaten = Some (slot_of client, client.version) }) outcome.Done member call is has.object

pub on_changed-is : (s : Sizes) (n : ℕ) (client : Client) (word : ℕ) → Member s n client → Called client → IsView (view_of client) → KeepsFor FromResolve client → KeepsFor (kept_of client.stage) client → IsClient s n (on_changed client word).state
on_changed-is s n client word member call is has keeps = by (client.expect == 0) refl (candidate_in client.shape client.key word) refl
  where
    by : (t : Bool) → (client.expect == 0) ≡ t → (object : Option Object) → candidate_in client.shape client.key word ≡ object → IsClient s n (on_changed client word).state
    by false full object candidate = rw full (is_beaten-is s n client member call is has)
    by true empty None none = rw (empty, none) (finds_on-is s n client member call is has keeps)
    by true empty (Some object) some = rw (empty, some) (record {
      member = member;
      call = call;
      stage = (has, of_test.key_test_of-is (view_of client) client.key object is call.key_len.0 (object_in-is client.shape word object (candidate_in-object client.shape client.key word object some)));
    })

pub on_wrote-is : (s : Sizes) (n : ℕ) (client : Client) (write : SlotWrite) (told : Wrote) → Member s n client → Called client → IsView (view_of client) → KeepsFor FromResolve client → KeepsFor (kept_of client.stage) client
    → IsSlotWrite (view_of client) write → IsClient s n (on_wrote client write told).state
on_wrote-is s n client write wrote.Going member call is has keeps writes = record { member = member; call = call; stage = (has, writes) }
on_wrote-is s n client write wrote.Won member call is has keeps writes = won-is s n client member call is has
on_wrote-is s n client write (wrote.Changed word) member call is has keeps writes = on_changed-is s n client word member call is has keeps
on_wrote-is s n client write (wrote.Unchanged word) member call is has keeps writes = record { member = member; call = call; stage = (has, writes) }
on_wrote-is s n client write (wrote.Refused node) member call is has keeps writes = refused-is s n client node member call keeps

pub on_test-is : (s : Sizes) (n : ℕ) (client : Client) (key_test : KeyTest) (told : Tested) → Member s n client → Called client → IsView (view_of client) → KeepsFor FromResolve client → KeepsFor (kept_of client.stage) client
    → IsKeyTest (view_of client) client.key key_test → IsClient s n (on_test client key_test told).state
on_test-is s n client key_test tested.Going member call is has keeps tests = record { member = member; call = call; stage = (has, tests) }
on_test-is s n client key_test (tested.Same kind value_len) member call is has keeps tests = is_beaten-is s n client member call is has
on_test-is s n client key_test tested.Other member call is has keeps tests = finds_on-is s n client member call is has keeps
on_test-is s n client key_test (tested.Refused node) member call is has keeps tests = refused-is s n client node member call keeps

pub on_resolved-is : (s : Sizes) (n : ℕ) (client : Client) (resolving : Resolution) (told : Resolved) → Member s n client → Called client → IsView (view_of client) → KeepsFor FromResolve client → KeepsFor (kept_of client.stage) client
    → IsResolution (view_of client) resolving → IsClient s n (on_resolved client resolving told).state
on_resolved-is s n client resolving resolved.Going member call is has keeps resolves = record { member = member; call = call; stage = (has, resolves) }
on_resolved-is s n client resolving resolved.Still member call is has keeps resolves = logs-is s n client member call is has
on_resolved-is s n client resolving resolved.Won member call is has keeps resolves = won-is s n client member call is has
on_resolved-is s n client resolving resolved.Beaten member call is has keeps resolves = is_beaten-is s n client member call is has
on_resolved-is s n client resolving resolved.OtherKey member call is has keeps resolves = finds_on-is s n client member call is has keeps
on_resolved-is s n client resolving (resolved.Refused node) member call is has keeps resolves = refused-is s n client node member call keeps

pub on_free-is : (s : Sizes) (n : ℕ) (client : Client) (change : BitChange) (told : Changed) → Member s n client → Called client → KeepsFor FromFree client → KeepsFor (kept_of client.stage) client → IsBitChange (view_of client) change
    → IsClient s n (on_free client change told).state
on_free-is s n client change changed.Going member call has keeps changes = record { member = member; call = call; stage = (has, changes) }
on_free-is s n client change changed.Whole member call has keeps changes = record { member = member; call = call; stage = tt }
on_free-is s n client change (changed.Refused node) member call has keeps changes = refused-is s n client node member call keeps

pub on_return-is : (s : Sizes) (n : ℕ) (client : Client) (change : BitChange) (told : Changed) → Member s n client → Called client → KeepsFor FromReturn client → KeepsFor (kept_of client.stage) client → IsBitChange (view_of client) change
    → IsClient s n (on_return client change told).state
on_return-is s n client change changed.Going member call has keeps changes = record { member = member; call = call; stage = (has, changes) }
on_return-is s n client change changed.Whole member call has keeps changes = record { member = member; call = call; stage = tt }
on_return-is s n client change (changed.Refused node) member call has keeps changes = refused-is s n client node member call keeps

-- The epoch word.

-- the call goes on under a view
resumes-is : (s : Sizes) (n : ℕ) (client : Client) (kept : Kept) → Member s n client → Called client → IsView (view_of client) → KeepsFor kept client → ((other : Client) → KeepsFor (kept_of client.stage) other) → IsClient s n (resumes kept client).state
resumes-is s n client FromStart member call is keeps any = first_turn-is s n client client.operation member call is any
resumes-is s n client FromSeek member call is keeps any = seeks-is s n client member call is
resumes-is s n client FromChoose member call is keeps any = chooses-is s n client member call keeps is (any client)
resumes-is s n client FromClear member call is keeps any = record {
  member = member;
  call = call;
  stage = (keeps, of_bits.bit_change_of-is (view_of client) (own_object client) false true is (own_object-is client keeps.0));
}
resumes-is s n client FromBody member call is keeps any = record { member = member; call = call; stage = (keeps, write_body-is client is keeps) }
resumes-is s n client FromFind member call is keeps any = record { member = member; call = call; stage = (keeps, search_of-is s n client member call is) }
resumes-is s n client FromResolve member call is keeps any = record {
  member = member;
  call = call;
  stage = (keeps, of_resolution.resolution_of-is (view_of client) (slot_of client) client.expect (fresh_of client) client.version client.key is call.key_len.0 (slot_of-below s n client member keeps.below));
}
resumes-is s n client FromFree member call is keeps any = by (object_in client.shape client.expect) refl
  where
    by : (object : Option Object) → object_in client.shape client.expect ≡ object → IsClient s n (frees_again client).state
    by None none = rw none (record { member = member; call = call; stage = tt })
    by (Some object) some = rw some (record {
      member = member;
      call = call;
      stage = (keeps, of_bits.bit_change_of-is (view_of client) object true true is (object_in-is client.shape client.expect object some));
    })
resumes-is s n client FromReturn member call is keeps any = record {
  member = member;
  call = call;
  stage = (keeps, of_bits.bit_change_of-is (view_of client) (own_object client) true true is (own_object-is client keeps));
}

resumes_with-is : (s : Sizes) (n : ℕ) (client : Client) (kept : Kept) (word mask : ℕ) → Member s n client → Called client → KeepsFor kept client → ((other : Client) → KeepsFor (kept_of client.stage) other)
    → open_mask client.shape word ≡ Some mask → IsClient s n (resumes_with kept client mask).state
resumes_with-is s n client kept word mask member call keeps any opened =
    resumes-is s n (record client { mask = mask }) kept member call (record { limits = member.limits; covers = open_mask-covers client.shape word mask opened }) (keeps-mask kept client mask keeps) any

pauses-is : (s : Sizes) (n : ℕ) (client : Client) (word : ℕ) (kept : Kept) → Member s n client → Called client → KeepsFor kept client → IsClient s n (goes_to client (Pause word kept)).state
pauses-is s n client word kept member call keeps = record { member = member; call = call; stage = keeps-stage kept client (Pause word kept) keeps }

pub on_epoch-is : (s : Sizes) (n : ℕ) (client : Client) (found : ℕ) → Member s n client → Called client → ((other : Client) → KeepsFor (kept_of client.stage) other) → IsClient s n (on_epoch client found).state
on_epoch-is s n client found member call any = by (open_mask client.shape found) refl
  where
    by : (mask : Option ℕ) → open_mask client.shape found ≡ mask → IsClient s n (on_epoch client found).state
    by None none = rw none (pauses-is s n client found FromStart member call tt)
    by (Some mask) some = rw some (resumes_with-is s n client FromStart found mask member call tt any some)

pub on_paused-is : (s : Sizes) (n : ℕ) (client : Client) (word : ℕ) (kept : Kept) (found : ℕ) → Member s n client → Called client → KeepsFor kept client → ((other : Client) → KeepsFor (kept_of client.stage) other)
    → IsClient s n (on_paused client word kept found).state
on_paused-is s n client word kept found member call keeps any = by (open_mask client.shape found) refl (found == word) refl
  where
    by : (mask : Option ℕ) → open_mask client.shape found ≡ mask → (t : Bool) → (found == word) ≡ t → IsClient s n (on_paused client word kept found).state
    by (Some mask) some t same = rw some (resumes_with-is s n client kept found mask member call keeps any some)
    by None none true same = rw (none, same) (record { member = member; call = call; stage = keeps-stage kept client (Paused word kept) keeps })
    by None none false other = rw (none, other) (pauses-is s n client found kept member call keeps)

pub on_lost-is : (s : Sizes) (n : ℕ) (client : Client) (node : ℕ) (kept : Kept) (found : ℕ) → Member s n client → Called client → KeepsFor kept client → IsClient s n (on_lost client node kept found).state
on_lost-is s n client node kept found member call keeps = by (open_mask client.shape found) refl
  where
    by : (mask : Option ℕ) → open_mask client.shape found ≡ mask → IsClient s n (on_lost client node kept found).state
    by (Some mask) some = rw some (record { member = member; call = call; stage = keeps-stage kept client (LostNode node kept) keeps })
    by None none = rw none (pauses-is s n client found kept member call keeps)

pub on_round-is : (s : Sizes) (n : ℕ) (client : Client) (write : SlotWrite) (found : ℕ) → Member s n client → Called client → KeepsFor FromResolve client → IsSlotWrite (view_of client) write → IsClient s n (on_round client write found).state
on_round-is s n client write found member call has writes = by (open_mask client.shape found) refl
  where
    by : (mask : Option ℕ) → open_mask client.shape found ≡ mask → IsClient s n (on_round client write found).state
    by (Some mask) some = rw some (record { member = member; call = call; stage = (has, writes) })
    by None none = rw none (pauses-is s n client found FromResolve member call has)
