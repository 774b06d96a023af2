-- A client stays one, whatever its verbs are answered, and its verbs go to places of the pool.
use Rattle.std.proofs.Common.{◌≡◌, ℕ, ◌≤◌, List, length, refl, sym, subst, arith}
use Rattle.machine.specs.BitChange as bits
use Rattle.machine.specs.BitChange.{BitChange, IsBitChange}
use Rattle.machine.specs.Choosing as choosing
use Rattle.machine.specs.Choosing.{IsChoosing, IsTaken}
use Rattle.machine.specs.Client.{invoked, kept_of, next, turn, turn_at, verb_at, view_of}
use Rattle.machine.specs.EpochRead.{IsView}
use Rattle.machine.specs.KeySearch as search
use Rattle.machine.specs.KeySearch.{IsKeySearch, KeySearch}
use Rattle.machine.specs.KeyTest as test
use Rattle.machine.specs.KeyTest.{IsKeyTest, KeyTest}
use Rattle.machine.specs.Places.{IsInPool, object_word, primary_place}
use Rattle.machine.specs.Resolution as resolution
use Rattle.machine.specs.Resolution.{IsResolution, Resolution}
use Rattle.machine.specs.SlotWrite as slots
use Rattle.machine.specs.SlotWrite.{IsSlotWrite, SlotWrite}
use Rattle.machine.specs.Stage.{Client, first_client, Operation, Stage, Idle, Start, ReadEpoch, Pause, Paused, LostNode, Seek, Fetch, Choose, Clear, Body, Find, ReadVersion, Log, WriteSlot, AwaitRound, TestKey, Resolve, Free, Return, End}
use Rattle.machine.specs.Standing.{HasCall, IsAt, IsCall, IsClient, IsMember, KeepsFor}
use Rattle.machine.specs.ValueRead as values
use Rattle.machine.specs.ValueRead.{IsValueRead, ValueRead}
use Rattle.machine.specs.WordsWrite as words
use Rattle.machine.specs.WordsWrite.{IsWordsWrite, Piece, WordsWrite, body_of, log_of}
use Rattle.machine.proofs.BitChangeLemmas as of_bits
use Rattle.machine.proofs.ChoosingLemmas as of_choosing
use Rattle.machine.proofs.KeySearchLemmas as of_search
use Rattle.machine.proofs.KeySearchLemmas.{IsFoundAt}
use Rattle.machine.proofs.KeyTestLemmas as of_test
use Rattle.machine.proofs.KeyTestLemmas.{room_of-eight}
use Rattle.machine.proofs.ObjectNamesLemmas.{object_in-is, object_in-pointer}
use Rattle.machine.proofs.ResolutionLemmas as of_resolution
use Rattle.machine.proofs.SlotWriteLemmas as of_slots
use Rattle.machine.proofs.StockLemmas.{first_stock-is}
use Rattle.machine.proofs.ValueReadLemmas as of_values
use Rattle.machine.proofs.WordsWriteLemmas as of_words
use Rattle.object_form.specs.Class.{IsKeyLength}
use Rattle.object_form.specs.declared.classes.TheConstants.{LONGEST}
use Rattle.region_view.specs.Sizes.{IsWithinLimits, Sizes}
use Rattle.verb_words.specs.declared.verbs.Answer.{Answer}
use Rattle.verb_words.specs.declared.verbs.Answer.TheVariants.{Word, Done, Lost}
use Rattle.machine.proofs.ClientRowLemmas.{finds_at-is, on_body-is, on_choosing-is, on_clear-is, on_epoch-is, on_fetch-is, on_free-is, on_log-is, on_lost-is, on_paused-is, on_resolved-is, on_return-is, on_round-is, on_seek-is, on_test-is, keeps-stage, on_version-is, on_wrote-is}
use Rattle.machine.proofs.PlacesLemmas.{control-inside}
use Rattle.region_view.specs.Control.{Begin, EpochWord, Pause as pause_word}
use Rattle.verb_words.specs.Verb.{place_of}

abbrev Member : Sizes → ℕ → Client → Type 0
Member s n client = IsMember s n client.shape client.client client.stock client.remembered

abbrev Called : Client → Type 0
Called client = IsCall client.key client.value

keeps_at : (client : Client) (stage : Stage) → client.stage ≡ stage → KeepsFor (kept_of stage) client → KeepsFor (kept_of client.stage) client
keeps_at client stage at keeps = let P : Stage → Type 0 = λ s. KeepsFor (kept_of s) client in subst P (sym at) keeps

any_at : (client : Client) (stage : Stage) → client.stage ≡ stage → ((other : Client) → KeepsFor (kept_of stage) other) → (other : Client) → KeepsFor (kept_of client.stage) other
any_at client stage at keeps = let P : Stage → Type 0 = λ s. (other : Client) → KeepsFor (kept_of s) other in subst P (sym at) keeps

turn_at-is : (s : Sizes) (n : ℕ) (client : Client) (stage : Stage) (answer : Answer) → client.stage ≡ stage → IsClient s n client → Member s n client → HasCall stage client → IsAt stage client → IsClient s n (turn_at stage client answer).state
turn_at-is s n client Idle (Word found) at is member call has = is
turn_at-is s n client Idle Done at is member call has = is
turn_at-is s n client Idle Lost at is member call has = is
turn_at-is s n client Start Done at is member call has = record { member = member; call = call; stage = tt }
turn_at-is s n client Start (Word found) at is member call has = is
turn_at-is s n client Start Lost at is member call has = is
turn_at-is s n client ReadEpoch (Word found) at is member call has = on_epoch-is s n client found member call (any_at client ReadEpoch at (λ other. tt))
turn_at-is s n client ReadEpoch Done at is member call has = is
turn_at-is s n client ReadEpoch Lost at is member call has = is
turn_at-is s n client (Pause word kept) Done at is member call has = record { member = member; call = call; stage = keeps-stage kept client (Paused word kept) has }
turn_at-is s n client (Pause word kept) (Word found) at is member call has = is
turn_at-is s n client (Pause word kept) Lost at is member call has = is
turn_at-is s n client (Paused word kept) (Word found) at is member call has = on_paused-is s n client word kept found member call has (any_at client (Paused word kept) at (λ other. tt))
turn_at-is s n client (Paused word kept) Done at is member call has = is
turn_at-is s n client (Paused word kept) Lost at is member call has = is
turn_at-is s n client (LostNode node kept) (Word found) at is member call has = on_lost-is s n client node kept found member call has
turn_at-is s n client (LostNode node kept) Done at is member call has = is
turn_at-is s n client (LostNode node kept) Lost at is member call has = is
turn_at-is s n client (Seek key_search) answer at is member call has =
    on_seek-is s n client (search.turn key_search answer).state (search.turn key_search answer).told member call (of_search.turn-is (view_of client) client.key key_search answer has)
    (any_at client (Seek key_search) at (λ other. tt))
    (λ slot word value_len kind tells. of_search.turn-found (view_of client) client.key key_search answer slot word value_len kind has tells)
turn_at-is s n client (Fetch value_read) answer at is member call has =
    on_fetch-is s n client (values.turn value_read answer).state (values.turn value_read answer).told member call (keeps_at client (Fetch value_read) at tt) (of_values.turn-is (view_of client) value_read answer has)
turn_at-is s n client Choose answer at is member call has =
    on_choosing-is s n client (choosing.turn client.stock answer) member call has.0 has.1.ready.is_view (keeps_at client Choose at has.0)
    (of_choosing.turn-turned (view_of client) client.client client.class client.stock answer has.1)
turn_at-is s n client (Clear change) answer at is member call has =
    on_clear-is s n client (bits.turn change answer).state (bits.turn change answer).told member call (subst IsView has.1.held has.1.is_view) has.0 (keeps_at client (Clear change) at has.0)
    (of_bits.turn-is (view_of client) change answer has.1)
turn_at-is s n client (Body write) answer at is member call has =
    on_body-is s n client (words.turn write answer).state (words.turn write answer).told member call (subst IsView has.1.held has.1.is_view) has.0 (keeps_at client (Body write) at has.0)
    (of_words.turn-is (view_of client) write answer has.1)
turn_at-is s n client (Find key_search) answer at is member call has =
    finds_at-is s n client key_search.phase key_search answer member call has.0 (keeps_at client (Find key_search) at has.0) has.1
turn_at-is s n client (ReadVersion word) answer at is member call has =
    on_version-is s n client word answer member call has.1 has.0 (keeps_at client (ReadVersion word) at has.0.object) has.2
turn_at-is s n client (Log write) answer at is member call has =
    on_log-is s n client (words.turn write answer).state (words.turn write answer).told member call (subst IsView has.1.held has.1.is_view) has.0 (keeps_at client (Log write) at has.0)
    (of_words.turn-is (view_of client) write answer has.1)
turn_at-is s n client (WriteSlot write) answer at is member call has =
    on_wrote-is s n client (slots.turn write answer).state (slots.turn write answer).told member call (subst IsView has.1.held has.1.is_view) has.0 (keeps_at client (WriteSlot write) at has.0)
    (of_slots.turn-is (view_of client) write answer has.1)
turn_at-is s n client (AwaitRound write) (Word found) at is member call has = on_round-is s n client write found member call has.0 has.1
turn_at-is s n client (AwaitRound write) Done at is member call has = is
turn_at-is s n client (AwaitRound write) Lost at is member call has = is
turn_at-is s n client (TestKey key_test) answer at is member call has =
    on_test-is s n client (test.turn key_test answer).state (test.turn key_test answer).told member call (subst IsView has.1.held has.1.is_view) has.0 (keeps_at client (TestKey key_test) at has.0)
    (of_test.turn-is (view_of client) client.key key_test answer has.1)
turn_at-is s n client (Resolve resolving) answer at is member call has =
    on_resolved-is s n client (resolution.turn resolving answer).state (resolution.turn resolving answer).told member call (subst IsView has.1.held has.1.is_view) has.0 (keeps_at client (Resolve resolving) at has.0)
    (of_resolution.turn-is (view_of client) resolving answer has.1)
turn_at-is s n client (Free change) answer at is member call has =
    on_free-is s n client (bits.turn change answer).state (bits.turn change answer).told member call has.0 (keeps_at client (Free change) at has.0) (of_bits.turn-is (view_of client) change answer has.1)
turn_at-is s n client (Return change) answer at is member call has =
    on_return-is s n client (bits.turn change answer).state (bits.turn change answer).told member call has.0 (keeps_at client (Return change) at has.0) (of_bits.turn-is (view_of client) change answer has.1)
turn_at-is s n client End Done at is member call has = record { member = member; call = tt; stage = tt }
turn_at-is s n client End (Word found) at is member call has = is
turn_at-is s n client End Lost at is member call has = is

-- a client stays one, whatever is answered
pub turn-is : (s : Sizes) (n : ℕ) (client : Client) (answer : Answer) → IsClient s n client → IsClient s n (turn client answer).state
turn-is s n client answer is = turn_at-is s n client client.stage answer refl is is.member is.call is.stage

epoch-inside : (client : Client) → IsInPool client.shape (place_of (verb_at ReadEpoch client))
epoch-inside client = control-inside client.shape EpochWord tt

verb_at-inside : (s : Sizes) (n : ℕ) (client : Client) (stage : Stage) → Member s n client → IsAt stage client → IsInPool client.shape (place_of (verb_at stage client))
verb_at-inside s n client Idle member has = epoch-inside client
verb_at-inside s n client Start member has = control-inside client.shape (Begin client.client) (member.least, omega (arith, member.most, member.limits.clients))
verb_at-inside s n client ReadEpoch member has = epoch-inside client
verb_at-inside s n client (Pause word kept) member has = control-inside client.shape (pause_word client.client) (member.least, omega (arith, member.most, member.limits.clients))
verb_at-inside s n client (Paused word kept) member has = epoch-inside client
verb_at-inside s n client (LostNode node kept) member has = epoch-inside client
verb_at-inside s n client (Seek key_search) member has = of_search.next-inside (view_of client) client.key key_search has
verb_at-inside s n client (Fetch value_read) member has = of_values.next-inside (view_of client) value_read has
verb_at-inside s n client Choose member has = of_choosing.next-inside (view_of client) client.client client.class client.stock has.1
verb_at-inside s n client (Clear change) member has = of_bits.next-inside (view_of client) change has.1
verb_at-inside s n client (Body write) member has = of_words.next-inside (view_of client) write has.1
verb_at-inside s n client (Find key_search) member has = of_search.next-inside (view_of client) client.key key_search has.1
verb_at-inside s n client (ReadVersion word) member has =
    let named = has.2 in
    let object = object_in-is client.shape word named.0 named.1 in
    let pointer = object_in-pointer client.shape word named.0 named.1 in
    let P : ℕ → Type 0 = λ p. IsInPool client.shape (primary_place (view_of client) (object_word p 2)) in
    subst P pointer (of_test.object_place-inside (view_of client) named.0 2 has.1 object (omega (arith, room_of-eight named.0.class object.class)))
verb_at-inside s n client (Log write) member has = of_words.next-inside (view_of client) write has.1
verb_at-inside s n client (WriteSlot write) member has = of_slots.next-inside (view_of client) write has.1
verb_at-inside s n client (AwaitRound write) member has = epoch-inside client
verb_at-inside s n client (TestKey key_test) member has = of_test.next-inside (view_of client) client.key key_test has.1
verb_at-inside s n client (Resolve resolving) member has = of_resolution.next-inside (view_of client) resolving has.1
verb_at-inside s n client (Free change) member has = of_bits.next-inside (view_of client) change has.1
verb_at-inside s n client (Return change) member has = of_bits.next-inside (view_of client) change has.1
verb_at-inside s n client End member has = control-inside client.shape (Begin client.client) (member.least, omega (arith, member.most, member.limits.clients))

-- its verb goes to a place of the pool
pub next-inside : (s : Sizes) (n : ℕ) (client : Client) → IsClient s n client → IsInPool s (place_of (next client))
next-inside s n client is =
    let P : Sizes → Type 0 = λ sizes. IsInPool sizes (place_of (next client)) in
    subst P is.member.same_shape (verb_at-inside s n client client.stage is.member is.stage)

-- a client begins as one
pub first_client-is : (sizes : Sizes) (client : ℕ) → IsWithinLimits sizes → 1 ≤ client → client ≤ sizes.clients → IsClient sizes client (first_client client sizes)
first_client-is sizes client limits least most = record {
  member = record { same_shape = refl; same_number = refl; limits = limits; least = least; most = most; is_stock = first_stock-is sizes client; places = λ k d under. absurd (omega arith) };
  call = tt;
  stage = tt;
}

-- it stays one where it makes a call whose lengths are taken
pub invoked-is : (s : Sizes) (n : ℕ) (client : Client) (operation : Operation) (key value : List ℕ) → IsClient s n client → IsKeyLength (length key) → length value ≤ LONGEST → IsClient s n (invoked client operation key value)
invoked-is s n client operation key value is key_len value_len =
    let member = is.member in
    record {
      member = record { same_shape = member.same_shape; same_number = member.same_number; limits = member.limits; least = member.least; most = member.most; is_stock = member.is_stock; places = member.places };
      call = record { key_len = key_len; value_len = value_len };
      stage = tt;
    }
