-- What a client has at a stage, and what its turn there is.
use Rattle.std.proofs.Common.{◌≡◌, ℕ, ◌+◌, ◌<◌, ◌≤◌, ◌⊎◌, inl, inr, ◌==◌, Bool, true, false, length, refl, sym, ap, subst, ◌∙◌, arith}
use Rattle.std.proofs.lemmas.Bool.{false≢true}
use Rattle.std.proofs.lemmas.List.{length-take}
use Rattle.std.specs.Prelude.{Result, Ok, Err, IsOk}
use Rattle.std.specs.Result.{is_ok}
use Rattle.machine.specs.KeySearch.{is_at_slot}
use Rattle.kv_ops.specs.Ahead.{is_searching}
use Rattle.kv_ops.specs.Standings.{IsHeld, IsReadyUnder, IsSearch, reads_own}
use Rattle.machine.specs.declared.choosing.Took.{Took}
use Rattle.machine.specs.declared.choosing.Took.TheVariants as took
use Rattle.machine.specs.declared.client_call.Step.{Step}
use Rattle.machine.specs.declared.client_call.Step.TheVariants.{NotYet}
use Rattle.machine.specs.declared.key_search.Found.{Found}
use Rattle.machine.specs.declared.key_search.Found.TheVariants as found_as
use Rattle.machine.specs.Choosing as choosing
use Rattle.machine.specs.Client.{chooses_for, finds_at, kept_of, on_find, on_kind, on_seek, on_searching, on_took, remembers, turn, turn_at, view_of}
use Rattle.machine.specs.KeySearch as search
use Rattle.machine.specs.KeySearch.{IsKeySearch, KeySearch}
use Rattle.machine.specs.Stage.{Client, Get, Put, Delete, Operation, Stage, Idle, Start, ReadEpoch, Pause, Paused, LostNode, Seek, Fetch, Choose, Clear, Body, Find, ReadVersion, Log, WriteSlot, AwaitRound, TestKey, Resolve, Free, Return, End}
use Rattle.machine.specs.Standing.{HasCall, IsAt}
use Rattle.machine.specs.Stock.{Stock}
use Rattle.machine.specs.Turn.{Turn}
use Rattle.machine.specs.ValueRead as values
use Rattle.machine.specs.ValueRead.{IsValueRead, ValueRead}
use Rattle.machine.proofs.ClientLemmas.{with_place-all}
use Rattle.machine.proofs.KeySearchLemmas as of_search
use Rattle.object_form.specs.declared.metas.Kind.{Kind}
use Rattle.object_form.specs.declared.metas.Kind.TheVariants.{Value, Tombstone}
use Rattle.object_form.proofs.ClassLemmas.{units_of-bounds}
use Rattle.object_form.specs.declared.classes.TheConstants.{CLASSES}
use Rattle.object_form.specs.Class.{class_in, room_of, words_for}
use Rattle.object_form.specs.Content.{bytes_of_words}
use Rattle.slot_order.specs.Slots.{order_of}
use Rattle.verb_words.specs.declared.verbs.Answer.{Answer}
use Rattle.verb_words.specs.declared.verbs.Answer.TheVariants.{Word, Done, Lost}
use Rattle.verb_words.specs.declared.verbs.Why.TheVariants as why

-- what holds at the stage that a client is at
pub at-stage : (client : Client) (stage : Stage) → IsHeld client → client.stage ≡ stage → IsAt stage client
at-stage client stage held at = let P : Stage → Type 0 = λ s. IsAt s client in subst P at held.state.stage

pub call-at : (client : Client) (stage : Stage) → IsHeld client → client.stage ≡ stage → HasCall stage client
call-at client stage held at = let P : Stage → Type 0 = λ s. HasCall s client in subst P at held.state.call

pub remembers-ready : (client : Client) (place : ℕ) → IsReadyUnder client → place < length (order_of client.key client.shape.groups) → IsReadyUnder (remembers client place)
remembers-ready client place ready below =
    let member = ready.0 in (
      record {
        same_shape = member.same_shape;
        same_number = member.same_number;
        limits = member.limits;
        least = member.least;
        most = member.most;
        is_stock = member.is_stock;
        places = with_place-all client.shape client.remembered client.key place member.places below;
      },
      ready.1,
    )

-- Where a first search found the key.

pub found-ready : (client : Client) (key_search new : KeySearch) (answer : Answer) (place : ℕ) → IsHeld client → client.stage ≡ Seek key_search → new ≡ (search.turn key_search answer).state → place ≡ new.place
    → IsReadyUnder (remembers client place)
found-ready client key_search new answer place held at is here =
    let searches = of_search.turn-is (view_of client) client.key key_search answer (at-stage client (Seek key_search) held at) in
    let below = of_search.place-below (view_of client) client.key (search.turn key_search answer).state searches in
    remembers-ready client place (held.state.member, call-at client (Seek key_search) held at)
    (subst (λ p. p < length (order_of client.key client.shape.groups)) (sym (here ∙ ap (λ (s : KeySearch). s.place) is)) below)

-- what a choosing tells leads to the same, where as much is kept
same-took : (client : Client) (one other : Stage) (stock : Stock) (told : Took) → kept_of one ≡ kept_of other → on_took (record client { stage = one }) stock told ≡ on_took (record client { stage = other }) stock told
same-took client one other stock took.Going same = refl
same-took client one other stock (took.Have object next) same = refl
same-took client one other stock (took.NoSpace class awaited begin) same = refl
same-took client one other stock (took.Refused node) same = ap (λ kept. let t : Turn Client Step = record { state = record client { stock = stock; stage = LostNode node kept }; told = NotYet (why.Lost node) } in t) same

pub same-chooses_for : (client : Client) (one other : Stage) (len : ℕ) → kept_of one ≡ kept_of other → chooses_for (record client { stage = one }) len ≡ chooses_for (record client { stage = other }) len
same-chooses_for client one other len same =
    let chosen = record client { class = class_in (length client.key) len } in
    let turned = choosing.begins chosen.stock chosen.mask chosen.class in
    same-took chosen one other turned.state turned.told same

same-kind : (client : Client) (one other : Stage) (kind : Kind) (operation : Operation) (word value_len : ℕ) → kept_of one ≡ kept_of other
    → on_kind kind (record client { stage = one; operation = operation }) word value_len ≡ on_kind kind (record client { stage = other; operation = operation }) word value_len
same-kind client one other Tombstone operation word value_len same = refl
same-kind client one other Value Get word value_len same = refl
same-kind client one other Value Put word value_len same = same-chooses_for (record client { operation = Put }) one other (length client.value) same
same-kind client one other Value Delete word value_len same = same-chooses_for (record client { operation = Delete }) one other (length client.value) same

pub found-turn : (client : Client) (key_search new : KeySearch) (answer : Answer) (slot word value_len place : ℕ) (kind : Kind) → client.stage ≡ Seek key_search
    → new ≡ (search.turn key_search answer).state → found_as.At slot word kind value_len ≡ (search.turn key_search answer).told → place ≡ new.place
    → on_kind kind (remembers (record client { stage = Seek new }) place) word value_len ≡ turn client answer
found-turn client key_search new answer slot word value_len place kind at is tells here =
    let next = (search.turn key_search answer).state in
    ap (λ p. on_kind kind (remembers (record client { stage = Seek new }) p) word value_len) (here ∙ ap (λ (s : KeySearch). s.place) is)
    ∙ same-kind (remembers client next.place) (Seek new) client.stage kind client.operation word value_len (sym (ap kept_of at))
    ∙ ap (λ told. on_seek client next told) tells
    ∙ ap (λ stage. turn_at stage client answer) (sym at)

-- Where a value was read.

room_of-most : (class : ℕ) → class < CLASSES → room_of class ≤ 256
room_of-most class below = omega (arith, units_of-bounds class below)

pub bytes-fit : (client : Client) (value_read new : ValueRead) (answer : Answer) → IsHeld client → client.stage ≡ Fetch value_read → new ≡ (values.turn value_read answer).state → length (values.bytes_of new) ≤ 2016
bytes-fit client value_read new answer held at is = subst (λ (r : ValueRead). length (values.bytes_of r) ≤ 2016) (sym is) (by answer)
  where
    reads : IsValueRead (view_of client) value_read
    reads = at-stage client (Fetch value_read) held at

    short : value_read.value_len ≤ 2016
    short = omega (arith, reads.room, room_of-most reads.class reads.object.class)

    by : (answer : Answer) → length (values.bytes_of (values.turn value_read answer).state) ≤ 2016
    by (Word found) = at' (length value_read.words + 1 == words_for value_read.value_len) refl
      where
        most : length (values.bytes_of (values.with_next value_read found)) ≤ 2016
        most = omega (arith, short, length-take value_read.value_len (bytes_of_words (values.with_next value_read found).words))

        at' : (t : Bool) → (length value_read.words + 1 == words_for value_read.value_len) ≡ t → length (values.bytes_of (values.turn value_read (Word found)).state) ≤ 2016
        at' true last = rw last most
        at' false more = rw more most
    by Done = omega (arith, short, length-take value_read.value_len (bytes_of_words value_read.words))
    by Lost = omega (arith, short, length-take value_read.value_len (bytes_of_words value_read.words))

pub not-ok : {A E : Type 0} (result : Result A E) → IsOk result → is_ok result ≡ false → ⊥
not-ok (Ok value) ok is = absurd cc
not-ok (Err error) ok is = absurd (false≢true ok)

-- The search for the slot.

pub finds-own : (client : Client) (key_search : KeySearch) (answer : Answer) → reads_own client answer ≡ true → is_at_slot key_search.phase ≡ true
    → finds_at key_search.phase client key_search answer ≡ on_searching client (search.passed key_search)
finds-own client key_search answer = by key_search.phase answer
  where
    by : (phase : search.Phase) (answer : Answer) → reads_own client answer ≡ true → is_at_slot phase ≡ true → finds_at phase client key_search answer ≡ on_searching client (search.passed key_search)
    by search.AtSlot (Word word) own at = rw own refl
    by search.AtSlot Done own at = absurd (false≢true own)
    by search.AtSlot Lost own at = absurd (false≢true own)
    by (search.AtKey word key_test) answer own at = absurd (false≢true at)

pub finds-other : (client : Client) (key_search : KeySearch) (answer : Answer) → (reads_own client answer ≡ false) ⊎ (is_at_slot key_search.phase ≡ false)
    → finds_at key_search.phase client key_search answer ≡ on_searching client (search.turn key_search answer)
finds-other client key_search answer = by key_search.phase answer
  where
    by : (phase : search.Phase) (answer : Answer) → (reads_own client answer ≡ false) ⊎ (is_at_slot phase ≡ false) → finds_at phase client key_search answer ≡ on_searching client (search.turn key_search answer)
    by search.AtSlot (Word word) (inl other) = rw other refl
    by search.AtSlot (Word word) (inr at) = absurd cc
    by search.AtSlot Done other = refl
    by search.AtSlot Lost other = refl
    by (search.AtKey word key_test) (Word found) other = refl
    by (search.AtKey word key_test) Done other = refl
    by (search.AtKey word key_test) Lost other = refl

-- what a search tells leads to the same, wherever it stands
pub same-find : (client : Client) (one other key_search : KeySearch) (found : Found) → on_find (record client { stage = Find one }) key_search found ≡ on_find (record client { stage = Find other }) key_search found
same-find client one other key_search found_as.Going = refl
same-find client one other key_search (found_as.Empty slot) = refl
same-find client one other key_search (found_as.At slot word kind value_len) = refl
same-find client one other key_search found_as.Nowhere = refl
same-find client one other key_search (found_as.Refused node) = refl

-- the stage is the one that a client is at
pub at-find : (client : Client) (key_search new : KeySearch) (found : Found) (searched : Turn KeySearch Found) → client.stage ≡ Find key_search → new ≡ searched.state → found ≡ searched.told
    → on_find (record client { stage = Find new }) new found ≡ on_searching client searched
at-find client key_search new found searched at is tells =
    same-find client new key_search new found
    ∙ ap (λ stage. on_find (record client { stage = stage }) new found) (sym at)
    ∙ (λ i. on_find client (is i) (tells i))

pub find-only : (one other : KeySearch) → Find one ≡ Find other → one ≡ other
find-only one other same = cc

-- the search for a key is among the searches
pub searching-searches : (stage : Stage) → is_searching stage ≡ true → IsSearch stage
searching-searches (Seek key_search) is = tt
searching-searches (Find key_search) is = tt
searching-searches Idle is = absurd cc
searching-searches Start is = absurd cc
searching-searches ReadEpoch is = absurd cc
searching-searches (Pause word kept) is = absurd cc
searching-searches (Paused word kept) is = absurd cc
searching-searches (LostNode node kept) is = absurd cc
searching-searches (Fetch value_read) is = absurd cc
searching-searches Choose is = absurd cc
searching-searches (Clear change) is = absurd cc
searching-searches (Body write) is = absurd cc
searching-searches (ReadVersion word) is = absurd cc
searching-searches (Log write) is = absurd cc
searching-searches (WriteSlot write) is = absurd cc
searching-searches (AwaitRound write) is = absurd cc
searching-searches (TestKey key_test) is = absurd cc
searching-searches (Resolve resolving) is = absurd cc
searching-searches (Free change) is = absurd cc
searching-searches (Return change) is = absurd cc
searching-searches End is = absurd cc
