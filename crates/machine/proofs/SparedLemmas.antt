-- A client's verbs leave the words of the master as they are.
use Rattle.std.proofs.Common.{◌≡◌, ℕ, ◌+◌, ◌*◌, ◌<◌, ◌≤◌, inl, inr, List, length, refl, sym, subst, arith}
use Rattle.std.specs.Prelude.{All}
use Rattle.machine.specs.BitChange as bits
use Rattle.machine.specs.BitChange.{BitChange, Change, IsBitChange, Look}
use Rattle.machine.specs.Choosing as choosing
use Rattle.machine.specs.Choosing.{IsAt, IsChoosing, IsReady, word_at_block}
use Rattle.machine.specs.Client.{next, verb_at, view_of}
use Rattle.machine.specs.EpochRead.{IsView}
use Rattle.machine.specs.KeySearch as search
use Rattle.machine.specs.KeySearch.{KeySearch}
use Rattle.machine.specs.KeyTest as test
use Rattle.machine.specs.KeyTest.{KeyTest}
use Rattle.machine.specs.ObjectNames.{bitmap_of}
use Rattle.machine.specs.Places.{Home, IsSpared, SparesMaster, homes_of, object_word, place_at, primary_last, primary_place, replica_count, slot_backup, slot_homes_of, slot_primary, backup_count, written_place}
use Rattle.machine.specs.Resolution as resolution
use Rattle.machine.specs.Resolution.{Resolution}
use Rattle.machine.specs.SlotWrite as slots
use Rattle.machine.specs.SlotWrite.{IsSlotWrite, SlotWrite}
use Rattle.machine.specs.Stage.{Client, Stage, Idle, Start, ReadEpoch, Pause, Paused, LostNode, Seek, Fetch, Choose, Clear, Body, Find, ReadVersion, Log, WriteSlot, AwaitRound, TestKey, Resolve, Free, Return, End}
use Rattle.machine.specs.Standing as standing
use Rattle.machine.specs.Standing.{IsClient}
use Rattle.machine.specs.Stock.{Ask, AskFirst, Claim, Phase, ReadBitmap, ReadBlock, Rest, Scan, Spread, Stock, WriteHead}
use Rattle.machine.specs.Stock as stocks
use Rattle.machine.specs.WordsWrite as words
use Rattle.machine.specs.WordsWrite.{IsWordsWrite, WordsWrite, present_piece}
use Rattle.machine.proofs.ChoosingLemmas.{held_view, here_block}
use Rattle.machine.proofs.ObjectNamesLemmas.{bitmap_of-has, object_word-has}
use Rattle.machine.proofs.PlacesLemmas.{IsHome, homes_of-are, length-primary_last, primary_last-are, replica_count-same, replica_count-some, slot_homes_of-are, slot_homes_of-more}
use Rattle.region_view.specs.Layout.{HasWord, NodeWord, Slot, region_of_word}
use Rattle.region_view.specs.Placed.{Viewed}
use Rattle.region_view.specs.Sizes.{Sizes}

place_at-away : (sizes : Sizes) (homes : List Home) (i : ℕ) → All (IsHome sizes) homes → i < length homes → 1 ≤ (place_at sizes homes i).node
place_at-away sizes homes i are below = (are i (0, Slot 0) below).node.least

primary_place-away : (view : Viewed) (word : NodeWord) → IsView view → HasWord view.shape word → region_of_word word ≤ view.shape.regions → 1 ≤ (primary_place view word).node
primary_place-away view word is has within =
    place_at-away view.shape (homes_of view word) 0 (homes_of-are view word is.limits has) (replica_count-some view word is within)

written_place-away : (view : Viewed) (word : NodeWord) (i : ℕ) → IsView view → HasWord view.shape word → i < replica_count view word → 1 ≤ (written_place view word i).node
written_place-away view word i is has below =
    place_at-away view.shape (primary_last (homes_of view word)) i (primary_last-are view.shape (homes_of view word) (homes_of-are view word is.limits has))
    (omega (arith, length-primary_last (homes_of view word)))

slot_primary-away : (view : Viewed) (slot : ℕ) → IsView view → slot < 24 * view.shape.groups → 1 ≤ (slot_primary view slot).node
slot_primary-away view slot is below =
    place_at-away view.shape (slot_homes_of view slot) 0 (slot_homes_of-are view slot is.limits below) (omega (arith, slot_homes_of-more view slot is))

slot_backup-away : (view : Viewed) (slot backup : ℕ) → IsView view → slot < 24 * view.shape.groups → backup < backup_count view slot → 1 ≤ (slot_backup view slot backup).node
slot_backup-away view slot backup is below under =
    place_at-away view.shape (slot_homes_of view slot) (backup + 1) (slot_homes_of-are view slot is.limits below) (omega arith)

bits-spare : (view : Viewed) (change : BitChange) → IsBitChange view change → SparesMaster (bits.next change)
bits-spare view change is = at change.phase
  where
    at : (phase : bits.Phase) → SparesMaster (bits.verb_at phase change)
    at Look = tt
    at Change = inl (written_place-away change.view (bitmap_of change.object.pointer) change.replica is.is_view (bitmap_of-has change.view.shape change.object is.object) is.replica)

words-spare : (view : Viewed) (write : WordsWrite) → IsWordsWrite view write → SparesMaster (words.next write)
words-spare view write is =
    let word = object_word write.pointer (present_piece write).0 in
    let same = replica_count-same write.view word (object_word write.pointer 0) refl in
    inl (written_place-away write.view word write.replica is.is_view
    (object_word-has write.view.shape (record { pointer = write.pointer; class = is.class }) (present_piece write).0 is.object (is.room write.piece is.piece))
    (omega (arith, is.replica)))

slots-spare : (view : Viewed) (write : SlotWrite) → IsSlotWrite view write → SparesMaster (slots.next write)
slots-spare view write is = at write.phase refl
  where
    at : (phase : slots.Phase) → write.phase ≡ phase → SparesMaster (slots.verb_at phase write)
    at slots.Gather stands =
        let P : slots.Phase → Type 0 = λ p. slots.IsAt p write.fresh write.list (backup_count write.view write.slot) in
        inl (slot_backup-away write.view write.slot (length write.list) is.is_view is.slot (subst P stands is.phase))
    at (slots.Mend backup) stands =
        let P : slots.Phase → Type 0 = λ p. slots.IsAt p write.fresh write.list (backup_count write.view write.slot) in
        let room : backup < length write.list = subst P stands is.phase in
        inl (slot_backup-away write.view write.slot backup is.is_view is.slot (omega (arith, is.list)))
    at slots.Check stands = tt
    at slots.Final stands = inl (slot_primary-away write.view write.slot is.is_view is.slot)
    at slots.Wait stands = tt

test-spares : (key_test : KeyTest) → SparesMaster (test.next key_test)
test-spares key_test = at key_test.phase
  where
    at : (phase : test.Phase) → SparesMaster (test.verb_at phase key_test)
    at test.Length = tt
    at (test.Part word kind value_len) = tt

search-spares : (key_search : KeySearch) → SparesMaster (search.next key_search)
search-spares key_search = at key_search.phase
  where
    at : (phase : search.Phase) → SparesMaster (search.verb_at phase key_search)
    at search.AtSlot = tt
    at (search.AtKey word key_test) = test-spares key_test

resolution-spares : (resolving : Resolution) → SparesMaster (resolution.next resolving)
resolution-spares resolving = at resolving.phase
  where
    at : (phase : resolution.Phase) → SparesMaster (resolution.verb_at phase resolving)
    at resolution.AtSlot = tt
    at (resolution.AtKey key_test) = test-spares key_test
    at (resolution.AtVersion object before) = tt
    at (resolution.AtExpected object version) = tt

choosing-spares : (view : Viewed) (client class : ℕ) (stock : Stock) → IsChoosing view client class stock → SparesMaster (choosing.next stock)
choosing-spares view client class stock is = at stock.phase is.phase
  where
    at : (phase : Phase) → IsAt phase stock → SparesMaster (choosing.verb_at phase stock)
    at Rest has = tt
    at AskFirst has = tt
    at (Scan own) has = tt
    at (Ask number) has = tt
    at ReadBlock has = tt
    at (Claim word) has =
        let P : Viewed → Type 0 = λ v. 1 ≤ (primary_place v (word_at_block stock)).node in
        let here = here_block view client class stock is.ready has in
        inl (subst P (sym (held_view view client class stock is.ready)) (primary_place-away view (word_at_block stock) is.ready.is_view here here.1))
    at (Spread unused backup) has =
        let P : Viewed → Type 0 = λ v. 1 ≤ (written_place v (word_at_block stock) backup).node in
        let Q : Viewed → Type 0 = λ v. backup + 1 < replica_count v (word_at_block stock) in
        let same = held_view view client class stock is.ready in
        let below = subst Q same has.1 in
        inl (subst P (sym same) (written_place-away view (word_at_block stock) backup is.ready.is_view (here_block view client class stock is.ready has.0) (omega arith)))
    at ReadBitmap has = tt
    at WriteHead has = inr (omega arith)

-- a client's verb leaves the words of the master as they are
pub next-spares : (s : Sizes) (n : ℕ) (client : Client) → IsClient s n client → SparesMaster (next client)
next-spares s n client is = at client.stage is.stage
  where
    at : (stage : Stage) → standing.IsAt stage client → SparesMaster (verb_at stage client)
    at Idle has = tt
    at Start has = inr (omega arith)
    at ReadEpoch has = tt
    at (Pause word kept) has = inr (omega arith)
    at (Paused word kept) has = tt
    at (LostNode node kept) has = tt
    at (Seek key_search) has = search-spares key_search
    at (Fetch value_read) has = tt
    at Choose has = choosing-spares (view_of client) client.client client.class client.stock has.1
    at (Clear change) has = bits-spare (view_of client) change has.1
    at (Body write) has = words-spare (view_of client) write has.1
    at (Find key_search) has = search-spares key_search
    at (ReadVersion word) has = tt
    at (Log write) has = words-spare (view_of client) write has.1
    at (WriteSlot write) has = slots-spare (view_of client) write has.1
    at (AwaitRound write) has = tt
    at (TestKey key_test) has = test-spares key_test
    at (Resolve resolving) has = resolution-spares resolving
    at (Free change) has = bits-spare (view_of client) change has.1
    at (Return change) has = bits-spare (view_of client) change has.1
    at End has = inr (omega arith)
