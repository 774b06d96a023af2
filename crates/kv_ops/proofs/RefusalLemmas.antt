-- A program tells that a node refused its verb only where the answer was so, and then that verb's node.
use Rattle.std.proofs.Common.{◌≡◌, ℕ, ◌+◌, ◌==◌, nat_lt, Bool, true, false, length, Option, Some, None, refl, subst}
use Rattle.machine.specs.declared.bit_change.Changed.{Changed}
use Rattle.machine.specs.declared.bit_change.Changed.TheVariants as changed
use Rattle.machine.specs.declared.key_search.Found.{Found}
use Rattle.machine.specs.declared.key_search.Found.TheVariants as found_as
use Rattle.machine.specs.declared.key_test.Tested.{Tested}
use Rattle.machine.specs.declared.key_test.Tested.TheVariants as tested
use Rattle.machine.specs.declared.object_write.Written.{Written}
use Rattle.machine.specs.declared.object_write.Written.TheVariants as written
use Rattle.machine.specs.declared.resolution.Resolved.{Resolved}
use Rattle.machine.specs.declared.resolution.Resolved.TheVariants as resolved
use Rattle.machine.specs.declared.slot_write.Wrote.{Wrote}
use Rattle.machine.specs.declared.slot_write.Wrote.TheVariants as wrote
use Rattle.machine.specs.declared.value_read.Fetched.{Fetched}
use Rattle.machine.specs.declared.value_read.Fetched.TheVariants as fetched_as
use Rattle.machine.specs.BitChange as bits
use Rattle.machine.specs.BitChange.{BitChange}
use Rattle.machine.specs.KeySearch as search
use Rattle.machine.specs.KeySearch.{KeySearch}
use Rattle.machine.specs.KeyTest as test
use Rattle.machine.specs.KeyTest.{KeyTest}
use Rattle.machine.specs.ObjectNames.{Object, bitmap_of, candidate_in, object_in}
use Rattle.machine.specs.Places.{object_word, replica_count}
use Rattle.machine.specs.Resolution as resolution
use Rattle.machine.specs.Resolution.{Resolution}
use Rattle.machine.specs.SlotWrite as slots
use Rattle.machine.specs.SlotWrite.{SlotWrite}
use Rattle.machine.specs.ValueRead as values
use Rattle.machine.specs.ValueRead.{ValueRead}
use Rattle.machine.specs.WordsWrite as words
use Rattle.machine.specs.WordsWrite.{WordsWrite}
use Rattle.object_form.specs.Class.{words_for}
use Rattle.object_form.specs.Content.{word_from}
use Rattle.object_form.specs.declared.metas.Meta.{Meta}
use Rattle.verb_words.specs.declared.verbs.Answer.{Answer}
use Rattle.verb_words.specs.declared.verbs.Answer.TheVariants.{Word, Done, Lost}
use Rattle.verb_words.specs.Verb.{place_of}

-- The change of a bit.

abbrev BitsAnswered : Changed → Type 0
BitsAnswered changed.Going = Unit {0}
BitsAnswered changed.Whole = Unit {0}
BitsAnswered (changed.Refused node) = ⊥

replica-answered : (change : BitChange) → BitsAnswered (bits.on_replica change).told
replica-answered change = by (nat_lt (change.replica + 1) (replica_count change.view (bitmap_of change.object.pointer))) refl
  where
    by : (t : Bool) → nat_lt (change.replica + 1) (replica_count change.view (bitmap_of change.object.pointer)) ≡ t → BitsAnswered (bits.on_replica change).told
    by true more = rw more tt
    by false last = rw last tt

bits-answered : (phase : bits.Phase) (change : BitChange) (found : ℕ) → BitsAnswered (bits.turn_at phase change found).told
bits-answered bits.Change change found = replica-answered change
bits-answered bits.Look change found = by (bits.is_as_wanted change found) refl
  where
    by : (t : Bool) → bits.is_as_wanted change found ≡ t → BitsAnswered (bits.turn_at bits.Look change found).told
    by true wanted = rw wanted (replica-answered change)
    by false other = rw other tt

bits-node : (one other : ℕ) → changed.Refused one ≡ changed.Refused other → other ≡ one
bits-node one other same = cc

pub bits-refused : (change : BitChange) (answer : Answer) (node : ℕ) → (bits.turn change answer).told ≡ changed.Refused node → (answer ≡ Lost) × (node ≡ (place_of (bits.next change)).node)
bits-refused change (Word found) node tells = absurd (subst BitsAnswered tells (bits-answered change.phase change found))
bits-refused change Done node tells = absurd (subst BitsAnswered tells tt)
bits-refused change Lost node tells = (refl, bits-node _ node tells)

-- The writing of words.

abbrev WordsAnswered : Written → Type 0
WordsAnswered written.Going = Unit {0}
WordsAnswered written.Whole = Unit {0}
WordsAnswered (written.Refused node) = ⊥

words-answered : (write : WordsWrite) → WordsAnswered (words.turn write Done).told
words-answered write = by (nat_lt (write.replica + 1) (replica_count write.view (object_word write.pointer 0))) refl (nat_lt (write.piece + 1) (length write.pieces)) refl
  where
    by : (t : Bool) → nat_lt (write.replica + 1) (replica_count write.view (object_word write.pointer 0)) ≡ t → (u : Bool) → nat_lt (write.piece + 1) (length write.pieces) ≡ u
        → WordsAnswered (words.turn write Done).told
    by true more u pieces = rw more tt
    by false last true pieces = rw (last, pieces) tt
    by false last false pieces = rw (last, pieces) tt

words-node : (one other : ℕ) → written.Refused one ≡ written.Refused other → other ≡ one
words-node one other same = cc

pub words-refused : (write : WordsWrite) (answer : Answer) (node : ℕ) → (words.turn write answer).told ≡ written.Refused node → (answer ≡ Lost) × (node ≡ (place_of (words.next write)).node)
words-refused write (Word found) node tells = absurd (subst WordsAnswered tells (tt))
words-refused write Done node tells = absurd (subst WordsAnswered tells (words-answered write))
words-refused write Lost node tells = (refl, words-node _ node tells)

-- The reading of a value.

abbrev ValuesAnswered : Fetched → Type 0
ValuesAnswered fetched_as.Going = Unit {0}
ValuesAnswered fetched_as.Whole = Unit {0}
ValuesAnswered (fetched_as.Refused node) = ⊥

values-answered : (read : ValueRead) (found : ℕ) → ValuesAnswered (values.turn read (Word found)).told
values-answered read found = by (length read.words + 1 == words_for read.value_len) refl
  where
    by : (t : Bool) → (length read.words + 1 == words_for read.value_len) ≡ t → ValuesAnswered (values.turn read (Word found)).told
    by true last = rw last tt
    by false more = rw more tt

values-node : (one other : ℕ) → fetched_as.Refused one ≡ fetched_as.Refused other → other ≡ one
values-node one other same = cc

pub values-refused : (read : ValueRead) (answer : Answer) (node : ℕ) → (values.turn read answer).told ≡ fetched_as.Refused node → (answer ≡ Lost) × (node ≡ (place_of (values.next read)).node)
values-refused read (Word found) node tells = absurd (subst ValuesAnswered tells (values-answered read found))
values-refused read Done node tells = absurd (subst ValuesAnswered tells tt)
values-refused read Lost node tells = (refl, values-node _ node tells)

-- The slot write.

abbrev SlotsAnswered : Wrote → Type 0
SlotsAnswered wrote.Going = Unit {0}
SlotsAnswered wrote.Won = Unit {0}
SlotsAnswered (wrote.Changed word) = Unit {0}
SlotsAnswered (wrote.Unchanged word) = Unit {0}
SlotsAnswered (wrote.Refused node) = ⊥

slots-answered : (phase : slots.Phase) (write : SlotWrite) (found : ℕ) → SlotsAnswered (slots.turn_at phase write found).told
slots-answered slots.Gather write found = tt
slots-answered (slots.Mend backup) write found = tt
slots-answered slots.Final write found = tt
slots-answered slots.Check write found = by (found == write.expect) refl
  where
    by : (t : Bool) → (found == write.expect) ≡ t → SlotsAnswered (slots.turn_at slots.Check write found).told
    by true same = rw same tt
    by false other = rw other tt
slots-answered slots.Wait write found = by (found == write.expect) refl
  where
    by : (t : Bool) → (found == write.expect) ≡ t → SlotsAnswered (slots.turn_at slots.Wait write found).told
    by true same = rw same tt
    by false other = rw other tt

slots-node : (one other : ℕ) → wrote.Refused one ≡ wrote.Refused other → other ≡ one
slots-node one other same = cc

pub slots-refused : (write : SlotWrite) (answer : Answer) (node : ℕ) → (slots.turn write answer).told ≡ wrote.Refused node → (answer ≡ Lost) × (node ≡ (place_of (slots.next write)).node)
slots-refused write (Word found) node tells = absurd (subst SlotsAnswered tells (slots-answered write.phase write found))
slots-refused write Done node tells = absurd (subst SlotsAnswered tells tt)
slots-refused write Lost node tells = (refl, slots-node _ node tells)

-- The test of a key.

abbrev TestAnswered : Tested → Type 0
TestAnswered tested.Going = Unit {0}
TestAnswered (tested.Same kind value_len) = Unit {0}
TestAnswered tested.Other = Unit {0}
TestAnswered (tested.Refused node) = ⊥

meta-answered : (key_test : KeyTest) (found : ℕ) (meta : Option Meta) → test.meta_for key_test found ≡ meta → TestAnswered (test.turn_at test.Length key_test found).told
meta-answered key_test found None none = rw none tt
meta-answered key_test found (Some meta) some = rw some tt

test-answered : (phase : test.Phase) (key_test : KeyTest) (found : ℕ) → TestAnswered (test.turn_at phase key_test found).told
test-answered test.Length key_test found = meta-answered key_test found (test.meta_for key_test found) refl
test-answered (test.Part word kind value_len) key_test found = by (found == word_from key_test.key word) refl (word + 1 == words_for (length key_test.key)) refl
  where
    by : (t : Bool) → (found == word_from key_test.key word) ≡ t → (u : Bool) → (word + 1 == words_for (length key_test.key)) ≡ u → TestAnswered (test.turn_at (test.Part word kind value_len) key_test found).told
    by false other u last = rw other tt
    by true same true last = rw (same, last) tt
    by true same false more = rw (same, more) tt

test-node : (one other : ℕ) → tested.Refused one ≡ tested.Refused other → other ≡ one
test-node one other same = cc

pub test-refused : (key_test : KeyTest) (answer : Answer) (node : ℕ) → (test.turn key_test answer).told ≡ tested.Refused node → (answer ≡ Lost) × (node ≡ (place_of (test.next key_test)).node)
test-refused key_test (Word found) node tells = absurd (subst TestAnswered tells (test-answered key_test.phase key_test found))
test-refused key_test Done node tells = absurd (subst TestAnswered tells tt)
test-refused key_test Lost node tells = (refl, test-node _ node tells)

-- The search for a key.

abbrev SearchAnswered : Found → Type 0
SearchAnswered found_as.Going = Unit {0}
SearchAnswered (found_as.Empty slot) = Unit {0}
SearchAnswered (found_as.At slot word kind value_len) = Unit {0}
SearchAnswered found_as.Nowhere = Unit {0}
SearchAnswered (found_as.Refused node) = ⊥

pub passed-answered : (key_search : KeySearch) → SearchAnswered (search.passed key_search).told
passed-answered key_search = by (nat_lt (key_search.place + 1) (length key_search.order)) refl
  where
    by : (t : Bool) → nat_lt (key_search.place + 1) (length key_search.order) ≡ t → SearchAnswered (search.passed key_search).told
    by true more = rw more tt
    by false last = rw last tt

slot-answered : (key_search : KeySearch) (found : ℕ) → SearchAnswered (search.turn_at search.AtSlot key_search (Word found)).told
slot-answered key_search found = by (found == 0) refl (candidate_in key_search.view.shape key_search.key found) refl
  where
    by : (t : Bool) → (found == 0) ≡ t → (object : Option Object) → candidate_in key_search.view.shape key_search.key found ≡ object → SearchAnswered (search.turn_at search.AtSlot key_search (Word found)).told
    by true empty object candidate = rw empty tt
    by false some None none = rw (some, none) (passed-answered key_search)
    by false some (Some object) candidate = rw (some, candidate) tt

pub passed-refused : (key_search : KeySearch) (node : ℕ) → (search.passed key_search).told ≡ found_as.Refused node → ⊥
passed-refused key_search node tells = subst SearchAnswered tells (passed-answered key_search)

search-node : (one other : ℕ) → found_as.Refused one ≡ found_as.Refused other → other ≡ one
search-node one other same = cc

tested-refused : (key_search : KeySearch) (word : ℕ) (key_test : KeyTest) (told : Tested) (node : ℕ) → (search.on_test key_search word key_test told).told ≡ found_as.Refused node → told ≡ tested.Refused node
tested-refused key_search word key_test tested.Going node tells = absurd cc
tested-refused key_search word key_test (tested.Same kind value_len) node tells = absurd cc
tested-refused key_search word key_test tested.Other node tells = absurd (passed-refused key_search node tells)
tested-refused key_search word key_test (tested.Refused other) node tells = let same : node ≡ other = search-node other node tells in rw same refl

search-at : (phase : search.Phase) (key_search : KeySearch) (answer : Answer) (node : ℕ) → key_search.phase ≡ phase → (search.turn_at phase key_search answer).told ≡ found_as.Refused node
    → (answer ≡ Lost) × (node ≡ (place_of (search.verb_at phase key_search)).node)
search-at search.AtSlot key_search (Word found) node at tells = absurd (subst SearchAnswered tells (slot-answered key_search found))
search-at search.AtSlot key_search Done node at tells = absurd cc
search-at search.AtSlot key_search Lost node at tells = (refl, let same = search-node _ node tells in subst (λ p. node ≡ (place_of (search.verb_at p key_search)).node) at same)
search-at (search.AtKey word key_test) key_search answer node at tells = test-refused key_test answer node (tested-refused key_search word (test.turn key_test answer).state (test.turn key_test answer).told node tells)

pub search-refused : (key_search : KeySearch) (answer : Answer) (node : ℕ) → (search.turn key_search answer).told ≡ found_as.Refused node → (answer ≡ Lost) × (node ≡ (place_of (search.next key_search)).node)
search-refused key_search answer node tells = search-at key_search.phase key_search answer node refl tells

-- The resolving.

abbrev ResolutionAnswered : Resolved → Type 0
ResolutionAnswered resolved.Going = Unit {0}
ResolutionAnswered resolved.Still = Unit {0}
ResolutionAnswered resolved.Won = Unit {0}
ResolutionAnswered resolved.Beaten = Unit {0}
ResolutionAnswered resolved.OtherKey = Unit {0}
ResolutionAnswered (resolved.Refused node) = ⊥

walks-answered : (resolving : Resolution) (word : ℕ) (before : Option ℕ) → ResolutionAnswered (resolution.walks_to resolving word before).told
walks-answered resolving word before = by (object_in resolving.view.shape word) refl
  where
    by : (object : Option Object) → object_in resolving.view.shape word ≡ object → ResolutionAnswered (resolution.walks_to resolving word before).told
    by None none = rw none tt
    by (Some object) some = rw some tt

tests-answered : (resolving : Resolution) (word : ℕ) → ResolutionAnswered (resolution.tests resolving word).told
tests-answered resolving word = by (candidate_in resolving.view.shape resolving.key word) refl
  where
    by : (object : Option Object) → candidate_in resolving.view.shape resolving.key word ≡ object → ResolutionAnswered (resolution.tests resolving word).told
    by None none = rw none tt
    by (Some object) some = rw some tt

on_slot-answered : (resolving : Resolution) (found : ℕ) → ResolutionAnswered (resolution.on_slot resolving found).told
on_slot-answered resolving found = by (found == resolving.expect) refl (found == resolving.fresh) refl (resolving.expect == 0) refl
  where
    by : (t : Bool) → (found == resolving.expect) ≡ t → (u : Bool) → (found == resolving.fresh) ≡ u → (v : Bool) → (resolving.expect == 0) ≡ v → ResolutionAnswered (resolution.on_slot resolving found).told
    by true still u fresh v empty = rw still tt
    by false other true fresh v empty = rw (other, fresh) tt
    by false other false another true empty = rw (other, another, empty) (tests-answered resolving found)
    by false other false another false full = rw (other, another, full) (walks-answered resolving found None)

on_version-answered : (resolving : Resolution) (object : Object) (before : Option ℕ) (found : ℕ) → ResolutionAnswered (resolution.on_version resolving object before found).told
on_version-answered resolving object before found = by (resolution.falls before found) refl (nat_lt resolving.version found) refl
  where
    by : (t : Bool) → resolution.falls before found ≡ t → (u : Bool) → nat_lt resolving.version found ≡ u → ResolutionAnswered (resolution.on_version resolving object before found).told
    by false rises u above = rw rises tt
    by true falls true above = rw (falls, above) tt
    by true falls false below = rw (falls, below) tt

on_expected-answered : (resolving : Resolution) (version found : ℕ) → ResolutionAnswered (resolution.on_expected resolving version found).told
on_expected-answered resolving version found = by (found == resolving.fresh) refl
  where
    by : (t : Bool) → (found == resolving.fresh) ≡ t → ResolutionAnswered (resolution.on_expected resolving version found).told
    by true fresh = rw fresh tt
    by false other = rw other (walks-answered resolving found (Some version))

resolution-node : (one other : ℕ) → resolved.Refused one ≡ resolved.Refused other → other ≡ one
resolution-node one other same = cc

resolved-tested : (resolving : Resolution) (key_test : KeyTest) (told : Tested) (node : ℕ) → (resolution.on_test resolving key_test told).told ≡ resolved.Refused node → told ≡ tested.Refused node
resolved-tested resolving key_test tested.Going node tells = absurd cc
resolved-tested resolving key_test (tested.Same kind value_len) node tells = absurd cc
resolved-tested resolving key_test tested.Other node tells = absurd cc
resolved-tested resolving key_test (tested.Refused other) node tells = let same : node ≡ other = resolution-node other node tells in rw same refl

resolution-at : (phase : resolution.Phase) (resolving : Resolution) (answer : Answer) (node : ℕ) → (resolution.turn_at phase resolving answer).told ≡ resolved.Refused node
    → (answer ≡ Lost) × (node ≡ (place_of (resolution.verb_at phase resolving)).node)
resolution-at resolution.AtSlot resolving (Word found) node tells = absurd (subst ResolutionAnswered tells (on_slot-answered resolving found))
resolution-at resolution.AtSlot resolving Done node tells = absurd cc
resolution-at resolution.AtSlot resolving Lost node tells = (refl, resolution-node _ node tells)
resolution-at (resolution.AtKey key_test) resolving answer node tells = test-refused key_test answer node (resolved-tested resolving (test.turn key_test answer).state (test.turn key_test answer).told node tells)
resolution-at (resolution.AtVersion object before) resolving (Word found) node tells = absurd (subst ResolutionAnswered tells (on_version-answered resolving object before found))
resolution-at (resolution.AtVersion object before) resolving Done node tells = absurd cc
resolution-at (resolution.AtVersion object before) resolving Lost node tells = (refl, resolution-node _ node tells)
resolution-at (resolution.AtExpected object version) resolving (Word found) node tells = absurd (subst ResolutionAnswered tells (on_expected-answered resolving version found))
resolution-at (resolution.AtExpected object version) resolving Done node tells = absurd cc
resolution-at (resolution.AtExpected object version) resolving Lost node tells = (refl, resolution-node _ node tells)

pub resolution-refused : (resolving : Resolution) (answer : Answer) (node : ℕ) → (resolution.turn resolving answer).told ≡ resolved.Refused node → (answer ≡ Lost) × (node ≡ (place_of (resolution.next resolving)).node)
resolution-refused resolving answer node tells = resolution-at resolving.phase resolving answer node tells
