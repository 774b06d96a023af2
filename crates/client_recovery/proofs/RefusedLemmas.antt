-- The programs of a recovery tell of a node that refused a verb exactly where the verb was answered so.
use Rattle.std.proofs.Common.{◌≡◌, ℕ, ◌+◌, ◌==◌, Bool, true, false, length, Option, Some, None, refl, sym, subst}
use Rattle.std.specs.Prelude.{nat_lt}
use Rattle.machine.specs.declared.bit_change.Changed.{Changed}
use Rattle.machine.specs.declared.bit_change.Changed.TheVariants as changed
use Rattle.machine.specs.declared.key_search.Found.{Found}
use Rattle.machine.specs.declared.key_search.Found.TheVariants as found_as
use Rattle.machine.specs.declared.key_test.Tested.{Tested}
use Rattle.machine.specs.declared.key_test.Tested.TheVariants as tested
use Rattle.machine.specs.declared.link_walk.Walked.{Walked}
use Rattle.machine.specs.declared.link_walk.Walked.TheVariants as walked
use Rattle.machine.specs.declared.object_write.Written.{Written}
use Rattle.machine.specs.declared.object_write.Written.TheVariants as written
use Rattle.machine.specs.declared.resolution.Resolved.{Resolved}
use Rattle.machine.specs.declared.resolution.Resolved.TheVariants as resolved
use Rattle.machine.specs.declared.slot_write.Wrote.{Wrote}
use Rattle.machine.specs.declared.slot_write.Wrote.TheVariants as wrote
use Rattle.machine.specs.BitChange as bits
use Rattle.machine.specs.BitChange.{BitChange}
use Rattle.machine.specs.KeySearch as search
use Rattle.machine.specs.KeySearch.{KeySearch}
use Rattle.machine.specs.KeyTest as test
use Rattle.machine.specs.KeyTest.{KeyTest}
use Rattle.machine.specs.LinkWalk as walk
use Rattle.machine.specs.LinkWalk.{LinkWalk}
use Rattle.machine.specs.ObjectNames.{Object, bitmap_of, candidate_in, names_object, object_in}
use Rattle.machine.specs.Places.{object_word, replica_count}
use Rattle.machine.specs.Resolution as resolution
use Rattle.machine.specs.Resolution.{Resolution, falls}
use Rattle.machine.specs.SlotWrite as slots
use Rattle.machine.specs.SlotWrite.{SlotWrite}
use Rattle.machine.specs.WordsWrite as words
use Rattle.machine.specs.WordsWrite.{WordsWrite}
use Rattle.object_form.specs.declared.links.Link.{Link}
use Rattle.object_form.specs.declared.metas.Kind.{Kind}
use Rattle.object_form.specs.declared.metas.Meta.{Meta}
use Rattle.object_form.specs.Class.{words_for}
use Rattle.object_form.specs.Content.{word_from}
use Rattle.verb_words.specs.declared.verbs.Answer.{Answer}
use Rattle.verb_words.specs.declared.verbs.Answer.TheVariants.{Word, Done, Lost}
use Rattle.verb_words.specs.Verb.{place_of}

-- the verb at this place was answered as lost, and the node is its
abbrev pub IsLostAt : ℕ → Answer → ℕ → Type 0
IsLostAt at answer node = (answer ≡ Lost) × (node ≡ at)

-- The walk along links.

abbrev pub WalkedSays : ℕ → Answer → Walked → Type 0
WalkedSays at answer walked.Going = Unit {0}
WalkedSays at answer (walked.End last reserve) = Unit {0}
WalkedSays at answer (walked.Refused node) = IsLostAt at answer node

reaches-says : (at : ℕ) (answer : Answer) (link_walk : LinkWalk) (pointer : ℕ) → WalkedSays at answer (walk.reaches link_walk pointer).told
reaches-says at answer link_walk pointer = by (names_object link_walk.view.shape link_walk.class pointer) refl
  where
    by : (t : Bool) → names_object link_walk.view.shape link_walk.class pointer ≡ t → WalkedSays at answer (walk.reaches link_walk pointer).told
    by true named = rw named tt
    by false other = rw other tt

at_object-says : (at : ℕ) (answer : Answer) (link_walk : LinkWalk) (pointer found : ℕ) → WalkedSays at answer (walk.turn_at (walk.AtObject pointer) link_walk found).told
at_object-says at answer link_walk pointer found = by (walk.newer_link link_walk found) refl
  where
    by : (link : Option Link) → walk.newer_link link_walk found ≡ link → WalkedSays at answer (walk.turn_at (walk.AtObject pointer) link_walk found).told
    by None none = rw none tt
    by (Some link) newer = rw newer (reaches-says at answer (record link_walk { last = Some (pointer, link.call) }) link.next)

pub walk-says : (link_walk : LinkWalk) (answer : Answer) → WalkedSays (place_of (walk.next link_walk)).node answer (walk.turn link_walk answer).told
walk-says link_walk (Word found) = at link_walk.phase
  where
    at : (phase : walk.Phase) → WalkedSays (place_of (walk.next link_walk)).node (Word found) (walk.turn_at phase link_walk found).told
    at walk.AtHead = reaches-says _ (Word found) link_walk found
    at (walk.AtObject pointer) = at_object-says _ (Word found) link_walk pointer found
walk-says link_walk Done = tt
walk-says link_walk Lost = (refl, refl)

-- The change of a bit.

abbrev pub ChangedSays : ℕ → Answer → Changed → Type 0
ChangedSays at answer changed.Going = Unit {0}
ChangedSays at answer changed.Whole = Unit {0}
ChangedSays at answer (changed.Refused node) = IsLostAt at answer node

on_replica-says : (at : ℕ) (answer : Answer) (change : BitChange) → ChangedSays at answer (bits.on_replica change).told
on_replica-says at answer change = by (nat_lt (change.replica + 1) (replica_count change.view (bitmap_of change.object.pointer))) refl
  where
    by : (t : Bool) → nat_lt (change.replica + 1) (replica_count change.view (bitmap_of change.object.pointer)) ≡ t → ChangedSays at answer (bits.on_replica change).told
    by true more = rw more tt
    by false last = rw last tt

pub bits-says : (change : BitChange) (answer : Answer) → ChangedSays (place_of (bits.next change)).node answer (bits.turn change answer).told
bits-says change (Word found) = at change.phase
  where
    look : (t : Bool) → bits.is_as_wanted change found ≡ t → ChangedSays (place_of (bits.next change)).node (Word found) (bits.turn_at bits.Look change found).told
    look true wanted = rw wanted (on_replica-says _ (Word found) change)
    look false other = rw other tt

    at : (phase : bits.Phase) → ChangedSays (place_of (bits.next change)).node (Word found) (bits.turn_at phase change found).told
    at bits.Look = look (bits.is_as_wanted change found) refl
    at bits.Change = on_replica-says _ (Word found) change
bits-says change Done = tt
bits-says change Lost = (refl, refl)

-- The writing of words.

abbrev pub WrittenSays : ℕ → Answer → Written → Type 0
WrittenSays at answer written.Going = Unit {0}
WrittenSays at answer written.Whole = Unit {0}
WrittenSays at answer (written.Refused node) = IsLostAt at answer node

pub words-says : (write : WordsWrite) (answer : Answer) → WrittenSays (place_of (words.next write)).node answer (words.turn write answer).told
words-says write (Word found) = tt
words-says write Done = by (nat_lt (write.replica + 1) (replica_count write.view (object_word write.pointer 0))) refl (nat_lt (write.piece + 1) (length write.pieces)) refl
  where
    by : (t : Bool) → nat_lt (write.replica + 1) (replica_count write.view (object_word write.pointer 0)) ≡ t → (u : Bool) → nat_lt (write.piece + 1) (length write.pieces) ≡ u
        → WrittenSays (place_of (words.next write)).node Done (words.turn write Done).told
    by true more u rest = rw more tt
    by false last true rest = rw (last, rest) tt
    by false last false rest = rw (last, rest) tt
words-says write Lost = (refl, refl)

-- The test of a key.

abbrev TestedSays : ℕ → Answer → Tested → Type 0
TestedSays at answer tested.Going = Unit {0}
TestedSays at answer (tested.Same kind value_len) = Unit {0}
TestedSays at answer tested.Other = Unit {0}
TestedSays at answer (tested.Refused node) = IsLostAt at answer node

test-says : (key_test : KeyTest) (answer : Answer) → TestedSays (place_of (test.next key_test)).node answer (test.turn key_test answer).told
test-says key_test (Word found) = at key_test.phase
  where
    here : ℕ
    here = (place_of (test.next key_test)).node

    length-says : (meta : Option Meta) → test.meta_for key_test found ≡ meta → TestedSays here (Word found) (test.turn_at test.Length key_test found).told
    length-says None none = rw none tt
    length-says (Some meta) some = rw some tt

    part : (word : ℕ) (kind : Kind) (value_len : ℕ) (t : Bool) → (found == word_from key_test.key word) ≡ t → (u : Bool) → (word + 1 == words_for (length key_test.key)) ≡ u
        → TestedSays here (Word found) (test.turn_at (test.Part word kind value_len) key_test found).told
    part word kind value_len true same true last = rw (same, last) tt
    part word kind value_len true same false more = rw (same, more) tt
    part word kind value_len false other u ends = rw other tt

    at : (phase : test.Phase) → TestedSays here (Word found) (test.turn_at phase key_test found).told
    at test.Length = length-says (test.meta_for key_test found) refl
    at (test.Part word kind value_len) = part word kind value_len (found == word_from key_test.key word) refl (word + 1 == words_for (length key_test.key)) refl
test-says key_test Done = tt
test-says key_test Lost = (refl, refl)

-- The search for a key.

abbrev pub FoundSays : ℕ → Answer → Found → Type 0
FoundSays at answer found_as.Going = Unit {0}
FoundSays at answer (found_as.Empty slot) = Unit {0}
FoundSays at answer (found_as.At slot word kind value_len) = Unit {0}
FoundSays at answer found_as.Nowhere = Unit {0}
FoundSays at answer (found_as.Refused node) = IsLostAt at answer node

passed-says : (at : ℕ) (answer : Answer) (key_search : KeySearch) → FoundSays at answer (search.passed key_search).told
passed-says at answer key_search = by (nat_lt (key_search.place + 1) (length key_search.order)) refl
  where
    by : (t : Bool) → nat_lt (key_search.place + 1) (length key_search.order) ≡ t → FoundSays at answer (search.passed key_search).told
    by true more = rw more tt
    by false last = rw last tt

tests-says : (at : ℕ) (answer : Answer) (key_search : KeySearch) (found : ℕ) → FoundSays at answer (search.tests key_search found).told
tests-says at answer key_search found = by (candidate_in key_search.view.shape key_search.key found) refl
  where
    by : (object : Option Object) → candidate_in key_search.view.shape key_search.key found ≡ object → FoundSays at answer (search.tests key_search found).told
    by None none = rw none (passed-says at answer key_search)
    by (Some object) some = rw some tt

on_test-says : (at : ℕ) (answer : Answer) (key_search : KeySearch) (word : ℕ) (key_test : KeyTest) (told : Tested) → TestedSays at answer told → FoundSays at answer (search.on_test key_search word key_test told).told
on_test-says at answer key_search word key_test tested.Going says = tt
on_test-says at answer key_search word key_test (tested.Same kind value_len) says = tt
on_test-says at answer key_search word key_test tested.Other says = passed-says at answer key_search
on_test-says at answer key_search word key_test (tested.Refused node) says = says

search_at-says : (phase : search.Phase) (key_search : KeySearch) (answer : Answer) → key_search.phase ≡ phase → FoundSays (place_of (search.verb_at phase key_search)).node answer (search.turn_at phase key_search answer).told
search_at-says search.AtSlot key_search (Word found) at = by (found == 0) refl
  where
    by : (t : Bool) → (found == 0) ≡ t → FoundSays (place_of (search.verb_at search.AtSlot key_search)).node (Word found) (search.turn_at search.AtSlot key_search (Word found)).told
    by true empty = rw empty tt
    by false other = rw other (tests-says _ (Word found) key_search found)
search_at-says search.AtSlot key_search Done at = tt
search_at-says search.AtSlot key_search Lost at =
    let P : search.Phase → Type 0 = λ p. IsLostAt (place_of (search.verb_at search.AtSlot key_search)).node Lost (place_of (search.verb_at p key_search)).node in
    subst P (sym at) (refl, refl)
search_at-says (search.AtKey word key_test) key_search answer at =
    on_test-says _ answer key_search word (test.turn key_test answer).state (test.turn key_test answer).told (test-says key_test answer)

pub search-says : (key_search : KeySearch) (answer : Answer) → FoundSays (place_of (search.next key_search)).node answer (search.turn key_search answer).told
search-says key_search answer = search_at-says key_search.phase key_search answer refl

-- The write of a slot.

abbrev pub WroteSays : ℕ → Answer → Wrote → Type 0
WroteSays at answer wrote.Going = Unit {0}
WroteSays at answer wrote.Won = Unit {0}
WroteSays at answer (wrote.Changed word) = Unit {0}
WroteSays at answer (wrote.Unchanged word) = Unit {0}
WroteSays at answer (wrote.Refused node) = IsLostAt at answer node

pub slots-says : (write : SlotWrite) (answer : Answer) → WroteSays (place_of (slots.next write)).node answer (slots.turn write answer).told
slots-says write (Word found) = at write.phase (found == write.expect) refl
  where
    at : (phase : slots.Phase) (t : Bool) → (found == write.expect) ≡ t → WroteSays (place_of (slots.next write)).node (Word found) (slots.turn_at phase write found).told
    at slots.Gather t is = tt
    at (slots.Mend backup) t is = tt
    at slots.Check true is = rw is tt
    at slots.Check false is = rw is tt
    at slots.Final t is = tt
    at slots.Wait true is = rw is tt
    at slots.Wait false is = rw is tt
slots-says write Done = tt
slots-says write Lost = (refl, refl)

-- The walk back along versions.

abbrev pub ResolvedSays : ℕ → Answer → Resolved → Type 0
ResolvedSays at answer resolved.Going = Unit {0}
ResolvedSays at answer resolved.Still = Unit {0}
ResolvedSays at answer resolved.Won = Unit {0}
ResolvedSays at answer resolved.Beaten = Unit {0}
ResolvedSays at answer resolved.OtherKey = Unit {0}
ResolvedSays at answer (resolved.Refused node) = IsLostAt at answer node

walks_to-says : (at : ℕ) (answer : Answer) (resolving : Resolution) (word : ℕ) (before : Option ℕ) → ResolvedSays at answer (resolution.walks_to resolving word before).told
walks_to-says at answer resolving word before = by (object_in resolving.view.shape word) refl
  where
    by : (object : Option Object) → object_in resolving.view.shape word ≡ object → ResolvedSays at answer (resolution.walks_to resolving word before).told
    by None none = rw none tt
    by (Some object) some = rw some tt

tests_key-says : (at : ℕ) (answer : Answer) (resolving : Resolution) (word : ℕ) → ResolvedSays at answer (resolution.tests resolving word).told
tests_key-says at answer resolving word = by (candidate_in resolving.view.shape resolving.key word) refl
  where
    by : (object : Option Object) → candidate_in resolving.view.shape resolving.key word ≡ object → ResolvedSays at answer (resolution.tests resolving word).told
    by None none = rw none tt
    by (Some object) some = rw some tt

on_slot-says : (at : ℕ) (answer : Answer) (resolving : Resolution) (found : ℕ) → ResolvedSays at answer (resolution.on_slot resolving found).told
on_slot-says at answer resolving found = by (found == resolving.expect) refl (found == resolving.fresh) refl (resolving.expect == 0) refl
  where
    by : (t : Bool) → (found == resolving.expect) ≡ t → (u : Bool) → (found == resolving.fresh) ≡ u → (v : Bool) → (resolving.expect == 0) ≡ v
        → ResolvedSays at answer (resolution.on_slot resolving found).told
    by true still u own v empty = rw still tt
    by false other true own v empty = rw (other, own) tt
    by false other false another true empty = rw (other, another, empty) (tests_key-says at answer resolving found)
    by false other false another false some = rw (other, another, some) (walks_to-says at answer resolving found None)

on_key-says : (at : ℕ) (answer : Answer) (resolving : Resolution) (key_test : KeyTest) (told : Tested) → TestedSays at answer told → ResolvedSays at answer (resolution.on_test resolving key_test told).told
on_key-says at answer resolving key_test tested.Going says = tt
on_key-says at answer resolving key_test (tested.Same kind value_len) says = tt
on_key-says at answer resolving key_test tested.Other says = tt
on_key-says at answer resolving key_test (tested.Refused node) says = says

on_version-says : (at : ℕ) (answer : Answer) (resolving : Resolution) (object : Object) (before : Option ℕ) (found : ℕ) → ResolvedSays at answer (resolution.on_version resolving object before found).told
on_version-says at answer resolving object before found = by (falls before found) refl (nat_lt resolving.version found) refl
  where
    by : (t : Bool) → falls before found ≡ t → (u : Bool) → nat_lt resolving.version found ≡ u → ResolvedSays at answer (resolution.on_version resolving object before found).told
    by true less true above = rw (less, above) tt
    by true less false within = rw (less, within) tt
    by false more u above = rw more tt

on_expected-says : (at : ℕ) (answer : Answer) (resolving : Resolution) (version found : ℕ) → ResolvedSays at answer (resolution.on_expected resolving version found).told
on_expected-says at answer resolving version found = by (found == resolving.fresh) refl
  where
    by : (t : Bool) → (found == resolving.fresh) ≡ t → ResolvedSays at answer (resolution.on_expected resolving version found).told
    by true own = rw own tt
    by false other = rw other (walks_to-says at answer resolving found (Some version))

resolution_at-says : (phase : resolution.Phase) (resolving : Resolution) (answer : Answer) → ResolvedSays (place_of (resolution.verb_at phase resolving)).node answer (resolution.turn_at phase resolving answer).told
resolution_at-says resolution.AtSlot resolving (Word found) = on_slot-says _ (Word found) resolving found
resolution_at-says resolution.AtSlot resolving Done = tt
resolution_at-says resolution.AtSlot resolving Lost = (refl, refl)
resolution_at-says (resolution.AtKey key_test) resolving answer =
    on_key-says _ answer resolving (test.turn key_test answer).state (test.turn key_test answer).told (test-says key_test answer)
resolution_at-says (resolution.AtVersion object before) resolving (Word found) = on_version-says _ (Word found) resolving object before found
resolution_at-says (resolution.AtVersion object before) resolving Done = tt
resolution_at-says (resolution.AtVersion object before) resolving Lost = (refl, refl)
resolution_at-says (resolution.AtExpected object version) resolving (Word found) = on_expected-says _ (Word found) resolving version found
resolution_at-says (resolution.AtExpected object version) resolving Done = tt
resolution_at-says (resolution.AtExpected object version) resolving Lost = (refl, refl)

pub resolution-says : (resolving : Resolution) (answer : Answer) → ResolvedSays (place_of (resolution.next resolving)).node answer (resolution.turn resolving answer).told
resolution-says resolving answer = resolution_at-says resolving.phase resolving answer
