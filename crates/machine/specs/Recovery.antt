-- The recovery of a stopped client: its reserves are put back in stock, its last call is settled by what its object was
-- logged to replace, and its blocks are released.
use Rattle.std.specs.Prelude.{ℕ, ◌+◌, ◌/◌, ◌%◌, ◌^◌, Bool, true, ◌==◌, nat_le, if◌then◌else◌, List, [], ◌∷◌, ◌++◌, length, take, drop, slice_index_or, Option, Some, None}
use Rattle.std.specs.Option.{option_and_then, option_map_or}
use Rattle.machine.specs.declared.bit_change.Changed.{Changed}
use Rattle.machine.specs.declared.bit_change.Changed.TheVariants as changed
use Rattle.machine.specs.declared.key_search.Found.{Found}
use Rattle.machine.specs.declared.key_search.Found.TheVariants as found_as
use Rattle.machine.specs.declared.link_walk.Walked.{Walked}
use Rattle.machine.specs.declared.link_walk.Walked.TheVariants as walked
use Rattle.machine.specs.declared.object_write.Written.{Written}
use Rattle.machine.specs.declared.object_write.Written.TheVariants as written
use Rattle.machine.specs.declared.recovery.Recovering.{Recovering}
use Rattle.machine.specs.declared.resolution.Resolved.{Resolved}
use Rattle.machine.specs.declared.resolution.Resolved.TheVariants as resolved
use Rattle.machine.specs.declared.slot_write.Wrote.{Wrote}
use Rattle.machine.specs.declared.slot_write.Wrote.TheVariants as wrote
use Rattle.machine.specs.BitChange as bits
use Rattle.machine.specs.BitChange.{BitChange, bit_change_of}
use Rattle.machine.specs.BlockRelease.{first_block, gives_up, goes_to, idles, next_block, on_block_word, read_block, refused, release, spread, spreads_from, write_begin}
use Rattle.machine.specs.EpochRead.{open_mask}
use Rattle.machine.specs.KeySearch as search
use Rattle.machine.specs.KeySearch.{KeySearch, key_search_of}
use Rattle.machine.specs.LinkWalk as walk
use Rattle.machine.specs.LinkWalk.{LinkWalk, link_walk_of}
use Rattle.machine.specs.ObjectNames.{Object, object_in, pointer_in, word_for}
use Rattle.machine.specs.Places.{control, object_word, primary_place}
use Rattle.machine.specs.RecoveryStage.{ClassEnd, Recovery, Stage, ReadEpoch, ReadBegin, Walk, Restock, ReadMeta, ReadLog, Find, ReadVersion, WriteSlot, Resolve, Erase, Free, WriteBegin, ReadBlock, Spread, Release, view_of}
use Rattle.machine.specs.Resolution as resolution
use Rattle.machine.specs.Resolution.{Resolution, version_walk_of}
use Rattle.machine.specs.SlotWrite as slots
use Rattle.machine.specs.SlotWrite.{SlotWrite, slot_write_of}
use Rattle.machine.specs.Turn.{Turn}
use Rattle.machine.specs.WordsWrite as words
use Rattle.machine.specs.WordsWrite.{WordsWrite, words_write_of}
use Rattle.object_form.specs.declared.classes.TheConstants.{CLASSES}
use Rattle.object_form.specs.declared.metas.Meta.{Meta}
use Rattle.object_form.specs.Class.{room_of, words_for, words_of}
use Rattle.object_form.specs.Content.{bytes_of_words}
use Rattle.object_form.specs.Meta.{meta_in}
use Rattle.region_view.specs.Control.{EpochWord, Begin}
use Rattle.verb_words.specs.declared.verbs.Answer.{Answer}
use Rattle.verb_words.specs.declared.verbs.Answer.TheVariants.{Word, Done, Lost}
use Rattle.verb_words.specs.declared.verbs.Verb.{Verb}
use Rattle.verb_words.specs.declared.verbs.Verb.TheVariants.{Read}
use Rattle.verb_words.specs.declared.verbs.Why.TheVariants as why
use Rattle.verb_words.specs.Verb.{place_of}

-- the slot word that names the call's object
abbrev pub fresh_of : Recovery → ℕ
fresh_of recovery = word_for recovery.key recovery.object.class recovery.object.pointer

-- How the call ends.

-- the call was to replace this word, and did: where the word names an object, that object's bit is set
abbrev pub is_won : Recovery → ℕ → Turn Recovery Recovering
is_won recovery replaced =
    option_map_or
    (λ object. goes_to (record recovery { won = true }) (Free (bit_change_of (view_of recovery) object true true)))
    (object_in recovery.shape replaced)
    (goes_to (record recovery { won = true }) WriteBegin)

-- it did not: the object's version is written 0, so that no replica shows it later, and then the object's bit is set
abbrev pub is_beaten : Recovery → Turn Recovery Recovering
is_beaten recovery = goes_to recovery (Erase (words_write_of (view_of recovery) recovery.object.pointer ((2, 0) ∷ [])))

abbrev pub on_erase : Recovery → WordsWrite → Written → Turn Recovery Recovering
on_erase recovery write written.Going = goes_to recovery (Erase write)
on_erase recovery write written.Whole = goes_to recovery (Free (bit_change_of (view_of recovery) recovery.object true true))
on_erase recovery write (written.Refused node) = refused recovery node

abbrev pub on_free : Recovery → BitChange → Changed → Turn Recovery Recovering
on_free recovery change changed.Going = goes_to recovery (Free change)
on_free recovery change changed.Whole = goes_to recovery WriteBegin
on_free recovery change (changed.Refused node) = refused recovery node

-- How the call stood.

-- the object's key is looked for, from the first slot of its order on
abbrev pub finds : Recovery → Turn Recovery Recovering
finds recovery = goes_to recovery (Find (key_search_of (view_of recovery) recovery.key 0))

-- the slot is written, where it has this word
abbrev pub writes : Recovery → ℕ → ℕ → Turn Recovery Recovering
writes recovery slot word = goes_to recovery (WriteSlot (slot_write_of (view_of recovery) slot word (fresh_of recovery)))

abbrev pub on_find : Recovery → KeySearch → Found → Turn Recovery Recovering
on_find recovery key_search found_as.Going = goes_to recovery (Find key_search)
on_find recovery key_search (found_as.Empty slot) = writes recovery slot 0
on_find recovery key_search (found_as.At slot word kind value_len) = goes_to recovery (ReadVersion slot word)
on_find recovery key_search found_as.Nowhere = is_beaten recovery
on_find recovery key_search (found_as.Refused node) = refused recovery node

-- the versions are walked back from the object that the slot's word names
abbrev pub walks_back : Recovery → ℕ → ℕ → Turn Recovery Recovering
walks_back recovery slot word =
    option_map_or
    (λ object. goes_to recovery (Resolve (version_walk_of (view_of recovery) slot word (fresh_of recovery) recovery.version recovery.key object)))
    (object_in recovery.shape word)
    (is_beaten recovery)

-- the slot names the call's object; or one of the version before, which the call was to replace; or another
abbrev pub on_version : Recovery → ℕ → ℕ → ℕ → Turn Recovery Recovering
on_version recovery slot word found =
    if word == fresh_of recovery then is_won recovery recovery.expect
    else (if (found + 1) % 2 ^ 64 == recovery.version then writes recovery slot word
    else walks_back recovery slot word)

abbrev pub on_wrote : Recovery → SlotWrite → Wrote → Turn Recovery Recovering
on_wrote recovery write wrote.Going = goes_to recovery (WriteSlot write)
on_wrote recovery write wrote.Won = is_won recovery write.expect
on_wrote recovery write (wrote.Changed word) = finds recovery
on_wrote recovery write (wrote.Unchanged word) = gives_up recovery (why.Unchanged write.slot word)
on_wrote recovery write (wrote.Refused node) = refused recovery node

-- a walk back never tells of a slot that is as it was expected or has another key; the key would be looked for anew
abbrev pub on_resolved : Recovery → Resolution → Resolved → Turn Recovery Recovering
on_resolved recovery resolving resolved.Going = goes_to recovery (Resolve resolving)
on_resolved recovery resolving resolved.Still = finds recovery
on_resolved recovery resolving resolved.Won = is_won recovery recovery.expect
on_resolved recovery resolving resolved.Beaten = is_beaten recovery
on_resolved recovery resolving resolved.OtherKey = finds recovery
on_resolved recovery resolving (resolved.Refused node) = refused recovery node

-- The reading of the call's object.

abbrev pub fitting : ℕ → Meta → Option Meta
fitting class meta = if nat_le (words_of meta.key_len meta.value_len) (room_of class) then Some meta else None

-- the meta that a word says, if the object has room for it
abbrev pub meta_for : Recovery → ℕ → Option Meta
meta_for recovery found = option_and_then (fitting recovery.object.class) (meta_in found)

abbrev pub on_meta : Recovery → ℕ → Turn Recovery Recovering
on_meta recovery found =
    option_map_or (λ meta. goes_to recovery (ReadLog meta.key_len [])) (meta_for recovery found) (is_beaten recovery)

-- the object as it was read: a call whose version was not logged has replaced nothing
abbrev pub settles : Recovery → Turn Recovery Recovering
settles recovery = if recovery.version == 0 then is_beaten recovery else finds recovery

-- the version, the word to be replaced and the words of the key
abbrev pub with_log : Recovery → ℕ → List ℕ → Recovery
with_log recovery key_len log = record recovery {
  version = slice_index_or log 0 0;
  expect = slice_index_or log 1 0;
  key = take key_len (bytes_of_words (drop 2 log));
}

abbrev pub reads_log : Recovery → ℕ → List ℕ → Turn Recovery Recovering
reads_log recovery key_len log =
    if length log == 2 + words_for key_len then settles (with_log recovery key_len log) else goes_to recovery (ReadLog key_len log)

-- The reserves, and the object of the last call.

-- the first reserve of these ends, which are of the classes from this one on
abbrev pub first_reserve : ℕ → List ClassEnd → Option Object
first_reserve class [] = None
first_reserve class (end ∷ ends) =
    option_map_or (λ pointer. Some (record { pointer = pointer; class = class })) end.reserve (first_reserve (class + 1) ends)

abbrev pub is_of_call : ℕ → ℕ × ℕ → Bool
is_of_call number last = last.1 == number

-- the object that a call linked, of these ends, which are of the classes from this one on
abbrev pub linked_by : ℕ → ℕ → List ClassEnd → Option Object
linked_by number class [] = None
linked_by number class (end ∷ ends) =
    option_map_or
    (λ last. if is_of_call number last then Some (record { pointer = last.0; class = class }) else linked_by number (class + 1) ends)
    end.last
    (linked_by number (class + 1) ends)

-- the last call's object is read; a call that linked none has done nothing that stays
abbrev pub reads_object : Recovery → Turn Recovery Recovering
reads_object recovery =
    option_map_or
    (λ object. goes_to (record recovery { object = object }) ReadMeta)
    (linked_by recovery.number 0 recovery.ends)
    (goes_to recovery WriteBegin)

-- the bits of the reserves of the classes from this one on are set
abbrev pub restocks_from : Recovery → ℕ → Turn Recovery Recovering
restocks_from recovery class =
    option_map_or
    (λ object. goes_to recovery (Restock object.class (bit_change_of (view_of recovery) object true true)))
    (first_reserve class (drop class recovery.ends))
    (reads_object recovery)

abbrev pub on_restock : Recovery → ℕ → BitChange → Changed → Turn Recovery Recovering
on_restock recovery class change changed.Going = goes_to recovery (Restock class change)
on_restock recovery class change changed.Whole = restocks_from recovery (class + 1)
on_restock recovery class change (changed.Refused node) = refused recovery node

-- the next class is walked, and after the last the reserves are put back in stock
abbrev pub walks_next : Recovery → Turn Recovery Recovering
walks_next recovery =
    if length recovery.ends == CLASSES
    then restocks_from recovery 0
    else goes_to recovery (Walk (link_walk_of (view_of recovery) recovery.client (length recovery.ends)))

abbrev pub on_walk : Recovery → LinkWalk → Walked → Turn Recovery Recovering
on_walk recovery link_walk walked.Going = goes_to recovery (Walk link_walk)
on_walk recovery link_walk (walked.End last reserve) =
    walks_next (record recovery { ends = recovery.ends ++ record { last = last; reserve = reserve } ∷ [] })
on_walk recovery link_walk (walked.Refused node) = refused recovery node

-- The begin of a recovery.

-- a client between calls has blocks alone
abbrev pub on_begin : Recovery → ℕ → Turn Recovery Recovering
on_begin recovery found =
    if found % 2 == 0 then first_block recovery else walks_next (record recovery { number = (found + 1) / 2; ends = [] })

abbrev pub on_epoch : Recovery → ℕ → Turn Recovery Recovering
on_epoch recovery found =
    option_map_or
    (λ mask. goes_to (record recovery { mask = mask }) ReadBegin)
    (open_mask recovery.shape found)
    (gives_up recovery (why.Sealed found))

-- The whole.

abbrev pub verb_at : Stage → Recovery → Verb
verb_at ReadEpoch recovery = Read (control EpochWord)
verb_at ReadBegin recovery = Read (control (Begin recovery.client))
verb_at (Walk link_walk) recovery = walk.next link_walk
verb_at (Restock class change) recovery = bits.next change
verb_at ReadMeta recovery = Read (primary_place (view_of recovery) (object_word recovery.object.pointer 1))
verb_at (ReadLog key_len log) recovery = Read (primary_place (view_of recovery) (object_word recovery.object.pointer (2 + length log)))
verb_at (Find key_search) recovery = search.next key_search
verb_at (ReadVersion slot word) recovery = Read (primary_place (view_of recovery) (object_word (pointer_in word) 2))
verb_at (WriteSlot write) recovery = slots.next write
verb_at (Resolve resolving) recovery = resolution.next resolving
verb_at (Erase write) recovery = words.next write
verb_at (Free change) recovery = bits.next change
verb_at WriteBegin recovery = write_begin recovery
verb_at ReadBlock recovery = read_block recovery
verb_at (Spread class backup) recovery = spread recovery class backup
verb_at (Release class) recovery = release recovery class

-- the verb of the present stage
abbrev pub next : Recovery → Verb
next recovery = verb_at recovery.stage recovery

abbrev pub turn_at : Stage → Recovery → Answer → Turn Recovery Recovering
turn_at ReadEpoch recovery (Word found) = on_epoch recovery found
turn_at ReadBegin recovery (Word found) = on_begin recovery found
turn_at (Walk link_walk) recovery answer = on_walk recovery (walk.turn link_walk answer).state (walk.turn link_walk answer).told
turn_at (Restock class change) recovery answer =
    on_restock recovery class (bits.turn change answer).state (bits.turn change answer).told
turn_at ReadMeta recovery (Word found) = on_meta recovery found
turn_at (ReadLog key_len log) recovery (Word found) = reads_log recovery key_len (log ++ found ∷ [])
turn_at (Find key_search) recovery answer = on_find recovery (search.turn key_search answer).state (search.turn key_search answer).told
turn_at (ReadVersion slot word) recovery (Word found) = on_version recovery slot word found
turn_at (WriteSlot write) recovery answer = on_wrote recovery (slots.turn write answer).state (slots.turn write answer).told
turn_at (Resolve resolving) recovery answer =
    on_resolved recovery (resolution.turn resolving answer).state (resolution.turn resolving answer).told
turn_at (Erase write) recovery answer = on_erase recovery (words.turn write answer).state (words.turn write answer).told
turn_at (Free change) recovery answer = on_free recovery (bits.turn change answer).state (bits.turn change answer).told
turn_at WriteBegin recovery Done = first_block recovery
turn_at ReadBlock recovery (Word found) = on_block_word recovery found
turn_at (Spread class backup) recovery Done = spreads_from recovery class (backup + 1)
turn_at (Release class) recovery (Word found) = next_block recovery
turn_at stage recovery Lost = refused recovery (place_of (verb_at stage recovery)).node
turn_at stage recovery answer = idles recovery

-- what an answer to the verb makes of the recovery, and what is told
abbrev pub turn : Recovery → Answer → Turn Recovery Recovering
turn recovery answer = turn_at recovery.stage recovery answer
