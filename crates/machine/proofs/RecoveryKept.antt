-- A recovery stays one, and its verbs go to places of the pool.
use Rattle.std.proofs.Common.{◌≡◌, ℕ, zero, suc, ◌+◌, ◌*◌, ◌/◌, ◌%◌, ◌^◌, ◌<◌, ◌≤◌, ◌==◌, Bool, true, false, List, [], ◌∷◌, ◌++◌, length, take, drop, Option, Some, None, refl, sym, subst, ◌∙◌, arith, length-append, length-drop, length-take}
use Rattle.std.specs.Prelude.{nat_le, slice_index_or}
use Rattle.std.proofs.lemmas.Bool.Decides.{nat_tests}
use Rattle.std.proofs.lemmas.Option.{option_and_then_some}
use Rattle.machine.specs.declared.bit_change.Changed.{Changed}
use Rattle.machine.specs.declared.bit_change.Changed.TheVariants as changed
use Rattle.machine.specs.declared.key_search.Found.{Found}
use Rattle.machine.specs.declared.key_search.Found.TheVariants as found_as
use Rattle.machine.specs.declared.link_walk.Walked.{Walked}
use Rattle.machine.specs.declared.link_walk.Walked.TheVariants as walked
use Rattle.machine.specs.declared.object_write.Written.{Written}
use Rattle.machine.specs.declared.object_write.Written.TheVariants as written
use Rattle.machine.specs.declared.resolution.Resolved.{Resolved}
use Rattle.machine.specs.declared.resolution.Resolved.TheVariants as resolved
use Rattle.machine.specs.declared.slot_write.Wrote.{Wrote}
use Rattle.machine.specs.declared.slot_write.Wrote.TheVariants as wrote
use Rattle.machine.specs.BitChange as bits
use Rattle.machine.specs.BitChange.{BitChange, IsBitChange, bit_change_of}
use Rattle.machine.specs.EpochRead.{IsView, open_mask}
use Rattle.machine.specs.KeySearch as search
use Rattle.machine.specs.KeySearch.{IsKeySearch, KeySearch, key_search_of}
use Rattle.machine.specs.LinkWalk as walk
use Rattle.machine.specs.LinkWalk.{IsLast, IsLinkWalk, IsReserve, LinkWalk, link_walk_of}
use Rattle.machine.specs.ObjectNames.{IsObject, Object, object_in}
use Rattle.machine.specs.Places.{IsInPool, object_word, primary_place}
use Rattle.machine.specs.Recovery.{first_reserve, fitting, finds, fresh_of, is_beaten, is_of_call, is_won, linked_by, meta_for, next, on_begin, on_epoch, on_erase, on_find, on_free, on_meta, on_resolved, on_restock, on_version, on_walk, on_wrote, reads_log, reads_object, restocks_from, settles, turn, turn_at, verb_at, walks_back, walks_next, with_log, writes}
use Rattle.machine.specs.RecoveryStage.{AreEnds, ClassEnd, HasKey, HasObject, HasView, IsAt, IsRecovery, Recovery, Stage, ReadEpoch, ReadBegin, Walk, Restock, ReadMeta, ReadLog, Find, ReadVersion, WriteSlot, Resolve, Erase, Free, WriteBegin, ReadBlock, Spread, Release, recovery_of, view_of}
use Rattle.machine.specs.Resolution as resolution
use Rattle.machine.specs.Resolution.{IsToldByWalk, IsWalk, IsResolution, Resolution, version_walk_of}
use Rattle.machine.specs.SlotWrite as slots
use Rattle.machine.specs.SlotWrite.{IsSlotWrite, SlotWrite, slot_write_of}
use Rattle.machine.specs.WordsWrite as words
use Rattle.machine.specs.WordsWrite.{IsWordsWrite, Piece, WordsWrite, words_write_of}
use Rattle.machine.proofs.BitChangeLemmas as of_bits
use Rattle.machine.proofs.BlockReleaseKept.{IsBase, base_of, first_block-is, goes_to-is, next_block-is, on_block_word-is, read_block-inside, release-inside, spread-inside, spreads_from-is, write_begin-inside}
use Rattle.machine.proofs.KeySearchLemmas as of_search
use Rattle.machine.proofs.KeySearchLemmas.{order_of-some}
use Rattle.machine.proofs.KeySearchSlots as of_slots
use Rattle.machine.proofs.KeyTestLemmas.{object_place-inside, room_of-eight}
use Rattle.machine.proofs.LinkWalkKept as of_walk
use Rattle.machine.proofs.ObjectNamesLemmas.{checked, object_in-is, object_in-pointer}
use Rattle.machine.proofs.PlacesLemmas.{control-inside}
use Rattle.machine.proofs.ResolutionLemmas as of_resolution
use Rattle.machine.proofs.SlotWriteLemmas as of_write
use Rattle.machine.proofs.StockLemmas.{some_same}
use Rattle.machine.proofs.ViewLemmas.{open_mask-covers}
use Rattle.machine.proofs.WalkBackLemmas.{turn-walking}
use Rattle.machine.proofs.WordsWriteLemmas as of_words
use Rattle.object_form.proofs.ContentLemmas.{length-bytes_of_words}
use Rattle.object_form.specs.declared.classes.TheConstants.{CLASSES}
use Rattle.object_form.specs.declared.metas.Meta.{Meta}
use Rattle.object_form.specs.Class.{IsKeyLength, room_of, words_for, words_of}
use Rattle.object_form.specs.Content.{bytes_of_words}
use Rattle.object_form.specs.Meta.{checked_meta, is_meta, kind_in, meta_fields, meta_in}
use Rattle.region_view.specs.Control.{EpochWord, Begin}
use Rattle.region_view.specs.Placed.{Viewed}
use Rattle.region_view.specs.Sizes.{IsWithinLimits, Sizes}
use Rattle.verb_words.specs.declared.verbs.Answer.{Answer}
use Rattle.verb_words.specs.declared.verbs.Answer.TheVariants.{Word, Done, Lost}
use Rattle.verb_words.specs.Verb.{place_of}

pub recovery_of-is : (client : ℕ) (sizes : Sizes) → IsWithinLimits sizes → 1 ≤ client → client ≤ sizes.clients → IsRecovery sizes client (recovery_of client sizes)
recovery_of-is client sizes limits least most = record { same_shape = refl; same_client = refl; limits = limits; client = (least, most); stage = tt }

-- How the call ends.

is_won-is : (s : Sizes) (n : ℕ) (recovery : Recovery) (replaced : ℕ) → IsBase s n recovery → HasView recovery → IsRecovery s n (is_won recovery replaced).state
is_won-is s n recovery replaced base view = by (object_in recovery.shape replaced) refl
  where
    by : (object : Option Object) → object_in recovery.shape replaced ≡ object → IsRecovery s n (is_won recovery replaced).state
    by None none = rw none (record { same_shape = base.same_shape; same_client = base.same_client; limits = base.limits; client = base.client; stage = view })
    by (Some object) named = rw named (record {
      same_shape = base.same_shape;
      same_client = base.same_client;
      limits = base.limits;
      client = base.client;
      stage = (view, of_bits.bit_change_of-is (view_of recovery) object true true view (object_in-is recovery.shape replaced object named));
    })

-- an object has a word 2
has_version : (class i : ℕ) → class < CLASSES → i < 1 → (slice_index_or {A = Piece} ((2, 0) ∷ []) i (0, 0)).0 < room_of class
has_version class zero below under = let two : 2 < room_of class = omega (arith, room_of-eight class below) in two
has_version class (suc i) below under = absurd (omega arith)

is_beaten-is : (s : Sizes) (n : ℕ) (recovery : Recovery) → IsBase s n recovery → HasObject recovery → IsRecovery s n (is_beaten recovery).state
is_beaten-is s n recovery base has = goes_to-is s n recovery _ base (
  has,
  of_words.words_write_of-is (view_of recovery) recovery.object.pointer recovery.object.class ((2, 0) ∷ []) has.0 has.1 (omega arith)
      (λ i under. has_version recovery.object.class i has.1.class under),
)

on_erase-is : (s : Sizes) (n : ℕ) (recovery : Recovery) (write : WordsWrite) (told : Written) → IsRecovery s n recovery → HasObject recovery → IsWordsWrite (view_of recovery) write → IsRecovery s n (on_erase recovery write told).state
on_erase-is s n recovery write written.Going is has at = goes_to-is s n recovery (Erase write) (base_of s n recovery is) (has, at)
on_erase-is s n recovery write written.Whole is has at =
    goes_to-is s n recovery _ (base_of s n recovery is) (has.0, of_bits.bit_change_of-is (view_of recovery) recovery.object true true has.0 has.1)
on_erase-is s n recovery write (written.Refused node) is has at = is

on_free-is : (s : Sizes) (n : ℕ) (recovery : Recovery) (change : BitChange) (told : Changed) → IsRecovery s n recovery → HasView recovery → IsBitChange (view_of recovery) change → IsRecovery s n (on_free recovery change told).state
on_free-is s n recovery change changed.Going is view at = goes_to-is s n recovery (Free change) (base_of s n recovery is) (view, at)
on_free-is s n recovery change changed.Whole is view at = goes_to-is s n recovery WriteBegin (base_of s n recovery is) view
on_free-is s n recovery change (changed.Refused node) is view at = is

-- How the call stood.

finds-is : (s : Sizes) (n : ℕ) (recovery : Recovery) → IsBase s n recovery → HasKey recovery → IsRecovery s n (finds recovery).state
finds-is s n recovery base has = goes_to-is s n recovery _ base
    (has, of_search.key_search_of-is (view_of recovery) recovery.key 0 has.0.0 has.1.0 (order_of-some recovery.key recovery.shape.groups))

writes-is : (s : Sizes) (n : ℕ) (recovery : Recovery) (slot word : ℕ) → IsBase s n recovery → HasKey recovery → slot < 24 * recovery.shape.groups → IsRecovery s n (writes recovery slot word).state
writes-is s n recovery slot word base has below =
    goes_to-is s n recovery _ base (has, of_write.slot_write_of-is (view_of recovery) slot word (fresh_of recovery) has.0.0 below)

on_find-is : (s : Sizes) (n : ℕ) (recovery : Recovery) (before : KeySearch) (answer : Answer) (told : Found) → IsRecovery s n recovery → HasKey recovery → IsKeySearch (view_of recovery) recovery.key before
    → (search.turn before answer).told ≡ told → of_slots.IsTold (24 * recovery.shape.groups) told → IsRecovery s n (on_find recovery (search.turn before answer).state told).state
on_find-is s n recovery before answer found_as.Going is has at tells slot =
    goes_to-is s n recovery _ (base_of s n recovery is) (has, of_search.turn-is (view_of recovery) recovery.key before answer at)
on_find-is s n recovery before answer (found_as.Empty x) is has at tells slot = writes-is s n recovery x 0 (base_of s n recovery is) has slot
on_find-is s n recovery before answer (found_as.At x word kind value_len) is has at tells slot =
    let found = of_search.turn-found (view_of recovery) recovery.key before answer x word value_len kind at tells in
    goes_to-is s n recovery (ReadVersion x word) (base_of s n recovery is) (has, record { below = slot; object = found.object; named = found.named })
on_find-is s n recovery before answer found_as.Nowhere is has at tells slot = is_beaten-is s n recovery (base_of s n recovery is) has.0
on_find-is s n recovery before answer (found_as.Refused node) is has at tells slot = is

finds_at-is : (s : Sizes) (n : ℕ) (recovery : Recovery) (before : KeySearch) (answer : Answer) → IsRecovery s n recovery → HasKey recovery → IsKeySearch (view_of recovery) recovery.key before
    → IsRecovery s n (on_find recovery (search.turn before answer).state (search.turn before answer).told).state
finds_at-is s n recovery before answer is has at =
    on_find-is s n recovery before answer (search.turn before answer).told is has at refl (of_slots.turn-told (view_of recovery) recovery.key before answer at)

version_walk_of-is : (view : Viewed) (slot expect fresh version : ℕ) (key : List ℕ) (object : Object) → IsView view → 1 ≤ length key → slot < 24 * view.shape.groups → IsObject view.shape object
    → IsResolution view (version_walk_of view slot expect fresh version key object)
version_walk_of-is view slot expect fresh version key object is some below named =
    record { held = refl; is_view = is; some = some; slot = below; phase = named }

walks_back-is : (s : Sizes) (n : ℕ) (recovery : Recovery) (slot word : ℕ) → IsBase s n recovery → HasKey recovery → slot < 24 * recovery.shape.groups → IsRecovery s n (walks_back recovery slot word).state
walks_back-is s n recovery slot word base has below = by (object_in recovery.shape word) refl
  where
    by : (object : Option Object) → object_in recovery.shape word ≡ object → IsRecovery s n (walks_back recovery slot word).state
    by None none = rw none (is_beaten-is s n recovery base has.0)
    by (Some object) named = rw named (goes_to-is s n recovery _ base (
      has,
      version_walk_of-is (view_of recovery) slot word (fresh_of recovery) recovery.version recovery.key object has.0.0 has.1.0 below
          (object_in-is recovery.shape word object named),
      tt,
    ))

on_version-is : (s : Sizes) (n : ℕ) (recovery : Recovery) (slot word found : ℕ) → IsBase s n recovery → HasKey recovery → slot < 24 * recovery.shape.groups → IsRecovery s n (on_version recovery slot word found).state
on_version-is s n recovery slot word found base has below = by (word == fresh_of recovery) refl ((found + 1) % 2 ^ 64 == recovery.version) refl
  where
    by : (t : Bool) → (word == fresh_of recovery) ≡ t → (u : Bool) → ((found + 1) % 2 ^ 64 == recovery.version) ≡ u → IsRecovery s n (on_version recovery slot word found).state
    by true own u before = rw own (is_won-is s n recovery recovery.expect base has.0.0)
    by false other true before = rw (other, before) (writes-is s n recovery slot word base has below)
    by false other false later = rw (other, later) (walks_back-is s n recovery slot word base has below)

on_wrote-is : (s : Sizes) (n : ℕ) (recovery : Recovery) (write : SlotWrite) (told : Wrote) → IsRecovery s n recovery → HasKey recovery → IsSlotWrite (view_of recovery) write → IsRecovery s n (on_wrote recovery write told).state
on_wrote-is s n recovery write wrote.Going is has at = goes_to-is s n recovery (WriteSlot write) (base_of s n recovery is) (has, at)
on_wrote-is s n recovery write wrote.Won is has at = is_won-is s n recovery write.expect (base_of s n recovery is) has.0.0
on_wrote-is s n recovery write (wrote.Changed word) is has at = finds-is s n recovery (base_of s n recovery is) has
on_wrote-is s n recovery write (wrote.Unchanged word) is has at = is
on_wrote-is s n recovery write (wrote.Refused node) is has at = is

on_resolved-is : (s : Sizes) (n : ℕ) (recovery : Recovery) (resolving : Resolution) (told : Resolved) → IsRecovery s n recovery → HasKey recovery → IsResolution (view_of recovery) resolving
    → IsWalk resolving.phase → IsToldByWalk told → IsRecovery s n (on_resolved recovery resolving told).state
on_resolved-is s n recovery resolving resolved.Going is has at walks says = goes_to-is s n recovery (Resolve resolving) (base_of s n recovery is) (has, at, walks)
on_resolved-is s n recovery resolving resolved.Still is has at walks says = absurd says
on_resolved-is s n recovery resolving resolved.Won is has at walks says = is_won-is s n recovery recovery.expect (base_of s n recovery is) has.0.0
on_resolved-is s n recovery resolving resolved.Beaten is has at walks says = is_beaten-is s n recovery (base_of s n recovery is) has.0
on_resolved-is s n recovery resolving resolved.OtherKey is has at walks says = absurd says
on_resolved-is s n recovery resolving (resolved.Refused node) is has at walks says = is

-- The reading of the call's object.

-- a meta word that is read has lengths within the limits, and the object has room for them
pub meta_for-says : (recovery : Recovery) (found : ℕ) (meta : Meta) → meta_for recovery found ≡ Some meta
    → IsKeyLength meta.key_len × (words_of meta.key_len meta.value_len ≤ room_of recovery.object.class)
unfolding meta_in
meta_for-says recovery found meta says =
    option_and_then_some (fitting recovery.object.class) (meta_in found) meta says (λ read reads fits.
    let room = checked (nat_le (words_of read.key_len read.value_len) (room_of recovery.object.class)) read meta fits in
    option_and_then_some (λ kind. checked_meta (meta_fields found kind)) (kind_in (found / 2 ^ 32)) read reads (λ kind known holds.
    let both = checked (is_meta (meta_fields found kind)) (meta_fields found kind) read holds in
    let P : Meta → Type 0 = λ m. IsKeyLength m.key_len × (words_of m.key_len m.value_len ≤ room_of recovery.object.class) in
    let Q : Meta → Type 0 = λ m. is_meta m ≡ true in
    let limits : is_meta read ≡ true = subst Q both.1 both.0 in
    let here : IsKeyLength read.key_len × (words_of read.key_len read.value_len ≤ room_of recovery.object.class)
    = ((grind (arith, nat_tests), grind (arith, nat_tests)), grind (arith, nat_tests)) in
    subst P room.1 here))

on_meta-is : (s : Sizes) (n : ℕ) (recovery : Recovery) (found : ℕ) → IsBase s n recovery → HasObject recovery → IsRecovery s n (on_meta recovery found).state
on_meta-is s n recovery found base has = by (meta_for recovery found) refl
  where
    by : (meta : Option Meta) → meta_for recovery found ≡ meta → IsRecovery s n (on_meta recovery found).state
    by None none = rw none (is_beaten-is s n recovery base has)
    by (Some meta) says =
        let holds = meta_for-says recovery found meta says in
        rw says (goes_to-is s n recovery (ReadLog meta.key_len []) base (has, record { len = holds.0; room = omega (arith, holds.1); more = omega arith }))

settles-is : (s : Sizes) (n : ℕ) (recovery : Recovery) → IsBase s n recovery → HasKey recovery → IsRecovery s n (settles recovery).state
settles-is s n recovery base has = by (recovery.version == 0) refl
  where
    by : (t : Bool) → (recovery.version == 0) ≡ t → IsRecovery s n (settles recovery).state
    by true none = rw none (is_beaten-is s n recovery base has.0)
    by false some = rw some (finds-is s n recovery base has)

-- so many words have as many bytes as the key
pub key-long : (key_len : ℕ) (log : List ℕ) → length log ≡ 2 + words_for key_len → length (take key_len (bytes_of_words (drop 2 log))) ≡ key_len
key-long key_len log long =
    let rest = length-drop 2 log in
    let bytes = length-bytes_of_words (drop 2 log) in
    omega (arith, length-take key_len (bytes_of_words (drop 2 log)))

reads_log-is : (s : Sizes) (n : ℕ) (recovery : Recovery) (key_len : ℕ) (log : List ℕ) → IsBase s n recovery → HasObject recovery → IsKeyLength key_len → 4 + words_for key_len ≤ room_of recovery.object.class
    → length log ≤ 2 + words_for key_len → IsRecovery s n (reads_log recovery key_len log).state
reads_log-is s n recovery key_len log base has len room within = by (length log == 2 + words_for key_len) refl
  where
    by : (t : Bool) → (length log == 2 + words_for key_len) ≡ t → IsRecovery s n (reads_log recovery key_len log).state
    by true full =
        let same = key-long key_len log (grind (arith, nat_tests)) in
        let next : IsBase s n (with_log recovery key_len log) = record { same_shape = base.same_shape; same_client = base.same_client; limits = base.limits; client = base.client } in
        rw full (settles-is s n (with_log recovery key_len log) next (has, subst IsKeyLength (sym same) len))
    by false more = rw more (goes_to-is s n recovery (ReadLog key_len log) base (has, record { len = len; room = room; more = grind (arith, nat_tests) }))

-- The reserves, and the object of the last call.

pub AreEnds-drop : (sizes : Sizes) (class n from : ℕ) (ends : List ClassEnd) → from ≡ class + n → AreEnds sizes class ends → AreEnds sizes from (drop n ends)
AreEnds-drop sizes class zero from ends is are = let same : class ≡ from = omega arith in subst (λ k. AreEnds sizes k ends) same are
AreEnds-drop sizes class (suc n) from [] is are = tt
AreEnds-drop sizes class (suc n) from (end ∷ ends) is are = AreEnds-drop sizes (class + 1) n from ends (omega arith) are.2

pub AreEnds-push : (sizes : Sizes) (class last : ℕ) (ends : List ClassEnd) (end : ClassEnd) → last ≡ class + length ends → AreEnds sizes class ends
    → IsLast sizes last end.last → IsReserve sizes last end.reserve → AreEnds sizes class (ends ++ end ∷ [])
AreEnds-push sizes class last [] end is are of_last of_reserve =
    let same : last ≡ class = omega arith in
    (subst (λ k. IsLast sizes k end.last) same of_last, subst (λ k. IsReserve sizes k end.reserve) same of_reserve, tt)
AreEnds-push sizes class last (first ∷ ends) end is are of_last of_reserve =
    (are.0, are.1, AreEnds-push sizes (class + 1) last ends end (omega arith) are.2 of_last of_reserve)

pub first_reserve-is : (sizes : Sizes) (class : ℕ) (ends : List ClassEnd) (object : Object) → AreEnds sizes class ends → first_reserve class ends ≡ Some object → IsObject sizes object
first_reserve-is sizes class [] object are gives = absurd cc
first_reserve-is sizes class (end ∷ ends) object are gives = by end.reserve refl gives (first_reserve-is sizes (class + 1) ends object are.2)
  where
    by : (reserve : Option ℕ) → end.reserve ≡ reserve → first_reserve class (end ∷ ends) ≡ Some object
        → (first_reserve (class + 1) ends ≡ Some object → IsObject sizes object) → IsObject sizes object
    by None none says later = later (sym (rw none refl) ∙ says)
    by (Some pointer) some says later =
        let here : IsObject sizes (record { pointer = pointer; class = class }) = subst (IsReserve sizes class) some are.1 in
        let same : Some (record { pointer = pointer; class = class }) ≡ Some object = sym (rw some refl) ∙ says in
        subst (IsObject sizes) (some_same same) here

linked_by-is : (sizes : Sizes) (number class : ℕ) (ends : List ClassEnd) (object : Object) → AreEnds sizes class ends → linked_by number class ends ≡ Some object → IsObject sizes object
linked_by-is sizes number class [] object are gives = absurd cc
linked_by-is sizes number class (end ∷ ends) object are gives = by end.last refl gives (linked_by-is sizes number (class + 1) ends object are.2)
  where
    of_last : (last : ℕ × ℕ) → end.last ≡ Some last → (t : Bool) → is_of_call number last ≡ t → linked_by number class (end ∷ ends) ≡ Some object
        → (linked_by number (class + 1) ends ≡ Some object → IsObject sizes object) → IsObject sizes object
    of_last last some true own says later =
        let here : IsObject sizes (record { pointer = last.0; class = class }) = subst (IsLast sizes class) some are.0 in
        let same : Some (record { pointer = last.0; class = class }) ≡ Some object = sym (rw (some, own) refl) ∙ says in
        subst (IsObject sizes) (some_same same) here
    of_last last some false other says later = later (sym (rw (some, other) refl) ∙ says)

    by : (last : Option (ℕ × ℕ)) → end.last ≡ last → linked_by number class (end ∷ ends) ≡ Some object
        → (linked_by number (class + 1) ends ≡ Some object → IsObject sizes object) → IsObject sizes object
    by None none says later = later (sym (rw none refl) ∙ says)
    by (Some last) some says later = of_last last some (is_of_call number last) refl says later

reads_object-is : (s : Sizes) (n : ℕ) (recovery : Recovery) → IsBase s n recovery → HasView recovery → AreEnds recovery.shape 0 recovery.ends → IsRecovery s n (reads_object recovery).state
reads_object-is s n recovery base view are = by (linked_by recovery.number 0 recovery.ends) refl
  where
    by : (object : Option Object) → linked_by recovery.number 0 recovery.ends ≡ object → IsRecovery s n (reads_object recovery).state
    by None none = rw none (goes_to-is s n recovery WriteBegin base view)
    by (Some object) some = rw some (record {
      same_shape = base.same_shape;
      same_client = base.same_client;
      limits = base.limits;
      client = base.client;
      stage = (view, linked_by-is recovery.shape recovery.number 0 recovery.ends object are some);
    })

restocks_from-is : (s : Sizes) (n : ℕ) (recovery : Recovery) (class : ℕ) → IsBase s n recovery → HasView recovery → AreEnds recovery.shape 0 recovery.ends → IsRecovery s n (restocks_from recovery class).state
restocks_from-is s n recovery class base view are = by (first_reserve class (drop class recovery.ends)) refl
  where
    by : (object : Option Object) → first_reserve class (drop class recovery.ends) ≡ object → IsRecovery s n (restocks_from recovery class).state
    by None none = rw none (reads_object-is s n recovery base view are)
    by (Some object) some =
        let named = first_reserve-is recovery.shape class (drop class recovery.ends) object (AreEnds-drop recovery.shape 0 class class recovery.ends (omega arith) are) some in
        rw some (goes_to-is s n recovery _ base (view, are, of_bits.bit_change_of-is (view_of recovery) object true true view named))

on_restock-is : (s : Sizes) (n : ℕ) (recovery : Recovery) (class : ℕ) (change : BitChange) (told : Changed) → IsRecovery s n recovery → HasView recovery → AreEnds recovery.shape 0 recovery.ends
    → IsBitChange (view_of recovery) change → IsRecovery s n (on_restock recovery class change told).state
on_restock-is s n recovery class change changed.Going is view are at = goes_to-is s n recovery (Restock class change) (base_of s n recovery is) (view, are, at)
on_restock-is s n recovery class change changed.Whole is view are at = restocks_from-is s n recovery (class + 1) (base_of s n recovery is) view are
on_restock-is s n recovery class change (changed.Refused node) is view are at = is

walks_next-is : (s : Sizes) (n : ℕ) (recovery : Recovery) → IsBase s n recovery → HasView recovery → AreEnds recovery.shape 0 recovery.ends → length recovery.ends ≤ CLASSES → IsRecovery s n (walks_next recovery).state
walks_next-is s n recovery base view are within = by (length recovery.ends == CLASSES) refl
  where
    by : (t : Bool) → (length recovery.ends == CLASSES) ≡ t → IsRecovery s n (walks_next recovery).state
    by true all = rw all (restocks_from-is s n recovery 0 base view are)
    by false more = rw more (goes_to-is s n recovery _ base
        (view, are, of_walk.link_walk_of-is (view_of recovery) recovery.client (length recovery.ends) view base.client.0 base.client.1 (grind (arith, nat_tests)), refl))

on_walk-is : (s : Sizes) (n : ℕ) (recovery : Recovery) (link_walk : LinkWalk) (told : Walked) → IsRecovery s n recovery → HasView recovery → AreEnds recovery.shape 0 recovery.ends
    → IsLinkWalk (view_of recovery) link_walk → link_walk.class ≡ length recovery.ends → of_walk.IsTold recovery.shape (length recovery.ends) told
    → IsRecovery s n (on_walk recovery link_walk told).state
on_walk-is s n recovery link_walk walked.Going is view are at class says = goes_to-is s n recovery (Walk link_walk) (base_of s n recovery is) (view, are, at, class)
on_walk-is s n recovery link_walk (walked.End last reserve) is view are at class says =
    let end : ClassEnd = record { last = last; reserve = reserve } in
    let next : IsBase s n (record recovery { ends = recovery.ends ++ end ∷ [] }) = record { same_shape = is.same_shape; same_client = is.same_client; limits = is.limits; client = is.client } in
    walks_next-is s n (record recovery { ends = recovery.ends ++ end ∷ [] }) next view (AreEnds-push recovery.shape 0 (length recovery.ends) recovery.ends end (omega arith) are says.0 says.1)
    (omega (arith, length-append recovery.ends (end ∷ []), at.class, class))
on_walk-is s n recovery link_walk (walked.Refused node) is view are at class says = is

-- The begin of a recovery.

on_begin-is : (s : Sizes) (n : ℕ) (recovery : Recovery) (found : ℕ) → IsRecovery s n recovery → HasView recovery → IsRecovery s n (on_begin recovery found).state
on_begin-is s n recovery found is view = by (found % 2 == 0) refl
  where
    by : (t : Bool) → (found % 2 == 0) ≡ t → IsRecovery s n (on_begin recovery found).state
    by true even = rw even (first_block-is s n recovery is view)
    by false odd = rw odd (walks_next-is s n (record recovery { number = (found + 1) / 2; ends = [] }) (record { same_shape = is.same_shape; same_client = is.same_client; limits = is.limits; client = is.client }) view tt (omega arith))

on_epoch-is : (s : Sizes) (n : ℕ) (recovery : Recovery) (found : ℕ) → IsRecovery s n recovery → IsRecovery s n (on_epoch recovery found).state
on_epoch-is s n recovery found is = by (open_mask recovery.shape found) refl
  where
    by : (mask : Option ℕ) → open_mask recovery.shape found ≡ mask → IsRecovery s n (on_epoch recovery found).state
    by None none = rw none is
    by (Some mask) opens = rw opens (record {
      same_shape = is.same_shape;
      same_client = is.same_client;
      limits = is.limits;
      client = is.client;
      stage = record { limits = is.limits; covers = open_mask-covers recovery.shape found mask opens };
    })

-- The whole.

turn_at-is : (s : Sizes) (n : ℕ) (stage : Stage) (recovery : Recovery) (answer : Answer) → IsRecovery s n recovery → IsAt stage recovery → IsRecovery s n (turn_at stage recovery answer).state
turn_at-is s n ReadEpoch recovery (Word found) is at = on_epoch-is s n recovery found is
turn_at-is s n ReadEpoch recovery Done is at = is
turn_at-is s n ReadEpoch recovery Lost is at = is
turn_at-is s n ReadBegin recovery (Word found) is at = on_begin-is s n recovery found is at
turn_at-is s n ReadBegin recovery Done is at = is
turn_at-is s n ReadBegin recovery Lost is at = is
turn_at-is s n (Walk link_walk) recovery answer is at =
    let kept = of_walk.turn-is (view_of recovery) link_walk answer at.2 in
    on_walk-is s n recovery (walk.turn link_walk answer).state (walk.turn link_walk answer).told is at.0 at.1 kept.state (kept.class ∙ at.3)
    (subst (λ k. of_walk.IsTold recovery.shape k (walk.turn link_walk answer).told) at.3 kept.told)
turn_at-is s n (Restock class change) recovery answer is at =
    on_restock-is s n recovery class (bits.turn change answer).state (bits.turn change answer).told is at.0 at.1 (of_bits.turn-is (view_of recovery) change answer at.2)
turn_at-is s n ReadMeta recovery (Word found) is at = on_meta-is s n recovery found (base_of s n recovery is) at
turn_at-is s n ReadMeta recovery Done is at = is
turn_at-is s n ReadMeta recovery Lost is at = is
turn_at-is s n (ReadLog key_len log) recovery (Word found) is at =
    reads_log-is s n recovery key_len (log ++ found ∷ []) (base_of s n recovery is) at.0 at.1.len at.1.room (omega (arith, length-append log (found ∷ []), at.1.more))
turn_at-is s n (ReadLog key_len log) recovery Done is at = is
turn_at-is s n (ReadLog key_len log) recovery Lost is at = is
turn_at-is s n (Find key_search) recovery answer is at = finds_at-is s n recovery key_search answer is at.0 at.1
turn_at-is s n (ReadVersion slot word) recovery (Word found) is at = on_version-is s n recovery slot word found (base_of s n recovery is) at.0 at.1.below
turn_at-is s n (ReadVersion slot word) recovery Done is at = is
turn_at-is s n (ReadVersion slot word) recovery Lost is at = is
turn_at-is s n (WriteSlot write) recovery answer is at =
    on_wrote-is s n recovery (slots.turn write answer).state (slots.turn write answer).told is at.0 (of_write.turn-is (view_of recovery) write answer at.1)
turn_at-is s n (Resolve resolving) recovery answer is at =
    let walking = turn-walking resolving answer at.2 in
    on_resolved-is s n recovery (resolution.turn resolving answer).state (resolution.turn resolving answer).told is at.0
    (of_resolution.turn-is (view_of recovery) resolving answer at.1) walking.phase walking.told
turn_at-is s n (Erase write) recovery answer is at =
    on_erase-is s n recovery (words.turn write answer).state (words.turn write answer).told is at.0 (of_words.turn-is (view_of recovery) write answer at.1)
turn_at-is s n (Free change) recovery answer is at =
    on_free-is s n recovery (bits.turn change answer).state (bits.turn change answer).told is at.0 (of_bits.turn-is (view_of recovery) change answer at.1)
turn_at-is s n WriteBegin recovery (Word found) is at = is
turn_at-is s n WriteBegin recovery Done is at = first_block-is s n recovery is at
turn_at-is s n WriteBegin recovery Lost is at = is
turn_at-is s n ReadBlock recovery (Word found) is at = on_block_word-is s n recovery found is at
turn_at-is s n ReadBlock recovery Done is at = is
turn_at-is s n ReadBlock recovery Lost is at = is
turn_at-is s n (Spread class backup) recovery (Word found) is at = is
turn_at-is s n (Spread class backup) recovery Done is at = spreads_from-is s n recovery class (backup + 1) (base_of s n recovery is) at.0 at.1
turn_at-is s n (Spread class backup) recovery Lost is at = is
turn_at-is s n (Release class) recovery (Word found) is at = next_block-is s n recovery is at.0.0
turn_at-is s n (Release class) recovery Done is at = is
turn_at-is s n (Release class) recovery Lost is at = is

-- a recovery stays one, whatever is answered
pub turn-is : (s : Sizes) (n : ℕ) (recovery : Recovery) (answer : Answer) → IsRecovery s n recovery → IsRecovery s n (turn recovery answer).state
turn-is s n recovery answer is = turn_at-is s n recovery.stage recovery answer is is.stage

verb_at-inside : (s : Sizes) (n : ℕ) (stage : Stage) (recovery : Recovery) → IsBase s n recovery → IsAt stage recovery → IsInPool recovery.shape (place_of (verb_at stage recovery))
verb_at-inside s n ReadEpoch recovery base at = control-inside recovery.shape EpochWord tt
verb_at-inside s n ReadBegin recovery base at = control-inside recovery.shape (Begin recovery.client) (base.client.0, omega (arith, base.client, base.limits.clients))
verb_at-inside s n (Walk link_walk) recovery base at = of_walk.next-inside (view_of recovery) link_walk at.2
verb_at-inside s n (Restock class change) recovery base at = of_bits.next-inside (view_of recovery) change at.2
verb_at-inside s n ReadMeta recovery base at = object_place-inside (view_of recovery) recovery.object 1 at.0 at.1 (omega (arith, room_of-eight recovery.object.class at.1.class))
verb_at-inside s n (ReadLog key_len log) recovery base at =
    object_place-inside (view_of recovery) recovery.object (2 + length log) at.0.0 at.0.1 (omega (arith, at.1.room, at.1.more))
verb_at-inside s n (Find key_search) recovery base at = of_search.next-inside (view_of recovery) recovery.key key_search at.1
verb_at-inside s n (ReadVersion slot word) recovery base at =
    let is = object_in-is recovery.shape word at.1.object at.1.named in
    let P : ℕ → Type 0 = λ p. IsInPool recovery.shape (primary_place (view_of recovery) (object_word p 2)) in
    subst P (object_in-pointer recovery.shape word at.1.object at.1.named)
    (object_place-inside (view_of recovery) at.1.object 2 at.0.0.0 is (omega (arith, room_of-eight at.1.object.class is.class)))
verb_at-inside s n (WriteSlot write) recovery base at = of_write.next-inside (view_of recovery) write at.1
verb_at-inside s n (Resolve resolving) recovery base at = of_resolution.next-inside (view_of recovery) resolving at.1
verb_at-inside s n (Erase write) recovery base at = of_words.next-inside (view_of recovery) write at.1
verb_at-inside s n (Free change) recovery base at = of_bits.next-inside (view_of recovery) change at.1
verb_at-inside s n WriteBegin recovery base at = write_begin-inside s n recovery base
verb_at-inside s n ReadBlock recovery base at = read_block-inside s n recovery base at
verb_at-inside s n (Spread class backup) recovery base at = spread-inside s n recovery class backup base at.0 at.2
verb_at-inside s n (Release class) recovery base at = release-inside s n recovery class base at.0

-- its verb goes to a place of the pool
pub next-inside : (s : Sizes) (n : ℕ) (recovery : Recovery) → IsRecovery s n recovery → IsInPool s (place_of (next recovery))
next-inside s n recovery is =
    let P : Sizes → Type 0 = λ sizes. IsInPool sizes (place_of (next recovery)) in
    subst P is.same_shape (verb_at-inside s n recovery.stage recovery (base_of s n recovery is) is.stage)
