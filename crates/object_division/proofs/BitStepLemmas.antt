-- Each verb of a change of a bit is a step of the machine of a single object's bit, and changes no other object's.
use Rattle.std.proofs.Common.{◌≡◌, ◌≢◌, ℕ, zero, suc, ◌+◌, ◌%◌, ◌^◌, ◌<◌, inl, inr, Bool, true, false, not, nat_lt, List, length, Some, refl, sym, ap, subst, ◌∙◌, arith, zero-add, length-set, get_or-set_other, get_or-set_same}
use Rattle.std.proofs.lemmas.Bool.{cases_eq}
use Rattle.std.proofs.lemmas.List.{ext_get_or}
use Rattle.std.proofs.lemmas.List.FromFn.{get_or-map-range_with_len, length-map-range_with_len}
use Rattle.machine.proofs.BitChangeLemmas.{next-inside}
use Rattle.machine.proofs.ObjectNamesLemmas.{bitmap_of-has}
use Rattle.machine.specs.BitChange as bits
use Rattle.machine.specs.BitChange.{BitChange, IsBitChange, Look, Phase, amount, bit_number, bitmap_place, has_bit, is_as_wanted, next, on_replica, turn}
use Rattle.machine.specs.EpochRead.{IsView}
use Rattle.machine.specs.ObjectNames.{IsObject, Object, bitmap_of, block_of, number_of}
use Rattle.machine.specs.Places.{IsInPool, replica_count, written_place}
use Rattle.object_bits.specs.Bits.{Adding, Blind, Change, Left, Looking, at_next, bit_at, bits_after, change_after, flipped}
use Rattle.object_bits.specs.Bits as object_bits
use Rattle.object_bits.specs.Claims.{IsRightAt}
use Rattle.object_form.specs.declared.classes.TheConstants.{CLASSES}
use Rattle.pointer_fields.specs.Pointer.{region_of}
use Rattle.region_view.specs.Layout.{Bitmap}
use Rattle.region_view.specs.Placed.{Viewed}
use Rattle.verb_words.proofs.AppliedLemmas.{word_at-words_after-other, word_at-words_after-same}
use Rattle.verb_words.specs.declared.verbs.Answer.TheVariants.{Word}
use Rattle.verb_words.specs.declared.verbs.Place.{Place}
use Rattle.verb_words.specs.Applied.{words_after}
use Rattle.verb_words.specs.Verb.{place_of}
use Rattle.verb_words.specs.Words.{HasPlace, word_at}
use Rattle.object_division.specs.Seen.{IsApart, StandsRight, bits_of, seen, seen_phase, seen_turn}
use Rattle.object_division.proofs.AddLemmas.{has_bit-added}
use Rattle.object_division.proofs.BlockWordLemmas.{block_cases, words_after-read}
use Rattle.object_division.proofs.PlaceLemmas.{written_place-apart}

-- ---- the turn

-- the change at the next replica
next_seen : (change : BitChange) (phase : object_bits.Phase) → seen_phase (bits.first_phase change.look) change.look ≡ phase
    → seen_turn (on_replica change)
    ≡ at_next (replica_count change.view (bitmap_of change.object.pointer)) (seen change) phase
next_seen change phase same = by (nat_lt (change.replica + 1) (replica_count change.view (bitmap_of change.object.pointer))) refl
  where
    by : (t : Bool) → nat_lt (change.replica + 1) (replica_count change.view (bitmap_of change.object.pointer)) ≡ t
        → seen_turn (on_replica change) ≡ at_next (replica_count change.view (bitmap_of change.object.pointer)) (seen change) phase
    by true more =
        rw more (ap (λ (p : object_bits.Phase). let c : Change = record { wanted = change.set; done = change.replica + 1; phase = p } in Some c) same)
    by false last = rw last refl

change_seen : (view : Viewed) (object : Object) (set look : Bool) (replica : ℕ) (phase : Phase) (found : ℕ)
    → (phase ≡ Look → look ≡ true)
    → let change : BitChange = record { view = view; object = object; set = set; look = look; replica = replica; phase = phase } in
    seen_turn (turn change (Word found))
    ≡ change_after (seen_phase phase look) (replica_count view (bitmap_of object.pointer)) (seen change)
    (has_bit found (number_of object.pointer object.class))
change_seen view object set true replica Look found looks =
    by (object_bits.is_as_wanted set (has_bit found (number_of object.pointer object.class))) refl
  where
    change : BitChange
    change = record { view = view; object = object; set = set; look = true; replica = replica; phase = Look }

    by : (t : Bool) → object_bits.is_as_wanted set (has_bit found (number_of object.pointer object.class)) ≡ t
        → seen_turn (turn (record { view = view; object = object; set = set; look = true; replica = replica; phase = Look }) (Word found))
        ≡ change_after Looking (replica_count view (bitmap_of object.pointer))
        (seen (record { view = view; object = object; set = set; look = true; replica = replica; phase = Look }))
        (has_bit found (number_of object.pointer object.class))
    by true wanted = rw wanted (next_seen (record { view = view; object = object; set = set; look = true; replica = replica; phase = Look }) Looking refl)
    by false other = rw other refl
change_seen view object set false replica Look found looks = absurd (never (looks refl))
  where
    never : false ≡ true → ⊥
    never is = cc
change_seen view object set true replica bits.Change found looks =
    next_seen (record { view = view; object = object; set = set; look = true; replica = replica; phase = bits.Change }) Looking refl
change_seen view object set false replica bits.Change found looks =
    next_seen (record { view = view; object = object; set = set; look = false; replica = replica; phase = bits.Change }) Blind refl

pub turn_seen : (change : BitChange) (found : ℕ) → (change.phase ≡ Look → change.look ≡ true)
    → seen_turn (turn change (Word found))
    ≡ change_after (seen change).phase (replica_count change.view (bitmap_of change.object.pointer)) (seen change)
    (has_bit found (bit_number change))
turn_seen change found looks =
    change_seen change.view change.object change.set change.look change.replica change.phase found looks

-- ---- the bits

pub length-bits_of : (view : Viewed) (words : List (List ℕ)) (object : Object)
    → length (bits_of view words object) ≡ replica_count view (bitmap_of object.pointer)
length-bits_of view words object =
    length-map-range_with_len
    (λ i. has_bit (word_at words (written_place view (bitmap_of object.pointer) i)) (number_of object.pointer object.class)) 0
    (replica_count view (bitmap_of object.pointer))

pub bits_of-at : (view : Viewed) (words : List (List ℕ)) (object : Object) (i : ℕ) → i < replica_count view (bitmap_of object.pointer)
    → bit_at (bits_of view words object) i
    ≡ has_bit (word_at words (written_place view (bitmap_of object.pointer) i)) (number_of object.pointer object.class)
bits_of-at view words object i within =
    get_or-map-range_with_len
    (λ k. has_bit (word_at words (written_place view (bitmap_of object.pointer) k)) (number_of object.pointer object.class)) 0
    (replica_count view (bitmap_of object.pointer)) i i false within (zero-add i)

pub number_of-below : (pointer class : ℕ) → class < CLASSES → number_of pointer class < 64
number_of-below pointer zero below = omega arith
number_of-below pointer (suc zero) below = omega arith
number_of-below pointer (suc (suc zero)) below = omega arith
number_of-below pointer (suc (suc (suc zero))) below = omega arith
number_of-below pointer (suc (suc (suc (suc zero)))) below = omega arith
number_of-below pointer (suc (suc (suc (suc (suc zero))))) below = omega arith
number_of-below pointer (suc (suc (suc (suc (suc (suc class)))))) below = absurd (omega arith)

-- what is known of the change under the view
pub object_held : (view : Viewed) (change : BitChange) → IsBitChange view change → IsObject view.shape change.object
object_held view change is = subst (λ (v : Viewed). IsObject v.shape change.object) is.held is.object

pub place_held : (view : Viewed) (change : BitChange) → IsBitChange view change
    → bitmap_place change ≡ written_place view (bitmap_of change.object.pointer) change.replica
place_held view change is =
    ap (λ (v : Viewed). written_place v (bitmap_of change.object.pointer) change.replica) is.held

pub replica_held : (view : Viewed) (change : BitChange) → IsBitChange view change
    → change.replica < replica_count view (bitmap_of change.object.pointer)
replica_held view change is =
    subst (λ (v : Viewed). change.replica < replica_count v (bitmap_of change.object.pointer)) is.held is.replica

-- the word at the change's place after an add
added_word : (view : Viewed) (words : List (List ℕ)) (change : BitChange) (places : (place : Place) → IsInPool view.shape place → HasPlace words place)
    → change.phase ≡ bits.Change → IsBitChange view change
    → word_at (words_after words (next change) false) (bitmap_place change)
    ≡ (word_at words (bitmap_place change) + amount change.set (bit_number change)) % 2 ^ 64
added_word view words change places adds is =
    let add = bits.verb_at bits.Change change in
    let has : HasPlace words (place_of (next change)) = places (place_of (next change)) (next-inside view change is) in
    subst (λ (p : Phase). word_at (words_after words (bits.verb_at p change) false) (bitmap_place change)
    ≡ (word_at words (bitmap_place change) + amount change.set (bit_number change)) % 2 ^ 64) (sym adds)
    (word_at-words_after-same words add false (subst (λ (p : Phase). HasPlace words (place_of (bits.verb_at p change))) adds has) refl)

-- the place of a bitmap where the change does not write
pub elsewhere : (view : Viewed) (words : List (List ℕ)) (change : BitChange) (place : Place) → place ≢ bitmap_place change
    → (phase : Phase) → word_at (words_after words (bits.verb_at phase change) false) place ≡ word_at words place
elsewhere view words change place apart Look =
    word_at-words_after-other words (bits.verb_at Look change) false place apart
elsewhere view words change place apart bits.Change =
    word_at-words_after-other words (bits.verb_at bits.Change change) false place apart

not_twice : (bit wanted : Bool) → bit ≡ not wanted → wanted ≡ not bit
not_twice true true is = is
not_twice true false is = refl
not_twice false true is = refl
not_twice false false is = is

-- an add that finds the bit as it is not wanted changes it on this replica
bits_added : (view : Viewed) (words : List (List ℕ)) (change : BitChange) → IsBitChange view change
    → ((place : Place) → IsInPool view.shape place → HasPlace words place)
    → word_at words (bitmap_place change) < 2 ^ 64 → change.phase ≡ bits.Change
    → bit_at (bits_of view words change.object) change.replica ≡ not change.set
    → bits_of view (words_after words (next change) false) change.object ≡ flipped (bits_of view words change.object) change.replica
bits_added view words change is places small adds right =
    let new = words_after words (next change) false in
    let old = bits_of view words change.object in
    let object = object_held view change is in
    let inside = replica_held view change is in
    let long = length-bits_of view words change.object in
    let long_new = length-bits_of view new change.object in
    let has = bitmap_of-has view.shape change.object object in
    let at_place = place_held view change is in
    let found : has_bit (word_at words (bitmap_place change)) (bit_number change) ≡ not change.set =
    ap (λ (p : Place). has_bit (word_at words p) (bit_number change)) at_place
    ∙ (sym (bits_of-at view words change.object change.replica inside) ∙ right) in
    let added = has_bit-added (word_at words (bitmap_place change)) (bit_number change) change.set small
    (number_of-below change.object.pointer change.object.class object.class) found in
    ext_get_or false (bits_of view new change.object) (flipped old change.replica)
    (long_new ∙ (sym long ∙ sym (length-set old change.replica (not (bit_at old change.replica)))))
    (λ i below.
    let within : i < replica_count view (bitmap_of change.object.pointer) = omega (arith, long_new, below) in
    bits_of-at view new change.object i within
    ∙ elim (cases_eq i change.replica) [
      | inl same ↦
          subst
          (λ k. has_bit (word_at new (written_place view (bitmap_of change.object.pointer) k)) (bit_number change)
          ≡ bit_at (flipped old change.replica) k) (sym same)
          (ap (λ (p : Place). has_bit (word_at new p) (bit_number change)) (sym at_place)
          ∙ (ap (λ w. has_bit w (bit_number change)) (added_word view words change places adds is)
          ∙ (added.0
          ∙ (not_twice (bit_at old change.replica) change.set right
          ∙ sym (get_or-set_same old change.replica (not (bit_at old change.replica)) false (omega (arith, long, inside)))))))
      | inr apart ↦
          let other : written_place view (bitmap_of change.object.pointer) i ≢ bitmap_place change = λ same.
          apart
          ((written_place-apart view (bitmap_of change.object.pointer) (bitmap_of change.object.pointer) i change.replica
          (subst (λ v. IsView v) is.held is.is_view).limits has has within inside (same ∙ at_place)).1) in
          ap (λ w. has_bit w (bit_number change))
          (elsewhere view words change (written_place view (bitmap_of change.object.pointer) i) other change.phase)
          ∙ (sym (bits_of-at view words change.object i within)
          ∙ sym (get_or-set_other old change.replica i (not (bit_at old change.replica)) false apart))
    ])

looked : (words : List (List ℕ)) (change : BitChange) → change.phase ≡ Look → words_after words (next change) false ≡ words
looked words change looks =
    subst (λ (p : Phase). words_after words (bits.verb_at p change) false ≡ words) (sym looks)
    (words_after-read words (bitmap_place change))

pub bits_seen : (view : Viewed) (words : List (List ℕ)) (change : BitChange) → StandsRight view words change
    → bits_of view (words_after words (next change) false) change.object
    ≡ bits_after (seen change).phase (bits_of view words change.object) change.replica
bits_seen view words change stands = by change.phase refl change.look refl
  where
    by : (phase : Phase) → change.phase ≡ phase → (look : Bool) → change.look ≡ look
        → bits_of view (words_after words (next change) false) change.object
        ≡ bits_after (seen_phase change.phase change.look) (bits_of view words change.object) change.replica
    by Look looks look is_look =
        subst
        (λ (p : Phase). bits_of view (words_after words (next change) false) change.object
        ≡ bits_after (seen_phase p change.look) (bits_of view words change.object) change.replica) (sym looks)
        (ap (λ w. bits_of view w change.object) (looked words change looks))
    by bits.Change adds true is_look =
        let phase : seen_phase change.phase change.look ≡ Adding =
        ap (λ (p : Phase). seen_phase p change.look) adds ∙ ap (λ b. seen_phase bits.Change b) is_look in
        subst
        (λ (p : object_bits.Phase). bits_of view (words_after words (next change) false) change.object
        ≡ bits_after p (bits_of view words change.object) change.replica) (sym phase)
        (bits_added view words change stands.is stands.places stands.word adds
        (subst (λ (p : object_bits.Phase). IsRightAt p (bits_of view words change.object) (seen change)) phase stands.right))
    by bits.Change adds false is_look =
        let phase : seen_phase change.phase change.look ≡ Blind =
        ap (λ (p : Phase). seen_phase p change.look) adds ∙ ap (λ b. seen_phase bits.Change b) is_look in
        subst
        (λ (p : object_bits.Phase). bits_of view (words_after words (next change) false) change.object
        ≡ bits_after p (bits_of view words change.object) change.replica) (sym phase)
        (bits_added view words change stands.is stands.places stands.word adds
        (subst (λ (p : object_bits.Phase). IsRightAt p (bits_of view words change.object) (seen change)) phase stands.right))

-- ---- other objects

right_found : (view : Viewed) (words : List (List ℕ)) (change : BitChange) → StandsRight view words change
    → change.phase ≡ bits.Change → has_bit (word_at words (bitmap_place change)) (bit_number change) ≡ not change.set
right_found view words change stands adds =
    ap (λ (p : Place). has_bit (word_at words p) (bit_number change)) (place_held view change stands.is)
    ∙ (sym (bits_of-at view words change.object change.replica (replica_held view change stands.is)) ∙ by change.look refl)
  where
    by : (look : Bool) → change.look ≡ look → bit_at (bits_of view words change.object) change.replica ≡ not change.set
    by true is_look =
        subst (λ (p : object_bits.Phase). IsRightAt p (bits_of view words change.object) (seen change))
        (ap (λ (p : Phase). seen_phase p change.look) adds ∙ ap (λ b. seen_phase bits.Change b) is_look) stands.right
    by false is_look =
        subst (λ (p : object_bits.Phase). IsRightAt p (bits_of view words change.object) (seen change))
        (ap (λ (p : Phase). seen_phase p change.look) adds ∙ ap (λ b. seen_phase bits.Change b) is_look) stands.right

-- at the change's own place another number's bit stays
other_number : (view : Viewed) (words : List (List ℕ)) (change : BitChange) (j : ℕ) → StandsRight view words change
    → j ≢ bit_number change → (phase : Phase) → change.phase ≡ phase
    → has_bit (word_at (words_after words (next change) false) (bitmap_place change)) j ≡ has_bit (word_at words (bitmap_place change)) j
other_number view words change j stands apart Look looks =
    ap (λ w. has_bit (word_at w (bitmap_place change)) j) (looked words change looks)
other_number view words change j stands apart bits.Change adds =
    let object = object_held view change stands.is in
    ap (λ w. has_bit w j) (added_word view words change stands.places adds stands.is)
    ∙ (has_bit-added (word_at words (bitmap_place change)) (bit_number change) change.set stands.word
    (number_of-below change.object.pointer change.object.class object.class) (right_found view words change stands adds)).1 j apart

pub same_bitmaps : (one other : Object) → region_of one.pointer ≡ region_of other.pointer → block_of one.pointer ≡ block_of other.pointer
    → bitmap_of one.pointer ≡ bitmap_of other.pointer
same_bitmaps one other regions blocks = λ i. Bitmap (regions i) (blocks i)

pub bitmap_parts : (region block other of_other : ℕ) → Bitmap region block ≡ Bitmap other of_other → (region ≡ other) × (block ≡ of_other)
bitmap_parts region block other of_other is = (cc, cc)

pub others_seen : (view : Viewed) (words : List (List ℕ)) (change : BitChange) (other : Object) → StandsRight view words change
    → IsObject view.shape other → IsApart other change.object
    → bits_of view (words_after words (next change) false) other ≡ bits_of view words other
others_seen view words change other stands is apart =
    let new = words_after words (next change) false in
    let limits = (subst (λ v. IsView v) stands.is.held stands.is.is_view).limits in
    let has = bitmap_of-has view.shape other is in
    let has_change = bitmap_of-has view.shape change.object (object_held view change stands.is) in
    let inside = replica_held view change stands.is in
    let at_place = place_held view change stands.is in
    let number = number_of other.pointer other.class in
    let long = length-bits_of view words other in
    let long_new = length-bits_of view new other in
    ext_get_or false (bits_of view new other) (bits_of view words other) (long_new ∙ sym long)
    (λ i below.
    let within : i < replica_count view (bitmap_of other.pointer) = omega (arith, long_new, below) in
    let place = written_place view (bitmap_of other.pointer) i in
    let there : place ≢ bitmap_place change → has_bit (word_at new place) number ≡ has_bit (word_at words place) number = λ differs.
    ap (λ w. has_bit w number) (elsewhere view words change place differs change.phase) in
    let same_place : place ≡ bitmap_place change → (bitmap_of other.pointer ≡ bitmap_of change.object.pointer) × (i ≡ change.replica) = λ same.
    written_place-apart view (bitmap_of other.pointer) (bitmap_of change.object.pointer) i change.replica limits has has_change
    within inside (same ∙ at_place) in
    bits_of-at view new other i within
    ∙ (elim apart [
      | inl blocks ↦ there (λ same. blocks (same_place same).0)
      | inr numbers ↦
          elim (block_cases (region_of other.pointer) (block_of other.pointer) (region_of change.object.pointer) (block_of change.object.pointer)) [
            | inl same_block ↦
                elim (cases_eq i change.replica) [
                  | inl here ↦
                      let at : place ≡ bitmap_place change =
                      subst (λ w. written_place view w i ≡ bitmap_place change)
                      (sym (same_bitmaps other change.object same_block.0 same_block.1))
                      (ap (λ k. written_place view (bitmap_of change.object.pointer) k) here ∙ sym at_place) in
                      ap (λ (p : Place). has_bit (word_at new p) number) at
                      ∙ (other_number view words change number stands numbers change.phase refl
                      ∙ ap (λ (p : Place). has_bit (word_at words p) number) (sym at))
                  | inr differs ↦ there (λ same. differs (same_place same).1)
                ]
            | inr differs ↦
                there
                (λ same.
                differs
                (bitmap_parts (region_of other.pointer) (block_of other.pointer) (region_of change.object.pointer)
                (block_of change.object.pointer) (same_place same).0))
          ]
    ] ∙ sym (bits_of-at view words other i within)))
