-- A change of a bit that is under way finds the bit as its verb needs it, and is under way still after the verb, or whole.
use Rattle.std.proofs.Common.{◌≡◌, ℕ, ◌+◌, ◌-◌, ◌<◌, ◌^◌, nat_lt, Bool, true, false, not, List, length, Option, Some, refl, sym, ap, subst, ◌∙◌, arith}
use Rattle.std.proofs.lemmas.Bool.{ltb-false, ltb-true}
use Rattle.std.proofs.lemmas.List.{length-set}
use Rattle.machine.specs.declared.bit_change.Changed.{Changed}
use Rattle.machine.specs.declared.bit_change.Changed.TheVariants as changed
use Rattle.machine.specs.BitChange as bits
use Rattle.machine.specs.BitChange.{BitChange, IsBitChange, Look, Phase, bit_change_of, bit_number, bitmap_place, has_bit}
use Rattle.machine.specs.ObjectNames.{IsObject, Object, bitmap_of}
use Rattle.machine.specs.EpochRead.{IsView}
use Rattle.machine.proofs.BitChangeLemmas.{bit_change_of-is}
use Rattle.object_bits.specs.Claims.{AreAll}
use Rattle.machine.specs.Places.{IsInPool, replica_count}
use Rattle.object_bits.proofs.ChangeLemmas.{IsLed-after, IsRightAt-sound, at_set}
use Rattle.object_bits.proofs.Soundness.{IsLed, IsSoundAt}
use Rattle.object_bits.specs.Bits.{Adding, Blind, Change, Left, Looking, at_next, bit_at, bits_after, change_after, flipped}
use Rattle.object_bits.specs.Bits as object_bits
use Rattle.region_view.specs.Placed.{Viewed}
use Rattle.verb_words.specs.declared.verbs.Answer.{Answer}
use Rattle.verb_words.specs.declared.verbs.Answer.TheVariants.{Word}
use Rattle.verb_words.specs.declared.verbs.Place.{Place}
use Rattle.verb_words.specs.Applied.{answer_to, words_after}
use Rattle.verb_words.specs.Words.{HasPlace, word_at}
use Rattle.object_division.specs.Seen.{AreToDo, HasCome, HasComeStraight, IsStraight, IsUnderWay, StandsRight, bits_of, seen, seen_phase, seen_told, seen_turn}
use Rattle.object_division.proofs.BitStepLemmas.{bits_of-at, bits_seen, length-bits_of, place_held, replica_held, turn_seen}

-- as the machine of a single object's bit has it
sound_change : (list : List Bool) (change : Change) → IsUnderWay list change → IsSoundAt change.phase list change
sound_change list change is = by change.phase is.to_do
  where
    by : (phase : object_bits.Phase) → AreToDo phase list change → IsSoundAt phase list change
    by Blind to_do = (is.within, is.done, to_do)
    by Looking to_do = (is.within, is.done)
    by Adding to_do = (is.within, is.done, to_do)
    by Left to_do = tt

come_to : (wanted : Bool) (list : List Bool) (change : BitChange) → IsLed wanted list (Some (seen change))
    → HasCome wanted list (Some (seen change))
come_to wanted list change led = by change.phase change.look refl refl
  where
    by : (phase : Phase) (look : Bool) → change.phase ≡ phase → change.look ≡ look → HasCome wanted list (Some (seen change))
    by Look look at is =
        let same : seen_phase change.phase change.look ≡ Looking = ap (λ (p : Phase). seen_phase p change.look) at in
        let sound : IsSoundAt Looking list (seen change) =
        subst (λ (p : object_bits.Phase). IsSoundAt p list (seen change)) same led.1 in (
          led.0,
          record {
            within = sound.0;
            done = sound.1;
            to_do = subst (λ (p : object_bits.Phase). AreToDo p list (seen change)) (sym same) tt;
          },
        )
    by bits.Change true at is =
        let same : seen_phase change.phase change.look ≡ Adding =
        ap (λ (p : Phase). seen_phase p change.look) at ∙ ap (λ b. seen_phase bits.Change b) is in
        let sound : IsSoundAt Adding list (seen change) =
        subst (λ (p : object_bits.Phase). IsSoundAt p list (seen change)) same led.1 in (
          led.0,
          record {
            within = sound.0;
            done = sound.1;
            to_do = subst (λ (p : object_bits.Phase). AreToDo p list (seen change)) (sym same) sound.2;
          },
        )
    by bits.Change false at is =
        let same : seen_phase change.phase change.look ≡ Blind =
        ap (λ (p : Phase). seen_phase p change.look) at ∙ ap (λ b. seen_phase bits.Change b) is in
        let sound : IsSoundAt Blind list (seen change) =
        subst (λ (p : object_bits.Phase). IsSoundAt p list (seen change)) same led.1 in (
          led.0,
          record {
            within = sound.0;
            done = sound.1;
            to_do = subst (λ (p : object_bits.Phase). AreToDo p list (seen change)) (sym same) sound.2;
          },
        )

told_to : (wanted : Bool) (list : List Bool) (change : BitChange) (told : Changed) → IsLed wanted list (seen_told change told)
    → HasCome wanted list (seen_told change told)
told_to wanted list change changed.Going led = come_to wanted list change led
told_to wanted list change changed.Whole led = led
told_to wanted list change (changed.Refused node) led = come_to wanted list change led

-- its verb stands right
pub under_way-right : (view : Viewed) (words : List (List ℕ)) (change : BitChange) → IsBitChange view change
    → ((place : Place) → IsInPool view.shape place → HasPlace words place) → word_at words (bitmap_place change) < 2 ^ 64
    → IsUnderWay (bits_of view words change.object) (seen change) → StandsRight view words change
under_way-right view words change is places small under_way =
    record {
      is = is;
      places = places;
      word = small;
      right =
          IsRightAt-sound (seen change).phase (bits_of view words change.object) (seen change)
          (sound_change (bits_of view words change.object) (seen change) under_way);
    }

answer_word : (words : List (List ℕ)) (change : BitChange) (phase : Phase)
    → answer_to words (bits.verb_at phase change) false ≡ Word (word_at words (bitmap_place change))
answer_word words change Look = refl
answer_word words change bits.Change = refl

-- its turn is that of the machine of a single object's bit
turned_to : (view : Viewed) (words : List (List ℕ)) (change : BitChange) → IsBitChange view change
    → (change.phase ≡ Look → change.look ≡ true)
    → seen_turn (bits.turn change (Word (word_at words (bitmap_place change))))
    ≡ change_after (seen change).phase (length (bits_of view words change.object)) (seen change)
    (bit_at (bits_of view words change.object) change.replica)
turned_to view words change is looks =
    turn_seen change found looks
    ∙ (ap (λ n. change_after phase n (seen change) (has_bit found (bit_number change))) count
    ∙ ap (λ b. change_after phase (length old) (seen change) b) bit)
  where
    phase : object_bits.Phase
    phase = (seen change).phase

    old : List Bool
    old = bits_of view words change.object

    found : ℕ
    found = word_at words (bitmap_place change)

    count : replica_count change.view (bitmap_of change.object.pointer) ≡ length old
    count =
        ap (λ (v : Viewed). replica_count v (bitmap_of change.object.pointer)) is.held
        ∙ sym (length-bits_of view words change.object)

    bit : has_bit found (bit_number change) ≡ bit_at old change.replica
    bit =
        ap (λ (p : Place). has_bit (word_at words p) (bit_number change)) (place_held view change is)
        ∙ sym (bits_of-at view words change.object change.replica (replica_held view change is))

pub under_way-goes : (view : Viewed) (words : List (List ℕ)) (change : BitChange) → IsBitChange view change
    → ((place : Place) → IsInPool view.shape place → HasPlace words place) → word_at words (bitmap_place change) < 2 ^ 64
    → (change.phase ≡ Look → change.look ≡ true) → IsUnderWay (bits_of view words change.object) (seen change)
    → HasCome change.set (bits_of view (words_after words (bits.next change) false) change.object)
    (seen_turn (bits.turn change (answer_to words (bits.next change) false)))
under_way-goes view words change is places small looks under_way =
    subst (λ (a : Answer). HasCome change.set new (seen_turn (bits.turn change a))) (sym (answer_word words change change.phase))
    (told_to change.set new (bits.turn change (Word found)).state (bits.turn change (Word found)).told
    (subst (λ (o : Option Change). IsLed change.set new o) (sym turned)
    (subst (λ l. IsLed change.set l (change_after phase (length old) (seen change) (bit_at old change.replica))) (sym moved)
    (IsLed-after phase old (seen change) (sound_change old (seen change) under_way)))))
  where
    phase : object_bits.Phase
    phase = (seen change).phase

    old : List Bool
    old = bits_of view words change.object

    new : List Bool
    new = bits_of view (words_after words (bits.next change) false) change.object

    found : ℕ
    found = word_at words (bitmap_place change)

    moved : new ≡ bits_after phase old change.replica
    moved = bits_seen view words change (under_way-right view words change is places small under_way)

    turned : seen_turn (bits.turn change (Word found)) ≡ change_after phase (length old) (seen change) (bit_at old change.replica)
    turned = turned_to view words change is looks

-- ---- a change that is never broken off

not_wanted : {A : Type 0} (wanted found : Bool) → found ≡ not wanted → object_bits.is_as_wanted wanted found ≡ true → A
not_wanted true true is wants = absurd cc
not_wanted true false is wants = absurd cc
not_wanted false true is wants = absurd cc
not_wanted false false is wants = absurd cc

not_not : (bit wanted : Bool) → bit ≡ not wanted → not bit ≡ wanted
not_not true true is = sym is
not_not false true is = refl
not_not true false is = refl
not_not false false is = sym is

-- its own replica is changed, and it goes on to the next
straight_next : (list : List Bool) (change : Change) (phase : object_bits.Phase) → IsStraight list change
    → HasComeStraight change.wanted (flipped list change.done) (at_next (length list) change phase)
straight_next list change phase is = by (nat_lt (change.done + 1) (length list)) refl
  where
    long : length (flipped list change.done) ≡ length list
    long = length-set list change.done (not (bit_at list change.done))

    right : bit_at list change.done ≡ not change.wanted
    right = is.to_do change.done (omega arith) is.within

    done : (place : ℕ) → place < change.done + 1 → bit_at (flipped list change.done) place ≡ change.wanted
    done place below =
        at_set (λ bit. bit ≡ change.wanted) list change.done place (not (bit_at list change.done)) is.within
        (λ same. not_not (bit_at list change.done) change.wanted right)
        (λ apart. is.done place (omega (arith, below, apart)))

    by : (t : Bool) → nat_lt (change.done + 1) (length list) ≡ t
        → HasComeStraight change.wanted (flipped list change.done) (at_next (length list) change phase)
    by true more =
        rw more (
          refl,
          record {
            within = omega (arith, long, ltb-true (change.done + 1) (length list) more);
            done = done;
            to_do = λ place from within.
                at_set (λ bit. bit ≡ not change.wanted) list change.done place (not (bit_at list change.done)) is.within
                (λ same. absurd (omega (arith, same, from)))
                (λ apart. is.to_do place (omega (arith, from)) (omega (arith, within, long)));
          },
        )
    by false last =
        rw last (λ place within. done place (omega (arith, within, long, ltb-false (change.done + 1) (length list) last)))

straight_after : (phase : object_bits.Phase) (list : List Bool) (change : Change) → (phase ≡ Left → ⊥) → IsStraight list change
    → HasComeStraight change.wanted (bits_after phase list change.done)
    (change_after phase (length list) change (bit_at list change.done))
straight_after Blind list change going is = straight_next list change Blind is
straight_after Looking list change going is = by (object_bits.is_as_wanted change.wanted (bit_at list change.done)) refl
  where
    by : (t : Bool) → object_bits.is_as_wanted change.wanted (bit_at list change.done) ≡ t
        → HasComeStraight change.wanted list (change_after Looking (length list) change (bit_at list change.done))
    by true wants =
        not_wanted change.wanted (bit_at list change.done) (is.to_do change.done (omega arith) is.within) wants
    by false other = rw other (refl, record { within = is.within; done = is.done; to_do = is.to_do })
straight_after Adding list change going is = straight_next list change Looking is
straight_after Left list change going is = absurd (going refl)

-- it is under way as any other
straight_under_way : (phase : object_bits.Phase) (list : List Bool) (change : Change) → IsStraight list change
    → AreToDo phase list change
straight_under_way Blind list change is = is.to_do
straight_under_way Looking list change is = tt
straight_under_way Adding list change is = is.to_do change.done (omega arith) is.within
straight_under_way Left list change is = tt

pub straight_is : (list : List Bool) (change : Change) → IsStraight list change → IsUnderWay list change
straight_is list change is =
    record { within = is.within; done = is.done; to_do = straight_under_way change.phase list change is }

never_left : (phase : Phase) (look : Bool) → seen_phase phase look ≡ Left → ⊥
never_left Look look is = cc
never_left bits.Change true is = cc
never_left bits.Change false is = cc

pub straight-goes : (view : Viewed) (words : List (List ℕ)) (change : BitChange) → IsBitChange view change
    → ((place : Place) → IsInPool view.shape place → HasPlace words place) → word_at words (bitmap_place change) < 2 ^ 64
    → (change.phase ≡ Look → change.look ≡ true) → IsStraight (bits_of view words change.object) (seen change)
    → HasComeStraight change.set (bits_of view (words_after words (bits.next change) false) change.object)
    (seen_turn (bits.turn change (answer_to words (bits.next change) false)))
straight-goes view words change is places small looks straight =
    subst (λ (a : Answer). HasComeStraight change.set new (seen_turn (bits.turn change a)))
    (sym (answer_word words change change.phase))
    (subst (λ (o : Option Change). HasComeStraight change.set new o) (sym turned)
    (subst (λ l. HasComeStraight change.set l (change_after phase (length old) (seen change) (bit_at old change.replica))) (sym moved)
    (straight_after phase old (seen change) (never_left change.phase change.look) straight)))
  where
    phase : object_bits.Phase
    phase = (seen change).phase

    old : List Bool
    old = bits_of view words change.object

    new : List Bool
    new = bits_of view (words_after words (bits.next change) false) change.object

    under_way : IsUnderWay old (seen change)
    under_way = straight_is old (seen change) straight

    moved : new ≡ bits_after phase old change.replica
    moved = bits_seen view words change (under_way-right view words change is places small under_way)

    turned : seen_turn (bits.turn change (Word (word_at words (bitmap_place change))))
        ≡ change_after phase (length old) (seen change) (bit_at old change.replica)
    turned = turned_to view words change is looks

-- where every replica is as it is not wanted, a change may begin
pub straight_begun : (view : Viewed) (words : List (List ℕ)) (object : Object) (set look : Bool) → IsView view
    → IsObject view.shape object → AreAll (not set) (bits_of view words object)
    → IsStraight (bits_of view words object) (seen (bit_change_of view object set look))
straight_begun view words object set look is_view is all =
    record {
      within =
          omega (
            arith,
            length-bits_of view words object,
            (bit_change_of-is view object set look is_view is).replica,
          );
      done = λ place below. absurd (omega (arith, below));
      to_do = λ place from within. all place within;
    }

-- until it is whole, the primary is not as it is wanted
pub straight_primary : (list : List Bool) (change : Change) → IsStraight list change
    → bit_at list (length list - 1) ≡ not change.wanted
straight_primary list change is =
    is.to_do (length list - 1) (omega (arith, is.within)) (omega (arith, is.within))
