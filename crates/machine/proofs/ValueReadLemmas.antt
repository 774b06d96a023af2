-- A reading of a value stays one until its last word, and its verbs go to places of the pool.
use Rattle.std.proofs.Common.{◌≡◌, ℕ, ◌+◌, ◌≤◌, ◌==◌, Bool, true, false, [], ◌∷◌, length, refl, sym, subst, ◌∙◌, arith, length-append}
use Rattle.std.proofs.lemmas.Bool.Decides.{nat_tests}
use Rattle.machine.specs.declared.value_read.Fetched.TheVariants.{Going, Whole}
use Rattle.machine.specs.EpochRead.{IsView}
use Rattle.machine.specs.ObjectNames.{IsObject}
use Rattle.machine.specs.Places.{IsInPool}
use Rattle.machine.specs.ValueRead.{IsValueRead, ValueRead, next, turn, value_read_of}
use Rattle.machine.proofs.KeyTestLemmas.{object_place-inside}
use Rattle.object_form.specs.Class.{room_of, words_for, words_of}
use Rattle.region_view.specs.Placed.{Viewed}
use Rattle.verb_words.specs.declared.verbs.Answer.{Answer}
use Rattle.verb_words.specs.declared.verbs.Answer.TheVariants.{Word, Done, Lost}
use Rattle.verb_words.specs.Verb.{place_of}

pub value_read_of-is : (view : Viewed) (pointer class key_len value_len : ℕ) → IsView view → IsObject view.shape (record { pointer = pointer; class = class })
    → words_of key_len value_len ≤ room_of class → 1 ≤ value_len → IsValueRead view (value_read_of view pointer key_len value_len)
value_read_of-is view pointer class key_len value_len is named room some =
    record { held = refl; is_view = is; class = class; object = named; room = room; words = omega arith }

-- a reading stays one while it goes on
pub turn-is : (view : Viewed) (read : ValueRead) (answer : Answer) → IsValueRead view read → (turn read answer).told ≡ Going → IsValueRead view (turn read answer).state
turn-is view read Done is told = is
turn-is view read Lost is told = is
turn-is view read (Word found) is told = by (length read.words + 1 == words_for read.value_len) refl
  where
    by : (t : Bool) → (length read.words + 1 == words_for read.value_len) ≡ t → IsValueRead view (turn read (Word found)).state
    by true last = let bad : Whole ≡ Going = sym (rw last refl) ∙ told in absurd cc
    by false more = let before = is.words in rw more (record {
      held = is.held;
      is_view = is.is_view;
      class = is.class;
      object = is.object;
      room = is.room;
      words = let long = length-append read.words (found ∷ []) in grind (arith, nat_tests);
    })

-- its verb goes to a place of the pool
pub next-inside : (view : Viewed) (read : ValueRead) → IsValueRead view read → IsInPool view.shape (place_of (next read))
next-inside view read is =
    let P : Viewed → Type 0 = λ v. IsInPool v.shape (place_of (next read)) in
    subst P is.held (object_place-inside read.view (record { pointer = read.pointer; class = is.class }) (4 + words_for read.key_len + length read.words) is.is_view is.object (omega (arith, is.room, is.words)))
