-- A change of a bit stays one, and its verbs go to places of the pool.
use Rattle.std.proofs.Common.{◌≡◌, ℕ, ◌+◌, Bool, true, false, refl, subst, arith}
use Rattle.std.specs.Prelude.{nat_lt}
use Rattle.std.proofs.lemmas.Bool.Decides.{nat_tests}
use Rattle.machine.specs.BitChange.{BitChange, Change, IsBitChange, Look, Phase, bit_change_of, is_as_wanted, next, on_replica, turn, turn_at, verb_at}
use Rattle.machine.specs.EpochRead.{IsView}
use Rattle.machine.specs.ObjectNames.{IsObject, Object, bitmap_of}
use Rattle.machine.specs.Places.{IsInPool, replica_count}
use Rattle.machine.proofs.ObjectNamesLemmas.{bitmap_of-has, names_object-says}
use Rattle.machine.proofs.PlacesLemmas.{replica_count-some, written_place-inside}
use Rattle.region_view.specs.Placed.{Viewed}
use Rattle.verb_words.specs.declared.verbs.Answer.{Answer}
use Rattle.verb_words.specs.declared.verbs.Answer.TheVariants.{Word, Done, Lost}
use Rattle.verb_words.specs.Verb.{place_of}

pub bit_change_of-is : (view : Viewed) (object : Object) (set look : Bool) → IsView view → IsObject view.shape object → IsBitChange view (bit_change_of view object set look)
bit_change_of-is view object set look is named = record {
  held = refl;
  is_view = is;
  object = named;
  replica = replica_count-some view (bitmap_of object.pointer) is (names_object-says view.shape object.class object.pointer named.named).region.1;
}

on_replica-is : (view : Viewed) (change : BitChange) → IsBitChange view change → IsBitChange view (on_replica change).state
on_replica-is view change is = by (nat_lt (change.replica + 1) (replica_count change.view (bitmap_of change.object.pointer))) refl
  where
    by : (t : Bool) → nat_lt (change.replica + 1) (replica_count change.view (bitmap_of change.object.pointer)) ≡ t → IsBitChange view (on_replica change).state
    by true more = rw more (record { held = is.held; is_view = is.is_view; object = is.object; replica = grind (arith, nat_tests) })
    by false last = rw last is

turn_at-is : (view : Viewed) (change : BitChange) (phase : Phase) (found : ℕ) → IsBitChange view change → IsBitChange view (turn_at phase change found).state
turn_at-is view change Change found is = on_replica-is view change is
turn_at-is view change Look found is = by (is_as_wanted change found) refl
  where
    by : (t : Bool) → is_as_wanted change found ≡ t → IsBitChange view (turn_at Look change found).state
    by true wanted = rw wanted (on_replica-is view change is)
    by false other = rw other (record { held = is.held; is_view = is.is_view; object = is.object; replica = is.replica })

-- a change stays one, whatever is answered
pub turn-is : (view : Viewed) (change : BitChange) (answer : Answer) → IsBitChange view change → IsBitChange view (turn change answer).state
turn-is view change (Word found) is = turn_at-is view change change.phase found is
turn-is view change Done is = is
turn-is view change Lost is = is

-- its verb goes to a place of the pool
pub next-inside : (view : Viewed) (change : BitChange) → IsBitChange view change → IsInPool view.shape (place_of (next change))
next-inside view change is =
    let P : Viewed → Type 0 = λ v. IsInPool v.shape (place_of (next change)) in
    subst P is.held (at change.phase)
  where
    at : (phase : Phase) → IsInPool change.view.shape (place_of (verb_at phase change))
    at Look = written_place-inside change.view (bitmap_of change.object.pointer) change.replica is.is_view (bitmap_of-has change.view.shape change.object is.object) is.replica
    at Change = written_place-inside change.view (bitmap_of change.object.pointer) change.replica is.is_view (bitmap_of-has change.view.shape change.object is.object) is.replica
