-- What holds of a change of a bit when it begins, and where its verbs go.
use Rattle.std.proofs.Common.{◌≡◌, ℕ, ◌<◌, Bool, true, List, length, map, sym, ap, subst, arith}
use Rattle.std.proofs.lemmas.List.{length-map}
use Rattle.machine.specs.BitChange.{BitChange, IsBitChange, bit_change_of, bitmap_place, first_phase}
use Rattle.machine.specs.ObjectNames.{bitmap_of, names_object}
use Rattle.machine.specs.Places.{IsInPool, homes_of, pair_of}
use Rattle.machine.proofs.BitChangeLemmas.{bit_change_of-is}
use Rattle.machine.proofs.ObjectNamesLemmas.{bitmap_of-has, names_object-says}
use Rattle.machine.proofs.PlacesLemmas.{written_place-inside}
use Rattle.machine.proofs.ViewLemmas.{IsView-of}
use Rattle.object_alloc.specs.Bits.{IsHeld, change_of, phase_of}
use Rattle.object_alloc.specs.declared.bits.Phase.{Phase}
use Rattle.object_form.specs.declared.classes.TheConstants.{CLASSES}
use Rattle.region_view.specs.Placed.{LeavesNoneBare, Viewed}
use Rattle.region_view.specs.Sizes.{IsWithinLimits}
use Rattle.verb_words.specs.declared.verbs.Place.{Place}

pub begun-held : (view : Viewed) (pointer class : ℕ) (set look : Bool) (phase : Phase) → IsWithinLimits view.shape → LeavesNoneBare view.shape view.mask → class < CLASSES → names_object view.shape class pointer ≡ true
    → phase_of phase ≡ first_phase look → (places : List (ℕ × ℕ)) → places ≡ map (pair_of view.shape) (homes_of view (bitmap_of pointer))
    → IsHeld (change_of view pointer class set look 0 phase) places
begun-held view pointer class set look phase limits full below named is places are =
    let says = names_object-says view.shape class pointer named in
    let begun = bit_change_of-is view (record { pointer = pointer; class = class }) set look (IsView-of view limits full) (record { class = below; named = named }) in
    record {
      state = subst (λ p. IsBitChange view (record (bit_change_of view (record { pointer = pointer; class = class }) set look) { phase = p })) (sym is) begun;
      below = says.below;
      region = says.region;
      first = says.first;
      block = omega (arith, says.first, says.last);
      homes = are;
    }

-- a change under way has a replica left
pub held-left : (change : BitChange) (places : List (ℕ × ℕ)) → IsHeld change places → change.replica < length places
held-left change places held =
    let homes = homes_of change.view (bitmap_of change.object.pointer) in
    omega (arith, held.state.replica, ap length held.homes, length-map homes (pair_of change.view.shape))

-- the place of a change under way is one of the pool
pub held_place-inside : (change now : BitChange) (places : List (ℕ × ℕ)) (place : Place) → IsHeld change places → change ≡ now → place ≡ bitmap_place now → IsInPool now.view.shape place
held_place-inside change now places place held same is =
    let state : IsBitChange now.view now = subst (λ (c : BitChange). IsBitChange c.view c) same held.state in
    subst (IsInPool now.view.shape) (sym is)
    (written_place-inside now.view (bitmap_of now.object.pointer) now.replica state.is_view (bitmap_of-has now.view.shape now.object state.object) state.replica)
