-- The theorem on an object's bits.
use Rattle.std.proofs.Common.{◌≡◌, ℕ, ◌-◌, ◌<◌, Bool, true, false, List, [], ◌∷◌, length, replicate, refl, sym, ◌∙◌, subst, arith, inl, inr}
use Rattle.std.proofs.lemmas.List.{length-replicate}
use Rattle.object_bits.specs.Allowed.{IsAllowed, IsHeld, MayHappen}
use Rattle.object_bits.specs.Bits.{Change, bit_at, bits_after}
use Rattle.object_bits.specs.Claims.{AreAll, Holds, HoldsAlong, IsGivenBack, IsRight, IsTakenFor, IsWhole}
use Rattle.object_bits.specs.Run.{Event, Clear, Name, Set, Step, Leave, Resume, Undo, Copy, Install, Standing, Free, Clearing, Taken, Named, Setting, Undoing, State, happens, is_in_stock, opening, stepped}
use Rattle.object_bits.proofs.Soundness.{IsSound, IsSoundChange, IsSoundStanding}
use Rattle.object_bits.proofs.ChangeLemmas.{AreAll-after, IsRightAt-sound, both_bits, length-after, primary-set}
use Rattle.object_bits.proofs.EventLemmas.{AreAll-replicate, IsSound-happens, IsSound-opening, held_is}

IsWhole-sound : (bits : List Bool) (standing : Standing) → IsSoundStanding bits standing → IsWhole bits standing
IsWhole-sound bits Free sound = sound
IsWhole-sound bits (Clearing client change) sound = tt
IsWhole-sound bits (Taken client) sound = sound
IsWhole-sound bits (Named client namer) sound = sound
IsWhole-sound bits (Setting client namer change) sound = tt
IsWhole-sound bits (Undoing client change) sound = tt

IsRight-sound : (bits : List Bool) (standing : Standing) → IsSoundStanding bits standing → IsRight bits standing
IsRight-sound bits Free sound = tt
IsRight-sound bits (Clearing client change) sound = IsRightAt-sound change.phase bits change sound.1
IsRight-sound bits (Taken client) sound = tt
IsRight-sound bits (Named client namer) sound = tt
IsRight-sound bits (Setting client namer change) sound = IsRightAt-sound change.phase bits change sound.1
IsRight-sound bits (Undoing client change) sound = IsRightAt-sound change.phase bits change sound.1

-- ---- what the primary's bit tells

primary_of : (bits : List Bool) (bit : Bool) → 0 < length bits → AreAll bit bits → bit_at bits (length bits - 1) ≡ bit
primary_of bits bit some all = all (length bits - 1) (omega arith)

-- where the primary is set and another replica is clear, the object is being taken, or its taking is given up
mixed_for : (bits : List Bool) (standing : Standing) → 0 < length bits → IsSoundStanding bits standing
    → bit_at bits (length bits - 1) ≡ true → (place : ℕ) → place < length bits → bit_at bits place ≡ false
    → (client : ℕ) × IsTakenFor client standing
mixed_for bits Free some sound set place within clear = both_bits (bit_at bits place) (sound place within) clear
mixed_for bits (Clearing client change) some sound set place within clear = (client, inl (change, refl))
mixed_for bits (Taken client) some sound set place within clear =
    both_bits (bit_at bits (length bits - 1)) set (primary_of bits false some sound)
mixed_for bits (Named client namer) some sound set place within clear =
    both_bits (bit_at bits (length bits - 1)) set (primary_of bits false some sound)
mixed_for bits (Setting client namer change) some sound set place within clear =
    elim (sound.2) [
      | inl unset ↦ both_bits (bit_at bits (length bits - 1)) set unset
      | inr all ↦ both_bits (bit_at bits place) (all place within) clear
    ]
mixed_for bits (Undoing client change) some sound set place within clear = (client, inr (change, refl))

-- where every replica is as a sound change wants it, the primary stays so
stays_all : {A : Type 0} (bits : List Bool) (change : Change) (wanted : Bool) → 0 < length bits → change.wanted ≡ wanted
    → IsSoundChange bits change → AreAll wanted bits
    → (bit_at (bits_after change.phase bits change.done) (length (bits_after change.phase bits change.done) - 1) ≡ wanted → A) → A
stays_all bits change wanted some is sound all with_it =
    let kept = subst (λ w. AreAll w (bits_after change.phase bits change.done)) is
    (AreAll-after change.phase bits change sound (subst (λ w. AreAll w bits) (sym is) all)) in
    with_it
    (primary_of (bits_after change.phase bits change.done) wanted (omega (arith, length-after change.phase bits change.done)) kept)

taken_stepped : (state : State) (standing : Standing) → 0 < length state.bits → IsSoundStanding state.bits standing
    → is_in_stock state ≡ true → is_in_stock (stepped state standing) ≡ false → (client : ℕ) × IsTakenFor client standing
taken_stepped state Free some sound set clear = both_bits (is_in_stock state) set clear
taken_stepped state (Clearing client change) some sound set clear = (client, inl (change, refl))
taken_stepped state (Taken client) some sound set clear = both_bits (is_in_stock state) set clear
taken_stepped state (Named client namer) some sound set clear = both_bits (is_in_stock state) set clear
taken_stepped state (Setting client namer change) some sound set clear =
    elim (sound.2) [
      | inl unset ↦ both_bits (is_in_stock state) set unset
      | inr all ↦
          stays_all state.bits change true some sound.0 sound.1 all
          (λ still. both_bits (is_in_stock (stepped state (Setting client namer change))) still clear)
    ]
taken_stepped state (Undoing client change) some sound set clear = (client, inr (change, refl))

given_back_stepped : (state : State) (standing : Standing) → 0 < length state.bits → IsSoundStanding state.bits standing
    → is_in_stock state ≡ false → is_in_stock (stepped state standing) ≡ true → IsGivenBack standing
given_back_stepped state Free some sound clear set = both_bits (is_in_stock state) set clear
given_back_stepped state (Clearing client change) some sound clear set =
    elim (sound.2) [
      | inl unset ↦ both_bits (is_in_stock state) unset clear
      | inr all ↦
          stays_all state.bits change false some sound.0 sound.1 all
          (λ still. both_bits (is_in_stock (stepped state (Clearing client change))) set still)
    ]
given_back_stepped state (Taken client) some sound clear set = both_bits (is_in_stock state) set clear
given_back_stepped state (Named client namer) some sound clear set = both_bits (is_in_stock state) set clear
given_back_stepped state (Setting client namer change) some sound clear set = inl (client, namer, change, refl)
given_back_stepped state (Undoing client change) some sound clear set = inr (client, change, refl)

-- ---- the primary's bit where one is installed

-- where every replica had this bit, it is installed
installed_all : (bits : List Bool) (replicas : ℕ) (bit all_have : Bool) → 0 < replicas → IsHeld bits bit → AreAll all_have bits
    → bit_at (replicate replicas bit) (length (replicate replicas bit) - 1) ≡ all_have
installed_all bits replicas bit all_have some held all =
    AreAll-replicate replicas bit (length (replicate replicas bit) - 1) (omega (arith, length-replicate replicas bit))
    ∙ held_is bits bit all_have held all

taken_installed : (bits : List Bool) (standing : Standing) (replicas : ℕ) (bit : Bool) → 0 < length bits → 0 < replicas
    → IsHeld bits bit → IsSoundStanding bits standing → bit_at bits (length bits - 1) ≡ true
    → bit_at (replicate replicas bit) (length (replicate replicas bit) - 1) ≡ false → (client : ℕ) × IsTakenFor client standing
taken_installed bits Free replicas bit some more held sound set clear =
    both_bits (bit_at (replicate replicas bit) (length (replicate replicas bit) - 1))
    (installed_all bits replicas bit true more held sound) clear
taken_installed bits (Clearing client change) replicas bit some more held sound set clear = (client, inl (change, refl))
taken_installed bits (Taken client) replicas bit some more held sound set clear =
    both_bits (bit_at bits (length bits - 1)) set (primary_of bits false some sound)
taken_installed bits (Named client namer) replicas bit some more held sound set clear =
    both_bits (bit_at bits (length bits - 1)) set (primary_of bits false some sound)
taken_installed bits (Setting client namer change) replicas bit some more held sound set clear =
    elim (sound.2) [
      | inl unset ↦ both_bits (bit_at bits (length bits - 1)) set unset
      | inr all ↦
          both_bits (bit_at (replicate replicas bit) (length (replicate replicas bit) - 1))
          (installed_all bits replicas bit true more held all) clear
    ]
taken_installed bits (Undoing client change) replicas bit some more held sound set clear = (client, inr (change, refl))

given_back_installed : (bits : List Bool) (standing : Standing) (replicas : ℕ) (bit : Bool) → 0 < length bits → 0 < replicas
    → IsHeld bits bit → IsSoundStanding bits standing → bit_at bits (length bits - 1) ≡ false
    → bit_at (replicate replicas bit) (length (replicate replicas bit) - 1) ≡ true → IsGivenBack standing
given_back_installed bits Free replicas bit some more held sound clear set =
    both_bits (bit_at bits (length bits - 1)) (primary_of bits true some sound) clear
given_back_installed bits (Clearing client change) replicas bit some more held sound clear set =
    elim (sound.2) [
      | inl unset ↦ both_bits (bit_at bits (length bits - 1)) unset clear
      | inr all ↦
          both_bits (bit_at (replicate replicas bit) (length (replicate replicas bit) - 1)) set
          (installed_all bits replicas bit false more held all)
    ]
given_back_installed bits (Taken client) replicas bit some more held sound clear set =
    both_bits (bit_at (replicate replicas bit) (length (replicate replicas bit) - 1)) set
    (installed_all bits replicas bit false more held sound)
given_back_installed bits (Named client namer) replicas bit some more held sound clear set =
    both_bits (bit_at (replicate replicas bit) (length (replicate replicas bit) - 1)) set
    (installed_all bits replicas bit false more held sound)
given_back_installed bits (Setting client namer change) replicas bit some more held sound clear set =
    inl (client, namer, change, refl)
given_back_installed bits (Undoing client change) replicas bit some more held sound clear set = inr (client, change, refl)

-- ---- any event

copied_primary : (state : State) (place : ℕ) (bit : Bool) → MayHappen state (Copy place bit)
    → is_in_stock (happens state (Copy place bit)) ≡ is_in_stock state
copied_primary state place bit may = primary-set state.bits place bit (λ last. omega (arith, last, may.0))

taken_for : (state : State) (event : Event) → MayHappen state event → IsSound state → is_in_stock state ≡ true
    → is_in_stock (happens state event) ≡ false → (client : ℕ) × IsTakenFor client state.standing
taken_for state (Clear client) may sound set clear = both_bits (is_in_stock state) set clear
taken_for state (Name namer) may sound set clear = both_bits (is_in_stock state) set clear
taken_for state (Set look) may sound set clear = both_bits (is_in_stock state) set clear
taken_for state Step may sound set clear = taken_stepped state state.standing sound.some sound.standing set clear
taken_for state Leave may sound set clear = both_bits (is_in_stock state) set clear
taken_for state Resume may sound set clear = both_bits (is_in_stock state) set clear
taken_for state Undo may sound set clear = both_bits (is_in_stock state) set clear
taken_for state (Copy place bit) may sound set clear =
    both_bits (is_in_stock state) set (sym (copied_primary state place bit may) ∙ clear)
taken_for state (Install replicas bit) may sound set clear =
    taken_installed state.bits state.standing replicas bit sound.some may.0 may.1 sound.standing set clear

given_back_for : (state : State) (event : Event) → MayHappen state event → IsSound state → is_in_stock state ≡ false
    → is_in_stock (happens state event) ≡ true → IsGivenBack state.standing
given_back_for state (Clear client) may sound clear set = both_bits (is_in_stock state) set clear
given_back_for state (Name namer) may sound clear set = both_bits (is_in_stock state) set clear
given_back_for state (Set look) may sound clear set = both_bits (is_in_stock state) set clear
given_back_for state Step may sound clear set = given_back_stepped state state.standing sound.some sound.standing clear set
given_back_for state Leave may sound clear set = both_bits (is_in_stock state) set clear
given_back_for state Resume may sound clear set = both_bits (is_in_stock state) set clear
given_back_for state Undo may sound clear set = both_bits (is_in_stock state) set clear
given_back_for state (Copy place bit) may sound clear set =
    both_bits (is_in_stock state) (sym (copied_primary state place bit may) ∙ set) clear
given_back_for state (Install replicas bit) may sound clear set =
    given_back_installed state.bits state.standing replicas bit sound.some may.0 may.1 sound.standing clear set

pub holds : (state : State) (event : Event) → MayHappen state event → IsSound state → Holds state event
holds state event may sound =
    let after = IsSound-happens state event may sound in
    record {
      whole = IsWhole-sound (happens state event).bits (happens state event).standing after.standing;
      right = λ is. IsRight-sound state.bits state.standing sound.standing;
      taken = taken_for state event may sound;
      given_back = given_back_for state event may sound;
      mixed = mixed_for (happens state event).bits (happens state event).standing after.some after.standing;
    }

pub HoldsAlong-sound : (state : State) (events : List Event) → IsSound state → IsAllowed state events → HoldsAlong state events
HoldsAlong-sound state [] sound allowed = tt
HoldsAlong-sound state (event ∷ events) sound allowed = (
  holds state event allowed.0 sound,
  HoldsAlong-sound (happens state event) events (IsSound-happens state event allowed.0 sound) allowed.1,
)

pub HoldsAlong-opening : (replicas : ℕ) (events : List Event) → 0 < replicas → IsAllowed (opening replicas) events
    → HoldsAlong (opening replicas) events
HoldsAlong-opening replicas events some allowed =
    HoldsAlong-sound (opening replicas) events (IsSound-opening replicas some) allowed
