-- An object's bits stay sound at each event.
use Rattle.std.proofs.Common.{◌≡◌, ℕ, ◌+◌, ◌-◌, ◌<◌, Bool, true, false, List, length, replicate, slice_set, Option, Some, None, refl, sym, ◌∙◌, subst, arith, inl, inr}
use Rattle.std.proofs.lemmas.List.{get_or-replicate, length-replicate, length-set}
use Rattle.object_bits.specs.Allowed.{IsHeld, IsLeft, MayHappen}
use Rattle.object_bits.specs.Bits.{Blind, Looking, Left, Change, begun, bit_at, bits_after, first_phase}
use Rattle.object_bits.specs.Claims.{AreAll}
use Rattle.object_bits.specs.Run.{Event, Clear, Name, Set, Step, Leave, Resume, Undo, Copy, Install, Standing, Free, Clearing, Taken, Named, Setting, Undoing, State, after_verb, broken_off, clearing, happens, named_by, opening, resumed, set_by, setting, stepped, undoing, undone}
use Rattle.object_bits.proofs.Soundness.{IsLed, IsSettled, IsSound, IsSoundAt, IsSoundChange, IsSoundStanding}
use Rattle.object_bits.proofs.ChangeLemmas.{IsLed-after, IsSettled-after, at_set, length-after, primary-set}

pub AreAll-replicate : (replicas : ℕ) (bit : Bool) → AreAll bit (replicate replicas bit)
AreAll-replicate replicas bit place within =
    get_or-replicate replicas place bit false (omega (arith, length-replicate replicas bit))

pub IsSound-opening : (replicas : ℕ) → 0 < replicas → IsSound (opening replicas)
IsSound-opening replicas some =
    record { some = omega (arith, length-replicate replicas true); standing = AreAll-replicate replicas true }

-- ---- somebody begins

nothing_done : (bits : List Bool) (change : Change) → change.done ≡ 0 → (place : ℕ) → place < change.done
    → bit_at bits place ≡ change.wanted
nothing_done bits change none place below = absurd (omega arith)

IsSoundStanding-cleared : (bits : List Bool) (client : ℕ) → 0 < length bits → AreAll true bits
    → IsSoundStanding bits (Clearing client (begun false Blind))
IsSoundStanding-cleared bits client some all = (
  refl,
  (some, nothing_done bits (begun false Blind) refl, λ place from within. all place within),
  inl (all (length bits - 1) (omega arith)),
)

IsSoundStanding-named : (bits : List Bool) (namer : ℕ) (standing : Standing) → IsSoundStanding bits standing
    → IsSoundStanding bits (named_by namer standing)
IsSoundStanding-named bits namer Free sound = sound
IsSoundStanding-named bits namer (Clearing client change) sound = sound
IsSoundStanding-named bits namer (Taken client) sound = sound
IsSoundStanding-named bits namer (Named client other) sound = sound
IsSoundStanding-named bits namer (Setting client other change) sound = sound
IsSoundStanding-named bits namer (Undoing client change) sound = sound

IsSoundAt-setting : (bits : List Bool) (look : Bool) → 0 < length bits → AreAll false bits
    → IsSoundAt (first_phase look) bits (begun true (first_phase look))
IsSoundAt-setting bits true some all = (some, nothing_done bits (begun true Looking) refl)
IsSoundAt-setting bits false some all =
    (some, nothing_done bits (begun true Blind) refl, λ place from within. all place within)

IsSoundStanding-set : (bits : List Bool) (look : Bool) (standing : Standing) → 0 < length bits
    → IsSoundStanding bits standing → IsSoundStanding bits (set_by look standing)
IsSoundStanding-set bits look Free some sound = sound
IsSoundStanding-set bits look (Clearing client change) some sound = sound
IsSoundStanding-set bits look (Taken client) some sound = sound
IsSoundStanding-set bits look (Named client namer) some sound =
    (refl, IsSoundAt-setting bits look some sound, inl (sound (length bits - 1) (omega arith)))
IsSoundStanding-set bits look (Setting client namer change) some sound = sound
IsSoundStanding-set bits look (Undoing client change) some sound = sound

-- ---- a change is broken off, and begins anew

IsSoundStanding-broken_off : (bits : List Bool) (standing : Standing) → IsSoundStanding bits standing
    → IsSoundStanding bits (broken_off standing)
IsSoundStanding-broken_off bits Free sound = sound
IsSoundStanding-broken_off bits (Clearing client change) sound = (sound.0, tt, sound.2)
IsSoundStanding-broken_off bits (Taken client) sound = sound
IsSoundStanding-broken_off bits (Named client namer) sound = sound
IsSoundStanding-broken_off bits (Setting client namer change) sound = (sound.0, tt, sound.2)
IsSoundStanding-broken_off bits (Undoing client change) sound = (sound.0, tt)

IsSoundStanding-resumed : (bits : List Bool) (standing : Standing) → 0 < length bits → IsSoundStanding bits standing
    → IsSoundStanding bits (resumed standing)
IsSoundStanding-resumed bits Free some sound = sound
IsSoundStanding-resumed bits (Clearing client change) some sound =
    (sound.0, (some, nothing_done bits (begun change.wanted Looking) refl), sound.2)
IsSoundStanding-resumed bits (Taken client) some sound = sound
IsSoundStanding-resumed bits (Named client namer) some sound = sound
IsSoundStanding-resumed bits (Setting client namer change) some sound =
    (sound.0, (some, nothing_done bits (begun change.wanted Looking) refl), sound.2)
IsSoundStanding-resumed bits (Undoing client change) some sound =
    (sound.0, (some, nothing_done bits (begun change.wanted Looking) refl))

IsSoundStanding-undone : (bits : List Bool) (standing : Standing) → 0 < length bits → IsSoundStanding bits standing
    → IsSoundStanding bits (undone standing)
IsSoundStanding-undone bits Free some sound = sound
IsSoundStanding-undone bits (Clearing client change) some sound = (refl, (some, nothing_done bits (begun true Looking) refl))
IsSoundStanding-undone bits (Taken client) some sound = sound
IsSoundStanding-undone bits (Named client namer) some sound = sound
IsSoundStanding-undone bits (Setting client namer change) some sound = sound
IsSoundStanding-undone bits (Undoing client change) some sound = sound

-- ---- a verb

IsSoundStanding-clearing : (bits : List Bool) (client : ℕ) (led : Option Change) → IsLed false bits led
    → IsSettled false bits → IsSoundStanding bits (clearing client led)
IsSoundStanding-clearing bits client None sound settled = sound
IsSoundStanding-clearing bits client (Some change) sound settled = (sound.0, sound.1, settled)

IsSoundStanding-setting : (bits : List Bool) (client namer : ℕ) (led : Option Change) → IsLed true bits led
    → IsSettled true bits → IsSoundStanding bits (setting client namer led)
IsSoundStanding-setting bits client namer None sound settled = sound
IsSoundStanding-setting bits client namer (Some change) sound settled = (sound.0, sound.1, settled)

IsSoundStanding-undoing : (bits : List Bool) (client : ℕ) (led : Option Change) → IsLed true bits led
    → IsSoundStanding bits (undoing client led)
IsSoundStanding-undoing bits client None sound = sound
IsSoundStanding-undoing bits client (Some change) sound = (sound.0, sound.1)

-- where a verb of a sound change, which wants this bit, has led to
led_to : (state : State) (change : Change) (wanted : Bool) → change.wanted ≡ wanted → IsSoundChange state.bits change
    → IsLed wanted (bits_after change.phase state.bits change.done) (after_verb state change)
led_to state change wanted is sound =
    subst (λ w. IsLed w (bits_after change.phase state.bits change.done) (after_verb state change)) is
    (IsLed-after change.phase state.bits change sound)

pub settled_to : (state : State) (change : Change) (wanted : Bool) → change.wanted ≡ wanted
    → IsSoundChange state.bits change → IsSettled wanted state.bits
    → IsSettled wanted (bits_after change.phase state.bits change.done)
settled_to state change wanted is sound settled =
    subst (λ w. IsSettled w (bits_after change.phase state.bits change.done)) is
    (IsSettled-after change.phase state.bits change sound (subst (λ w. IsSettled w state.bits) (sym is) settled))

IsSound-stepped : (state : State) (standing : Standing) → IsSound state → IsSoundStanding state.bits standing
    → IsSound (stepped state standing)
IsSound-stepped state Free sound is = sound
IsSound-stepped state (Clearing client change) sound is =
    record {
      some = omega (arith, length-after change.phase state.bits change.done, sound.some);
      standing =
          IsSoundStanding-clearing (bits_after change.phase state.bits change.done) client (after_verb state change)
          (led_to state change false is.0 is.1) (settled_to state change false is.0 is.1 is.2);
    }
IsSound-stepped state (Taken client) sound is = sound
IsSound-stepped state (Named client namer) sound is = sound
IsSound-stepped state (Setting client namer change) sound is =
    record {
      some = omega (arith, length-after change.phase state.bits change.done, sound.some);
      standing =
          IsSoundStanding-setting (bits_after change.phase state.bits change.done) client namer (after_verb state change)
          (led_to state change true is.0 is.1) (settled_to state change true is.0 is.1 is.2);
    }
IsSound-stepped state (Undoing client change) sound is =
    record {
      some = omega (arith, length-after change.phase state.bits change.done, sound.some);
      standing =
          IsSoundStanding-undoing (bits_after change.phase state.bits change.done) client (after_verb state change)
          (led_to state change true is.0 is.1);
    }

-- ---- bits are copied and installed

-- what some replica has is what all have
pub held_is : (bits : List Bool) (bit all_have : Bool) → IsHeld bits bit → AreAll all_have bits → bit ≡ all_have
held_is bits bit all_have held all = sym held.2 ∙ all held.0 held.1

AreAll-copied : (bits : List Bool) (place : ℕ) (bit all_have : Bool) → place < length bits → IsHeld bits bit
    → AreAll all_have bits → AreAll all_have (slice_set bits place bit)
AreAll-copied bits place bit all_have within held all other inside =
    at_set (λ b. b ≡ all_have) bits place other bit within
    (λ same. held_is bits bit all_have held all)
    (λ apart. all other (omega (arith, length-set bits place bit)))

IsSettled-copied : (bits : List Bool) (place : ℕ) (bit wanted : Bool) → place + 1 < length bits → IsHeld bits bit
    → IsSettled wanted bits → IsSettled wanted (slice_set bits place bit)
IsSettled-copied bits place bit wanted backup held (inl unchanged) =
    inl (primary-set bits place bit (λ last. omega (arith, last, backup)) ∙ unchanged)
IsSettled-copied bits place bit wanted backup held (inr all) =
    inr (AreAll-copied bits place bit wanted (omega arith) held all)

left_is_sound : (bits : List Bool) (change : Change) → change.phase ≡ Left → IsSoundChange bits change
left_is_sound bits change is = subst (λ phase. IsSoundAt phase bits change) (sym is) tt

IsSoundStanding-copied : (bits : List Bool) (place : ℕ) (bit : Bool) (standing : Standing) → place + 1 < length bits
    → IsHeld bits bit → IsLeft standing → IsSoundStanding bits standing
    → IsSoundStanding (slice_set bits place bit) standing
IsSoundStanding-copied bits place bit Free backup held is_left sound =
    AreAll-copied bits place bit true (omega arith) held sound
IsSoundStanding-copied bits place bit (Clearing client change) backup held is_left sound =
    (sound.0, left_is_sound (slice_set bits place bit) change is_left, IsSettled-copied bits place bit false backup held sound.2)
IsSoundStanding-copied bits place bit (Taken client) backup held is_left sound =
    AreAll-copied bits place bit false (omega arith) held sound
IsSoundStanding-copied bits place bit (Named client namer) backup held is_left sound =
    AreAll-copied bits place bit false (omega arith) held sound
IsSoundStanding-copied bits place bit (Setting client namer change) backup held is_left sound =
    (sound.0, left_is_sound (slice_set bits place bit) change is_left, IsSettled-copied bits place bit true backup held sound.2)
IsSoundStanding-copied bits place bit (Undoing client change) backup held is_left sound =
    (sound.0, left_is_sound (slice_set bits place bit) change is_left)

AreAll-installed : (replicas : ℕ) (bit all_have : Bool) → bit ≡ all_have → AreAll all_have (replicate replicas bit)
AreAll-installed replicas bit all_have is =
    subst (λ b. AreAll b (replicate replicas bit)) is (AreAll-replicate replicas bit)

primary-replicate : (replicas : ℕ) (bit : Bool) → 0 < replicas
    → bit_at (replicate replicas bit) (length (replicate replicas bit) - 1) ≡ bit
primary-replicate replicas bit some =
    AreAll-replicate replicas bit (length (replicate replicas bit) - 1) (omega (arith, length-replicate replicas bit))

IsSettled-installed : (replicas : ℕ) (bit wanted : Bool) → 0 < replicas → IsSettled wanted (replicate replicas bit)
IsSettled-installed replicas true true some = inr (AreAll-replicate replicas true)
IsSettled-installed replicas false false some = inr (AreAll-replicate replicas false)
IsSettled-installed replicas true false some = inl (primary-replicate replicas true some)
IsSettled-installed replicas false true some = inl (primary-replicate replicas false some)

IsSoundStanding-installed : (bits : List Bool) (replicas : ℕ) (bit : Bool) (standing : Standing) → 0 < replicas
    → IsHeld bits bit → IsLeft standing → IsSoundStanding bits standing
    → IsSoundStanding (replicate replicas bit) standing
IsSoundStanding-installed bits replicas bit Free some held is_left sound =
    AreAll-installed replicas bit true (held_is bits bit true held sound)
IsSoundStanding-installed bits replicas bit (Clearing client change) some held is_left sound =
    (sound.0, left_is_sound (replicate replicas bit) change is_left, IsSettled-installed replicas bit false some)
IsSoundStanding-installed bits replicas bit (Taken client) some held is_left sound =
    AreAll-installed replicas bit false (held_is bits bit false held sound)
IsSoundStanding-installed bits replicas bit (Named client namer) some held is_left sound =
    AreAll-installed replicas bit false (held_is bits bit false held sound)
IsSoundStanding-installed bits replicas bit (Setting client namer change) some held is_left sound =
    (sound.0, left_is_sound (replicate replicas bit) change is_left, IsSettled-installed replicas bit true some)
IsSoundStanding-installed bits replicas bit (Undoing client change) some held is_left sound =
    (sound.0, left_is_sound (replicate replicas bit) change is_left)

-- ---- any event

pub IsSound-happens : (state : State) (event : Event) → MayHappen state event → IsSound state → IsSound (happens state event)
IsSound-happens state (Clear client) may sound =
    record {
      some = sound.some;
      standing =
          IsSoundStanding-cleared state.bits client sound.some (subst (λ s. IsSoundStanding state.bits s) may sound.standing);
    }
IsSound-happens state (Name namer) may sound =
    record { some = sound.some; standing = IsSoundStanding-named state.bits namer state.standing sound.standing }
IsSound-happens state (Set look) may sound =
    record { some = sound.some; standing = IsSoundStanding-set state.bits look state.standing sound.some sound.standing }
IsSound-happens state Step may sound = IsSound-stepped state state.standing sound sound.standing
IsSound-happens state Leave may sound =
    record { some = sound.some; standing = IsSoundStanding-broken_off state.bits state.standing sound.standing }
IsSound-happens state Resume may sound =
    record { some = sound.some; standing = IsSoundStanding-resumed state.bits state.standing sound.some sound.standing }
IsSound-happens state Undo may sound =
    record { some = sound.some; standing = IsSoundStanding-undone state.bits state.standing sound.some sound.standing }
IsSound-happens state (Copy place bit) may sound =
    record {
      some = omega (arith, length-set state.bits place bit, sound.some);
      standing = IsSoundStanding-copied state.bits place bit state.standing may.0 may.1 may.2 sound.standing;
    }
IsSound-happens state (Install replicas bit) may sound =
    record {
      some = omega (arith, length-replicate replicas bit, may.0);
      standing = IsSoundStanding-installed state.bits replicas bit state.standing may.0 may.1 may.2 sound.standing;
    }
