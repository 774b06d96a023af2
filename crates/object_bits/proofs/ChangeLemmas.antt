-- A verb of a change: what it makes of the bits, and where the change is then.
use Rattle.std.proofs.Common.{◌≡◌, ◌≢◌, ℕ, ◌+◌, ◌-◌, ◌<◌, nat_lt, Bool, true, false, not, List, length, slice_set, Some, None, refl, sym, ◌∙◌, arith, inl, inr, get_or-set_other, get_or-set_same}
use Rattle.std.proofs.lemmas.Bool.{cases_eq, cond_both, ltb-true, ltb-false}
use Rattle.std.proofs.lemmas.List.{length-set}
use Rattle.object_bits.specs.Bits.{Phase, Blind, Looking, Adding, Left, Change, at_next, bit_at, bits_after, change_after, flipped, is_as_wanted}
use Rattle.object_bits.specs.Claims.{AreAll, IsRightAt}
use Rattle.object_bits.proofs.Soundness.{AreDone, IsLed, IsSettled, IsSoundAt}

pub both_bits : {A : Type 0} (bit : Bool) → bit ≡ true → bit ≡ false → A
both_bits bit is fails = absurd cc

pub both_ways : {A : Type 0} (bit wanted : Bool) → bit ≡ wanted → bit ≡ not wanted → A
both_ways bit true is fails = absurd cc
both_ways bit false is fails = absurd cc

-- a bit that was not as it is wanted is so once it has changed
not_not : (bit wanted : Bool) → bit ≡ not wanted → not bit ≡ wanted
not_not true true is = sym is
not_not false true is = refl
not_not true false is = refl
not_not false false is = sym is

wanted_found : (wanted found : Bool) → is_as_wanted wanted found ≡ true → found ≡ wanted
wanted_found true found is = is
wanted_found false true is = sym is
wanted_found false false is = refl

unwanted_found : (wanted found : Bool) → is_as_wanted wanted found ≡ false → found ≡ not wanted
unwanted_found true found is = is
unwanted_found false true is = refl
unwanted_found false false is = sym is

-- the bits where one is set: what holds of the new one at its place and of the old ones elsewhere
pub at_set : (P : Bool → Type 0) (bits : List Bool) (place other : ℕ) (bit : Bool) → place < length bits
    → (other ≡ place → P bit) → (other ≢ place → P (bit_at bits other)) → P (bit_at (slice_set bits place bit) other)
at_set P bits place other bit within here there =
    elim (cases_eq other place) [
      | inl same ↦ rw (same, get_or-set_same bits place bit false within) (here same)
      | inr apart ↦ rw (get_or-set_other bits place other bit false apart) (there apart)
    ]

-- the primary's bit, where another was set
pub primary-set : (bits : List Bool) (place : ℕ) (bit : Bool) → length bits - 1 ≢ place
    → bit_at (slice_set bits place bit) (length (slice_set bits place bit) - 1) ≡ bit_at bits (length bits - 1)
primary-set bits place bit apart =
    rw (length-set bits place bit) (get_or-set_other bits place (length bits - 1) bit false apart)

-- the replicas up to and with the present one are done, once its bit has changed
done_flipped : (bits : List Bool) (change : Change) → change.done < length bits → AreDone bits change
    → bit_at bits change.done ≡ not change.wanted
    → (place : ℕ) → place < change.done + 1 → bit_at (flipped bits change.done) place ≡ change.wanted
done_flipped bits change within done right place below =
    at_set (λ bit. bit ≡ change.wanted) bits change.done place (not (bit_at bits change.done)) within
    (λ same. not_not (bit_at bits change.done) change.wanted right)
    (λ apart. done place (omega arith))

done_seen : (bits : List Bool) (change : Change) → AreDone bits change → bit_at bits change.done ≡ change.wanted
    → (place : ℕ) → place < change.done + 1 → bit_at bits place ≡ change.wanted
done_seen bits change done is place below =
    elim (cases_eq place change.done) [ inl same ↦ rw same is | inr apart ↦ done place (omega arith) ]

-- the change goes on to the next replica, or is at its end
IsLed-next : (bits : List Bool) (count : ℕ) (change : Change) (phase : Phase) → count ≡ length bits
    → ((place : ℕ) → place < change.done + 1 → bit_at bits place ≡ change.wanted)
    → (change.done + 1 < count → IsSoundAt phase bits (record change { done = change.done + 1; phase = phase }))
    → IsLed change.wanted bits (at_next count change phase)
IsLed-next bits count change phase same done on =
    cond_both (nat_lt (change.done + 1) count) (Some (record change { done = change.done + 1; phase = phase })) None
    (IsLed change.wanted bits)
    (λ less. (refl, on (ltb-true (change.done + 1) count less)))
    (λ last place within. done place (omega (arith, ltb-false (change.done + 1) count last, same)))

pub IsLed-after : (phase : Phase) (bits : List Bool) (change : Change) → IsSoundAt phase bits change
    → IsLed change.wanted (bits_after phase bits change.done)
    (change_after phase (length bits) (record change { phase = phase }) (bit_at bits change.done))
IsLed-after Blind bits change sound =
    let right = sound.2 change.done (omega arith) sound.0 in
    let done = done_flipped bits change sound.0 sound.1 right in
    let same = length-set bits change.done (not (bit_at bits change.done)) in
    IsLed-next (flipped bits change.done) (length bits) (record change { phase = Blind }) Blind (sym same) done
    (λ less. (
      omega (arith, same),
      done,
      λ place from within.
          at_set (λ bit. bit ≡ not change.wanted) bits change.done place (not (bit_at bits change.done)) sound.0
          (λ here. absurd (omega arith))
          (λ apart. sound.2 place (omega arith) (omega (arith, same))),
    ))
IsLed-after Looking bits change sound =
    let looking : Change = record change { phase = Looking } in
    cond_both (is_as_wanted change.wanted (bit_at bits change.done)) (at_next (length bits) looking Looking)
    (Some (record change { phase = Adding })) (IsLed change.wanted bits)
    (λ is.
    let done = done_seen bits change sound.1 (wanted_found change.wanted (bit_at bits change.done) is) in
    IsLed-next bits (length bits) looking Looking refl done (λ less. (less, done)))
    (λ fails. (refl, (sound.0, sound.1, unwanted_found change.wanted (bit_at bits change.done) fails)))
IsLed-after Adding bits change sound =
    let done = done_flipped bits change sound.0 sound.1 sound.2 in
    let same = length-set bits change.done (not (bit_at bits change.done)) in
    IsLed-next (flipped bits change.done) (length bits) (record change { phase = Adding }) Looking (sym same) done
    (λ less. (omega (arith, same), done))
IsLed-after Left bits change sound = (refl, tt)

pub IsRightAt-sound : (phase : Phase) (bits : List Bool) (change : Change) → IsSoundAt phase bits change
    → IsRightAt phase bits change
IsRightAt-sound Blind bits change sound = sound.2 change.done (omega arith) sound.0
IsRightAt-sound Looking bits change sound = tt
IsRightAt-sound Adding bits change sound = sound.2
IsRightAt-sound Left bits change sound = tt

-- where every replica is as it is wanted, nothing changes
AreAll-flipped : {A : Type 0} (bits : List Bool) (change : Change) → change.done < length bits
    → bit_at bits change.done ≡ not change.wanted → AreAll change.wanted bits → A
AreAll-flipped bits change within right all = both_ways (bit_at bits change.done) change.wanted (all change.done within) right

pub AreAll-after : (phase : Phase) (bits : List Bool) (change : Change) → IsSoundAt phase bits change
    → AreAll change.wanted bits → AreAll change.wanted (bits_after phase bits change.done)
AreAll-after Blind bits change sound all =
    AreAll-flipped bits change sound.0 (IsRightAt-sound Blind bits change sound) all
AreAll-after Looking bits change sound all = all
AreAll-after Adding bits change sound all = AreAll-flipped bits change sound.0 sound.2 all
AreAll-after Left bits change sound all = all

-- the primary is the last: once it has changed, every replica is as it is wanted
IsSettled-flipped : (bits : List Bool) (change : Change) → change.done < length bits → AreDone bits change
    → bit_at bits change.done ≡ not change.wanted → IsSettled change.wanted bits
    → IsSettled change.wanted (flipped bits change.done)
IsSettled-flipped bits change within done right settled =
    elim (cases_eq (length bits - 1) change.done) [
      | inl last ↦
          inr (λ place inside.
          done_flipped bits change within done right place
          (omega (arith, length-set bits change.done (not (bit_at bits change.done)))))
      | inr apart ↦
          elim settled [
            | inl unchanged ↦ inl (primary-set bits change.done (not (bit_at bits change.done)) apart ∙ unchanged)
            | inr all ↦ AreAll-flipped bits change within right all
          ]
    ]

pub IsSettled-after : (phase : Phase) (bits : List Bool) (change : Change) → IsSoundAt phase bits change
    → IsSettled change.wanted bits → IsSettled change.wanted (bits_after phase bits change.done)
IsSettled-after Blind bits change sound settled =
    IsSettled-flipped bits change sound.0 sound.1 (IsRightAt-sound Blind bits change sound) settled
IsSettled-after Looking bits change sound settled = settled
IsSettled-after Adding bits change sound settled = IsSettled-flipped bits change sound.0 sound.1 sound.2 settled
IsSettled-after Left bits change sound settled = settled

-- there are as many replicas as before
pub length-after : (phase : Phase) (bits : List Bool) (place : ℕ) → length (bits_after phase bits place) ≡ length bits
length-after Blind bits place = length-set bits place (not (bit_at bits place))
length-after Looking bits place = refl
length-after Adding bits place = length-set bits place (not (bit_at bits place))
length-after Left bits place = refl
