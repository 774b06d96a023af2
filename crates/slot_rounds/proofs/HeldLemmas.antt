-- What a swap of a backup can find: the deciding word, or the fresh word of a write of this round.
use Rattle.std.proofs.Common.{◌≡◌, ◌≢◌, ℕ, ◌<◌, ◌⊎◌, length, slice_index, sym, ◌∙◌, subst, arith, inl, inr}
use Rattle.std.proofs.lemmas.Bool.{cases_eq}
use Rattle.snapshot_rules.specs.Winner.{winner}
use Rattle.snapshot_rules.proofs.WinnerLemmas.{Contains-winner}
use Rattle.slot_rounds.specs.Write.{Write, Writing}
use Rattle.slot_rounds.specs.Run.{State}
use Rattle.slot_rounds.specs.Allowed.{IsHeld}
use Rattle.slot_rounds.proofs.ListLemmas.{place_of_Contains}
use Rattle.slot_rounds.proofs.Soundness.{IsSound, IsOfWrite}
use Rattle.slot_rounds.proofs.MovedLemmas.{same_write}

-- a word is the deciding one, or that of a write of this round
abbrev pub IsKnown : State → ℕ → Type 0
IsKnown state word = (word ≡ state.slot.primary) ⊎ IsOfWrite state.slot.primary state.writers word

IsKnown-first : (state : State) → IsSound state → (place : ℕ) → place < length state.slot.firsts
    → IsKnown state (slice_index state.slot.firsts place)
IsKnown-first state sound place within =
    elim (cases_eq (slice_index state.slot.firsts place) state.slot.primary) [
      | inl none ↦ inl none
      | inr taken ↦ inr (sound.whose place within taken)
    ]

-- what a backup holds is known
pub IsKnown-backup : (state : State) → IsSound state → (place : ℕ) → place < length state.slot.backups
    → IsKnown state (slice_index state.slot.backups place)
IsKnown-backup state sound place within =
    elim (sound.slot_sound.each place within) [
      | inl first ↦
          subst (IsKnown state) (sym first) (IsKnown-first state sound place (omega (arith, sound.slot_sound.long)))
      | inr won ↦
          let some : 0 < length state.slot.firsts = omega (arith, sound.slot_sound.some, sound.slot_sound.long) in
          let at = place_of_Contains state.slot.firsts (winner state.slot.firsts) (Contains-winner state.slot.firsts some) in
          subst (IsKnown state) (at.2 ∙ sym won.1) (IsKnown-first state sound at.0 at.1)
    ]

-- what a replica holds is known
pub IsKnown-held : (state : State) → IsSound state → (word : ℕ) → IsHeld state.slot word → IsKnown state word
IsKnown-held state sound word held =
    elim held [
      | inl primary ↦ inl primary
      | inr backup ↦ subst (IsKnown state) (sym backup.2) (IsKnown-backup state sound backup.0 backup.1)
    ]

-- a known word that a write expects is the deciding word
pub expected-known : (state : State) → IsSound state → (number : ℕ) (write : Write) → state.writers number ≡ Writing write
    → (word : ℕ) → IsKnown state word → word ≡ write.expected → word ≡ state.slot.primary
expected-known state sound number write is word known same =
    elim known [
      | inl primary ↦ primary
      | inr of ↦ absurd (sound.unexpected of.number number of.write write of.writes is (of.fresh ∙ same))
    ]

-- a known word is not the fresh one of a write whose round has ended
pub fresh-unknown : (state : State) → IsSound state → (number : ℕ) (write : Write) → state.writers number ≡ Writing write
    → write.expected ≢ state.slot.primary → (word : ℕ) → IsKnown state word → word ≢ write.fresh
fresh-unknown state sound number write is late word known same =
    elim known [
      | inl primary ↦ (sound.each number write is).apart (sym same ∙ primary)
      | inr of ↦
          elim (cases_eq number of.number) [
            | inl here ↦
                let one = same_write state.writers number of.number write of.write here is of.writes in
                late (subst (λ (w : Write). w.expected ≡ state.slot.primary) (sym one) of.round)
            | inr apart ↦ sound.apart number of.number write of.write apart is of.writes (sym same ∙ sym of.fresh)
          ]
    ]
