-- What a final swap leaves sound: it ends the round, and the other writes of it will not win.
use Rattle.std.proofs.Common.{◌≡◌, ◌≢◌, ℕ, ◌*◌, ◌<◌, List, [], length, sym, ◌∙◌, subst, arith, inl, inr}
use Rattle.std.proofs.lemmas.Bool.{cases_lt}
use Rattle.std.proofs.lemmas.List.{length-replicate}
use Rattle.snapshot_rules.specs.Winner.{times, winner}
use Rattle.snapshot_rules.proofs.WinnerLemmas.{winner-majority}
use Rattle.slot_rounds.specs.Slot.{Slot, decided}
use Rattle.slot_rounds.specs.Write.{Phase, Gathering, Mending, Checking, Deciding, Waiting, Left}
use Rattle.slot_rounds.specs.Claims.{IsEverywhere}
use Rattle.slot_rounds.proofs.ListLemmas.{slice_index-replicate, times-le}
use Rattle.slot_rounds.proofs.Soundness.{IsSoundSlot, AllListed, HasFewWords, IsSoundNow, IsSoundLate}

-- a write that gives up its list has no own words in it
pub HasFewWords-nil : (slot : Slot) (fresh : ℕ) (list : List ℕ) → list ≡ [] → HasFewWords slot fresh list
HasFewWords-nil slot fresh list is = subst (HasFewWords slot fresh) (sym is) (omega arith)

module _ (slot : Slot) (new : ℕ) (sound : IsSoundSlot slot) (everywhere : IsEverywhere slot new)
    (wins : winner slot.firsts ≡ new) where
  pub IsSoundSlot-decided : IsSoundSlot (decided slot new)
  IsSoundSlot-decided =
      record {
        some = sound.some;
        long = length-replicate (length slot.backups) new;
        none = λ place within is. everywhere place within;
        untaken = λ place within is. slice_index-replicate (length slot.backups) new place within;
        each = λ place within. inl (everywhere place within ∙ sym (slice_index-replicate (length slot.backups) new place within));
      }

  -- a word that has not won stands seldom in a list of this round
  few_listed : (mine : ℕ) (list : List ℕ) → mine ≢ new → length list < length slot.backups → AllListed slot mine list
      → HasFewWords slot mine list
  few_listed mine list other short all =
      let fewer = times-le mine list slot.firsts (omega (arith, short, sound.long)) (λ place within is.
      elim (all place within).known [
        | inl first ↦ sym first ∙ is
        | inr won ↦ absurd (other (sym is ∙ (won.1 ∙ wins)))
      ]) in
      elim (cases_lt (length slot.firsts) (2 * times mine slot.firsts)) [
        | inl most ↦ absurd (other (sym (winner-majority mine slot.firsts most) ∙ wins))
        | inr few ↦ omega (arith, few, fewer, sound.long)
      ]

  pub IsSoundLate-decided : (phase : Phase) (mine : ℕ) (list : List ℕ) → mine ≢ new → IsSoundNow phase slot mine list
      → IsSoundLate phase (decided slot new) list × HasFewWords slot mine list
  IsSoundLate-decided Gathering mine list other now = (now.0, few_listed mine list other now.0 now.1)
  IsSoundLate-decided (Mending place) mine list other now = absurd (other (sym now.1.wins ∙ wins))
  IsSoundLate-decided Checking mine list other now = absurd (other (sym now.wins ∙ wins))
  IsSoundLate-decided Deciding mine list other now = absurd (other (sym now.wins ∙ wins))
  IsSoundLate-decided Waiting mine list other now = (tt, now)
  IsSoundLate-decided Left mine list other now = (now, HasFewWords-nil slot mine list now)
