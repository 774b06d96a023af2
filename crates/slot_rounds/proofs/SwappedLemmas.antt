-- What a swap of one backup leaves sound: the swap that puts the first word of this round there, and the
-- swap by which a winner mends it.
use Rattle.std.proofs.Common.{◌≡◌, ◌≢◌, ℕ, ◌+◌, ◌<◌, ◌==◌, List, length, slice_index, slice_set, refl, sym, ◌∙◌, ap, subst, arith, inl, inr, length-set, eq-eqb, ne_eqb}
use Rattle.std.proofs.lemmas.Bool.{and_from, and_left}
use Rattle.snapshot_rules.specs.Winner.{winner}
use Rattle.slot_rounds.specs.Slot.{Slot, firsts_after, apply, SwapBackup}
use Rattle.slot_rounds.specs.Write.{Phase, Gathering, Mending, Checking, Deciding, Waiting, Left, Write}
use Rattle.slot_rounds.specs.Claims.{IsFull}
use Rattle.slot_rounds.proofs.ListLemmas.{at_set}
use Rattle.slot_rounds.proofs.Soundness.{IsFirstOrWinner, IsSoundSlot, IsListed, IsMendedTo, IsSoundNow, IsSoundLate, IsSoundWrite}

-- the slot once a backup got its first word
abbrev pub taking : Slot → ℕ → ℕ → Slot
taking slot place new =
    record {
      primary = slot.primary;
      backups = slice_set slot.backups place new;
      firsts = slice_set slot.firsts place new;
    }

-- the slot once a backup was mended
abbrev pub mending : Slot → ℕ → ℕ → Slot
mending slot place new =
    record { primary = slot.primary; backups = slice_set slot.backups place new; firsts = slot.firsts }

-- ---- which of the two a swap is

with_firsts : Slot → ℕ → ℕ → List ℕ → Slot
with_firsts slot place new firsts =
    record { primary = slot.primary; backups = slice_set slot.backups place new; firsts = firsts }

-- a swap that finds the deciding word where there is no first word
pub apply-taking : (slot : Slot) (place old new : ℕ) → slice_index slot.backups place ≡ old → old ≡ slot.primary
    → slice_index slot.firsts place ≡ slot.primary → apply slot (SwapBackup place old new) ≡ taking slot place new
unfolding with_firsts
apply-taking slot place old new found round none =
    let both = and_from (old == slot.primary) (slice_index slot.firsts place == slot.primary)
    (eq-eqb old slot.primary round) (eq-eqb (slice_index slot.firsts place) slot.primary none) in
    let firsts : firsts_after slot place old new ≡ slice_set slot.firsts place new = rw both in
    rw (eq-eqb (slice_index slot.backups place) old found) (ap (with_firsts slot place new) firsts)

-- a swap that finds another word
pub apply-mending : (slot : Slot) (place old new : ℕ) → slice_index slot.backups place ≡ old → old ≢ slot.primary
    → apply slot (SwapBackup place old new) ≡ mending slot place new
unfolding with_firsts
apply-mending slot place old new found other =
    let not_both = and_left (old == slot.primary) (slice_index slot.firsts place == slot.primary)
    (ne_eqb old slot.primary other) in
    let firsts : firsts_after slot place old new ≡ slot.firsts = rw not_both in
    rw (eq-eqb (slice_index slot.backups place) old found) (ap (with_firsts slot place new) firsts)

-- a swap that finds not what it expects
pub apply-missed : (slot : Slot) (place old new : ℕ) → slice_index slot.backups place ≢ old
    → apply slot (SwapBackup place old new) ≡ slot
apply-missed slot place old new other = rw (ne_eqb (slice_index slot.backups place) old other)

-- ---- the first word of a backup

-- a round in which a backup has no first word is not full
not_full : (slot : Slot) (place : ℕ) → IsSoundSlot slot → place < length slot.backups
    → slice_index slot.firsts place ≡ slot.primary → IsFull slot → ⊥
not_full slot place sound within none full = full place (omega (arith, sound.long)) none

module _ (slot : Slot) (place new : ℕ) (sound : IsSoundSlot slot) (within : place < length slot.backups)
    (none : slice_index slot.firsts place ≡ slot.primary) (fresh : new ≢ slot.primary) where
  within_firsts : place < length slot.firsts
  within_firsts = omega (arith, sound.long, within)

  never_full : IsFull slot → ⊥
  never_full full = not_full slot place sound within none full

  pub IsSoundSlot-taking : IsSoundSlot (taking slot place new)
  IsSoundSlot-taking =
      record {
        some = omega (arith, sound.some, length-set slot.backups place new);
        long = length-set slot.firsts place new ∙ (sound.long ∙ sym (length-set slot.backups place new));
        none = λ other below.
            at_set (λ w. w ≡ slot.primary → slice_index (slice_set slot.backups place new) other ≡ slot.primary)
            slot.firsts place other new within_firsts
            (λ same is. absurd (fresh is))
            (λ apart is.
            at_set (λ w. w ≡ slot.primary) slot.backups place other new within
            (λ same. absurd (apart same))
            (λ _. sound.none other (omega (arith, length-set slot.backups place new)) is));
        untaken = λ other below.
            at_set (λ w. w ≡ slot.primary → slice_index (slice_set slot.firsts place new) other ≡ slot.primary)
            slot.backups place other new within
            (λ same is. absurd (fresh is))
            (λ apart is.
            at_set (λ w. w ≡ slot.primary) slot.firsts place other new within_firsts
            (λ same. absurd (apart same))
            (λ _. sound.untaken other (omega (arith, length-set slot.backups place new)) is));
        each = λ other below.
            at_set (λ w. IsFirstOrWinner (taking slot place new) other w) slot.backups place other new within
            (λ same.
            inl (at_set (λ w. new ≡ w) slot.firsts place other new within_firsts (λ _. refl) (λ apart. absurd (apart same))))
            (λ apart.
            elim (sound.each other (omega (arith, length-set slot.backups place new))) [
              | inl first ↦
                  inl (at_set (λ w. slice_index slot.backups other ≡ w) slot.firsts place other new within_firsts
                  (λ same. absurd (apart same)) (λ _. first))
              | inr won ↦ absurd (never_full won.0)
            ]);
      }

  -- what another write has listed
  pub IsListed-taking : (mine other word : ℕ) → IsListed slot mine other word → IsListed (taking slot place new) mine other word
  IsListed-taking mine other word listed =
      record {
        taken = at_set (λ w. w ≢ slot.primary) slot.firsts place other new within_firsts (λ _. fresh) (λ _. listed.taken);
        known =
            elim listed.known [
              | inl first ↦
                  inl (at_set (λ w. word ≡ w) slot.firsts place other new within_firsts (λ same. absurd (elsewhere same)) (λ _. first))
              | inr won ↦ absurd (never_full won.0)
            ];
        still =
            elim listed.still [
              | inl still ↦
                  inl (at_set (λ w. w ≡ word) slot.backups place other new within (λ same. absurd (elsewhere same)) (λ _. still))
              | inr lost ↦ absurd (never_full lost.0)
            ];
      }
    where
      elsewhere : other ≡ place → ⊥
      elsewhere same = listed.taken (subst (λ p. slice_index slot.firsts p ≡ slot.primary) (sym same) none)

  -- what the swap of a write with this word lists
  pub IsListed-taken : IsListed (taking slot place new) new place new
  IsListed-taken =
      record {
        taken = at_set (λ w. w ≢ slot.primary) slot.firsts place place new within_firsts (λ _. fresh) (λ apart. absurd (apart refl));
        known = inl (at_set (λ w. new ≡ w) slot.firsts place place new within_firsts (λ _. refl) (λ apart. absurd (apart refl)));
        still = inl (at_set (λ w. w ≡ new) slot.backups place place new within (λ _. refl) (λ apart. absurd (apart refl)));
      }

  IsSoundNow-taking : (phase : Phase) (mine : ℕ) (list : List ℕ) → IsSoundNow phase slot mine list
      → IsSoundNow phase (taking slot place new) mine list
  IsSoundNow-taking Gathering mine list now = (
    omega (arith, now.0, length-set slot.backups place new),
    λ other below. IsListed-taking mine other (slice_index list other) (now.1 other below),
  )
  IsSoundNow-taking (Mending other) mine list now = absurd (never_full now.1.full)
  IsSoundNow-taking Checking mine list now = absurd (never_full now.full)
  IsSoundNow-taking Deciding mine list now = absurd (never_full now.full)
  IsSoundNow-taking Waiting mine list now = omega (arith, now, length-set slot.backups place new)
  IsSoundNow-taking Left mine list now = now

-- ---- a write whose round has ended, in a slot of the same length

pub IsSoundLate-same : (slot later : Slot) (phase : Phase) (list : List ℕ) → length later.backups ≡ length slot.backups
    → IsSoundLate phase slot list → IsSoundLate phase later list
IsSoundLate-same slot later Gathering list same late = omega (arith, late, same)
IsSoundLate-same slot later (Mending place) list same late = late
IsSoundLate-same slot later Checking list same late = late
IsSoundLate-same slot later Deciding list same late = late
IsSoundLate-same slot later Waiting list same late = late
IsSoundLate-same slot later Left list same late = late

-- another write once a backup got its first word
pub IsSoundWrite-taking : (slot : Slot) (place new : ℕ) → IsSoundSlot slot → place < length slot.backups
    → slice_index slot.firsts place ≡ slot.primary → new ≢ slot.primary → (write : Write) → IsSoundWrite slot write
    → IsSoundWrite (taking slot place new) write
IsSoundWrite-taking slot place new sound within none fresh write write_sound =
    record {
      apart = write_sound.apart;
      now = λ round. IsSoundNow-taking slot place new sound within none fresh write.phase write.fresh write.list (write_sound.now round);
      late = λ over. IsSoundLate-same slot (taking slot place new) write.phase write.list (length-set slot.backups place new) (write_sound.late over);
      few = λ over. omega (arith, write_sound.few over, length-set slot.backups place new);
    }

-- ---- a winner mends a backup

module _ (slot : Slot) (place new : ℕ) (sound : IsSoundSlot slot) (within : place < length slot.backups)
    (full : IsFull slot) (wins : winner slot.firsts ≡ new) (fresh : new ≢ slot.primary) where
  pub IsSoundSlot-mending : IsSoundSlot (mending slot place new)
  IsSoundSlot-mending =
      record {
        some = omega (arith, sound.some, length-set slot.backups place new);
        long = sound.long ∙ sym (length-set slot.backups place new);
        none = λ other below is. absurd (full other (omega (arith, below, sound.long, length-set slot.backups place new)) is);
        untaken = λ other below.
            at_set (λ w. w ≡ slot.primary → slice_index slot.firsts other ≡ slot.primary) slot.backups place other new within
            (λ _ is. absurd (fresh is))
            (λ _ is. sound.untaken other (omega (arith, length-set slot.backups place new)) is);
        each = λ other below.
            at_set (λ w. IsFirstOrWinner (mending slot place new) other w) slot.backups place other new within
            (λ _. inr (full, sym wins))
            (λ _. sound.each other (omega (arith, length-set slot.backups place new)));
      }

  -- the winner's own phase
  pub IsMendedTo-mending : (list : List ℕ) → IsMendedTo slot new list place → IsMendedTo (mending slot place new) new list (place + 1)
  IsMendedTo-mending list mended =
      record {
        long = mended.long ∙ sym (length-set slot.backups place new);
        full = mended.full;
        wins = mended.wins;
        below = λ other below inside.
            at_set (λ w. w ≡ new) slot.backups place other new within
            (λ _. refl)
            (λ apart. mended.below other (omega (arith, apart)) (omega (arith, length-set slot.backups place new)));
        rest = λ other above inside.
            at_set (λ w. w ≡ slice_index list other) slot.backups place other new within
            (λ same. absurd (omega arith))
            (λ _. mended.rest other (omega arith) (omega (arith, length-set slot.backups place new)));
      }

  IsSoundNow-mending : (phase : Phase) (mine : ℕ) (list : List ℕ) → mine ≢ new → IsSoundNow phase slot mine list
      → IsSoundNow phase (mending slot place new) mine list
  IsSoundNow-mending Gathering mine list other now = (
    omega (arith, now.0, length-set slot.backups place new),
    λ one below. let listed = now.1 one below in
        record { taken = listed.taken; known = listed.known; still = inr (full, λ is. other (sym is ∙ wins)) },
  )
  IsSoundNow-mending (Mending one) mine list other now = absurd (other (sym now.1.wins ∙ wins))
  IsSoundNow-mending Checking mine list other now = absurd (other (sym now.wins ∙ wins))
  IsSoundNow-mending Deciding mine list other now = absurd (other (sym now.wins ∙ wins))
  IsSoundNow-mending Waiting mine list other now = omega (arith, now, length-set slot.backups place new)
  IsSoundNow-mending Left mine list other now = now

  -- another write
  pub IsSoundWrite-mending : (write : Write) → write.fresh ≢ new → IsSoundWrite slot write → IsSoundWrite (mending slot place new) write
  IsSoundWrite-mending write other write_sound =
      record {
        apart = write_sound.apart;
        now = λ round. IsSoundNow-mending write.phase write.fresh write.list other (write_sound.now round);
        late = λ over. IsSoundLate-same slot (mending slot place new) write.phase write.list (length-set slot.backups place new) (write_sound.late over);
        few = λ over. omega (arith, write_sound.few over, length-set slot.backups place new);
      }
