-- A state stays sound where a write begins, is broken off or given up, and where words are copied and
-- installed.
use Rattle.std.proofs.Common.{◌≡◌, ◌≢◌, ℕ, ◌<◌, ◌==◌, [], length, slice_index, refl, sym, ◌∙◌, subst, arith, inl, inr, length-set}
use Rattle.std.proofs.lemmas.Bool.{cases_eq, cases_Bool, eqb-false}
use Rattle.std.proofs.lemmas.List.{length-replicate}
use Rattle.slot_rounds.specs.Slot.{Slot, settled, copied}
use Rattle.slot_rounds.specs.Write.{Left, Write, Writer, Idle, Writing, begun, left}
use Rattle.slot_rounds.specs.Run.{State, Begin, Copy, Install, Quit, opening, broken_off, without, happens}
use Rattle.slot_rounds.specs.Allowed.{IsFresh, MayHappen}
use Rattle.slot_rounds.proofs.ListLemmas.{at_set, slice_index-replicate}
use Rattle.slot_rounds.proofs.Soundness.{IsSoundSlot, IsSoundNow, IsSoundLate, IsSoundWrite, IsSound, IsOfWrite}
use Rattle.slot_rounds.proofs.MovedLemmas.{moved, comes_to_rest, IsOfWrite-put_other}
use Rattle.slot_rounds.proofs.HeldLemmas.{IsKnown, IsKnown-backup, IsKnown-held}
use Rattle.slot_rounds.proofs.DecidedLemmas.{HasFewWords-nil}
use Rattle.slot_rounds.proofs.StepLemmas.{with_writer, IsSound-steady, IsOfWrite-without}

-- one word on all replicas, of which there is a backup
IsSoundSlot-settled : (count word : ℕ) → 0 < count → IsSoundSlot (settled count word)
IsSoundSlot-settled count word some =
    record {
      some = omega (arith, some, length-replicate count word);
      long = refl;
      none = λ place within is. is;
      untaken = λ place within is. is;
      each = λ place within. inl refl;
    }

-- then no backup has a first word
none_settled : (count word place : ℕ) → place < length (settled count word).firsts
    → slice_index (settled count word).firsts place ≡ (settled count word).primary
none_settled count word place within =
    slice_index-replicate count word place (omega (arith, within, length-replicate count word))

-- who is at rest writes nothing
pub idle_writes : (write : Write) → Idle ≡ Writing write → ⊥
idle_writes write is = cc

pub IsSound-opening : (backups word : ℕ) → 0 < backups → IsSound (opening backups word)
IsSound-opening backups word some =
    record {
      slot_sound = IsSoundSlot-settled backups word some;
      whose = λ place within taken. absurd (taken (none_settled backups word place within));
      each = λ number write is. absurd (idle_writes write is);
      apart = λ number other write others apart is others_is. absurd (idle_writes write is);
      unexpected = λ number other write others is others_is. absurd (idle_writes write is);
    }

-- ---- a write begins

-- who is at rest has no first word
not_idle : (state : State) (number : ℕ) → state.writers number ≡ Idle → (word : ℕ)
    → (of : IsOfWrite state.slot.primary state.writers word) → number ≢ of.number
not_idle state number idle word of same =
    let writes : state.writers number ≡ Writing of.write = subst (λ n. state.writers n ≡ Writing of.write) (sym same) of.writes in
    idle_writes of.write (sym idle ∙ writes)

pub IsSound-begun : (state : State) (number expected fresh : ℕ) → IsSound state → MayHappen state (Begin number expected fresh)
    → IsSound (happens state (Begin number expected fresh))
IsSound-begun state number expected fresh sound may =
    let idle = may.0 in
    let round = may.1 in
    let unused : IsFresh state fresh = may.2 in
    moved state number (Writing (begun expected fresh)) state.slot sound
    (record {
      slot_sound = sound.slot_sound;
      whose = λ place within taken.
          let of = sound.whose place within taken in
          IsOfWrite-put_other state.slot.primary state.writers number (Writing (begun expected fresh))
          (slice_index state.slot.firsts place) of (not_idle state number idle (slice_index state.slot.firsts place) of);
      others = λ other others apart others_is. sound.each other others others_is;
      own = λ w writes. let same : begun expected fresh ≡ w = cc in
          subst (λ (w : Write). IsSoundWrite state.slot w) same
          (record {
            apart = unused.absent.primary;
            now = λ _. (sound.slot_sound.some, λ place below. absurd (omega arith));
            late = λ late. absurd (late round);
            few = λ late. absurd (late round);
          });
      apart = λ w writes other others apart others_is. let same : begun expected fresh ≡ w = cc in
          subst (λ (w : Write). w.fresh ≢ others.fresh) same (unused.written other others others_is);
      own_unexpected = λ w writes. let same : begun expected fresh ≡ w = cc in
          subst (λ (w : Write). w.fresh ≢ w.expected) same (λ is. unused.absent.primary (is ∙ round));
      unexpected = λ w writes other others apart others_is. let same : begun expected fresh ≡ w = cc in
          subst (λ (w : Write). (w.fresh ≢ others.expected) × (others.fresh ≢ w.expected)) same
          (unused.expected other others others_is, λ is. (sound.each other others others_is).apart (is ∙ round));
    })

-- ---- a write is broken off, or given up

-- who is at rest stays there
IsSound-idle : (state : State) (number : ℕ) → IsSound state → state.writers number ≡ Idle
    → IsSound (with_writer state number state.slot Idle)
IsSound-idle state number sound idle =
    comes_to_rest state number state.slot sound sound.slot_sound
    (λ place within taken.
    let of = sound.whose place within taken in
    IsOfWrite-put_other state.slot.primary state.writers number Idle (slice_index state.slot.firsts place) of
    (not_idle state number idle (slice_index state.slot.firsts place) of))
    (λ other others apart others_is. sound.each other others others_is)

-- a write that was broken off is sound in each slot that has not its word
IsSoundWrite-left : (slot : Slot) (write : Write) → write.phase ≡ Left → write.list ≡ [] → write.fresh ≢ slot.primary
    → IsSoundWrite slot write
IsSoundWrite-left slot write is empty apart =
    record {
      apart = apart;
      now = λ _. subst (λ phase. IsSoundNow phase slot write.fresh write.list) (sym is) empty;
      late = λ _. subst (λ phase. IsSoundLate phase slot write.list) (sym is) empty;
      few = λ _. HasFewWords-nil slot write.fresh write.list empty;
    }

empty-left : (slot : Slot) (write : Write) → IsSoundWrite slot write → write.phase ≡ Left → write.list ≡ []
empty-left slot write write_sound is =
    elim (cases_eq write.expected slot.primary) [
      | inl round ↦ subst (λ phase. IsSoundNow phase slot write.fresh write.list) is (write_sound.now round)
      | inr late ↦ subst (λ phase. IsSoundLate phase slot write.list) is (write_sound.late late)
    ]

pub IsSound-broken_off : (state : State) (number : ℕ) (writer : Writer) → state.writers number ≡ writer → IsSound state
    → IsSound (with_writer state number state.slot (broken_off writer))
IsSound-broken_off state number Idle is sound = IsSound-idle state number sound is
IsSound-broken_off state number (Writing write) is sound =
    IsSound-steady state sound number write is (left write) (record { fresh = refl; expected = refl })
    (IsSoundWrite-left state.slot (left write) refl refl (sound.each number write is).apart)

pub IsSound-quit : (state : State) (number : ℕ) (writer : Writer) → state.writers number ≡ writer → IsSound state
    → MayHappen state (Quit number) → IsSound (happens state (Quit number))
IsSound-quit state number Idle is sound may = IsSound-idle state number sound is
IsSound-quit state number (Writing write) is sound may =
    comes_to_rest state number state.slot sound sound.slot_sound
    (λ place within taken.
    IsOfWrite-without state sound number write is (slice_index state.slot.firsts place)
    (λ _ same. may write is place within (sym same)) (sound.whose place within taken))
    (λ other others apart others_is. sound.each other others others_is)

-- ---- words are copied and installed

taken_of : (state : State) (word : ℕ) → IsKnown state word → word ≢ state.slot.primary
    → IsOfWrite state.slot.primary state.writers word
taken_of state word known other = elim known [ inl primary ↦ absurd (other primary) | inr of ↦ of ]

pub IsSound-copied : (state : State) (place word : ℕ) → IsSound state → MayHappen state (Copy place word)
    → IsSound (happens state (Copy place word))
IsSound-copied state place word sound may =
    record {
      slot_sound =
          record {
            some = omega (arith, sound.slot_sound.some, length-set state.slot.backups place word);
            long = refl;
            none = λ other within is. is;
            untaken = λ other within is. is;
            each = λ other within. inl refl;
          };
      whose = λ other within.
          at_set (λ w. w ≢ state.slot.primary → IsOfWrite state.slot.primary state.writers w)
          state.slot.backups place other word may.0
          (λ _ taken. taken_of state word (IsKnown-held state sound word may.1) taken)
          (λ _ taken.
          taken_of state (slice_index state.slot.backups other)
          (IsKnown-backup state sound other (omega (arith, within, length-set state.slot.backups place word))) taken);
      each = λ number write is.
          let write_sound = sound.each number write is in
          let gone = may.2 number write is in
          IsSoundWrite-left (copied state.slot place word) write gone (empty-left state.slot write write_sound gone) write_sound.apart;
      apart = sound.apart;
      unexpected = sound.unexpected;
    }

-- a write that is under way still was so, and has another word
pub still_writing : (word : ℕ) (writer : Writer) (write : Write) → without word writer ≡ Writing write
    → (writer ≡ Writing write) × (write.fresh ≢ word)
still_writing word Idle write is = absurd (idle_writes write is)
still_writing word (Writing one) write is =
    elim (cases_Bool (one.fresh == word)) [
      | inl over ↦ absurd (idle_writes write (rw over at is))
      | inr other ↦
          let writes : Writing one ≡ Writing write = rw other at is in
          let same : one ≡ write = cc in (
            writes,
            subst (λ (w : Write). w.fresh ≢ word) same (eqb-false one.fresh word other),
          )
    ]

pub IsSound-installed : (state : State) (backups word : ℕ) → IsSound state → MayHappen state (Install backups word)
    → IsSound (happens state (Install backups word))
IsSound-installed state backups word sound may =
    record {
      slot_sound = IsSoundSlot-settled backups word may.0;
      whose = λ place within taken. absurd (taken (none_settled backups word place within));
      each = λ number write is.
          let still = still_writing word (state.writers number) write is in
          let gone = may.2 number write still.0 in
          IsSoundWrite-left (settled backups word) write gone
          (empty-left state.slot write (sound.each number write still.0) gone) still.1;
      apart = λ number other write others apart is others_is.
          sound.apart number other write others apart
          (still_writing word (state.writers number) write is).0 (still_writing word (state.writers other) others others_is).0;
      unexpected = λ number other write others is others_is.
          sound.unexpected number other write others
          (still_writing word (state.writers number) write is).0 (still_writing word (state.writers other) others others_is).0;
    }
