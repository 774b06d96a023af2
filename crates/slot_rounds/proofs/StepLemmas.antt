-- A state stays sound at each verb of a writer.
use Rattle.std.proofs.Common.{◌≡◌, ◌≢◌, ℕ, ◌+◌, ◌<◌, ◌==◌, if◌then◌else◌, List, [], ◌∷◌, ◌++◌, length, drop, slice_index, refl, sym, ◌∙◌, ap, subst, subst₂, arith, inl, inr, length-set, length-append, eq-eqb, ne_eqb}
use Rattle.std.proofs.lemmas.Bool.{cases_eq, cond_both, eqb-true, eqb-false}
use Rattle.std.proofs.lemmas.List.{length-replicate}
use Rattle.slot_rounds.specs.Slot.{Slot, SwapBackup, SwapPrimary, apply, decided}
use Rattle.slot_rounds.specs.Write.{Phase, Gathering, Mending, Checking, Deciding, Waiting, Left, Write, Writer, Idle, Writing, begun, with_phase, with_listed, word_after, mend_from}
use Rattle.slot_rounds.specs.Run.{State, put, stepped}
use Rattle.slot_rounds.proofs.ListLemmas.{at_set, slice_index-replicate, times-push_other}
use Rattle.slot_rounds.proofs.Soundness.{IsMendedTo, HasFewWords, IsSoundNow, IsSoundWrite, IsSound, IsOfWrite}
use Rattle.slot_rounds.proofs.MovedLemmas.{put_same, same_write, KeepsWords, IsOfWrite-put, IsOfWrite-put_other, goes_on, comes_to_rest}
use Rattle.slot_rounds.proofs.GatheredLemmas.{AllListed-push, IsSoundNow-gathered, IsSoundLate-gathered, IsSoundNow-mend_from}
use Rattle.slot_rounds.proofs.HeldLemmas.{IsKnown-backup, expected-known, fresh-unknown}
use Rattle.slot_rounds.proofs.SwappedLemmas.{taking, mending, apply-taking, apply-mending, apply-missed, IsSoundSlot-taking, IsListed-taking, IsListed-taken, IsSoundWrite-taking, IsSoundLate-same, IsSoundSlot-mending, IsMendedTo-mending, IsSoundWrite-mending}
use Rattle.slot_rounds.proofs.DecidedLemmas.{IsSoundSlot-decided, IsSoundLate-decided}

-- the state with this slot and this writer
abbrev pub with_writer : State → ℕ → Slot → Writer → State
with_writer state number slot writer = record { slot = slot; writers = put state.writers number writer }

-- the same slot and the same writer make the same state
pub IsSound-as : (state : State) (number : ℕ) (slot later : Slot) (writer next : Writer) → slot ≡ later → writer ≡ next
    → IsSound (with_writer state number later next) → IsSound (with_writer state number slot writer)
IsSound-as state number slot later writer next slots writers sound =
    subst₂ (λ s w. IsSound (with_writer state number s w)) (sym slots) (sym writers) sound

module _ (state : State) (sound : IsSound state) (number : ℕ) (write : Write) (is : state.writers number ≡ Writing write) where
  -- the slot stays, and the write goes on
  pub IsSound-steady : (later : Write) → KeepsWords write later → IsSoundWrite state.slot later
      → IsSound (with_writer state number state.slot (Writing later))
  IsSound-steady later keeps own =
      goes_on state number write later state.slot sound is keeps sound.slot_sound
      (λ place within taken.
      IsOfWrite-put state.slot.primary state.writers number write later (slice_index state.slot.firsts place) is keeps (sound.whose place within taken))
      (λ other others apart others_is. sound.each other others others_is)
      own

  -- a word that is not the write's is not lost with it
  pub IsOfWrite-without : (word : ℕ) → (write.expected ≡ state.slot.primary → write.fresh ≢ word)
      → IsOfWrite state.slot.primary state.writers word → IsOfWrite state.slot.primary (put state.writers number Idle) word
  IsOfWrite-without word not_its of =
      IsOfWrite-put_other state.slot.primary state.writers number Idle word of
      (λ same.
      let one : write ≡ of.write = same_write state.writers number of.number write of.write same is of.writes in
      not_its (subst (λ (w : Write). w.expected ≡ state.slot.primary) (sym one) of.round)
      (subst (λ (w : Write). w.fresh ≡ word) (sym one) of.fresh))

  -- the slot stays, and a write whose round has ended is over
  pub IsSound-over : write.expected ≢ state.slot.primary → IsSound (with_writer state number state.slot Idle)
  IsSound-over late =
      comes_to_rest state number state.slot sound sound.slot_sound
      (λ place within taken.
      IsOfWrite-without (slice_index state.slot.firsts place) (λ round. absurd (late round)) (sound.whose place within taken))
      (λ other others apart others_is. sound.each other others others_is)

  -- ---- the next backup is swapped

  -- the swap puts the round's first word there
  IsSound-taken : length write.list < length state.slot.backups → write.expected ≡ state.slot.primary
      → (write.expected ≡ state.slot.primary → IsSoundNow Gathering state.slot write.fresh write.list)
      → slice_index state.slot.firsts (length write.list) ≡ state.slot.primary
      → IsSound (with_writer state number (taking state.slot (length write.list) write.fresh)
      (Writing (with_listed (length state.slot.backups) write write.fresh)))
  IsSound-taken short round now none =
      let place = length write.list in
      let slot_sound = sound.slot_sound in
      let fresh : write.fresh ≢ state.slot.primary = (sound.each number write is).apart in
      let later = taking state.slot place write.fresh in
      let later_sound = IsSoundSlot-taking state.slot place write.fresh slot_sound short none fresh in
      goes_on state number write (with_listed (length state.slot.backups) write write.fresh) later sound is
      (record { fresh = refl; expected = refl })
      later_sound
      (λ other within.
      at_set (λ w. w ≢ state.slot.primary → IsOfWrite state.slot.primary
      (put state.writers number (Writing (with_listed (length state.slot.backups) write write.fresh))) w)
      state.slot.firsts place other write.fresh (omega (arith, slot_sound.long, short))
      (λ same taken. record {
        number = number;
        write = with_listed (length state.slot.backups) write write.fresh;
        writes = put_same state.writers number (Writing (with_listed (length state.slot.backups) write write.fresh));
        round = round;
        fresh = refl;
      })
      (λ apart taken.
      IsOfWrite-put state.slot.primary state.writers number write (with_listed (length state.slot.backups) write write.fresh)
      (slice_index state.slot.firsts other) is (record { fresh = refl; expected = refl })
      (sound.whose other (omega (arith, within, length-set state.slot.firsts place write.fresh)) taken)))
      (λ other others apart others_is.
      IsSoundWrite-taking state.slot place write.fresh slot_sound short none fresh others (sound.each other others others_is))
      (record {
        apart = fresh;
        now = λ _.
            IsSoundNow-gathered later (length state.slot.backups) write.fresh (write.list ++ write.fresh ∷ []) later_sound
            (sym (length-set state.slot.backups place write.fresh))
            (omega (arith, length-append write.list (write.fresh ∷ []), short))
            (AllListed-push later write.fresh write.list write.fresh
            (λ other below. IsListed-taking state.slot place write.fresh slot_sound short none fresh write.fresh other (slice_index write.list other) ((now round).1 other below))
            (IsListed-taken state.slot place write.fresh slot_sound short none fresh));
        late = λ late. absurd (late round);
        few = λ late. absurd (late round);
      })

  -- the swap finds another word
  IsSound-missed : length write.list < length state.slot.backups
      → (write.expected ≡ state.slot.primary → IsSoundNow Gathering state.slot write.fresh write.list)
      → slice_index state.slot.backups (length write.list) ≢ write.expected
      → IsSound (with_writer state number state.slot
      (Writing (with_listed (length state.slot.backups) write (slice_index state.slot.backups (length write.list)))))
  IsSound-missed short now other =
      let place = length write.list in
      let found = slice_index state.slot.backups place in
      let slot_sound = sound.slot_sound in
      IsSound-steady (with_listed (length state.slot.backups) write found) (record { fresh = refl; expected = refl })
      (record {
        apart = (sound.each number write is).apart;
        now = λ round.
            IsSoundNow-gathered state.slot (length state.slot.backups) write.fresh (write.list ++ found ∷ []) slot_sound refl
            (omega (arith, length-append write.list (found ∷ []), short))
            (AllListed-push state.slot write.fresh write.list found (now round).1
            (record {
              taken = λ none. other (slot_sound.none place short none ∙ sym round);
              known = slot_sound.each place short;
              still = inl refl;
            }));
        late = λ late.
            IsSoundLate-gathered state.slot (length state.slot.backups) write.fresh (write.list ++ found ∷ [])
            (omega (arith, length-append write.list (found ∷ []))) refl
            (omega (arith, length-append write.list (found ∷ []), short)) (few_still late);
        few = few_still;
      })
    where
      few_still : write.expected ≢ state.slot.primary
          → HasFewWords state.slot write.fresh (write.list ++ slice_index state.slot.backups (length write.list) ∷ [])
      few_still late =
          let found = slice_index state.slot.backups (length write.list) in
          let not_own = fresh-unknown state sound number write is late found (IsKnown-backup state sound (length write.list) short) in
          omega (arith, (sound.each number write is).few late, times-push_other write.fresh found write.list not_own)

  -- ---- the winner mends a backup, and swaps the primary

  IsSound-mended : (place : ℕ) → write.expected ≡ state.slot.primary → place < length state.slot.backups
      → IsMendedTo state.slot write.fresh write.list place
      → IsSound (with_writer state number (mending state.slot place write.fresh)
      (Writing (with_phase write (mend_from write.fresh (place + 1) (drop (place + 1) write.list)))))
  IsSound-mended place round within mended =
      let slot_sound = sound.slot_sound in
      let fresh : write.fresh ≢ state.slot.primary = (sound.each number write is).apart in
      let later = mending state.slot place write.fresh in
      let phase = mend_from write.fresh (place + 1) (drop (place + 1) write.list) in
      goes_on state number write (with_phase write phase) later sound is (record { fresh = refl; expected = refl })
      (IsSoundSlot-mending state.slot place write.fresh slot_sound within mended.full mended.wins fresh)
      (λ other inside taken.
      IsOfWrite-put state.slot.primary state.writers number write (with_phase write phase) (slice_index state.slot.firsts other) is
      (record { fresh = refl; expected = refl }) (sound.whose other inside taken))
      (λ other others apart others_is.
      IsSoundWrite-mending state.slot place write.fresh slot_sound within mended.full mended.wins fresh others
      (λ same. sound.apart number other write others apart is others_is (sym same)) (sound.each other others others_is))
      (record {
        apart = fresh;
        now = λ _.
            IsSoundNow-mend_from later write.fresh write.list (drop (place + 1) write.list) (place + 1) refl
            (IsMendedTo-mending state.slot place write.fresh slot_sound within mended.full mended.wins fresh write.list mended);
        late = λ late. absurd (late round);
        few = λ late. absurd (late round);
      })

  IsSound-decided : write.expected ≡ state.slot.primary
      → IsMendedTo state.slot write.fresh write.list (length state.slot.backups)
      → IsSound (with_writer state number (decided state.slot write.fresh) Idle)
  IsSound-decided round mended =
      let slot_sound = sound.slot_sound in
      comes_to_rest state number (decided state.slot write.fresh) sound
      (IsSoundSlot-decided state.slot write.fresh slot_sound (λ place within. mended.below place within within) mended.wins)
      (λ place within taken.
      absurd (taken (slice_index-replicate (length state.slot.backups) write.fresh place
      (omega (arith, within, length-replicate (length state.slot.backups) write.fresh)))))
      (λ other others apart others_is.
      let others_sound = sound.each other others others_is in
      let differs : others.fresh ≢ write.fresh = λ same. sound.apart number other write others apart is others_is (sym same) in
      let ends = λ (round : others.expected ≡ state.slot.primary).
      IsSoundLate-decided state.slot write.fresh slot_sound (λ place within. mended.below place within within) mended.wins
      others.phase others.fresh others.list differs (others_sound.now round) in
      record {
        apart = differs;
        now = λ same. absurd (sound.unexpected number other write others is others_is (sym same));
        late = λ _.
            elim (cases_eq others.expected state.slot.primary) [
              | inl round ↦ (ends round).0
              | inr late ↦
                  IsSoundLate-same state.slot (decided state.slot write.fresh) others.phase others.list refl (others_sound.late late)
            ];
        few = λ _.
            elim (cases_eq others.expected state.slot.primary) [
              | inl round ↦ (ends round).1
              | inr late ↦ others_sound.few late
            ];
      })

  -- a write that was broken off begins anew
  IsSound-anew : write.expected ≡ state.slot.primary
      → IsSound (with_writer state number state.slot (Writing (begun write.expected write.fresh)))
  IsSound-anew round =
      IsSound-steady (begun write.expected write.fresh) (record { fresh = refl; expected = refl })
      (record {
        apart = (sound.each number write is).apart;
        now = λ _. (sound.slot_sound.some, λ place below. absurd (omega arith));
        late = λ late. absurd (late round);
        few = λ late. absurd (late round);
      })

  -- a write finds with a read whether its expected word is deciding still
  IsSound-read : (next : Write) → (write.expected ≡ state.slot.primary → IsSound (with_writer state number state.slot (Writing next)))
      → IsSound (with_writer state number state.slot (if state.slot.primary == write.expected then Writing next else Idle))
  IsSound-read next goes =
      cond_both (state.slot.primary == write.expected) (Writing next) Idle
      (λ w. IsSound (with_writer state number state.slot w))
      (λ same. goes (sym (eqb-true state.slot.primary write.expected same)))
      (λ other. IsSound-over (λ round. eqb-false state.slot.primary write.expected other (sym round)))

-- ---- the verbs, by the phase

abbrev pub written : ℕ → ℕ → List ℕ → Phase → Write
written expected fresh list phase = record { expected = expected; fresh = fresh; list = list; phase = phase }

IsSound-gathering : (state : State) → IsSound state → (number : ℕ) (write : Write) → state.writers number ≡ Writing write
    → length write.list < length state.slot.backups
    → (write.expected ≡ state.slot.primary → IsSoundNow Gathering state.slot write.fresh write.list)
    → IsSound (with_writer state number
    (apply state.slot (SwapBackup (length write.list) write.expected write.fresh))
    (Writing (with_listed (length state.slot.backups) write (word_after write (slice_index state.slot.backups (length write.list))))))
IsSound-gathering state sound number write is short now =
    let place = length write.list in
    let found = slice_index state.slot.backups place in
    let grown = λ (word : ℕ). Writing (with_listed (length state.slot.backups) write word) in
    elim (cases_eq found write.expected) [
      | inl hit ↦
          let primary : found ≡ state.slot.primary =
          expected-known state sound number write is found (IsKnown-backup state sound place short) hit in
          let round : write.expected ≡ state.slot.primary = sym hit ∙ primary in
          let none = sound.slot_sound.untaken place short primary in
          let own : word_after write found ≡ write.fresh = rw (eq-eqb found write.expected hit) in
          IsSound-as state number (apply state.slot (SwapBackup place write.expected write.fresh)) (taking state.slot place write.fresh)
          (grown (word_after write found)) (grown write.fresh)
          (apply-taking state.slot place write.expected write.fresh hit round none) (ap grown own)
          (IsSound-taken state sound number write is short round now none)
      | inr missed ↦
          let other : word_after write found ≡ found = rw (ne_eqb found write.expected missed) in
          IsSound-as state number (apply state.slot (SwapBackup place write.expected write.fresh)) state.slot
          (grown (word_after write found)) (grown found)
          (apply-missed state.slot place write.expected write.fresh missed) (ap grown other)
          (IsSound-missed state sound number write is short now missed)
    ]

IsSound-mending : (state : State) → IsSound state → (number place : ℕ) (write : Write) → state.writers number ≡ Writing write
    → write.expected ≡ state.slot.primary → place < length state.slot.backups → IsMendedTo state.slot write.fresh write.list place
    → IsSound (with_writer state number (apply state.slot (SwapBackup place (slice_index write.list place) write.fresh))
    (Writing (with_phase write (mend_from write.fresh (place + 1) (drop (place + 1) write.list)))))
IsSound-mending state sound number place write is round within mended =
    let found = mended.rest place (omega arith) within in
    let taken : slice_index write.list place ≢ state.slot.primary = λ primary.
    mended.full place (omega (arith, sound.slot_sound.long, within))
    (sound.slot_sound.untaken place within (found ∙ primary)) in
    let next = Writing (with_phase write (mend_from write.fresh (place + 1) (drop (place + 1) write.list))) in
    IsSound-as state number (apply state.slot (SwapBackup place (slice_index write.list place) write.fresh))
    (mending state.slot place write.fresh) next next
    (apply-mending state.slot place (slice_index write.list place) write.fresh found taken) refl
    (IsSound-mended state sound number write is place round within mended)

IsSound-deciding : (state : State) → IsSound state → (number : ℕ) (write : Write) → state.writers number ≡ Writing write
    → write.expected ≡ state.slot.primary → IsMendedTo state.slot write.fresh write.list (length state.slot.backups)
    → IsSound (with_writer state number (apply state.slot (SwapPrimary write.expected write.fresh)) Idle)
IsSound-deciding state sound number write is round mended =
    let found : apply state.slot (SwapPrimary write.expected write.fresh) ≡ decided state.slot write.fresh =
    rw (eq-eqb state.slot.primary write.expected (sym round)) in
    IsSound-as state number (apply state.slot (SwapPrimary write.expected write.fresh)) (decided state.slot write.fresh) Idle Idle
    found refl (IsSound-decided state sound number write is round mended)

-- a write that can only be of the present round is
pub round_of : (slot : Slot) (write : Write) → IsSoundWrite slot write → (write.expected ≢ slot.primary → ⊥) → write.expected ≡ slot.primary
round_of slot write write_sound never =
    elim (cases_eq write.expected slot.primary) [ inl round ↦ round | inr late ↦ absurd (never late) ]

IsSound-phase : (phase : Phase) (expected fresh : ℕ) (list : List ℕ) (state : State) (number : ℕ) → IsSound state
    → state.writers number ≡ Writing (written expected fresh list phase)
    → IsSound (stepped state number (Writing (written expected fresh list phase)))
IsSound-phase Gathering expected fresh list state number sound is =
    let write = written expected fresh list Gathering in
    let write_sound = sound.each number write is in
    let short : length list < length state.slot.backups =
    elim (cases_eq expected state.slot.primary) [ inl round ↦ (write_sound.now round).0 | inr late ↦ write_sound.late late ] in
    IsSound-gathering state sound number write is short write_sound.now
IsSound-phase (Mending place) expected fresh list state number sound is =
    let write = written expected fresh list (Mending place) in
    let write_sound = sound.each number write is in
    let round = round_of state.slot write write_sound write_sound.late in
    let now = write_sound.now round in
    IsSound-mending state sound number place write is round now.0 now.1
IsSound-phase Checking expected fresh list state number sound is =
    let write = written expected fresh list Checking in
    let write_sound = sound.each number write is in
    let next = with_phase write (mend_from fresh 0 list) in
    IsSound-read state sound number write is next
    (λ round.
    IsSound-steady state sound number write is next (record { fresh = refl; expected = refl })
    (record {
      apart = write_sound.apart;
      now = λ _. IsSoundNow-mend_from state.slot fresh list list 0 refl (write_sound.now round);
      late = λ late. absurd (late round);
      few = write_sound.few;
    }))
IsSound-phase Deciding expected fresh list state number sound is =
    let write = written expected fresh list Deciding in
    let write_sound = sound.each number write is in
    let round = round_of state.slot write write_sound write_sound.late in
    IsSound-deciding state sound number write is round (write_sound.now round)
IsSound-phase Waiting expected fresh list state number sound is =
    let write = written expected fresh list Waiting in
    IsSound-read state sound number write is write
    (λ _. IsSound-steady state sound number write is write (record { fresh = refl; expected = refl }) (sound.each number write is))
IsSound-phase Left expected fresh list state number sound is =
    let write = written expected fresh list Left in
    IsSound-read state sound number write is (begun expected fresh) (λ round. IsSound-anew state sound number write is round)

-- the next verb of a writer
pub IsSound-stepped : (state : State) (number : ℕ) (writer : Writer) → state.writers number ≡ writer → IsSound state
    → IsSound (stepped state number writer)
IsSound-stepped state number Idle is sound = sound
IsSound-stepped state number (Writing write) is sound =
    IsSound-phase write.phase write.expected write.fresh write.list state number sound is
