-- A write that has taken no verb has its word nowhere: so it may be given up.
use Rattle.std.proofs.Common.{◌≡◌, ◌≢◌, ℕ, ◌<◌, ◌==◌, ◌&&◌, List, length, slice_index, slice_set, replicate, refl, sym, ◌∙◌, ap, subst, arith, inl, inr, length-set}
use Rattle.std.proofs.lemmas.Bool.{cases_eq, cases_lt, cond_both}
use Rattle.std.proofs.lemmas.List.{length-replicate, set_past}
use Rattle.slot_rounds.specs.Slot.{Slot, SwapBackup, SwapPrimary, apply, swapped, decided}
use Rattle.slot_rounds.specs.Write.{Phase, Gathering, Mending, Checking, Deciding, Waiting, Left, Write, Writer, Idle, Writing, verb_at}
use Rattle.slot_rounds.specs.Run.{State, Event, Begin, Step, Leave, Quit, Copy, Install, stepped, happens}
use Rattle.slot_rounds.specs.Allowed.{IsAbsent, IsHeld, IsFresh, IsNowhereFirst, MayHappen}
use Rattle.slot_rounds.proofs.ListLemmas.{at_set, slice_index-replicate}
use Rattle.slot_rounds.proofs.Soundness.{IsSound}

-- no replica holds the word, and it is no first word
pub record IsNowhere (slot : Slot) (word : ℕ) : Type 0 where
  pub absent : IsAbsent slot word
  pub first : IsNowhereFirst slot word

-- a fresh word is nowhere
pub IsNowhere-fresh : (state : State) (word : ℕ) → IsSound state → IsFresh state word → IsNowhere state.slot word
IsNowhere-fresh state word sound fresh =
    record {
      absent = fresh.absent;
      first = λ place within is.
          elim (cases_eq (slice_index state.slot.firsts place) state.slot.primary) [
            | inl none ↦ fresh.absent.primary (sym is ∙ none)
            | inr taken ↦
                let of = sound.whose place within taken in
                fresh.written of.number of.write of.writes (sym (of.fresh ∙ is))
          ];
    }

-- ---- other words are put in other places

-- a list in which another word was set has the word nowhere still
not_set : (words : List ℕ) (place new word : ℕ) → new ≢ word
    → ((one : ℕ) → one < length words → slice_index words one ≢ word)
    → (one : ℕ) → one < length (slice_set words place new) → slice_index (slice_set words place new) one ≢ word
not_set words place new word other none one within =
    let below : one < length words = omega (arith, within, length-set words place new) in
    elim (cases_lt place (length words)) [
      | inl inside ↦ at_set (λ w. w ≢ word) words place one new inside (λ _. other) (λ _. none one below)
      | inr past ↦ subst (λ ws. slice_index ws one ≢ word) (sym (set_past words place new past)) (none one below)
    ]

IsNowhere-swapped : (slot : Slot) (place old new word : ℕ) → new ≢ word → IsNowhere slot word
    → IsNowhere (apply slot (SwapBackup place old new)) word
IsNowhere-swapped slot place old new word other nowhere =
    cond_both (slice_index slot.backups place == old) (swapped slot place old new) slot (λ s. IsNowhere s word)
    (λ _.
    record {
      absent =
          record {
            primary = nowhere.absent.primary;
            backups = λ one within is.
                not_set slot.backups place new word other (λ p inside same. nowhere.absent.backups p inside (sym same))
                one within (sym is);
          };
      first =
          cond_both (old == slot.primary && slice_index slot.firsts place == slot.primary)
          (slice_set slot.firsts place new) slot.firsts
          (λ words. (one : ℕ) → one < length words → slice_index words one ≢ word)
          (λ _. not_set slot.firsts place new word other nowhere.first)
          (λ _. nowhere.first);
    })
    (λ _. nowhere)

IsNowhere-decided : (slot : Slot) (old new word : ℕ) → new ≢ word → IsNowhere slot word
    → IsNowhere (apply slot (SwapPrimary old new)) word
IsNowhere-decided slot old new word other nowhere =
    cond_both (slot.primary == old) (decided slot new) slot (λ s. IsNowhere s word)
    (λ _.
    record {
      absent = record { primary = λ is. other (sym is); backups = nowhere.absent.backups };
      first = λ one within is.
          other
          (sym (slice_index-replicate (length slot.backups) new one
          (omega (arith, within, length-replicate (length slot.backups) new)))
          ∙ is);
    })
    (λ _. nowhere)

IsNowhere-verb : (phase : Phase) (slot : Slot) (write : Write) (word : ℕ) → write.fresh ≢ word → IsNowhere slot word
    → IsNowhere (apply slot (verb_at phase write)) word
IsNowhere-verb Gathering slot write word other nowhere =
    IsNowhere-swapped slot (length write.list) write.expected write.fresh word other nowhere
IsNowhere-verb (Mending place) slot write word other nowhere =
    IsNowhere-swapped slot place (slice_index write.list place) write.fresh word other nowhere
IsNowhere-verb Checking slot write word other nowhere = nowhere
IsNowhere-verb Deciding slot write word other nowhere =
    IsNowhere-decided slot write.expected write.fresh word other nowhere
IsNowhere-verb Waiting slot write word other nowhere = nowhere
IsNowhere-verb Left slot write word other nowhere = nowhere

IsNowhere-stepped : (state : State) (number : ℕ) (writer : Writer) → state.writers number ≡ writer → IsSound state
    → (mine : ℕ) (write : Write) → state.writers mine ≡ Writing write → mine ≢ number → IsNowhere state.slot write.fresh
    → IsNowhere (stepped state number writer).slot write.fresh
IsNowhere-stepped state number Idle here sound mine write is apart nowhere = nowhere
IsNowhere-stepped state number (Writing other) here sound mine write is apart nowhere =
    IsNowhere-verb other.phase state.slot other write.fresh
    (λ same. sound.apart mine number write other apart is here (sym same)) nowhere

-- a word that some replica holds is not one that is nowhere
not_held : (slot : Slot) (held word : ℕ) → IsHeld slot held → IsNowhere slot word → held ≢ word
not_held slot held word is nowhere same =
    elim is [
      | inl primary ↦ nowhere.absent.primary (sym same ∙ primary)
      | inr backup ↦ nowhere.absent.backups backup.0 backup.1 (sym same ∙ backup.2)
    ]

-- each event but the write's own verb leaves its word nowhere
pub IsNowhere-happens : (state : State) (event : Event) → IsSound state → MayHappen state event → (number : ℕ)
    (write : Write) → state.writers number ≡ Writing write → event ≢ Step number → IsNowhere state.slot write.fresh
    → IsNowhere (happens state event).slot write.fresh
IsNowhere-happens state (Begin other expected fresh) sound may number write is apart nowhere = nowhere
IsNowhere-happens state (Step other) sound may number write is apart nowhere =
    IsNowhere-stepped state other (state.writers other) refl sound number write is
    (λ same. apart (ap Step (sym same))) nowhere
IsNowhere-happens state (Leave other) sound may number write is apart nowhere = nowhere
IsNowhere-happens state (Quit other) sound may number write is apart nowhere = nowhere
IsNowhere-happens state (Copy place word) sound may number write is apart nowhere =
    let other = not_held state.slot word write.fresh may.1 nowhere in
    let none = not_set state.slot.backups place word write.fresh other
    (λ one within same. nowhere.absent.backups one within (sym same)) in
    record {
      absent = record { primary = nowhere.absent.primary; backups = λ one within same. none one within (sym same) };
      first = none;
    }
IsNowhere-happens state (Install backups word) sound may number write is apart nowhere =
    let other = not_held state.slot word write.fresh may.1 nowhere in
    let none : (one : ℕ) → one < length (replicate backups word) → slice_index (replicate backups word) one ≢ write.fresh =
    λ one within same.
    other (sym (slice_index-replicate backups word one (omega (arith, within, length-replicate backups word))) ∙ same) in
    record {
      absent = record { primary = λ same. other (sym same); backups = λ one within same. none one within (sym same) };
      first = none;
    }
