-- What a verb on a word of the slot makes of the memory is what the small machine makes of its slot.
use Rattle.std.proofs.Common.{◌≡◌, ◌≢◌, ℕ, ◌<◌, ◌==◌, true, if◌then◌else◌, List, refl, sym, ◌∙◌, ap, subst, eq-eqb, ne_eqb}
use Rattle.machine.specs.Places.{backup_count, slot_backup, slot_primary}
use Rattle.machine.proofs.PlacePairLemmas.{primary_is_no_backup}
use Rattle.slot_rounds.specs.Slot as slots
use Rattle.slot_rounds.specs.Slot.{SwapBackup}
use Rattle.slot_runs.specs.Run.{State, backup_word, deciding, firsts_after}
use Rattle.slot_runs.specs.Allowed.{IsLive}
use Rattle.slot_runs.proofs.PlaceLemmas.{backups_apart, backup-on_node, primary-on_node}
use Rattle.slot_runs.proofs.Seen.{slot_seen, slot_with}
use Rattle.slot_runs.proofs.SlotLemmas.{AreFirstsAfter, slot_with-steady, slot_with-swap_backup, slot_with-swap_primary}
use Rattle.verb_words.proofs.AppliedLemmas.{word_at-words_after-other, word_at-words_after-same}
use Rattle.verb_words.specs.Applied.{words_after}
use Rattle.verb_words.specs.declared.verbs.Place.{Place}
use Rattle.verb_words.specs.declared.verbs.Verb.{Verb}
use Rattle.verb_words.specs.declared.verbs.Verb.TheVariants.{Read, Swap}
use Rattle.verb_words.specs.Verb.{place_of, word_after}
use Rattle.verb_words.specs.Words.{word_at}
use Rattle.slot_runs.proofs.Standing.{HaveApartFirsts, IsGround}

-- the words after a verb
abbrev pub words_by : State → Verb → List (List ℕ)
words_by state verb = words_after state.nodes verb true

-- the slot after it
abbrev pub slot_by : State → Verb → slots.Slot
slot_by state verb =
    slot_with (word_at (words_by state verb) (slot_primary state.view state.slot)) (backup_count state.view state.slot)
    (λ backup. word_at (words_by state verb) (slot_backup state.view state.slot backup))
    (firsts_after state (words_by state verb))

-- a verb finds its place, on a memory node that is not lost
pub record IsDue (state : State) (verb : Verb) : Type 0 where
  pub live : IsLive state.nodes (place_of verb)
  pub node : 0 ≢ (place_of verb).node

pub primary-due : (state : State) (verb : Verb) → IsGround state → place_of verb ≡ slot_primary state.view state.slot → IsDue state verb
primary-due state verb ground is =
    record {
      live = subst (IsLive state.nodes) (sym is) ground.has.primary;
      node = subst (λ (p : Place). 0 ≢ p.node) (sym is) (primary-on_node state.view state.slot ground.is_view ground.below);
    }

pub backup-due : (state : State) (verb : Verb) (backup : ℕ) → IsGround state → backup < backup_count state.view state.slot
    → place_of verb ≡ slot_backup state.view state.slot backup → IsDue state verb
backup-due state verb backup ground within is =
    record {
      live = subst (IsLive state.nodes) (sym is) (ground.has.backups backup within);
      node = subst (λ (p : Place). 0 ≢ p.node) (sym is) (backup-on_node state.view state.slot backup ground.is_view ground.below within);
    }

-- what stands at its place then
left_there : (state : State) (verb : Verb) → IsDue state verb
    → word_at (words_by state verb) (place_of verb) ≡ word_after verb (word_at state.nodes (place_of verb))
left_there state verb due = word_at-words_after-same state.nodes verb true due.live.there due.live.live

-- what stands elsewhere
left_elsewhere : (state : State) (verb : Verb) (place : Place) → place ≢ place_of verb
    → word_at (words_by state verb) place ≡ word_at state.nodes place
left_elsewhere state verb place other = word_at-words_after-other state.nodes verb true place other

-- where the primary keeps its word the round goes on
goes_on : (state : State) (verb : Verb)
    → word_at (words_by state verb) (slot_primary state.view state.slot) ≡ deciding state
    → AreFirstsAfter (deciding state) (backup_count state.view state.slot) (backup_word state)
    (λ backup. word_at (words_by state verb) (slot_backup state.view state.slot backup))
    state.firsts (firsts_after state (words_by state verb))
goes_on state verb same backup within =
    rw (eq-eqb (word_at (words_by state verb) (slot_primary state.view state.slot)) (deciding state) same) refl

-- the slot by another deciding word
slot_by-deciding : (state : State) (verb : Verb) (word : ℕ)
    → word_at (words_by state verb) (slot_primary state.view state.slot) ≡ word
    → slot_by state verb
    ≡ slot_with word (backup_count state.view state.slot)
    (λ backup. word_at (words_by state verb) (slot_backup state.view state.slot backup)) (firsts_after state (words_by state verb))
slot_by-deciding state verb word is =
    ap (λ w. slot_with w (backup_count state.view state.slot)
    (λ backup. word_at (words_by state verb) (slot_backup state.view state.slot backup)) (firsts_after state (words_by state verb))) is

-- a verb on the primary leaves the backups
backups_stay : (state : State) (verb : Verb) → IsGround state → place_of verb ≡ slot_primary state.view state.slot
    → (backup : ℕ) → backup < backup_count state.view state.slot
    → word_at (words_by state verb) (slot_backup state.view state.slot backup) ≡ backup_word state backup
backups_stay state verb ground is backup within =
    left_elsewhere state verb (slot_backup state.view state.slot backup)
    (λ same. primary_is_no_backup state.view state.slot backup ground.is_view.limits within (same ∙ is))

-- a read of the primary
pub slot_by-read : (state : State) → IsGround state
    → slot_by state (Read (slot_primary state.view state.slot)) ≡ slot_seen state
slot_by-read state ground =
    let verb = Read (slot_primary state.view state.slot) in
    let due = primary-due state verb ground refl in
    let same : word_at (words_by state verb) (slot_primary state.view state.slot) ≡ deciding state = left_there state verb due in
    slot_by-deciding state verb (deciding state) same
    ∙ slot_with-steady (deciding state) (backup_count state.view state.slot) (backup_word state)
    (λ backup. word_at (words_by state verb) (slot_backup state.view state.slot backup))
    state.firsts (firsts_after state (words_by state verb)) (backups_stay state verb ground refl) (goes_on state verb same)

-- a swap of a backup
pub slot_by-swap_backup : (state : State) (place old new : ℕ) → IsGround state → place < backup_count state.view state.slot
    → new ≢ deciding state → HaveApartFirsts state
    → slot_by state (Swap (slot_backup state.view state.slot place) old new)
    ≡ slots.apply (slot_seen state) (SwapBackup place old new)
slot_by-swap_backup state place old new ground within fresh apart =
    let limits = ground.is_view.limits in
    let verb = Swap (slot_backup state.view state.slot place) old new in
    let due = backup-due state verb place ground within refl in
    let same : word_at (words_by state verb) (slot_primary state.view state.slot) ≡ deciding state =
    left_elsewhere state verb (slot_primary state.view state.slot)
    (λ is. primary_is_no_backup state.view state.slot place limits within (sym is)) in
    slot_by-deciding state verb (deciding state) same
    ∙ slot_with-swap_backup (deciding state) (backup_count state.view state.slot) place old new (backup_word state)
    (λ backup. word_at (words_by state verb) (slot_backup state.view state.slot backup))
    state.firsts (firsts_after state (words_by state verb))
    (record {
      within = within;
      here = left_there state verb due;
      there = λ backup inside differs. left_elsewhere state verb (slot_backup state.view state.slot backup)
          (backups_apart state.view state.slot backup place limits inside within differs);
    })
    (goes_on state verb same) fresh apart

-- a swap of the primary
pub slot_by-swap_primary : (state : State) (old new : ℕ) → IsGround state → new ≢ deciding state
    → slot_by state (Swap (slot_primary state.view state.slot) old new)
    ≡ slots.apply (slot_seen state) (slots.SwapPrimary old new)
slot_by-swap_primary state old new ground fresh =
    let verb = Swap (slot_primary state.view state.slot) old new in
    let due = primary-due state verb ground refl in
    let made : word_at (words_by state verb) (slot_primary state.view state.slot) ≡ (if deciding state == old then new else deciding state) =
    left_there state verb due in
    slot_by-deciding state verb (if deciding state == old then new else deciding state) made
    ∙ slot_with-swap_primary (deciding state) (backup_count state.view state.slot) old new (backup_word state)
    (λ backup. word_at (words_by state verb) (slot_backup state.view state.slot backup))
    state.firsts (firsts_after state (words_by state verb)) (backups_stay state verb ground refl)
    (λ found backup inside.
    let now : word_at (words_by state verb) (slot_primary state.view state.slot) ≡ new = made ∙ rw (eq-eqb (deciding state) old found) refl in
    rw (ne_eqb (word_at (words_by state verb) (slot_primary state.view state.slot)) (deciding state) (λ is. fresh (sym now ∙ is))) refl)
    (λ differs. goes_on state verb (made ∙ rw (ne_eqb (deciding state) old differs) refl))
