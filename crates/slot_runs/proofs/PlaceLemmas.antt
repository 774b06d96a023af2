-- The places of a slot are different words of the memory, and stay there on nodes that are not lost.
use Rattle.std.proofs.Common.{◌≡◌, ◌≢◌, ℕ, ◌+◌, ◌*◌, ◌<◌, ◌≤◌, false, true, List, [], ◌∷◌, length, get_or, sym, ap, ◌∙◌, arith, inl, inr}
use Rattle.std.specs.Prelude.{AllPairs}
use Rattle.std.proofs.lemmas.Bool.{cases_lt}
use Rattle.std.proofs.lemmas.List.{get_or-map, length-map}
use Rattle.machine.specs.EpochRead.{IsView}
use Rattle.machine.specs.Places.{Home, backup_count, place_at, slot_backup, slot_homes_of, slot_primary, with_shadow}
use Rattle.machine.proofs.PlacePairLemmas.{slot_homes_of-few}
use Rattle.machine.proofs.PlacesLemmas.{IsHome, backup_count-some, slot_homes_of-are, slot_homes_of-more}
use Rattle.region_view.proofs.PlacedLemmas.{replicas_of-different}
use Rattle.region_view.specs.Layout.{Slot}
use Rattle.region_view.specs.Placed.{Viewed, replicas_of}
use Rattle.region_view.specs.Sizes.{IsWithinLimits, Sizes}
use Rattle.slot_runs.specs.Allowed.{HasSlot, IsLive}
use Rattle.verb_words.proofs.AppliedLemmas.{HasPlace-words_after}
use Rattle.verb_words.proofs.WordsLemmas.{is_lost-with_word}
use Rattle.verb_words.specs.Applied.{words_after}
use Rattle.verb_words.specs.declared.verbs.Place.{Place}
use Rattle.verb_words.specs.declared.verbs.Verb.{Verb}
use Rattle.verb_words.specs.Verb.{place_of, word_after}
use Rattle.verb_words.specs.Words.{is_lost, word_at}

-- ---- different places

-- the slot on a node
abbrev home_on : ℕ → ℕ → Home
home_on slot node = (node, Slot slot)

-- two homes of a slot in order
homes_apart : (sizes : Sizes) (slot : ℕ) (nodes : List ℕ) → AllPairs (λ one other. one ≢ other) nodes → (i j : ℕ) → i < j → 0 < i
    → j < length (with_shadow slot nodes) → place_at sizes (with_shadow slot nodes) i ≢ place_at sizes (with_shadow slot nodes) j
homes_apart sizes slot [] apart i j order some within same = omega arith
homes_apart sizes slot (node ∷ []) apart i j order some within same = omega arith
homes_apart sizes slot (node ∷ other ∷ nodes) apart i j order some within same =
    let long = length-map nodes (home_on slot) in
    let one = get_or-map (home_on slot) (node ∷ other ∷ nodes) i 0 (0, Slot 0) (omega arith) in
    let two = get_or-map (home_on slot) (node ∷ other ∷ nodes) j 0 (0, Slot 0) (omega arith) in
    apart i j 0 order (omega arith)
    (sym (ap (λ (home : Home). home.0) one) ∙ (ap (λ (place : Place). place.node) same ∙ ap (λ (home : Home). home.0) two))

-- two backups of a slot stand at different places
pub backups_apart : (view : Viewed) (slot one other : ℕ) → IsWithinLimits view.shape → one < backup_count view slot
    → other < backup_count view slot → one ≢ other → slot_backup view slot one ≢ slot_backup view slot other
backups_apart view slot one other limits within inside apart same =
    let pairs = replicas_of-different view 0 limits in
    elim (cases_lt one other) [
      | inl less ↦ homes_apart view.shape slot (replicas_of view 0) pairs (one + 1) (other + 1) (omega arith) (omega arith) (omega arith) same
      | inr more ↦ homes_apart view.shape slot (replicas_of view 0) pairs (other + 1) (one + 1) (omega arith) (omega arith) (omega arith) (sym same)
    ]

-- a slot has one to four backups
pub backup_count-bounds : (view : Viewed) (slot : ℕ) → IsView view → (1 ≤ backup_count view slot) × (backup_count view slot ≤ 4)
backup_count-bounds view slot is = (backup_count-some view slot is, omega (arith, slot_homes_of-few view slot is.limits))

-- ---- they stand on memory nodes

home-on_node : (view : Viewed) (slot i : ℕ) → IsView view → slot < 24 * view.shape.groups → i < length (slot_homes_of view slot)
    → 0 ≢ (place_at view.shape (slot_homes_of view slot) i).node
home-on_node view slot i is below within zero =
    let home : IsHome view.shape (get_or (slot_homes_of view slot) i (0, Slot 0)) = slot_homes_of-are view slot is.limits below i (0, Slot 0) within in
    omega (arith, home.node.least, zero)

pub primary-on_node : (view : Viewed) (slot : ℕ) → IsView view → slot < 24 * view.shape.groups → 0 ≢ (slot_primary view slot).node
primary-on_node view slot is below = home-on_node view slot 0 is below (omega (arith, slot_homes_of-more view slot is))

pub backup-on_node : (view : Viewed) (slot backup : ℕ) → IsView view → slot < 24 * view.shape.groups → backup < backup_count view slot
    → 0 ≢ (slot_backup view slot backup).node
backup-on_node view slot backup is below within = home-on_node view slot (backup + 1) is below (omega arith)

-- ---- a verb on a memory node

-- it loses no node
pub is_lost-words_after : (nodes : List (List ℕ)) (verb : Verb) (node : ℕ) → is_lost nodes (place_of verb).node ≡ false
    → 0 ≢ (place_of verb).node → is_lost (words_after nodes verb true) node ≡ is_lost nodes node
is_lost-words_after nodes verb node live there =
    rw live (is_lost-with_word nodes (place_of verb) (word_after verb (word_at nodes (place_of verb))) node there)

pub IsLive-after : (nodes : List (List ℕ)) (verb : Verb) (place : Place) → is_lost nodes (place_of verb).node ≡ false
    → 0 ≢ (place_of verb).node → IsLive nodes place → IsLive (words_after nodes verb true) place
IsLive-after nodes verb place live there is =
    record {
      there = HasPlace-words_after nodes verb true place is.there;
      live = is_lost-words_after nodes verb place.node live there ∙ is.live;
    }

pub HasSlot-after : (view : Viewed) (slot : ℕ) (nodes : List (List ℕ)) (verb : Verb) → is_lost nodes (place_of verb).node ≡ false
    → 0 ≢ (place_of verb).node → HasSlot view slot nodes → HasSlot view slot (words_after nodes verb true)
HasSlot-after view slot nodes verb live there has =
    record {
      primary = IsLive-after nodes verb (slot_primary view slot) live there has.primary;
      backups = λ backup within. IsLive-after nodes verb (slot_backup view slot backup) live there (has.backups backup within);
    }
