-- The words of a block on its replicas, and which verbs change them.
use Rattle.std.proofs.Common.{◌≡◌, ◌≢◌, ℕ, ◌-◌, ◌<◌, ◌≤◌, ◌⊎◌, false, List, length, map, refl, sym, ◌∙◌, ap, subst, arith, inl, inr, zero-add, length-set, get_or-set_other, get_or-set_same}
use Rattle.std.specs.Prelude.{slice_index, slice_set}
use Rattle.std.specs.List.{range_with_len}
use Rattle.std.proofs.lemmas.Bool.{cases_eq}
use Rattle.std.proofs.lemmas.Grind.{same_number_lists}
use Rattle.std.proofs.lemmas.List.FromFn.{get_or-map-range_with_len, length-map-range_with_len}
use Rattle.block_claims.specs.Claims.{primary_of}
use Rattle.machine.proofs.PlacesLemmas.{replica_count-some}
use Rattle.machine.specs.EpochRead.{IsView}
use Rattle.machine.specs.Places.{control, primary_place, replica_count, written_place}
use Rattle.region_view.specs.Control.{ControlWord}
use Rattle.region_view.specs.Layout.{BlockWord, Bitmap}
use Rattle.region_view.specs.Placed.{Viewed}
use Rattle.verb_words.proofs.AppliedLemmas.{word_at-words_after-other, word_at-words_after-same}
use Rattle.verb_words.proofs.WordsLemmas.{with_word-word_at}
use Rattle.verb_words.specs.declared.verbs.Place.{Place}
use Rattle.verb_words.specs.declared.verbs.Verb.{Verb}
use Rattle.verb_words.specs.declared.verbs.Verb.TheVariants.{Read}
use Rattle.verb_words.specs.Applied.{words_after}
use Rattle.verb_words.specs.Verb.{place_of, word_after}
use Rattle.verb_words.specs.Words.{HasPlace, word_at}
use Rattle.object_division.proofs.PlaceLemmas.{control-apart, primary_place-last, written_place-apart}

-- a block of the pool
pub record IsBlockOf (view : Viewed) (region block : ℕ) : Type 0 where
  pub region_within : (1 ≤ region) × (region ≤ view.shape.regions)
  pub block_within : block < view.shape.blocks

-- the block's place on a replica, in the order in which the replicas are written
abbrev pub block_place : Viewed → ℕ → ℕ → ℕ → Place
block_place view region block i = written_place view (BlockWord region block) i

abbrev pub block_count : Viewed → ℕ → ℕ → ℕ
block_count view region block = replica_count view (BlockWord region block)

-- its words, in this order
pub block_words : Viewed → List (List ℕ) → ℕ → ℕ → List ℕ
block_words view words region block =
    map (λ i. word_at words (block_place view region block i)) (range_with_len 0 (block_count view region block))

pub length-block_words : (view : Viewed) (words : List (List ℕ)) (region block : ℕ)
    → length (block_words view words region block) ≡ block_count view region block
unfolding block_words
length-block_words view words region block =
    length-map-range_with_len (λ i. word_at words (block_place view region block i)) 0 (block_count view region block)

pub block_words-at : (view : Viewed) (words : List (List ℕ)) (region block i : ℕ) → i < block_count view region block
    → slice_index (block_words view words region block) i ≡ word_at words (block_place view region block i)
unfolding block_words
block_words-at view words region block i within =
    get_or-map-range_with_len (λ k. word_at words (block_place view region block k)) 0 (block_count view region block) i i 0
    within (zero-add i)

pub block_count-some : (view : Viewed) (region block : ℕ) → IsView view → IsBlockOf view region block
    → 0 < block_count view region block
block_count-some view region block is within = replica_count-some view (BlockWord region block) is within.region_within.1

-- the primary's word is that at the primary's place
pub primary-block_words : (view : Viewed) (words : List (List ℕ)) (region block : ℕ) → IsView view → IsBlockOf view region block
    → primary_of (block_words view words region block) ≡ word_at words (primary_place view (BlockWord region block))
primary-block_words view words region block is within =
    let count = block_count view region block in
    let some = block_count-some view region block is within in
    ap (λ n. slice_index (block_words view words region block) (n - 1)) (length-block_words view words region block)
    ∙ (block_words-at view words region block (count - 1) (omega (arith, some))
    ∙ ap (word_at words) (sym (primary_place-last view (BlockWord region block))))

-- the words where none has changed
block_words-same : (view : Viewed) (words new : List (List ℕ)) (region block : ℕ)
    → ((i : ℕ) → i < block_count view region block
    → word_at new (block_place view region block i) ≡ word_at words (block_place view region block i))
    → block_words view new region block ≡ block_words view words region block
block_words-same view words new region block same =
    let long = length-block_words view words region block in
    let long_new = length-block_words view new region block in
    same_number_lists (block_words view new region block) (block_words view words region block) (long_new ∙ sym long)
    (λ i within.
    let inside : i < block_count view region block = omega arith in
    block_words-at view new region block i inside
    ∙ (same i inside ∙ sym (block_words-at view words region block i inside)))

-- ---- verbs elsewhere

-- the place is none of the block's
abbrev pub IsElsewhere : Viewed → ℕ → ℕ → Place → Type 0
IsElsewhere view region block place =
    (i : ℕ) → i < block_count view region block → block_place view region block i ≢ place

pub block_words-elsewhere : (view : Viewed) (words : List (List ℕ)) (region block : ℕ) (verb : Verb)
    → IsElsewhere view region block (place_of verb)
    → block_words view (words_after words verb false) region block ≡ block_words view words region block
block_words-elsewhere view words region block verb apart =
    block_words-same view words (words_after words verb false) region block
    (λ i within. word_at-words_after-other words verb false (block_place view region block i) (apart i within))

pub words_after-read : (words : List (List ℕ)) (place : Place) → words_after words (Read place) false ≡ words
words_after-read words place = with_word-word_at words place

pub IsElsewhere-control : (view : Viewed) (region block : ℕ) (word : ControlWord) → IsView view → IsBlockOf view region block
    → IsElsewhere view region block (control word)
IsElsewhere-control view region block word is within = λ i inside.
    control-apart view (BlockWord region block) i word is.limits
    (within.region_within.0, within.region_within.1, within.block_within) inside

no_bitmap : (region block other of_other : ℕ) → BlockWord region block ≡ Bitmap other of_other → ⊥
no_bitmap region block other of_other is = cc

pub IsElsewhere-bitmap : (view : Viewed) (region block other of_other j : ℕ) → IsView view → IsBlockOf view region block
    → IsBlockOf view other of_other → j < replica_count view (Bitmap other of_other)
    → IsElsewhere view region block (written_place view (Bitmap other of_other) j)
IsElsewhere-bitmap view region block other of_other j is within within' inside' = λ i inside same.
    no_bitmap region block other of_other
    ((written_place-apart view (BlockWord region block) (Bitmap other of_other) i j is.limits
    (within.region_within.0, within.region_within.1, within.block_within)
    (within'.region_within.0, within'.region_within.1, within'.block_within) inside inside' same).0)

same_block : (region block other of_other : ℕ) → BlockWord region block ≡ BlockWord other of_other
    → (region ≡ other) × (block ≡ of_other)
same_block region block other of_other is = (cc, cc)

-- two blocks are the same, or they differ
pub block_cases : (region block other of_other : ℕ)
    → ((region ≡ other) × (block ≡ of_other)) ⊎ (((region ≡ other) × (block ≡ of_other)) → ⊥)
block_cases region block other of_other =
    elim (cases_eq region other) [
      | inl same ↦
          elim (cases_eq block of_other) [ inl both ↦ inl (same, both) | inr apart ↦ inr (λ are. apart are.1) ]
      | inr apart ↦ inr (λ are. apart are.0)
    ]

pub IsElsewhere-block : (view : Viewed) (region block other of_other j : ℕ) → IsView view → IsBlockOf view region block
    → IsBlockOf view other of_other → j < block_count view other of_other
    → (((region ≡ other) × (block ≡ of_other)) → ⊥) → IsElsewhere view region block (block_place view other of_other j)
IsElsewhere-block view region block other of_other j is within within' inside' apart = λ i inside same.
    apart
    (same_block region block other of_other
    ((written_place-apart view (BlockWord region block) (BlockWord other of_other) i j is.limits
    (within.region_within.0, within.region_within.1, within.block_within)
    (within'.region_within.0, within'.region_within.1, within'.block_within) inside inside' same).0))

-- ---- a verb at one of its places

pub block_words-verb : (view : Viewed) (words : List (List ℕ)) (region block j : ℕ) (verb : Verb) → IsView view
    → IsBlockOf view region block → j < block_count view region block → place_of verb ≡ block_place view region block j
    → HasPlace words (place_of verb)
    → block_words view (words_after words verb false) region block
    ≡ slice_set (block_words view words region block) j (word_after verb (slice_index (block_words view words region block) j))
block_words-verb view words region block j verb is within inside at has =
    let new = words_after words verb false in
    let old = block_words view words region block in
    let word = word_after verb (slice_index old j) in
    let long = length-block_words view words region block in
    let long_new = length-block_words view new region block in
    let long_set = length-set old j word in
    same_number_lists (block_words view new region block) (slice_set old j word) (long_new ∙ (sym long ∙ sym long_set))
    (λ i below.
    let under : i < block_count view region block = omega arith in
    block_words-at view new region block i under
    ∙ elim (cases_eq i j) [
      | inl same ↦
          subst (λ k. word_at new (block_place view region block k) ≡ slice_index (slice_set old j word) k) (sym same)
          (subst (λ p. word_at new p ≡ slice_index (slice_set old j word) j) at
          (word_at-words_after-same words verb false has refl
          ∙ (ap (λ p. word_after verb (word_at words p)) at
          ∙ (ap (word_after verb) (sym (block_words-at view words region block j inside))
          ∙ sym (get_or-set_same old j word 0 (omega arith))))))
      | inr apart ↦
          word_at-words_after-other words verb false (block_place view region block i)
          (λ same.
          apart
          ((written_place-apart view (BlockWord region block) (BlockWord region block) i j is.limits
          (within.region_within.0, within.region_within.1, within.block_within)
          (within.region_within.0, within.region_within.1, within.block_within) under inside (same ∙ at)).1))
          ∙ (sym (block_words-at view words region block i under) ∙ sym (get_or-set_other old j i word 0 apart))
    ])
