-- A block's words when one of them is written, and what that leaves true of the other clients.
use Rattle.std.proofs.Common.{◌≡◌, ◌≢◌, ℕ, ◌+◌, ◌-◌, ◌<◌, ◌⊎◌, List, length, slice_index, slice_set, sym, ◌∙◌, subst, arith, inl, inr, get_or-set_other, get_or-set_same}
use Rattle.std.proofs.lemmas.Bool.{cases_eq}
use Rattle.std.proofs.lemmas.List.{length-set}
use Rattle.block_alloc.specs.declared.TheConstants.{CLASSES}
use Rattle.block_alloc.specs.BlockWord.{IsClient}
use Rattle.block_claims.specs.Claims.{Stage, Out, Claiming, Spreading, Owning, Gained, Releasing, owned, primary_of, released}
use Rattle.block_claims.specs.Holds.{IsAlike}
use Rattle.block_claims.proofs.Soundness.{IsOwner, IsSoundStage, IsSoundWords}

-- ---- words of blocks

-- a block is owned by one client at a time
pub owned-same : (client other class of_other : ℕ) → IsClient client → class < CLASSES → IsClient other → of_other < CLASSES
    → owned client class ≡ owned other of_other → (client ≡ other) × (class ≡ of_other)
owned-same client other class of_other is within is_other within_other same = (omega arith, omega arith)

-- what may be claimed is owned by nobody
pub claimable-owned : {A : Type 0} (word client class of_word : ℕ) → IsClient client → class < CLASSES → of_word < CLASSES
    → (word ≡ 0) ⊎ (word ≡ released of_word) → word ≡ owned client class → A
claimable-owned word client class of_word is within of_within (inl unused) same = absurd (omega arith)
claimable-owned word client class of_word is within of_within (inr free) same = absurd (omega arith)

-- ---- a word is written

pub at_set : (P : ℕ → Type 0) (words : List ℕ) (place other word : ℕ) → place < length words
    → (other ≡ place → P word) → (other ≢ place → P (slice_index words other)) → P (slice_index (slice_set words place word) other)
at_set P words place other word within here there =
    elim (cases_eq other place) [
      | inl same ↦ rw (same, get_or-set_same words place word 0 within) (here same)
      | inr apart ↦ rw (get_or-set_other words place other word 0 apart) (there apart)
    ]

-- the primary's word stays where a backup is written
pub primary-backup : (words : List ℕ) (place word : ℕ) → place + 1 < length words
    → primary_of (slice_set words place word) ≡ primary_of words
primary-backup words place word backup =
    rw (length-set words place word)
    (get_or-set_other words place (length words - 1) word 0 (λ last. omega (arith, last, backup)))

-- and is this one where the primary is written
pub primary-written : (words : List ℕ) (word : ℕ) → 0 < length words
    → primary_of (slice_set words (length words - 1) word) ≡ word
primary-written words word some =
    rw (length-set words (length words - 1) word) (get_or-set_same words (length words - 1) word 0 (omega arith))

-- the words stay sound where the owner of the block writes a backup: its own word, or that the block is released
pub IsSoundWords-backup : (words : List ℕ) (client class place word : ℕ) → IsSoundWords words → IsOwner words client class
    → place + 1 < length words → (word ≡ owned client class) ⊎ (word ≡ released class)
    → IsSoundWords (slice_set words place word)
IsSoundWords-backup words client class place word sound owner backup writes =
    let new = slice_set words place word in
    let primary = primary-backup words place word backup in
    record {
      some = omega (arith, length-set words place word, sound.some);
      alike = λ other within.
          at_set (λ w. IsAlike new w) words place other word (omega arith)
          (λ same.
          elim writes [
            | inl own ↦ inl (own ∙ sym (primary ∙ owner.primary))
            | inr free ↦
                inr (client, class, owner.client_within, owner.class_within, primary ∙ owner.primary, inr free)
          ])
          (λ apart.
          subst (λ p. (slice_index words other ≡ p) ⊎ ((one : ℕ) × (of : ℕ) × IsClient one × (of < CLASSES) × (p ≡ owned one of)
          × ((slice_index words other ≡ 0) ⊎ (slice_index words other ≡ released of)))) (sym primary)
          (sound.alike other (omega (arith, length-set words place word))));
    }

-- a client is the owner still where the primary's word stays
pub IsOwner-kept : (words new : List ℕ) (client class : ℕ) → primary_of new ≡ primary_of words → IsOwner words client class
    → IsOwner new client class
IsOwner-kept words new client class same owner =
    record {
      client_within = owner.client_within;
      class_within = owner.class_within;
      primary = same ∙ owner.primary;
    }

-- ---- the other clients

-- the client does not own the block, for whatever class
abbrev pub IsNoOwner : List ℕ → ℕ → Type 0
IsNoOwner words client = (class : ℕ) → IsOwner words client class → ⊥

-- a client that does not own the block has at most read it, and what it is at does not hang on the words
pub IsSoundStage-other : (words new : List ℕ) (client : ℕ) (stage : Stage) → IsNoOwner words client
    → IsSoundStage words client stage → IsSoundStage new client stage
IsSoundStage-other words new client Out none sound = tt
IsSoundStage-other words new client (Claiming class word) none sound = sound
IsSoundStage-other words new client (Spreading class backups) none sound = absurd (none class sound.0)
IsSoundStage-other words new client (Owning class) none sound = absurd (none class sound.0)
IsSoundStage-other words new client (Gained class) none sound = absurd (none class sound.0)
IsSoundStage-other words new client (Releasing class backups) none sound = absurd (none class sound.0)

-- where one client owns the block another one does not
pub IsNoOwner-other : (words : List ℕ) (client other class : ℕ) → IsOwner words client class → client ≢ other
    → IsNoOwner words other
IsNoOwner-other words client other class owner apart of_other owns =
    apart
    ((owned-same client other class of_other owner.client_within owner.class_within owns.client_within owns.class_within
    (sym owner.primary ∙ owns.primary)).0)

-- where the primary has a word that may be claimed nobody does
pub IsNoOwner-claimable : (words : List ℕ) (other class : ℕ) → class < CLASSES
    → (primary_of words ≡ 0) ⊎ (primary_of words ≡ released class) → IsNoOwner words other
IsNoOwner-claimable words other class within claimable of_other owns =
    claimable-owned (primary_of words) other of_other class owns.client_within owns.class_within within claimable owns.primary
