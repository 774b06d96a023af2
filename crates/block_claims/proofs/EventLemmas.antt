-- A block stays sound at each event.
use Rattle.std.proofs.Common.{◌≡◌, ◌≢◌, ℕ, ◌+◌, ◌-◌, ◌<◌, ◌≤◌, ◌⊎◌, ◌==◌, nat_lt, if◌then◌else◌, List, length, replicate, slice_index, slice_set, refl, sym, ◌∙◌, subst, arith, inl, inr, eq-eqb, ne_eqb}
use Rattle.std.proofs.lemmas.Bool.{cases_eq, cond_both, eqb-true, ltb-true, ltb-false}
use Rattle.std.proofs.lemmas.List.{get_or-replicate, length-replicate, length-set}
use Rattle.block_alloc.specs.declared.TheConstants.{CLASSES}
use Rattle.block_alloc.specs.BlockWord.{IsClient}
use Rattle.block_claims.specs.Allowed.{IsHeld, IsLeft, MayHappen}
use Rattle.block_claims.specs.Claims.{Stage, Out, Claiming, Spreading, Owning, Gained, Releasing, owned, primary_of, released, released_from, spreads_from, stage_for}
use Rattle.block_claims.specs.Holds.{IsAlike, IsOwnedBy}
use Rattle.block_claims.specs.Run.{Event, Look, Step, Leave, Release, Copy, Install, State, broken_off, happens, last_of, opening, put, stepped, with_stage, written}
use Rattle.block_claims.proofs.Soundness.{HaveWord, IsOwner, IsSound, IsSoundStage, IsSoundWords}
use Rattle.block_claims.proofs.WordLemmas.{IsNoOwner, IsNoOwner-claimable, IsNoOwner-other, IsOwner-kept, IsSoundStage-other, IsSoundWords-backup, at_set, primary-backup, primary-written}

slice_index-replicate : (replicas word place : ℕ) → place < length (replicate replicas word)
    → slice_index (replicate replicas word) place ≡ word
slice_index-replicate replicas word place within =
    get_or-replicate replicas place word 0 (omega (arith, length-replicate replicas word))

primary-replicate : (replicas word : ℕ) → 0 < replicas → primary_of (replicate replicas word) ≡ word
primary-replicate replicas word some =
    slice_index-replicate replicas word (length (replicate replicas word) - 1)
    (omega (arith, length-replicate replicas word))

pub IsSoundWords-replicate : (replicas word : ℕ) → 0 < replicas → IsSoundWords (replicate replicas word)
IsSoundWords-replicate replicas word some =
    record {
      some = omega (arith, length-replicate replicas word);
      alike = λ place within.
          inl (slice_index-replicate replicas word place within ∙ sym (primary-replicate replicas word some));
    }

pub IsSound-opening : (replicas : ℕ) → 0 < replicas → IsSound (opening replicas)
IsSound-opening replicas some = record { words = IsSoundWords-replicate replicas 0 some; stages = λ client. tt }

-- ---- one client moves

-- what holds of its new stage, and of the others' with the new words, holds of the stages then
IsSound-moved : (state : State) (words : List ℕ) (client : ℕ) (stage : Stage) → IsSoundWords words
    → IsSoundStage words client stage
    → ((other : ℕ) → client ≢ other → IsSoundStage words other (state.stages other))
    → IsSound (record { words = words; stages = put state.stages client stage })
IsSound-moved state words client stage sound own others =
    record {
      words = sound;
      stages = λ other.
          elim (cases_eq client other) [
            | inl same ↦ rw (eq-eqb client other same) (subst (λ c. IsSoundStage words c stage) same own)
            | inr apart ↦ rw (ne_eqb client other apart) (others other apart)
          ];
    }

-- only its stage changes
IsSound-staged : (state : State) (client : ℕ) (stage : Stage) → IsSound state → IsSoundStage state.words client stage
    → IsSound (with_stage state client stage)
IsSound-staged state client stage sound own =
    IsSound-moved state state.words client stage sound.words own (λ other apart. sound.stages other)

-- a word is written while the others do not own the block
IsSound-written : (state : State) (place word client : ℕ) (stage : Stage) → IsSound state
    → IsSoundWords (slice_set state.words place word) → IsSoundStage (slice_set state.words place word) client stage
    → ((other : ℕ) → client ≢ other → IsNoOwner state.words other)
    → IsSound (written state place word client stage)
IsSound-written state place word client stage sound words own none =
    IsSound-moved state (slice_set state.words place word) client stage words own
    (λ other apart.
    IsSoundStage-other state.words (slice_set state.words place word) other (state.stages other) (none other apart)
    (sound.stages other))

-- ---- a client looks

-- the owner writes its word to the backups from this one on; those before it have it
pub IsSoundStage-spreads : (words : List ℕ) (replicas client class backup : ℕ) → replicas ≡ length words
    → IsOwner words client class → HaveWord words backup (owned client class)
    → IsSoundStage words client (spreads_from replicas class backup)
IsSoundStage-spreads words replicas client class backup same owner have =
    cond_both (nat_lt (backup + 1) replicas) (Spreading class backup) (Owning class) (IsSoundStage words client)
    (λ less. (owner, omega (arith, ltb-true (backup + 1) replicas less, same), have))
    (λ last. (
      owner,
      λ place within.
          elim (cases_eq place (length words - 1)) [
            | inl primary ↦ rw primary owner.primary
            | inr apart ↦ have place (omega (arith, ltb-false (backup + 1) replicas last, same))
          ],
    ))

IsSoundStage-looked : (words : List ℕ) (client class : ℕ) → IsClient client → class < CLASSES
    → IsSoundStage words client (stage_for (length words) client class (primary_of words))
IsSoundStage-looked words client class is within =
    cond_both (primary_of words == 0) (Claiming class (primary_of words))
    (if primary_of words == released class then Claiming class (primary_of words)
    else (if primary_of words == owned client class then spreads_from (length words) class 0 else Out))
    (IsSoundStage words client)
    (λ unused. (is, within, inl (eqb-true (primary_of words) 0 unused)))
    (λ used.
    cond_both (primary_of words == released class) (Claiming class (primary_of words))
    (if primary_of words == owned client class then spreads_from (length words) class 0 else Out)
    (IsSoundStage words client)
    (λ free. (is, within, inr (eqb-true (primary_of words) (released class) free)))
    (λ taken.
    cond_both (primary_of words == owned client class) (spreads_from (length words) class 0) Out (IsSoundStage words client)
    (λ own.
    IsSoundStage-spreads words (length words) client class 0 refl
    (record { client_within = is; class_within = within; primary = eqb-true (primary_of words) (owned client class) own })
    (λ place below. absurd (omega arith)))
    (λ other. tt)))

-- ---- a client's claim

-- the primary has the client's word in place of one that may be claimed
pub IsSoundWords-claimed : (words : List ℕ) (client class : ℕ) → IsSoundWords words → IsClient client → class < CLASSES
    → (primary_of words ≡ 0) ⊎ (primary_of words ≡ released class)
    → IsSoundWords (slice_set words (length words - 1) (owned client class))
IsSoundWords-claimed words client class sound is within claimable =
    let new = slice_set words (length words - 1) (owned client class) in
    let primary = primary-written words (owned client class) sound.some in
    record {
      some = omega (arith, length-set words (length words - 1) (owned client class), sound.some);
      alike = λ place inside.
          at_set (λ w. IsAlike new w) words (length words - 1) place (owned client class) (omega (arith, sound.some))
          (λ same. inl (sym primary))
          (λ apart.
          elim (sound.alike place (omega (arith, length-set words (length words - 1) (owned client class)))) [
            | inl alike ↦ inr (client, class, is, within, primary, as_primary (slice_index words place) alike)
            | inr mixed ↦
                absurd
                (IsNoOwner-claimable words mixed.0 class within claimable mixed.1
                (record { client_within = mixed.2; class_within = mixed.3; primary = mixed.4 }))
          ]);
    }
  where
    as_primary : (word : ℕ) → word ≡ primary_of words → (word ≡ 0) ⊎ (word ≡ released class)
    as_primary word same =
        elim claimable [ inl unused ↦ inl (same ∙ unused) | inr free ↦ inr (same ∙ free) ]

IsSound-claimed : (state : State) (client class word : ℕ) → IsSound state → IsClient client → class < CLASSES
    → (word ≡ 0) ⊎ (word ≡ released class) → primary_of state.words ≡ word
    → IsSound (written state (last_of state) (owned client class) client (spreads_from (length state.words) class 0))
IsSound-claimed state client class word sound is within claimable found =
    let new = slice_set state.words (last_of state) (owned client class) in
    let may : (primary_of state.words ≡ 0) ⊎ (primary_of state.words ≡ released class) =
    elim claimable [ inl unused ↦ inl (found ∙ unused) | inr free ↦ inr (found ∙ free) ] in
    IsSound-written state (last_of state) (owned client class) client (spreads_from (length state.words) class 0) sound
    (IsSoundWords-claimed state.words client class sound.words is within may)
    (IsSoundStage-spreads new (length state.words) client class 0
    (sym (length-set state.words (last_of state) (owned client class)))
    (record {
      client_within = is;
      class_within = within;
      primary = primary-written state.words (owned client class) sound.words.some;
    })
    (λ place below. absurd (omega arith)))
    (λ other apart. IsNoOwner-claimable state.words other class within may)

-- one more backup has a word of the owner
pub HaveWord-more : (words : List ℕ) (backups word : ℕ) → backups < length words → HaveWord words backups word
    → HaveWord (slice_set words backups word) (backups + 1) word
HaveWord-more words backups word within have place below =
    at_set (λ w. w ≡ word) words backups place word within (λ same. refl) (λ apart. have place (omega arith))

IsSound-spread : (state : State) (client class backups : ℕ) → IsSound state
    → IsSoundStage state.words client (Spreading class backups)
    → IsSound (written state backups (owned client class) client (spreads_from (length state.words) class (backups + 1)))
IsSound-spread state client class backups sound is =
    let new = slice_set state.words backups (owned client class) in
    IsSound-written state backups (owned client class) client (spreads_from (length state.words) class (backups + 1)) sound
    (IsSoundWords-backup state.words client class backups (owned client class) sound.words is.0 is.1 (inl refl))
    (IsSoundStage-spreads new (length state.words) client class (backups + 1)
    (sym (length-set state.words backups (owned client class)))
    (IsOwner-kept state.words new client class (primary-backup state.words backups (owned client class) is.1) is.0)
    (HaveWord-more state.words backups (owned client class) (omega (arith, is.1)) is.2))
    (λ other apart. IsNoOwner-other state.words client other class is.0 apart)

-- ---- a release

IsSound-release_spread : (state : State) (client class backups : ℕ) → IsSound state
    → IsSoundStage state.words client (Releasing class backups) → backups + 1 < length state.words
    → IsSound (written state backups (released class) client (Releasing class (backups + 1)))
IsSound-release_spread state client class backups sound is backup =
    let new = slice_set state.words backups (released class) in
    IsSound-written state backups (released class) client (Releasing class (backups + 1)) sound
    (IsSoundWords-backup state.words client class backups (released class) sound.words is.0 backup (inr refl)) (
      IsOwner-kept state.words new client class (primary-backup state.words backups (released class) backup) is.0,
      omega (arith, length-set state.words backups (released class)),
      HaveWord-more state.words backups (released class) is.1 is.2,
    )
    (λ other apart. IsNoOwner-other state.words client other class is.0 apart)

-- every backup says that the block is released, and now the primary does
pub IsSoundWords-released : (words : List ℕ) (class backups word : ℕ) → IsSoundWords words → HaveWord words backups (released class)
    → length words ≤ backups + 1 → word ≡ released class → IsSoundWords (slice_set words (length words - 1) word)
IsSoundWords-released words class backups word sound have all is =
    record {
      some = omega (arith, length-set words (length words - 1) word, sound.some);
      alike = λ place within.
          at_set (λ w. IsAlike (slice_set words (length words - 1) word) w) words (length words - 1) place word
          (omega (arith, sound.some))
          (λ same. inl (sym (primary-written words word sound.some)))
          (λ apart.
          inl (have place (omega (arith, length-set words (length words - 1) word))
          ∙ (sym is ∙ sym (primary-written words word sound.some))));
    }

IsSound-released : (state : State) (client class backups : ℕ) → IsSound state
    → IsSoundStage state.words client (Releasing class backups) → length state.words ≤ backups + 1
    → IsSound (written state (last_of state) (released_from client class (primary_of state.words)) client Out)
IsSound-released state client class backups sound is all =
    let found : released_from client class (primary_of state.words) ≡ released class =
    rw (eq-eqb (primary_of state.words) (owned client class) is.0.primary) in
    IsSound-written state (last_of state) (released_from client class (primary_of state.words)) client Out sound
    (IsSoundWords-released state.words class backups (released_from client class (primary_of state.words)) sound.words is.2 all found)
    tt
    (λ other apart. IsNoOwner-other state.words client other class is.0 apart)

-- ---- a verb

pub IsSound-stepped : (state : State) (client : ℕ) (stage : Stage) → IsSound state
    → IsSoundStage state.words client stage → IsSound (stepped state client stage)
IsSound-stepped state client Out sound is = sound
IsSound-stepped state client (Claiming class word) sound is =
    cond_both (primary_of state.words == word)
    (written state (last_of state) (owned client class) client (spreads_from (length state.words) class 0))
    (with_stage state client Out) IsSound
    (λ found. IsSound-claimed state client class word sound is.0 is.1 is.2 (eqb-true (primary_of state.words) word found))
    (λ other. IsSound-staged state client Out sound tt)
IsSound-stepped state client (Spreading class backups) sound is = IsSound-spread state client class backups sound is
IsSound-stepped state client (Owning class) sound is = IsSound-staged state client (Gained class) sound is
IsSound-stepped state client (Gained class) sound is = sound
IsSound-stepped state client (Releasing class backups) sound is =
    cond_both (nat_lt (backups + 1) (length state.words))
    (written state backups (released class) client (Releasing class (backups + 1)))
    (written state (last_of state) (released_from client class (primary_of state.words)) client Out) IsSound
    (λ less. IsSound-release_spread state client class backups sound is (ltb-true (backups + 1) (length state.words) less))
    (λ last. IsSound-released state client class backups sound is (ltb-false (backups + 1) (length state.words) last))

IsSoundStage-broken_off : (words : List ℕ) (client : ℕ) (stage : Stage) → IsSoundStage words client stage
    → IsSoundStage words client (broken_off stage)
IsSoundStage-broken_off words client Out is = tt
IsSoundStage-broken_off words client (Claiming class word) is = tt
IsSoundStage-broken_off words client (Spreading class backups) is = tt
IsSoundStage-broken_off words client (Owning class) is = tt
IsSoundStage-broken_off words client (Gained class) is = is
IsSoundStage-broken_off words client (Releasing class backups) is = tt

-- ---- words are copied and installed while nobody is in the middle of a claim

-- a word that some replica holds, where the block is owned on every replica
held_owned : (words : List ℕ) (word client class : ℕ) → IsHeld words word → IsOwnedBy words client class
    → word ≡ owned client class
held_owned words word client class held owned_by = sym held.2 ∙ owned_by held.0 held.1

IsSoundStage-copied : (words : List ℕ) (place word client : ℕ) (stage : Stage) → place + 1 < length words → IsHeld words word
    → IsLeft stage → IsSoundStage words client stage → IsSoundStage (slice_set words place word) client stage
IsSoundStage-copied words place word client Out backup held is_left is = tt
IsSoundStage-copied words place word client (Claiming class found) backup held is_left is = absurd is_left
IsSoundStage-copied words place word client (Spreading class backups) backup held is_left is = absurd is_left
IsSoundStage-copied words place word client (Owning class) backup held is_left is = absurd is_left
IsSoundStage-copied words place word client (Gained class) backup held is_left is = (
  IsOwner-kept words (slice_set words place word) client class (primary-backup words place word backup) is.0,
  λ other within.
      at_set (λ w. w ≡ owned client class) words place other word (omega (arith, backup))
      (λ same. held_owned words word client class held is.1)
      (λ apart. is.1 other (omega (arith, length-set words place word))),
)
IsSoundStage-copied words place word client (Releasing class backups) backup held is_left is = absurd is_left

IsSoundWords-copied : (words : List ℕ) (place word : ℕ) → place + 1 < length words → IsHeld words word → IsSoundWords words
    → IsSoundWords (slice_set words place word)
IsSoundWords-copied words place word backup held sound =
    record {
      some = omega (arith, length-set words place word, sound.some);
      alike = λ other within.
          subst (λ p. IsAlikeTo p (slice_index (slice_set words place word) other)) (sym (primary-backup words place word backup))
          (at_set (λ w. IsAlike words w) words place other word (omega (arith, backup))
          (λ same. subst (λ w. IsAlike words w) held.2 (sound.alike held.0 held.1))
          (λ apart. sound.alike other (omega (arith, length-set words place word))));
    }
  where
    IsAlikeTo : ℕ → ℕ → Type 0
    IsAlikeTo primary w =
        (w ≡ primary)
        ⊎ ((one : ℕ) × (class : ℕ) × IsClient one × (class < CLASSES) × (primary ≡ owned one class)
        × ((w ≡ 0) ⊎ (w ≡ released class)))

IsSoundStage-installed : (words : List ℕ) (replicas word client : ℕ) (stage : Stage) → 0 < replicas → IsHeld words word
    → IsLeft stage → IsSoundStage words client stage → IsSoundStage (replicate replicas word) client stage
IsSoundStage-installed words replicas word client Out some held is_left is = tt
IsSoundStage-installed words replicas word client (Claiming class found) some held is_left is = absurd is_left
IsSoundStage-installed words replicas word client (Spreading class backups) some held is_left is = absurd is_left
IsSoundStage-installed words replicas word client (Owning class) some held is_left is = absurd is_left
IsSoundStage-installed words replicas word client (Gained class) some held is_left is =
    let same = held_owned words word client class held is.1 in (
      record {
        client_within = is.0.client_within;
        class_within = is.0.class_within;
        primary = primary-replicate replicas word some ∙ same;
      },
      λ place within. slice_index-replicate replicas word place within ∙ same,
    )
IsSoundStage-installed words replicas word client (Releasing class backups) some held is_left is = absurd is_left

-- ---- any event

pub IsSound-happens : (state : State) (event : Event) → MayHappen state event → IsSound state → IsSound (happens state event)
IsSound-happens state (Look client class) may sound =
    IsSound-staged state client (stage_for (length state.words) client class (primary_of state.words)) sound
    (IsSoundStage-looked state.words client class may.0 may.1)
IsSound-happens state (Step client) may sound = IsSound-stepped state client (state.stages client) sound (sound.stages client)
IsSound-happens state (Leave client) may sound =
    IsSound-staged state client (broken_off (state.stages client)) sound
    (IsSoundStage-broken_off state.words client (state.stages client) (sound.stages client))
IsSound-happens state (Release client class) may sound =
    IsSound-staged state client (Releasing class 0) sound
    (record { client_within = may.0; class_within = may.1; primary = may.2 }, sound.words.some, λ place below. absurd (omega arith))
IsSound-happens state (Copy place word) may sound =
    record {
      words = IsSoundWords-copied state.words place word may.0 may.1 sound.words;
      stages = λ client.
          IsSoundStage-copied state.words place word client (state.stages client) may.0 may.1 (may.2 client) (sound.stages client);
    }
IsSound-happens state (Install replicas word) may sound =
    record {
      words = IsSoundWords-replicate replicas word may.0;
      stages = λ client.
          IsSoundStage-installed state.words replicas word client (state.stages client) may.0 may.1 (may.2 client)
          (sound.stages client);
    }
