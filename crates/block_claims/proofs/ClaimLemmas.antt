-- The theorem on the owners of a block.
use Rattle.std.proofs.Common.{◌≡◌, ℕ, ◌<◌, ◌⊎◌, ◌==◌, List, [], ◌∷◌, length, refl, sym, ◌∙◌, ap, subst, inl, inr}
use Rattle.std.proofs.lemmas.Bool.{cond_both, eqb-true}
use Rattle.block_claims.specs.Allowed.{IsAllowed, MayHappen}
use Rattle.block_claims.specs.Claims.{Stage, Out, Claiming, Spreading, Owning, Gained, Releasing, owned, primary_of, spreads_from}
use Rattle.block_claims.specs.Holds.{Holds, HoldsAlong, IsInstalled, IsOwnedBy, IsReleased}
use Rattle.block_claims.specs.Run.{Event, Look, Step, Leave, Release, Copy, Install, State, happens, last_of, opening, stepped, with_stage, written}
use Rattle.block_claims.proofs.Soundness.{IsOwner, IsSound, IsSoundStage}
use Rattle.block_claims.proofs.WordLemmas.{claimable-owned, owned-same, primary-backup}
use Rattle.block_claims.proofs.EventLemmas.{IsSound-happens, IsSound-opening}

gained_owned : (state : State) (client class : ℕ) → IsSound state → state.stages client ≡ Gained class
    → IsOwner state.words client class × IsOwnedBy state.words client class
gained_owned state client class sound is = subst (λ stage. IsSoundStage state.words client stage) is (sound.stages client)

gained_once : (state : State) (client other class of_other : ℕ) → IsSound state → state.stages client ≡ Gained class
    → state.stages other ≡ Gained of_other → client ≡ other
gained_once state client other class of_other sound is is_other =
    let owner = (gained_owned state client class sound is).0 in
    let other_owner = (gained_owned state other of_other sound is_other).0 in
    (owned-same client other class of_other owner.client_within owner.class_within other_owner.client_within
    other_owner.class_within (sym owner.primary ∙ other_owner.primary)).0

-- ---- who changes the word of a block that is owned

-- a verb leaves the primary's word, or it is one of the owner's release
StaysBy : State → ℕ → ℕ → State → ℕ → Stage → Type 0
StaysBy state client class after other stage =
    (primary_of after.words ≡ owned client class)
    ⊎ ((client ≡ other) × ((of : ℕ) × (backups : ℕ) × (stage ≡ Releasing of backups)))

stays_stepped : (state : State) (client class other : ℕ) (stage : Stage) → IsOwner state.words client class
    → IsSoundStage state.words other stage → StaysBy state client class (stepped state other stage) other stage
unfolding StaysBy
stays_stepped state client class other Out owner is = inl owner.primary
stays_stepped state client class other (Claiming of word) owner is =
    cond_both (primary_of state.words == word)
    (written state (last_of state) (owned other of) other (spreads_from (length state.words) of 0))
    (with_stage state other Out) (λ after. StaysBy state client class after other (Claiming of word))
    (λ found.
    claimable-owned word client class of owner.client_within owner.class_within is.1 is.2
    (sym (eqb-true (primary_of state.words) word found) ∙ owner.primary))
    (λ no. inl owner.primary)
stays_stepped state client class other (Spreading of backups) owner is =
    inl (primary-backup state.words backups (owned other of) is.1 ∙ owner.primary)
stays_stepped state client class other (Owning of) owner is = inl owner.primary
stays_stepped state client class other (Gained of) owner is = inl owner.primary
stays_stepped state client class other (Releasing of backups) owner is =
    inr (
      (owned-same client other class of owner.client_within owner.class_within is.0.client_within is.0.class_within
          (sym owner.primary ∙ is.0.primary)).0,
      (of, backups, refl),
    )

stays_for : (state : State) (event : Event) (client class : ℕ) → MayHappen state event → IsSound state
    → IsOwner state.words client class
    → (primary_of (happens state event).words ≡ owned client class) ⊎ (IsReleased state event client ⊎ IsInstalled event)
unfolding StaysBy
stays_for state (Look other of) client class may sound owner = inl owner.primary
stays_for state (Step other) client class may sound owner =
    elim (stays_stepped state client class other (state.stages other) owner (sound.stages other)) [
      | inl still ↦ inl still
      | inr release ↦
          inr (inl (
            ap Step (sym release.0),
            subst (λ c. (of : ℕ) × (backups : ℕ) × (state.stages c ≡ Releasing of backups))
                (sym release.0) release.1,
          ))
    ]
stays_for state (Leave other) client class may sound owner = inl owner.primary
stays_for state (Release other of) client class may sound owner = inl owner.primary
stays_for state (Copy place word) client class may sound owner =
    inl (primary-backup state.words place word may.0 ∙ owner.primary)
stays_for state (Install replicas word) client class may sound owner = inr (inr (replicas, word, refl))

-- ---- each event

pub holds : (state : State) (event : Event) → MayHappen state event → IsSound state → Holds state event
holds state event may sound =
    let after = IsSound-happens state event may sound in
    record {
      owned_by = λ client class is. (gained_owned (happens state event) client class after is).1;
      one = λ client other class of_other is is_other.
          gained_once (happens state event) client other class of_other after is is_other;
      alike = after.words.alike;
      stays = λ client class is within primary.
          stays_for state event client class may sound
          (record { client_within = is; class_within = within; primary = primary });
    }

pub HoldsAlong-sound : (state : State) (events : List Event) → IsSound state → IsAllowed state events → HoldsAlong state events
HoldsAlong-sound state [] sound allowed = tt
HoldsAlong-sound state (event ∷ events) sound allowed = (
  holds state event allowed.0 sound,
  HoldsAlong-sound (happens state event) events (IsSound-happens state event allowed.0 sound) allowed.1,
)

pub HoldsAlong-opening : (replicas : ℕ) (events : List Event) → 0 < replicas → IsAllowed (opening replicas) events
    → HoldsAlong (opening replicas) events
HoldsAlong-opening replicas events some allowed =
    HoldsAlong-sound (opening replicas) events (IsSound-opening replicas some) allowed
