-- What a verb makes of the words of a slot is what the small machine makes of its slot.
use Rattle.std.proofs.Common.{◌≡◌, ◌≢◌, ℕ, ◌<◌, ◌==◌, ◌&&◌, not, Bool, true, false, if◌then◌else◌, List, slice_index, replicate, Option, Some, None, refl, sym, ◌∙◌, ap, ap₂, subst, inl, inr, eq-eqb, ne_eqb}
use Rattle.std.proofs.lemmas.Bool.{cases_eq, and_from, and_left, false≢true}
use Rattle.slot_rounds.specs.Slot.{Slot, apply, SwapBackup, SwapPrimary, firsts_after, swapped}
use Rattle.slot_runs.specs.Run.{first_after}
use Rattle.slot_runs.proofs.FamilyLemmas.{listing, length-listing, at_listing, listing-same, listing-set, listing-constant}
use Rattle.slot_runs.proofs.Seen.{first_seen, slot_with}

-- ---- the first word of one backup

-- a word that stays
pub first_after-same : (deciding word : ℕ) (first : Option ℕ) → first_after deciding first word word ≡ first
first_after-same deciding word (Some first) = refl
first_after-same deciding word None = by (word == deciding)
  where
    by : (test : Bool) → (if test && not test then Some word else None) ≡ None
    by true = refl
    by false = refl

-- a word that is not the deciding one is replaced
first_after-other : (deciding was is : ℕ) (first : Option ℕ) → was ≢ deciding → first_after deciding first was is ≡ first
first_after-other deciding was is (Some first) other = refl
first_after-other deciding was is None other = rw (ne_eqb was deciding other) refl

-- the deciding word is replaced
first_after-first : (deciding was is : ℕ) → was ≡ deciding → is ≢ deciding → first_after deciding None was is ≡ Some is
first_after-first deciding was is same other = rw (eq-eqb was deciding same, ne_eqb is deciding other) refl

-- a first word is not the deciding one, if none was
pub first_after-apart : (deciding was is word : ℕ) (first : Option ℕ) → ((one : ℕ) → first ≡ Some one → one ≢ deciding)
    → first_after deciding first was is ≡ Some word → word ≢ deciding
first_after-apart deciding was is word (Some first) apart made = apart word made
first_after-apart deciding was is word None apart made =
    by (was == deciding) (is == deciding) refl made
  where
    by : (one other : Bool) → (is == deciding) ≡ other → (if one && not other then Some is else None) ≡ Some word → word ≢ deciding
    by true true test is_made = absurd cc
    by true false test is_made = let same : is ≡ word = cc in λ so. absurd (false≢true (sym test ∙ eq-eqb is deciding (same ∙ so)))
    by false other test is_made = absurd cc

-- ---- the slot

slot_of : ℕ → List ℕ → List ℕ → Slot
slot_of primary backups firsts = record { primary = primary; backups = backups; firsts = firsts }

-- words and first words that stay
pub slot_with-same : (deciding count : ℕ) (one other : ℕ → ℕ) (firsts later : ℕ → Option ℕ)
    → ((backup : ℕ) → backup < count → other backup ≡ one backup)
    → ((backup : ℕ) → backup < count → later backup ≡ firsts backup)
    → slot_with deciding count other later ≡ slot_with deciding count one firsts
unfolding slot_of
slot_with-same deciding count one other firsts later words same =
    ap₂ (slot_of deciding) (listing-same other one count words)
    (listing-same (λ b. first_seen deciding (later b)) (λ b. first_seen deciding (firsts b)) count
    (λ backup within. ap (first_seen deciding) (same backup within)))

-- the words of the backups once a swap has gone to one of them
pub record IsSwapped (count place old new : ℕ) (one other : ℕ → ℕ) : Type 0 where
  pub within : place < count
  pub here : other place ≡ (if one place == old then new else one place)
  pub there : (backup : ℕ) → backup < count → backup ≢ place → other backup ≡ one backup

-- the first words, where the same word decides
abbrev pub AreFirstsAfter : ℕ → ℕ → (ℕ → ℕ) → (ℕ → ℕ) → (ℕ → Option ℕ) → (ℕ → Option ℕ) → Type 0
AreFirstsAfter deciding count one other firsts later =
    (backup : ℕ) → backup < count → later backup ≡ first_after deciding (firsts backup) (one backup) (other backup)

-- where no word changes, no first word does
firsts_stay : (deciding count : ℕ) (one other : ℕ → ℕ) (firsts later : ℕ → Option ℕ)
    → ((backup : ℕ) → backup < count → other backup ≡ one backup) → AreFirstsAfter deciding count one other firsts later
    → (backup : ℕ) → backup < count → later backup ≡ firsts backup
firsts_stay deciding count one other firsts later words after backup within =
    after backup within
    ∙ (ap (first_after deciding (firsts backup) (one backup)) (words backup within) ∙ first_after-same deciding (one backup) (firsts backup))

-- no word changes
pub slot_with-steady : (deciding count : ℕ) (one other : ℕ → ℕ) (firsts later : ℕ → Option ℕ)
    → ((backup : ℕ) → backup < count → other backup ≡ one backup) → AreFirstsAfter deciding count one other firsts later
    → slot_with deciding count other later ≡ slot_with deciding count one firsts
slot_with-steady deciding count one other firsts later words after =
    slot_with-same deciding count one other firsts later words (firsts_stay deciding count one other firsts later words after)

module _ (deciding count place old new : ℕ) (one other : ℕ → ℕ) (firsts later : ℕ → Option ℕ)
    (swap : IsSwapped count place old new one other) (after : AreFirstsAfter deciding count one other firsts later)
    (fresh : new ≢ deciding) (apart : (backup word : ℕ) → firsts backup ≡ Some word → word ≢ deciding) where
  slot : Slot
  slot = slot_with deciding count one firsts

  elsewhere : (backup : ℕ) → backup < count → backup ≢ place → later backup ≡ firsts backup
  elsewhere backup within differs =
      after backup within
      ∙ (ap (first_after deciding (firsts backup) (one backup)) (swap.there backup within differs) ∙ first_after-same deciding (one backup) (firsts backup))

  -- it does not find the word that it expects
  missed : one place ≢ old → (backup : ℕ) → backup < count → other backup ≡ one backup
  missed differs backup within =
      elim (cases_eq backup place) [
        | inl same ↦
            let here : other place ≡ one place = swap.here ∙ rw (ne_eqb (one place) old differs) refl in
            subst (λ b. other b ≡ one b) (sym same) here
        | inr apart_from ↦ swap.there backup within apart_from
      ]

  -- it finds it
  module _ (found : one place ≡ old) where
    put_there : other place ≡ new
    put_there = swap.here ∙ rw (eq-eqb (one place) old found) refl

    seen_firsts : ℕ → ℕ
    seen_firsts backup = first_seen deciding (firsts backup)

    seen_later : ℕ → ℕ
    seen_later backup = first_seen deciding (later backup)

    at_place : later place ≡ first_after deciding (firsts place) old new
    at_place = after place swap.within ∙ ap₂ (first_after deciding (firsts place)) found put_there

    -- what stands there as the first word, by what stood there before
    firsts_by : (first : Option ℕ) → firsts place ≡ first
        → listing seen_later count ≡ firsts_after slot place old new
    unfolding slot seen_firsts seen_later
    firsts_by (Some first) was =
        let is : slice_index (listing seen_firsts count) place ≡ first = at_listing seen_firsts count place swap.within ∙ ap (first_seen deciding) was in
        let none : (slice_index (listing seen_firsts count) place == deciding) ≡ false = ne_eqb _ deciding (λ same. apart place first was (sym is ∙ same)) in
        rw (and_right old none) (listing-same seen_later seen_firsts count (λ backup within.
        elim (cases_eq backup place) [
          | inl same ↦ subst (λ b. seen_later b ≡ seen_firsts b) (sym same) (ap (first_seen deciding) (at_place ∙ (ap (λ f. first_after deciding f old new) was ∙ sym was)))
          | inr differs ↦ ap (first_seen deciding) (elsewhere backup within differs)
        ]))
      where
        and_right : (w : ℕ) → (slice_index (listing seen_firsts count) place == deciding) ≡ false
            → (w == deciding && slice_index (listing seen_firsts count) place == deciding) ≡ false
        and_right w not_there = by (w == deciding)
          where
            by : (test : Bool) → (test && slice_index (listing seen_firsts count) place == deciding) ≡ false
            by true = not_there
            by false = refl
    firsts_by None was = elim (cases_eq old deciding) [
      | inl round ↦
          let is : slice_index (listing seen_firsts count) place ≡ deciding = at_listing seen_firsts count place swap.within ∙ ap (first_seen deciding) was in
          let both = and_from (old == deciding) (slice_index (listing seen_firsts count) place == deciding) (eq-eqb old deciding round) (eq-eqb _ deciding is) in
          rw both (listing-set seen_firsts seen_later count place new swap.within
          (ap (first_seen deciding) (at_place ∙ (ap (λ f. first_after deciding f old new) was ∙ first_after-first deciding old new round fresh)))
          (λ backup within differs. ap (first_seen deciding) (elsewhere backup within differs)))
      | inr late ↦
          let untaken = and_left (old == deciding) (slice_index (listing seen_firsts count) place == deciding) (ne_eqb old deciding late) in
          rw untaken (listing-same seen_later seen_firsts count (λ backup within.
          elim (cases_eq backup place) [
            | inl same ↦ subst (λ b. seen_later b ≡ seen_firsts b) (sym same) (ap (first_seen deciding) (at_place ∙ first_after-other deciding old new (firsts place) late))
            | inr differs ↦ ap (first_seen deciding) (elsewhere backup within differs)
          ]))
    ]

    found_swap : slot_with deciding count other later ≡ swapped slot place old new
    unfolding slot slot_of seen_firsts seen_later
    found_swap = ap₂ (slot_of deciding) (listing-set one other count place new swap.within put_there swap.there) (firsts_by (firsts place) refl)

  -- a swap of a backup
  pub slot_with-swap_backup : slot_with deciding count other later ≡ apply (slot_with deciding count one firsts) (SwapBackup place old new)
  unfolding slot
  slot_with-swap_backup = elim (cases_eq (one place) old) [
    | inl found ↦ rw (eq-eqb (slice_index (listing one count) place) old (at_listing one count place swap.within ∙ found)) (found_swap found)
    | inr differs ↦
        rw (ne_eqb (slice_index (listing one count) place) old (λ same. differs (sym (at_listing one count place swap.within) ∙ same)))
        (slot_with-steady deciding count one other firsts later (missed differs) after)
  ]

-- a swap of the primary to another word, which ends the round where it finds the word that it expects
pub slot_with-swap_primary : (deciding count old new : ℕ) (one other : ℕ → ℕ) (firsts later : ℕ → Option ℕ)
    → ((backup : ℕ) → backup < count → other backup ≡ one backup)
    → (deciding ≡ old → (backup : ℕ) → backup < count → later backup ≡ None)
    → (deciding ≢ old → AreFirstsAfter deciding count one other firsts later)
    → slot_with (if deciding == old then new else deciding) count other later ≡ apply (slot_with deciding count one firsts) (SwapPrimary old new)
unfolding slot_of
slot_with-swap_primary deciding count old new one other firsts later words anew stays =
    elim (cases_eq deciding old) [
      | inl found ↦
          rw (eq-eqb deciding old found)
          (ap₂ (slot_of new) (listing-same other one count words)
          (listing-constant (λ b. first_seen new (later b)) count new (λ backup within. ap (first_seen new) (anew found backup within))
          ∙ ap (λ n. replicate n new) (sym (length-listing one count))))
      | inr differs ↦
          rw (ne_eqb deciding old differs) (slot_with-steady deciding count one other firsts later words (stays differs))
    ]
