-- Words that are a function of a number, listed from 0 on; and a family of which one member has changed.
use Rattle.std.proofs.Common.{◌≡◌, ◌≢◌, ℕ, ◌<◌, ◌==◌, ◌⊎◌, Bool, true, false, if◌then◌else◌, List, length, map, slice_index, slice_set, replicate, refl, sym, ◌∙◌, subst, zero-add, arith, inl, inr, length-set, eq-eqb, ne_eqb}
use Rattle.std.specs.List.{range_with_len}
use Rattle.std.proofs.lemmas.Bool.{cases_eq}
use Rattle.std.proofs.lemmas.List.{ext_get_or, length-replicate}
use Rattle.std.proofs.lemmas.List.FromFn.{get_or-map-range_with_len, length-map-range_with_len}
use Rattle.slot_rounds.proofs.ListLemmas.{at_set, slice_index-replicate}
use Rattle.slot_runs.specs.Run.{put}

-- so many words of a family
abbrev pub listing : (ℕ → ℕ) → ℕ → List ℕ
listing family count = map family (range_with_len 0 count)

pub length-listing : (family : ℕ → ℕ) (count : ℕ) → length (listing family count) ≡ count
length-listing family count = length-map-range_with_len family 0 count

pub at_listing : (family : ℕ → ℕ) (count place : ℕ) → place < count → slice_index (listing family count) place ≡ family place
at_listing family count place within = get_or-map-range_with_len family 0 count place place 0 within (zero-add place)

-- families that agree have the same listing
pub listing-same : (one other : ℕ → ℕ) (count : ℕ) → ((place : ℕ) → place < count → one place ≡ other place)
    → listing one count ≡ listing other count
listing-same one other count agree =
    ext_get_or 0 (listing one count) (listing other count) (length-listing one count ∙ sym (length-listing other count))
    (λ place below.
    let within : place < count = omega (arith, length-listing one count) in
    at_listing one count place within ∙ (agree place within ∙ sym (at_listing other count place within)))

-- a family that differs at one place has the listing that is set there
pub listing-set : (one other : ℕ → ℕ) (count place word : ℕ) → place < count → other place ≡ word
    → ((elsewhere : ℕ) → elsewhere < count → elsewhere ≢ place → other elsewhere ≡ one elsewhere)
    → listing other count ≡ slice_set (listing one count) place word
listing-set one other count place word within here there =
    ext_get_or 0 (listing other count) (slice_set (listing one count) place word)
    (length-listing other count ∙ sym (length-set (listing one count) place word ∙ length-listing one count))
    (λ at below.
    let inside : at < count = omega (arith, length-listing other count) in
    at_set (λ w. slice_index (listing other count) at ≡ w) (listing one count) place at word (omega (arith, length-listing one count))
    (λ same. at_listing other count at inside ∙ subst (λ p. other p ≡ word) (sym same) here)
    (λ apart. at_listing other count at inside ∙ (there at inside apart ∙ sym (at_listing one count at inside))))

-- a family that is one word everywhere
pub listing-constant : (family : ℕ → ℕ) (count word : ℕ) → ((place : ℕ) → place < count → family place ≡ word)
    → listing family count ≡ replicate count word
listing-constant family count word same =
    ext_get_or 0 (listing family count) (replicate count word) (length-listing family count ∙ sym (length-replicate count word))
    (λ place below.
    let within : place < count = omega (arith, length-listing family count) in
    at_listing family count place within ∙ (same place within ∙ sym (slice_index-replicate count word place within)))

-- ---- one member

pub put_here : {A : Type 0} (family : ℕ → A) (number : ℕ) (member : A) → put family number member number ≡ member
put_here family number member = rw (eq-eqb number number refl) refl

pub put_there : {A : Type 0} (family : ℕ → A) (number : ℕ) (member : A) (other : ℕ) → number ≢ other
    → put family number member other ≡ family other
put_there family number member other apart = rw (ne_eqb number other apart) refl

-- a member is the one that was put, or another one that stands as before
pub at_put : {A : Type 0} (family : ℕ → A) (number : ℕ) (member : A) (other : ℕ) (is : A) → put family number member other ≡ is
    → ((number ≡ other) × (member ≡ is)) ⊎ ((number ≢ other) × (family other ≡ is))
at_put family number member other is at =
    elim (cases_eq number other) [
      | inl same ↦ inl (same, sym (subst (λ n. put family number member n ≡ member) same (put_here family number member)) ∙ at)
      | inr apart ↦ inr (apart, sym (put_there family number member other apart) ∙ at)
    ]

-- what is made of each member after one was put
pub made_of_put : {A B : Type 0} (make : A → B) (family : ℕ → A) (number : ℕ) (member : A) (other : ℕ)
    → make (put family number member other) ≡ put (λ n. make (family n)) number (make member) other
made_of_put make family number member other = by (number == other)
  where
    by : (test : Bool) → make (if test then member else family other) ≡ (if test then make member else make (family other))
    by true = refl
    by false = refl
