-- The class in a block's word, and what the writes of block words leave of it.
use Rattle.std.proofs.Common.{◌≡◌, ℕ, ◌+◌, ◌-◌, ◌<◌, ◌⊎◌, inl, inr, List, length, sym, ◌∙◌, ap, subst, arith}
use Rattle.std.specs.Prelude.{slice_set}
use Rattle.std.proofs.lemmas.Bool.{cases_lt}
use Rattle.block_claims.proofs.Soundness.{IsOwner}
use Rattle.block_claims.proofs.WordLemmas.{primary-backup, primary-written}
use Rattle.block_claims.specs.Claims.{owned, primary_of, released as free_word}
use Rattle.object_form.specs.declared.classes.TheConstants.{CLASSES}
use Rattle.object_division.specs.Claims.{IsOfClass, IsOpenTo}

-- a word is of one class
pub class-once : (word class other : ℕ) → class < CLASSES → other < CLASSES → IsOfClass word class → IsOfClass word other
    → class ≡ other
class-once word class other below below' (inl one) (inl two) = omega (arith, one, two)
class-once word class other below below' (inl one) (inr two) = omega (arith, one, two.1)
class-once word class other below below' (inr one) (inl two) = omega (arith, one.1, two)
class-once word class other below below' (inr one) (inr two) = omega (arith, one.1, two.1)

-- and that of an unused block of none
pub class-unused : {A : Type 0} (word class : ℕ) → word ≡ 0 → IsOfClass word class → A
class-unused word class unused (inl one) = absurd (omega (arith, unused, one))
class-unused word class unused (inr one) = absurd (omega (arith, unused, one.1))

-- ---- writes

-- a block that was unused, or released with the class, is owned for the class
pub class-claimed : (words : List ℕ) (number class other : ℕ) → 0 < length words → class < CLASSES → other < CLASSES
    → (primary_of words ≡ 0) ⊎ (primary_of words ≡ free_word class) → IsOfClass (primary_of words) other
    → IsOfClass (primary_of (slice_set words (length words - 1) (owned number class))) other
class-claimed words number class other some below below' (inl unused) is = class-unused (primary_of words) other unused is
class-claimed words number class other some below below' (inr free) is =
    let same = class-once (primary_of words) class other below below' (inl free) is in
    inr (number, primary-written words (owned number class) some ∙ ap (owned number) same)

-- a backup is written
pub class-backup : (words : List ℕ) (place word class : ℕ) → place + 1 < length words → IsOfClass (primary_of words) class
    → IsOfClass (primary_of (slice_set words place word)) class
class-backup words place word class backup is =
    subst (λ p. IsOfClass p class) (sym (primary-backup words place word backup)) is

-- a replica of a block that its client owns for the class is released with the class
pub class-released : (words : List ℕ) (number class replica other : ℕ) → IsOwner words number class → replica < length words
    → other < CLASSES → IsOfClass (primary_of words) other
    → IsOfClass (primary_of (slice_set words replica (free_word class))) other
class-released words number class replica other owner below below' is =
    elim (cases_lt (replica + 1) (length words)) [
      | inl backup ↦ class-backup words replica (free_word class) other backup is
      | inr last ↦
          let at : length words - 1 ≡ replica = omega (arith, below, last) in
          let same = class-once (primary_of words) class other owner.class_within below' (inr (number, owner.primary)) is in
          subst (λ k. IsOfClass (primary_of (slice_set words k (free_word class))) other) at
          (inl (primary-written words (free_word class) (omega (arith, below)) ∙ ap free_word same))
    ]

-- ---- what the words were before

-- a word of one class is of no other, and not that of an unused block
opened : {A : Type 0} (word class other : ℕ) → class < CLASSES → other < CLASSES → IsOfClass word class → IsOpenTo word other
    → (class ≡ other → A) → A
opened word class other below below' is (inl unused) go = class-unused word class unused is
opened word class other below below' is (inr also) go = go (class-once word class other below below' is also)

pub opened-claimed : (words : List ℕ) (number class other : ℕ) → 0 < length words → class < CLASSES → other < CLASSES
    → (primary_of words ≡ 0) ⊎ (primary_of words ≡ free_word class)
    → IsOpenTo (primary_of (slice_set words (length words - 1) (owned number class))) other → IsOpenTo (primary_of words) other
opened-claimed words number class other some below below' (inl unused) is = inl unused
opened-claimed words number class other some below below' (inr free) is =
    opened (primary_of (slice_set words (length words - 1) (owned number class))) class other below below'
    (inr (number, primary-written words (owned number class) some)) is (λ same. inr (inl (free ∙ ap free_word same)))

pub opened-backup : (words : List ℕ) (place word class : ℕ) → place + 1 < length words
    → IsOpenTo (primary_of (slice_set words place word)) class → IsOpenTo (primary_of words) class
opened-backup words place word class backup is =
    subst (λ p. IsOpenTo p class) (primary-backup words place word backup) is

pub opened-released : (words : List ℕ) (number class replica other : ℕ) → IsOwner words number class → replica < length words
    → other < CLASSES → IsOpenTo (primary_of (slice_set words replica (free_word class))) other
    → IsOpenTo (primary_of words) other
opened-released words number class replica other owner below below' is =
    elim (cases_lt (replica + 1) (length words)) [
      | inl backup ↦ opened-backup words replica (free_word class) other backup is
      | inr last ↦
          let at : replica ≡ length words - 1 = omega (arith, below, last) in
          let new = slice_set words (length words - 1) (free_word class) in
          let here : IsOpenTo (primary_of new) other =
          subst (λ k. IsOpenTo (primary_of (slice_set words k (free_word class))) other) at is in
          opened (primary_of new) class other owner.class_within below'
          (inl (primary-written words (free_word class) (omega (arith, below)))) here
          (λ same. inr (inr (number, owner.primary ∙ ap (owned number) same)))
    ]
