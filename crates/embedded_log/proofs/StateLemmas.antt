-- Where the links lie that a walk reads.
use Rattle.std.proofs.Common.{◌≡◌, ℕ, ◌+◌, ◌^◌, ◌<◌, sym, subst, arith}
use Rattle.machine.specs.LinkWalk.{IsLinkWalk, IsPointer, LinkWalk, next}
use Rattle.machine.specs.Places.{IsInPool, object_word, primary_place}
use Rattle.machine.proofs.LinkWalkKept.{next-inside}
use Rattle.machine.proofs.ObjectNamesLemmas.{names_object-says}
use Rattle.key_test.proofs.StateLemmas.{first_word-has}
use Rattle.region_view.specs.Layout.{HasWord}
use Rattle.region_view.specs.Placed.{Viewed}
use Rattle.region_view.specs.Sizes.{Sizes}
use Rattle.verb_words.specs.declared.verbs.Place.{Place}
use Rattle.verb_words.specs.declared.verbs.Verb.{Verb}
use Rattle.verb_words.specs.Verb.{place_of}

pub pointer-low : (sizes : Sizes) (class pointer : ℕ) → IsPointer sizes class pointer → pointer < 2 ^ 28
pointer-low sizes class pointer is = (names_object-says sizes class pointer is.named).below

pub pointer-has : (sizes : Sizes) (class pointer : ℕ) → IsPointer sizes class pointer → HasWord sizes (object_word pointer 0)
pointer-has sizes class pointer is = first_word-has sizes (record { pointer = pointer; class = class }) is

-- an object's place is that of its first word
pub first-place : (view : Viewed) (pointer : ℕ) (place : Place) → ((i : ℕ) → primary_place view (object_word pointer i) ≡ record { node = place.node; at = place.at + i }) → place ≡ primary_place view (object_word pointer 0)
first-place view pointer place words =
    let P : ℕ → Type 0 = λ at. primary_place view (object_word pointer 0) ≡ record { node = place.node; at = at } in
    let same : place.at + 0 ≡ place.at = omega arith in
    sym (subst P same (words 0))

-- the verb that is due goes to a place of the pool
pub due-inside : (walk now : LinkWalk) (verb : Verb) → IsLinkWalk walk.view walk → walk ≡ now → verb ≡ next now → IsInPool now.view.shape (place_of verb)
due-inside walk now verb held is due =
    let Q : LinkWalk → Type 0 = λ w. IsLinkWalk w.view w in
    let P : Verb → Type 0 = λ v. IsInPool now.view.shape (place_of v) in
    subst P (sym due) (next-inside now.view now (subst Q is held))
