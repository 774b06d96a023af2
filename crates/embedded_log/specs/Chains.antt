-- The links that a client's calls leave in objects of a class, and a walk over a memory that has them.
use Rattle.std.specs.Prelude.{◌≡◌, ◌≢◌, ℕ, zero, suc, ◌<◌, ◌≤◌, ◌⊎◌, ◌==◌, if◌then◌else◌, List, [], ◌∷◌, filter, All, Option, Some, None, IfSome}
use Rattle.std.specs.List.{Contains}
use Rattle.machine.specs.declared.link_walk.Walked.{Walked}
use Rattle.machine.specs.declared.link_walk.Walked.TheVariants.{Going, End, Refused}
use Rattle.machine.specs.LinkWalk.{IsPointer, LinkWalk, next, turn}
use Rattle.machine.specs.Places.{control, object_word, primary_place}
use Rattle.machine.specs.Turn.{Turn}
use Rattle.object_form.specs.Link.{link_in, word_of_link}
use Rattle.region_view.specs.Control.{Head}
use Rattle.region_view.specs.Placed.{Viewed}
use Rattle.region_view.specs.Sizes.{Sizes}
use Rattle.verb_words.specs.declared.verbs.Answer.TheVariants.{Word}
use Rattle.verb_words.specs.declared.verbs.Place.{Place}
use Rattle.verb_words.specs.Verb.{place_of}

-- a link that a call made: in the object that it took, naming the one that its client takes next, or 0
pub record Linked : Type 0 where
  pub call : ℕ
  pub object : ℕ
  pub next : ℕ

-- links in the order of their calls, after this call, the first in the object that this pointer names: each is in the object
-- that the one before names. What the last one names is an object of the class, or none
abbrev pub IsChain : Sizes → ℕ → ℕ → ℕ → List Linked → Type 0
IsChain sizes class call pointer [] = (pointer ≡ 0) ⊎ IsPointer sizes class pointer
IsChain sizes class call pointer (link ∷ links) =
    (call < link.call)
    × (link.call ≤ sizes.calls)
    × (link.object ≡ pointer)
    × IsPointer sizes class pointer
    × IsChain sizes class link.call link.next links

-- of some links, the one with the greatest call number
pub record IsNewest (links : List Linked) (newest : Linked) : Type 0 where
  pub is : Contains links newest
  pub most : All (λ link. link.call ≤ newest.call) links

-- the links that were made in an object
abbrev pub links_in : ℕ → List Linked → List Linked
links_in pointer links = filter (λ link. link.object == pointer) links

abbrev pub word_of : ℕ → Linked → ℕ
word_of client link = word_of_link (record { client = client; call = link.call; next = link.next })

-- a word says no link of the client
abbrev pub SaysNone : ℕ → ℕ → Type 0
SaysNone client word = IfSome (link_in word) (λ link. link.client ≢ client)

abbrev pub head_word : (Place → ℕ) → ℕ → ℕ → ℕ
head_word words client class = words (control (Head client class))

abbrev pub link_word : (Place → ℕ) → Viewed → ℕ → ℕ
link_word words view pointer = words (primary_place view (object_word pointer 0))

-- a memory has these links of a client: they begin at the object of the head word, and each object has the newest of its
-- own. An object of the class without one has no link of the client
pub record HasLinks (words : Place → ℕ) (view : Viewed) (client class : ℕ) (links : List Linked) : Type 0 where
  pub few : (1 ≤ client) × (client ≤ view.shape.clients)
  pub chain : IsChain view.shape class 0 (head_word words client class) links
  pub newest : (pointer : ℕ) (link : Linked) → IsNewest (links_in pointer links) link → link_word words view pointer ≡ word_of client link
  pub none : (pointer : ℕ) → IsPointer view.shape class pointer → links_in pointer links ≡ [] → SaysNone client (link_word words view pointer)

-- the object that a link names, if it names one
abbrev pub named : ℕ → Option ℕ
named pointer = if pointer == 0 then None else Some pointer

-- a walk's verb is answered with the word at its place
abbrev pub turn_over : (Place → ℕ) → LinkWalk → Turn LinkWalk Walked
turn_over words walk = turn walk (Word (words (place_of (next walk))))

abbrev pub or_later : Walked → Walked → Walked
or_later Going later = later
or_later (End last reserve) later = End last reserve
or_later (Refused node) later = Refused node

-- what a walk over a memory tells within so many verbs
abbrev pub walk_over : (Place → ℕ) → ℕ → LinkWalk → Walked
walk_over words zero walk = Going
walk_over words (suc verbs) walk = or_later (turn_over words walk).told (walk_over words verbs (turn_over words walk).state)
