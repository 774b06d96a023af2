-- The walk along a client's links of a class: from the head word to the object whose link is followed by no newer one.
use Rattle.std.specs.Prelude.{◌≡◌, ℕ, ◌<◌, ◌≤◌, Bool, ◌&&◌, ◌==◌, nat_lt, if◌then◌else◌, Option, Some, None, IfSome}
use Rattle.std.specs.Option.{option_and_then, option_map_or}
use Rattle.machine.specs.declared.link_walk.Walked.{Walked}
use Rattle.machine.specs.declared.link_walk.Walked.TheVariants.{Going, End, Refused}
use Rattle.machine.specs.EpochRead.{IsView}
use Rattle.machine.specs.ObjectNames.{IsObject, names_object}
use Rattle.machine.specs.Places.{control, object_word, primary_place}
use Rattle.machine.specs.Turn.{Turn}
use Rattle.object_form.specs.declared.classes.TheConstants.{CLASSES}
use Rattle.object_form.specs.declared.links.Link.{Link}
use Rattle.object_form.specs.Link.{link_in}
use Rattle.region_view.specs.Control.{Head}
use Rattle.region_view.specs.Placed.{Viewed}
use Rattle.region_view.specs.Sizes.{Sizes}
use Rattle.verb_words.specs.declared.verbs.Answer.{Answer}
use Rattle.verb_words.specs.declared.verbs.Answer.TheVariants.{Word, Done, Lost}
use Rattle.verb_words.specs.declared.verbs.Verb.{Verb}
use Rattle.verb_words.specs.declared.verbs.Verb.TheVariants.{Read}
use Rattle.verb_words.specs.Verb.{place_of}

-- AtHead: reads the class's head word. AtObject: reads the link of the object that a pointer names
pub data Phase : Type 0 where
  AtHead : Phase
  AtObject : (pointer : ℕ) → Phase

-- last is the object whose link was the newest so far, with the number of its call
pub record LinkWalk : Type 0 where
  pub view : Viewed
  pub client : ℕ
  pub class : ℕ
  pub last : Option (ℕ × ℕ)
  pub phase : Phase

abbrev pub link_walk_of : Viewed → ℕ → ℕ → LinkWalk
link_walk_of view client class = record { view = view; client = client; class = class; last = None; phase = AtHead }

abbrev pub verb_at : Phase → LinkWalk → Verb
verb_at AtHead walk = Read (control (Head walk.client walk.class))
verb_at (AtObject pointer) walk = Read (primary_place walk.view (object_word pointer 0))

abbrev pub next : LinkWalk → Verb
next walk = verb_at walk.phase walk

abbrev pub goes_to : LinkWalk → Phase → Turn LinkWalk Walked
goes_to walk phase = record { state = record walk { phase = phase }; told = Going }

abbrev pub tells : LinkWalk → Walked → Turn LinkWalk Walked
tells walk told = record { state = walk; told = told }

-- the walk ends, with this reserve
abbrev pub ends : LinkWalk → Option ℕ → Turn LinkWalk Walked
ends walk reserve = tells walk (End walk.last reserve)

-- the head word or a link names the next object; where it names none of the class, there is no reserve
abbrev pub reaches : LinkWalk → ℕ → Turn LinkWalk Walked
reaches walk pointer =
    if names_object walk.view.shape walk.class pointer then goes_to walk (AtObject pointer) else ends walk None

-- the number of the newest call so far, 0 before there is one
abbrev pub last_call : LinkWalk → ℕ
last_call walk = option_map_or (λ last. last.1) walk.last 0

-- whether a link is the client's, of a call after the one before
abbrev pub is_newer : LinkWalk → Link → Bool
is_newer walk link = (link.client == walk.client) && nat_lt (last_call walk) link.call

abbrev pub newer : LinkWalk → Link → Option Link
newer walk link = if is_newer walk link then Some link else None

-- the link that a word says, if the walk goes on by it
abbrev pub newer_link : LinkWalk → ℕ → Option Link
newer_link walk found = option_and_then (newer walk) (link_in found)

-- the object is the client's last so far, and its link names the next one
abbrev pub follows : LinkWalk → ℕ → Link → Turn LinkWalk Walked
follows walk pointer link = reaches (record walk { last = Some (pointer, link.call) }) link.next

-- an object without a newer link is the reserve
abbrev pub turn_at : Phase → LinkWalk → ℕ → Turn LinkWalk Walked
turn_at AtHead walk found = reaches walk found
turn_at (AtObject pointer) walk found =
    option_map_or (follows walk pointer) (newer_link walk found) (ends walk (Some pointer))

abbrev pub turn : LinkWalk → Answer → Turn LinkWalk Walked
turn walk (Word found) = turn_at walk.phase walk found
turn walk Done = record { state = walk; told = Going }
turn walk Lost = tells walk (Refused (place_of (next walk)).node)

-- a pointer to an object of a class
abbrev pub IsPointer : Sizes → ℕ → ℕ → Type 0
IsPointer sizes class pointer = IsObject sizes (record { pointer = pointer; class = class })

abbrev pub IsLast : Sizes → ℕ → Option (ℕ × ℕ) → Type 0
IsLast sizes class last = IfSome last (λ found. IsPointer sizes class found.0)

abbrev pub IsReserve : Sizes → ℕ → Option ℕ → Type 0
IsReserve sizes class reserve = IfSome reserve (IsPointer sizes class)

-- each object that is read is one of the class
abbrev pub IsAt : Phase → Sizes → ℕ → Type 0
IsAt AtHead sizes class = Unit {0}
IsAt (AtObject pointer) sizes class = IsPointer sizes class pointer

-- what holds of each walk under a view
pub record IsLinkWalk (view : Viewed) (walk : LinkWalk) : Type 0 where
  pub held : walk.view ≡ view
  pub is_view : IsView walk.view
  pub client : (1 ≤ walk.client) × (walk.client ≤ walk.view.shape.clients)
  pub class : walk.class < CLASSES
  pub last : IsLast walk.view.shape walk.class walk.last
  pub phase : IsAt walk.phase walk.view.shape walk.class
