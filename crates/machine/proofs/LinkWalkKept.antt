-- A walk along links stays one, its verbs go to places of the pool, and what it ends with are objects of its class.
use Rattle.std.proofs.Common.{◌≡◌, ℕ, ◌<◌, ◌≤◌, Bool, true, false, Option, Some, None, refl, subst, arith}
use Rattle.machine.specs.declared.link_walk.Walked.{Walked}
use Rattle.machine.specs.declared.link_walk.Walked.TheVariants.{Going, End, Refused}
use Rattle.machine.specs.EpochRead.{IsView}
use Rattle.machine.specs.LinkWalk.{IsAt, IsLast, IsLinkWalk, IsPointer, IsReserve, LinkWalk, Phase, AtHead, AtObject, follows, link_walk_of, newer_link, next, reaches, tells, turn, turn_at, verb_at}
use Rattle.machine.specs.ObjectNames.{names_object}
use Rattle.machine.specs.Places.{IsInPool, object_word, primary_place}
use Rattle.machine.specs.Turn.{Turn}
use Rattle.machine.proofs.ObjectNamesLemmas.{object_word-has}
use Rattle.machine.proofs.PlacesLemmas.{control-inside, primary_place-inside}
use Rattle.object_form.proofs.ClassLemmas.{units_of-bounds}
use Rattle.object_form.specs.declared.classes.TheConstants.{CLASSES}
use Rattle.object_form.specs.declared.links.Link.{Link}
use Rattle.region_view.specs.Control.{Head}
use Rattle.region_view.specs.Placed.{Viewed}
use Rattle.region_view.specs.Sizes.{Sizes}
use Rattle.verb_words.specs.declared.verbs.Answer.{Answer}
use Rattle.verb_words.specs.declared.verbs.Answer.TheVariants.{Word, Done, Lost}
use Rattle.verb_words.specs.Verb.{place_of}

pub link_walk_of-is : (view : Viewed) (client class : ℕ) → IsView view → 1 ≤ client → client ≤ view.shape.clients → class < CLASSES → IsLinkWalk view (link_walk_of view client class)
link_walk_of-is view client class is least most below =
    record { held = refl; is_view = is; client = (least, most); class = below; last = tt; phase = tt }

-- what a walk tells names objects of the class
abbrev pub IsTold : Sizes → ℕ → Walked → Type 0
IsTold sizes class Going = Unit {0}
IsTold sizes class (End last reserve) = IsLast sizes class last × IsReserve sizes class reserve
IsTold sizes class (Refused node) = Unit {0}

-- a turn leaves a walk of its client and class, and what it tells names objects of the class
pub record IsKept (view : Viewed) (walk : LinkWalk) (turn : Turn LinkWalk Walked) : Type 0 where
  pub state : IsLinkWalk view turn.state
  pub client : turn.state.client ≡ walk.client
  pub class : turn.state.class ≡ walk.class
  pub told : IsTold view.shape walk.class turn.told

-- the same walk, with this told
tells-is : (view : Viewed) (walk : LinkWalk) (told : Walked) → IsLinkWalk view walk → IsTold view.shape walk.class told → IsKept view walk (tells walk told)
tells-is view walk told is says = record { state = is; client = refl; class = refl; told = says }

-- what holds in the view of a walk holds in the view that it is under
in_view : (view : Viewed) (walk : LinkWalk) (P : Sizes → Type 0) → IsLinkWalk view walk → P walk.view.shape → P view.shape
in_view view walk P is holds = let Q : Viewed → Type 0 = λ v. P v.shape in subst Q is.held holds

reaches-is : (view : Viewed) (walk : LinkWalk) (pointer : ℕ) → IsLinkWalk view walk → IsKept view walk (reaches walk pointer)
reaches-is view walk pointer is = by (names_object walk.view.shape walk.class pointer) refl
  where
    by : (t : Bool) → names_object walk.view.shape walk.class pointer ≡ t → IsKept view walk (reaches walk pointer)
    by true named = rw named (record {
      state = record {
        held = is.held;
        is_view = is.is_view;
        client = is.client;
        class = is.class;
        last = is.last;
        phase = record { class = is.class; named = named };
      };
      client = refl;
      class = refl;
      told = tt;
    })
    by false other = rw other (tells-is view walk (End walk.last None) is
        (in_view view walk (λ sizes. IsLast sizes walk.class walk.last) is is.last, tt))

follows-is : (view : Viewed) (walk : LinkWalk) (pointer : ℕ) (link : Link) → IsLinkWalk view walk → IsPointer walk.view.shape walk.class pointer → IsKept view walk (follows walk pointer link)
follows-is view walk pointer link is here =
    let kept = reaches-is view (record walk { last = Some (pointer, link.call) }) link.next
    (record { held = is.held; is_view = is.is_view; client = is.client; class = is.class; last = here; phase = is.phase }) in
    record { state = kept.state; client = kept.client; class = kept.class; told = kept.told }

turn_at-is : (view : Viewed) (phase : Phase) (walk : LinkWalk) (found : ℕ) → walk.phase ≡ phase → IsLinkWalk view walk → IsKept view walk (turn_at phase walk found)
turn_at-is view AtHead walk found at is = reaches-is view walk found is
turn_at-is view (AtObject pointer) walk found at is = by (newer_link walk found) refl
  where
    here : IsPointer walk.view.shape walk.class pointer
    here = let P : Phase → Type 0 = λ p. IsAt p walk.view.shape walk.class in subst P at is.phase

    by : (link : Option Link) → newer_link walk found ≡ link → IsKept view walk (turn_at (AtObject pointer) walk found)
    by None says = rw says (tells-is view walk (End walk.last (Some pointer)) is
        (in_view view walk (λ sizes. IsLast sizes walk.class walk.last) is is.last, in_view view walk (λ sizes. IsPointer sizes walk.class pointer) is here))
    by (Some link) says = rw says (follows-is view walk pointer link is here)

-- a walk stays one, whatever is answered
pub turn-is : (view : Viewed) (walk : LinkWalk) (answer : Answer) → IsLinkWalk view walk → IsKept view walk (turn walk answer)
turn-is view walk (Word found) is = turn_at-is view walk.phase walk found refl is
turn-is view walk Done is = tells-is view walk Going is tt
turn-is view walk Lost is = tells-is view walk (Refused (place_of (next walk)).node) is tt

object-inside : (view : Viewed) (class pointer : ℕ) → IsView view → IsPointer view.shape class pointer → IsInPool view.shape (primary_place view (object_word pointer 0))
object-inside view class pointer is here =
    let has = object_word-has view.shape (record { pointer = pointer; class = class }) 0 here (let some = units_of-bounds class here.class in omega arith) in
    primary_place-inside view (object_word pointer 0) is has has.1

verb_at-inside : (view : Viewed) (phase : Phase) (walk : LinkWalk) → walk.phase ≡ phase → IsLinkWalk view walk → IsInPool walk.view.shape (place_of (verb_at phase walk))
verb_at-inside view AtHead walk at is =
    control-inside walk.view.shape (Head walk.client walk.class) (is.client.0, omega (arith, is.client, is.is_view.limits.clients), omega (arith, is.class))
verb_at-inside view (AtObject pointer) walk at is =
    object-inside walk.view walk.class pointer is.is_view (let P : Phase → Type 0 = λ p. IsAt p walk.view.shape walk.class in subst P at is.phase)

-- its verb goes to a place of the pool
pub next-inside : (view : Viewed) (walk : LinkWalk) → IsLinkWalk view walk → IsInPool view.shape (place_of (next walk))
next-inside view walk is = in_view view walk (λ sizes. IsInPool sizes (place_of (next walk))) is (verb_at-inside view walk.phase walk refl is)
