-- What each kind of event changes, and what it leaves.
use Rattle.std.proofs.Common.{◌≡◌, ◌≢◌, ℕ, ◌<◌, Bool, true, false, List, [], length, map, Option, Some, None, refl, length-set, ap, ◌∙◌}
use Rattle.std.specs.Prelude.{not, replicate, slice_set}
use Rattle.std.proofs.Math.Seq.{map-set_same}
use Rattle.std.proofs.lemmas.List.{get_or-set_other, get_or-set_same}
use Rattle.std.proofs.Math.ListN.{length-replicate}
use Rattle.machine.proofs.StockLemmas.{some_same}
use Rattle.machine.specs.Client.{after}
use Rattle.machine.specs.Joining as joinings
use Rattle.machine.specs.Places.{control}
use Rattle.machine.specs.Recovery as recoveries
use Rattle.machine.specs.Settling as settlings
use Rattle.machine_world.specs.Events.{acts, answer_of, happens, occurs, verb_event, verb_of, verb_of_task, works, works_on}
use Rattle.machine_world.specs.Refusals.{refusal}
use Rattle.machine_world.specs.World.{Joins, NoTask, Recovers, Settles, TaskState, World, client_at, nobody}
use Rattle.machine_world.specs.declared.events.Event.{Event}
use Rattle.machine_world.specs.declared.events.Event.TheVariants.{Register, Invoke, Step, Late, Stop, Lose, Fill, Choose, Work}
use Rattle.machine_world.specs.declared.outcomes.Refused.{Refused}
use Rattle.region_view.specs.Control.{Status}
use Rattle.verb_words.proofs.WordsLemmas.{word_at-with_word-other}
use Rattle.verb_words.specs.declared.verbs.Place.{Place}
use Rattle.verb_words.specs.declared.verbs.Verb.{Verb}
use Rattle.verb_words.specs.Applied.{is_refused, words_after}
use Rattle.verb_words.specs.Verb.{place_of, word_after}
use Rattle.verb_words.specs.Words.{with_word, word_at, words_on}

-- an event that is refused leaves the world as it was
pub refused : (world : World) (event : Event) (reason : Refused) → refusal world event ≡ Some reason → happens world event ≡ world
refused world event reason is = rw is refl

-- any other makes of it what the event makes
pub occurred : (world : World) (event : Event) → refusal world event ≡ None → happens world event ≡ occurs world event
occurred world event is = rw is refl

-- Words.

-- a write leaves how many words each node has
pub with_word-lengths : (words : List (List ℕ)) (place : Place) (word : ℕ) → map length (with_word words place word) ≡ map length words
with_word-lengths words place word =
    map-set_same length words place.node (slice_set (words_on words place.node) place.at word) [] (length-set (words_on words place.node) place.at word)

-- so does a verb
pub words_after-lengths : (words : List (List ℕ)) (verb : Verb) (refuse : Bool) → map length (words_after words verb refuse) ≡ map length words
words_after-lengths words verb refuse = by (is_refused words verb refuse) refl
  where
    by : (t : Bool) → is_refused words verb refuse ≡ t → map length (words_after words verb refuse) ≡ map length words
    by true is = rw is refl
    by false is = rw is (with_word-lengths words (place_of verb) (word_after verb (word_at words (place_of verb))))

-- a verb changes the word of its own place alone
pub words_after-others : (words : List (List ℕ)) (verb : Verb) (refuse : Bool) (other : Place) → other ≢ place_of verb → word_at (words_after words verb refuse) other ≡ word_at words other
words_after-others words verb refuse other differ = by (is_refused words verb refuse) refl
  where
    by : (t : Bool) → is_refused words verb refuse ≡ t → word_at (words_after words verb refuse) other ≡ word_at words other
    by true is = rw is refl
    by false is = rw is (word_at-with_word-other words (place_of verb) (word_after verb (word_at words (place_of verb))) other differ)

-- How many words each node has.

works_on-lengths : (world : World) (task : TaskState) → map length (works_on world task).nodes ≡ map length world.nodes
works_on-lengths world NoTask = refl
works_on-lengths world (Settles settling) = words_after-lengths world.nodes (settlings.next settling) true
works_on-lengths world (Recovers recovery) = words_after-lengths world.nodes (recoveries.next recovery) true
works_on-lengths world (Joins joining) = words_after-lengths world.nodes (joinings.next joining) true

pub occurs-lengths : (world : World) (event : Event) → map length (occurs world event).nodes ≡ map length world.nodes
occurs-lengths world Register = refl
occurs-lengths world (Invoke client call) = refl
occurs-lengths world (Step client) = words_after-lengths world.nodes (verb_of world client) true
occurs-lengths world (Late client) = words_after-lengths world.nodes (verb_of world client) false
occurs-lengths world (Stop client) = refl
occurs-lengths world (Lose node) = with_word-lengths world.nodes (control (Status node)) 1
occurs-lengths world (Fill node word) =
    map-set_same length world.nodes node (replicate (length (words_on world.nodes node)) word) [] (length-replicate (length (words_on world.nodes node)) word)
occurs-lengths world (Choose task) = refl
occurs-lengths world Work = works_on-lengths world world.master.task

-- no event changes how many words a node has
pub happens-lengths : (world : World) (event : Event) → map length (happens world event).nodes ≡ map length world.nodes
happens-lengths world event = by (refusal world event) refl
  where
    by : (reason : Option Refused) → refusal world event ≡ reason → map length (happens world event).nodes ≡ map length world.nodes
    by None is = rw is (occurs-lengths world event)
    by (Some reason) is = rw is refl

-- Verbs of clients.

-- another client's verb leaves a client as it was
pub acts-others : (late : Bool) (world : World) (client other : ℕ) → other ≢ client → client_at (acts late world client) other ≡ client_at world other
unfolding client_at
acts-others late world client other differ = get_or-set_other world.clients client other (after (client_at world client) (answer_of late world client)) (nobody world.shape) differ

pub acts-own : (late : Bool) (world : World) (client : ℕ) → client < length world.clients → client_at (acts late world client) client ≡ after (client_at world client) (answer_of late world client)
unfolding client_at
acts-own late world client within = get_or-set_same world.clients client (after (client_at world client) (answer_of late world client)) (nobody world.shape) within

pub acts-words : (late : Bool) (world : World) (client : ℕ) (other : Place) → other ≢ place_of (verb_of world client) → word_at (acts late world client).nodes other ≡ word_at world.nodes other
acts-words late world client other differ = words_after-others world.nodes (verb_of world client) (not late) other differ

-- The master's verbs.

works_on-words : (world : World) (task : TaskState) (verb : Verb) (place : Place) → verb_of_task task ≡ Some verb → place ≢ place_of verb
    → word_at (works_on world task).nodes place ≡ word_at world.nodes place
works_on-words world NoTask verb place is differ = refl
works_on-words world (Settles settling) verb place is differ = words_after-others world.nodes (settlings.next settling) true place (λ same. differ (same ∙ ap place_of (some_same is)))
works_on-words world (Recovers recovery) verb place is differ = words_after-others world.nodes (recoveries.next recovery) true place (λ same. differ (same ∙ ap place_of (some_same is)))
works_on-words world (Joins joining) verb place is differ = words_after-others world.nodes (joinings.next joining) true place (λ same. differ (same ∙ ap place_of (some_same is)))

pub works-words : (world : World) (verb : Verb) (place : Place) → verb_of_task world.master.task ≡ Some verb → place ≢ place_of verb
    → word_at (works world).nodes place ≡ word_at world.nodes place
works-words world = works_on-words world world.master.task

works_on-clients : (world : World) (task : TaskState) → (works_on world task).clients ≡ world.clients
works_on-clients world NoTask = refl
works_on-clients world (Settles settling) = refl
works_on-clients world (Recovers recovery) = refl
works_on-clients world (Joins joining) = refl

pub works-clients : (world : World) → (works world).clients ≡ world.clients
works-clients world = works_on-clients world world.master.task

works_on-trace : (world : World) (task : TaskState) → (works_on world task).trace ≡ world.trace
works_on-trace world NoTask = refl
works_on-trace world (Settles settling) = refl
works_on-trace world (Recovers recovery) = refl
works_on-trace world (Joins joining) = refl

pub works-trace : (world : World) → (works world).trace ≡ world.trace
works-trace world = works_on-trace world world.master.task

works_on-stopped : (world : World) (task : TaskState) → (works_on world task).stopped ≡ world.stopped
works_on-stopped world NoTask = refl
works_on-stopped world (Settles settling) = refl
works_on-stopped world (Recovers recovery) = refl
works_on-stopped world (Joins joining) = refl

pub works-stopped : (world : World) → (works world).stopped ≡ world.stopped
works-stopped world = works_on-stopped world world.master.task

-- a client's verb that is not refused
pub verb-occurred : (late : Bool) (world : World) (client : ℕ) → refusal world (verb_event late client) ≡ None → happens world (verb_event late client) ≡ acts late world client
verb-occurred false world client is = occurred world (Step client) is
verb-occurred true world client is = occurred world (Late client) is
