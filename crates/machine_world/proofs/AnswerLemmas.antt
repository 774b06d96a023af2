-- What a client's verb is answered, and what it leaves of the master's words.
use Rattle.std.proofs.Common.{◌≡◌, ◌≢◌, ℕ, ◌<◌, ◌≤◌, ◌==◌, inl, inr, Bool, true, false, List, length, None, refl, ◌∙◌, ap, arith}
use Rattle.std.specs.Prelude.{if◌then◌else◌, not, ◌&&◌}
use Rattle.machine.specs.Places.{IsSpared, SparesMaster}
use Rattle.machine.proofs.SparedLemmas.{next-spares}
use Rattle.machine_world.specs.Events.{acts, answered, happens, verb_event, verb_of}
use Rattle.machine_world.specs.Refusals.{refusal}
use Rattle.machine_world.specs.Runs.{verbs_at}
use Rattle.machine_world.specs.Standing.{StandsWell}
use Rattle.machine_world.specs.World.{World, client_at}
use Rattle.machine_world.specs.declared.events.Event.TheVariants.{Step}
use Rattle.machine_world.proofs.EventLemmas.{verb-occurred, words_after-others}
use Rattle.verb_words.proofs.WordsLemmas.{with_word-word_at}
use Rattle.verb_words.specs.Applied.{is_refused, words_after}
use Rattle.verb_words.specs.declared.verbs.Answer.TheVariants as answer
use Rattle.verb_words.specs.declared.verbs.Place.{Place}
use Rattle.verb_words.specs.declared.verbs.Verb.{Verb}
use Rattle.verb_words.specs.declared.verbs.Verb.TheVariants.{Add, Read, Swap, Write}
use Rattle.verb_words.specs.Verb as verbs
use Rattle.verb_words.specs.Verb.{place_of, word_after}
use Rattle.verb_words.specs.Words.{is_lost, with_word, word_at}

-- a client's verb that a live node takes, or a lost one's words take late
pub verb-answered : (world : World) (client : ℕ) → refusal world (Step client) ≡ None
    → happens world (verb_event (is_lost world.nodes (place_of (verb_of world client)).node) client)
    ≡ answered world client
    (verbs.answer_of (verb_of world client) (word_at world.nodes (place_of (verb_of world client))))
    (with_word world.nodes (place_of (verb_of world client)) (verbs.word_after (verb_of world client) (word_at world.nodes (place_of (verb_of world client)))))
verb-answered world client may = by (is_lost world.nodes (place_of (verb_of world client)).node) refl
  where
    by : (t : Bool) → is_lost world.nodes (place_of (verb_of world client)).node ≡ t
        → happens world (verb_event t client)
        ≡ answered world client
        (verbs.answer_of (verb_of world client) (word_at world.nodes (place_of (verb_of world client))))
        (with_word world.nodes (place_of (verb_of world client)) (verbs.word_after (verb_of world client) (word_at world.nodes (place_of (verb_of world client)))))
    by true lost = verb-occurred true world client (rw lost may)
    by false live = verb-occurred false world client may ∙ rw live refl

-- a client's verb that a lost node refuses
pub verb-refused : (world : World) (client : ℕ) → refusal world (Step client) ≡ None → is_lost world.nodes (place_of (verb_of world client)).node ≡ true
    → happens world (Step client) ≡ answered world client answer.Lost world.nodes
verb-refused world client may lost = verb-occurred false world client may ∙ rw lost refl

pub verb-counted : (late : Bool) (world : World) (client other : ℕ) → refusal world (verb_event late client) ≡ None
    → verbs_at world other (verb_event late client) ≡ (if client == other then 1 else 0)
verb-counted false world client other may = rw may refl
verb-counted true world client other may = rw may refl

-- A verb that spares the master.

spared-apart : (place : Place) (at : ℕ) → at < 16 → IsSpared place → record { node = 0; at = at } ≢ place
spared-apart place at below (inl away) same = let node : 0 ≡ place.node = λ i. (same i).node in omega (arith, away)
spared-apart place at below (inr past) same = let here : at ≡ place.at = λ i. (same i).at in omega (arith, past)

-- a verb changes no word that it spares
pub spared-words : (words : List (List ℕ)) (verb : Verb) (refuse : Bool) (at : ℕ) → at < 16 → SparesMaster verb
    → word_at (words_after words verb refuse) (record { node = 0; at = at }) ≡ word_at words (record { node = 0; at = at })
spared-words words (Read place) refuse at below spares = by (is_refused words (Read place) refuse) refl
  where
    by : (t : Bool) → is_refused words (Read place) refuse ≡ t
        → word_at (words_after words (Read place) refuse) (record { node = 0; at = at }) ≡ word_at words (record { node = 0; at = at })
    by true is = rw is refl
    by false is = rw is (ap (λ all. word_at all (record { node = 0; at = at })) (with_word-word_at words place))
spared-words words (Write place word) refuse at below spares = words_after-others words (Write place word) refuse _ (spared-apart place at below spares)
spared-words words (Swap place expect fresh) refuse at below spares = words_after-others words (Swap place expect fresh) refuse _ (spared-apart place at below spares)
spared-words words (Add place more) refuse at below spares = words_after-others words (Add place more) refuse _ (spared-apart place at below spares)

-- the words of the master stay
pub acts-masters_words : (late : Bool) (world : World) (client at : ℕ) → StandsWell world → 1 ≤ client → client < length world.clients → at < 16
    → word_at (acts late world client).nodes (record { node = 0; at = at }) ≡ word_at world.nodes (record { node = 0; at = at })
acts-masters_words late world client at stands least registered below =
    spared-words world.nodes (verb_of world client) (not late) at below
    (next-spares world.shape client (client_at world client) (stands.each client least registered))

-- so no node is lost
pub acts-lost : (late : Bool) (world : World) (client node : ℕ) → StandsWell world → 1 ≤ client → client < length world.clients → node < 16
    → is_lost (acts late world client).nodes node ≡ is_lost world.nodes node
acts-lost late world client node stands least registered below =
    ap (λ status. not (node == 0) && not (status == 0)) (acts-masters_words late world client node stands least registered below)
