-- A client's verb, over what the world is made of.
use Rattle.std.specs.Prelude.{◌≡◌, ℕ, ◌*◌, Bool, true, not, List, length, map, slice_index_or}
use Rattle.machine.specs.Client.{next, told}
use Rattle.machine.specs.Stage.{Client}
use Rattle.machine_world.specs.Ledger.{caller_of, final_of, with_final, with_read, with_return, with_taking}
use Rattle.machine_world.specs.Standing.{node_sizes}
use Rattle.machine_world.specs.World.{Ledger, nobody}
use Rattle.region_view.specs.Sizes.{Sizes}
use Rattle.verb_words.specs.declared.verbs.Answer.{Answer}
use Rattle.verb_words.specs.Applied.{answer_to, words_after}
use Rattle.verb_words.specs.Verb.{place_of}
use Rattle.verb_words.specs.Words.{HasPlace}
use Rattle.world_core.specs.Dues.{OwnsNoneOrOne}
use Rattle.world_ledger.specs.Kept.{has_rank}

-- the client at a place of the program's list, which begins with client 1
abbrev pub client_in : Sizes → List Client → ℕ → Client
client_in sizes clients at = slice_index_or clients at (nobody sizes)

-- what is known of the clients and of the past when a verb is taken
pub record IsReady (sizes : Sizes) (nodes : List (List ℕ)) (ledger : Ledger) : Type 0 where
  pub whole : map length nodes ≡ node_sizes sizes
  pub slots : length ledger.decided ≡ 24 * sizes.groups
  pub ranks : (slot version : ℕ) → has_rank ledger (slot, version) ≡ true

-- the client is one of this pool, its verb goes to a word that is there, and it has chosen no object or one of the pool
pub record CanStep (sizes : Sizes) (nodes : List (List ℕ)) (client : Client) : Type 0 where
  pub shape : client.shape ≡ sizes
  pub place : HasPlace nodes (place_of (next client))
  pub object : OwnsNoneOrOne sizes client

-- the answer to a client's verb, and the words after it
abbrev pub answer_for : Bool → List (List ℕ) → Client → Answer
answer_for late nodes client = answer_to nodes (next client) (not late)

abbrev pub nodes_for : Bool → List (List ℕ) → Client → List (List ℕ)
nodes_for late nodes client = words_after nodes (next client) (not late)

-- the past after the verb, which led from words to others and was answered so
abbrev pub ledger_for : Sizes → List (List ℕ) → List (List ℕ) → ℕ → Client → Answer → Ledger → Ledger
ledger_for sizes before now event client answer ledger =
    with_return client (told client answer) event
    (with_taking sizes before now client
    (with_final sizes before now event (caller_of client) (final_of client.stage)
    (with_read event client answer ledger)))
