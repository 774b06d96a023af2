-- The first put of the only client of a small pool: key `a`, value `1`.
use Rattle.std.specs.Prelude.{ℕ, List, [], ◌∷◌}
use Rattle.machine.specs.Client.{after, invoked, next}
use Rattle.machine.specs.Stage.{Client, Put, first_client}
use Rattle.region_view.specs.Sizes.{Sizes}
use Rattle.verb_words.specs.declared.verbs.Answer.{Answer}
use Rattle.verb_words.specs.declared.verbs.Answer.TheVariants.{Word, Done}
use Rattle.verb_words.specs.declared.verbs.Place.{Place}
use Rattle.verb_words.specs.declared.verbs.Verb.{Verb}
use Rattle.verb_words.specs.declared.verbs.Verb.TheVariants.{Read, Write, Swap, Add}

-- the verbs of a client that gets these answers
abbrev pub verbs_of : Client → List Answer → List Verb
verbs_of client [] = []
verbs_of client (answer ∷ answers) = next client ∷ verbs_of (after client answer) answers

abbrev pub one_of_each : Sizes
one_of_each = record { nodes = 1; replicas = 1; regions = 1; blocks = 1; groups = 1; clients = 1; calls = 10 }

abbrev pub first_put : Client
first_put = invoked (first_client 1 one_of_each) Put (97 ∷ []) (49 ∷ [])

-- what its verbs find in the opening words
abbrev pub first_answers : List Answer
first_answers =
    Done ∷ Word 65537 ∷ Word 0 ∷ Word 0 ∷ Done ∷ Word 0xffffffffffffffff
    ∷ Done ∷ Done ∷ Done ∷ Done ∷ Done ∷ Done
    ∷ Word 0 ∷ Done ∷ Done ∷ Word 0 ∷ Word 0 ∷ Done ∷ []

abbrev pub at : ℕ → ℕ → Place
at node position = record { node = node; at = position }

-- the begin word; the epoch; the block's word, which is claimed; the first reserve; the object's bit; the object and its
-- link; the slot; what the object replaces and its version; the slot's backup, which is its shadow, and the slot; the end
abbrev pub first_verbs : List Verb
first_verbs =
    Write (at 0 16) 1 ∷ Read (at 0 0) ∷ Read (at 1 48) ∷ Swap (at 1 48) 0 0x0100000000000100
    ∷ Write (at 0 18) 0x100010 ∷ Add (at 1 112) 0xffffffffffffffff
    ∷ Write (at 1 177) 0x100010001 ∷ Write (at 1 178) 0 ∷ Write (at 1 179) 0
    ∷ Write (at 1 180) 0x61 ∷ Write (at 1 181) 0x31 ∷ Write (at 1 176) 0x0010000010100011
    ∷ Read (at 1 0) ∷ Write (at 1 179) 0 ∷ Write (at 1 178) 1
    ∷ Swap (at 1 24) 0 0xaf01000000100010 ∷ Swap (at 1 0) 0 0xaf01000000100010
    ∷ Write (at 0 16) 2 ∷ []
