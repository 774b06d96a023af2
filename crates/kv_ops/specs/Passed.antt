-- How a call passes the slots of its key's order over, told by the answers that it gets.
use Rattle.std.specs.Prelude.{◌≡◌, ℕ, List, [], ◌∷◌, ◌++◌}
use Rattle.kv_ops.specs.Causes.{PassesPlace}
use Rattle.machine.specs.Client.{after}
use Rattle.machine.specs.Stage.{Client, Kept, FromResolve, Stage, Pause, Paused, LostNode, Find, ReadVersion, Log, WriteSlot, AwaitRound, TestKey, Resolve}
use Rattle.verb_words.specs.declared.verbs.Answer.{Answer}

-- the client after these answers
abbrev pub after_all : Client → List Answer → Client
after_all client [] = client
after_all client (answer ∷ answers) = after_all (after client answer) answers

-- a call that goes on so does not search anew
abbrev pub GoesOnBehind : Kept → Type 0
GoesOnBehind FromResolve = Unit {0}
GoesOnBehind kept = ⊥

-- the call has a place in the search for the slot to write
abbrev pub IsSearching : Stage → Type 0
IsSearching (Find key_search) = Unit {0}
IsSearching (ReadVersion word) = Unit {0}
IsSearching (Log write) = Unit {0}
IsSearching (WriteSlot write) = Unit {0}
IsSearching (AwaitRound write) = Unit {0}
IsSearching (TestKey key_test) = Unit {0}
IsSearching (Resolve resolving) = Unit {0}
IsSearching (Pause word kept) = GoesOnBehind kept
IsSearching (Paused word kept) = GoesOnBehind kept
IsSearching (LostNode node kept) = GoesOnBehind kept
IsSearching stage = ⊥

abbrev pub place_in : Stage → ℕ → ℕ
place_in (Find key_search) place = key_search.place
place_in stage place = place

-- its place in the key's order
abbrev pub place_of_call : Client → ℕ
place_of_call client = place_in client.stage client.place

-- the call has a place after each of these answers, in one search
abbrev pub SearchesOn : Client → List Answer → Type 0
SearchesOn client [] = IsSearching client.stage
SearchesOn client (answer ∷ answers) = IsSearching client.stage × SearchesOn (after client answer) answers

-- one of these answers passes the slot at this place of the order over
pub record WasPassed (start : Client) (answers : List Answer) (place : ℕ) : Type 0 where
  pub before : List Answer
  pub answer : Answer
  pub after_it : List Answer
  pub split : answers ≡ before ++ answer ∷ after_it
  pub passes : PassesPlace (after_all start before) answer place
