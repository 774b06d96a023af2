-- Writers who write one slot at once: the words of the memory, each writer's slot write, and what becomes of them verb by
-- verb. A writer's write and its verbs are the machine's, and each verb does to the words what a verb does.
use Rattle.std.specs.Prelude.{ℕ, ◌+◌, Bool, true, not, ◌==◌, ◌&&◌, if◌then◌else◌, List, [], ◌∷◌, Option, Some, None}
use Rattle.machine.specs.declared.slot_write.Wrote.{Wrote}
use Rattle.machine.specs.declared.slot_write.Wrote.TheVariants.{Going, Won, Changed, Unchanged, Refused}
use Rattle.machine.specs.Places.{slot_backup, slot_primary}
use Rattle.machine.specs.SlotWrite.{SlotWrite, next, slot_write_of, turn}
use Rattle.machine.specs.Turn.{Turn}
use Rattle.region_view.specs.Placed.{Viewed}
use Rattle.verb_words.specs.Applied.{answer_to, words_after}
use Rattle.verb_words.specs.Words.{word_at}

-- writers at one slot, under one view
pub record State : Type 0 where
  pub view : Viewed
  pub slot : ℕ
  -- the words of all nodes
  pub nodes : List (List ℕ)
  -- each writer by its number: its write that is under way, if it has one
  pub writers : ℕ → Option SlotWrite
  -- each backup by its number: its first word in this round, if it has one
  pub firsts : ℕ → Option ℕ
  -- how many rounds have ended
  pub round : ℕ
  -- each writer by its number: how many rounds had ended when its write began
  pub began : ℕ → ℕ

pub data Event : Type 0 where
  -- a writer begins a write: the word that it expects, and the word that it writes
  Begin : (writer expect fresh : ℕ) → Event
  -- a writer takes its next verb
  Step : (writer : ℕ) → Event

-- at the opening nobody writes
abbrev pub opening : Viewed → ℕ → List (List ℕ) → State
opening view slot nodes = record {
  view = view;
  slot = slot;
  nodes = nodes;
  writers = λ writer. None;
  firsts = λ backup. None;
  round = 0;
  began = λ writer. 0;
}

-- the deciding word: the slot's word on the primary
abbrev pub deciding : State → ℕ
deciding state = word_at state.nodes (slot_primary state.view state.slot)

-- the slot's word on a backup
abbrev pub backup_word : State → ℕ → ℕ
backup_word state backup = word_at state.nodes (slot_backup state.view state.slot backup)

-- Rounds, for what is said of a run: no verb depends on them. A round lasts as long as the deciding word. The first word of a
-- backup is the first one that a swap put there in this round in place of the deciding word. (A slot write only reads and
-- swaps, so what has changed was put there by a swap.)

-- the first word of a backup after a verb, from the deciding word, its first word so far, and the backup's word before and now
abbrev pub first_after : ℕ → Option ℕ → ℕ → ℕ → Option ℕ
first_after deciding (Some first) was is = Some first
first_after deciding None was is = if was == deciding && not (is == deciding) then Some is else None

-- whether the round ends where a verb leaves these words: another word decides
abbrev pub ends_round : State → List (List ℕ) → Bool
ends_round state now = not (word_at now (slot_primary state.view state.slot) == deciding state)

-- the first words once a verb has left these words: at the end of a round the next one has none yet
abbrev pub firsts_after : State → List (List ℕ) → ℕ → Option ℕ
firsts_after state now backup =
    if ends_round state now
    then None
    else first_after (deciding state) (state.firsts backup) (backup_word state backup)
    (word_at now (slot_backup state.view state.slot backup))

abbrev pub round_after : State → List (List ℕ) → ℕ
round_after state now = if ends_round state now then state.round + 1 else state.round

-- Events.

-- a family, of which one member is now this
abbrev pub put : {A : Type 0} → (ℕ → A) → ℕ → A → ℕ → A
put family number member other = if number == other then member else family other

-- a write is under way until it tells that it has won, or that the deciding word has changed
abbrev pub under_way : Wrote → SlotWrite → Option SlotWrite
under_way Going write = Some write
under_way (Unchanged word) write = Some write
under_way (Refused node) write = Some write
under_way Won write = None
under_way (Changed word) write = None

-- what the answer to its next verb makes of a write, and what it tells
abbrev pub answered : List (List ℕ) → SlotWrite → Turn SlotWrite Wrote
answered nodes write = turn write (answer_to nodes (next write) true)

-- the words that its next verb leaves
abbrev pub words_then : List (List ℕ) → SlotWrite → List (List ℕ)
words_then nodes write = words_after nodes (next write) true

-- the state after a writer's next verb; without a write it takes none
abbrev pub stepped : State → ℕ → Option SlotWrite → State
stepped state writer None = state
stepped state writer (Some write) = record state {
  nodes = words_then state.nodes write;
  writers = put state.writers writer (under_way (answered state.nodes write).told (answered state.nodes write).state);
  firsts = firsts_after state (words_then state.nodes write);
  round = round_after state (words_then state.nodes write);
}

abbrev pub happens : State → Event → State
happens state (Begin writer expect fresh) = record state {
  writers = put state.writers writer (Some (slot_write_of state.view state.slot expect fresh));
  began = put state.began writer state.round;
}
happens state (Step writer) = stepped state writer (state.writers writer)

abbrev pub told_by : List (List ℕ) → Option SlotWrite → Wrote
told_by nodes None = Going
told_by nodes (Some write) = (answered nodes write).told

-- what an event tells its writer
abbrev pub told : State → Event → Wrote
told state (Begin writer expect fresh) = Going
told state (Step writer) = told_by state.nodes (state.writers writer)

-- the state after these events
abbrev pub run : State → List Event → State
run state [] = state
run state (event ∷ events) = run (happens state event) events
