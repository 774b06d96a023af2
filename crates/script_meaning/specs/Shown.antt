-- How the world's calls, verbs, outcomes and parts are shown as lines of the output.
use Rattle.std.specs.Prelude.{ℕ, ◌+◌, Bool, true, false, not, ◌==◌, if◌then◌else◌, List, [], ◌∷◌, ◌++◌, length, map, Option, Some, None}
use Rattle.machine_world.specs.Ledger.{history_of}
use Rattle.machine_world.specs.Readings.{division_of}
use Rattle.machine_world.specs.World.{World}
use Rattle.machine_world.specs.declared.outcomes.Actor.{Actor}
use Rattle.machine_world.specs.declared.outcomes.Actor.TheVariants.{Client, Master}
use Rattle.machine_world.specs.declared.outcomes.Refused.{Refused}
use Rattle.machine_world.specs.declared.outcomes.Refused.TheVariants as refused
use Rattle.machine_world.specs.declared.outcomes.Seen.{Seen}
use Rattle.machine_world.specs.declared.parts.Division.{Division}
use Rattle.map_model.specs.declared.calls.Call.{Call}
use Rattle.map_model.specs.declared.calls.Call.TheVariants as asks
use Rattle.map_model.specs.declared.calls.Reply.{Reply}
use Rattle.map_model.specs.declared.calls.Reply.TheVariants as answers
use Rattle.map_model.specs.declared.entries.Entry.{Entry}
use Rattle.script_text.specs.declared.out_lines.NotYetText.{NotYetText}
use Rattle.script_text.specs.declared.out_lines.NotYetText.TheVariants as not_yet
use Rattle.script_text.specs.declared.out_lines.OutLine.{OutLine}
use Rattle.script_text.specs.declared.out_lines.OutLine.TheVariants as line
use Rattle.script_text.specs.declared.out_lines.RefusalText.{RefusalText}
use Rattle.script_text.specs.declared.out_lines.RefusalText.TheVariants as refusal
use Rattle.script_text.specs.declared.out_lines.ReplyText.{ReplyText}
use Rattle.script_text.specs.declared.out_lines.ReplyText.TheVariants as reply
use Rattle.script_text.specs.declared.scripts.CallText.{CallText}
use Rattle.script_text.specs.declared.scripts.CallText.TheVariants as call
use Rattle.verb_words.specs.declared.verbs.Answer.{Answer}
use Rattle.verb_words.specs.declared.verbs.Answer.TheVariants.{Word, Done, Lost}
use Rattle.verb_words.specs.declared.verbs.Verb.{Verb}
use Rattle.verb_words.specs.declared.verbs.Verb.TheVariants.{Read, Write, Swap, Add}
use Rattle.verb_words.specs.declared.verbs.Why.{Why}
use Rattle.verb_words.specs.declared.verbs.Why.TheVariants as why

abbrev pub shown_call : Call → CallText
shown_call (asks.Put key value) = call.Put key value
shown_call (asks.Get key) = call.Get key
shown_call (asks.Delete key) = call.Delete key

abbrev pub shown_reply : Reply → ReplyText
shown_reply answers.Done = reply.Done
shown_reply (answers.Value value) = reply.Value value
shown_reply answers.Absent = reply.Absent
shown_reply answers.Full = reply.Full
shown_reply (answers.NoSpace class client begin) = reply.NoSpace class client begin

abbrev pub shown_why : Why → NotYetText
shown_why (why.Sealed word) = not_yet.Sealed word
shown_why (why.Lost node) = not_yet.Lost node
shown_why (why.Unchanged slot word) = not_yet.Unchanged slot word

-- want of memory is no refusal of an event, and has no words of its own
abbrev pub shown_refusal : Refused → RefusalText
shown_refusal (refused.Clients count) = refusal.Clients count
shown_refusal (refused.Unknown client) = refusal.Unknown client
shown_refusal (refused.Stopped client) = refusal.Stopped client
shown_refusal (refused.Busy client) = refusal.Busy client
shown_refusal (refused.Key len) = refusal.Key len
shown_refusal (refused.Value len) = refusal.Value len
shown_refusal (refused.Spent client) = refusal.Spent client
shown_refusal (refused.Idle client) = refusal.Idle client
shown_refusal (refused.Live node) = refusal.Live node
shown_refusal (refused.Running client) = refusal.Running client
shown_refusal (refused.Recovered client) = refusal.Recovered client
shown_refusal (refused.Node node) = refusal.Node node
shown_refusal (refused.Gone node) = refusal.Gone node
shown_refusal (refused.LastLive region) = refusal.LastLive region
shown_refusal (refused.Masked node) = refusal.Masked node
shown_refusal (refused.Sealed word) = refusal.Sealed word
shown_refusal refused.NoTask = refusal.Task
shown_refusal refused.NoMemory = refusal.Other

-- Verbs.

abbrev pub shown_actor : Actor → Option ℕ
shown_actor (Client client) = Some client
shown_actor Master = None

-- the word that a verb was answered; none where its node was lost
abbrev pub found_in : Answer → Option ℕ
found_in (Word found) = Some found
found_in Done = None
found_in Lost = None

abbrev pub is_refused : Answer → Bool
is_refused (Word found) = false
is_refused Done = false
is_refused Lost = true

abbrev pub verb_line : Option ℕ → Verb → Answer → OutLine
verb_line actor (Read place) answer = line.VerbRead actor place.node place.at (found_in answer)
verb_line actor (Write place word) answer = line.VerbWrite actor place.node place.at word (is_refused answer)
verb_line actor (Swap place expect fresh) answer = line.VerbSwap actor place.node place.at expect fresh (found_in answer)
verb_line actor (Add place amount) answer = line.VerbAdd actor place.node place.at amount (found_in answer)

abbrev pub shown_verb : Seen → OutLine
shown_verb seen = verb_line (shown_actor seen.actor) seen.verb seen.answer

-- The history.

abbrev pub entry_line : Entry → OutLine
entry_line e = line.Entry e.client e.number (shown_call e.call) (shown_reply e.reply) (not e.returned)

-- how many entries there are, and the entries
abbrev pub entry_lines : List Entry → List OutLine
entry_lines entries = line.History (length entries) ∷ map entry_line entries

abbrev pub history_lines : World → List OutLine
history_lines world = entry_lines (history_of world)

-- Counts.

abbrev pub count_lines : Division → List OutLine
count_lines division =
    line.Blocks division.unused division.owned division.awaiting division.released
    ∷ line.Objects division.stock division.present division.held
    ∷ []

abbrev pub division_lines : World → List OutLine
division_lines world = count_lines (division_of world)

-- A dump: each word that is not 0, by node and position, and how many there are.

abbrev pub word_line : ℕ → ℕ → ℕ → List OutLine
word_line node at word = if word == 0 then [] else line.Word node at word ∷ []

-- the words of a node from a position on
abbrev pub words_from : ℕ → ℕ → List ℕ → List OutLine
words_from node at [] = []
words_from node at (word ∷ words) = word_line node at word ++ words_from node (at + 1) words

-- the words of the nodes from a number on
abbrev pub nodes_from : ℕ → List (List ℕ) → List OutLine
nodes_from node [] = []
nodes_from node (words ∷ nodes) = words_from node 0 words ++ nodes_from (node + 1) nodes

abbrev pub dumped : List OutLine → List OutLine
dumped words = words ++ line.Dumped (length words) ∷ []

abbrev pub dump_lines : World → List OutLine
dump_lines world = dumped (nodes_from 0 world.nodes)
