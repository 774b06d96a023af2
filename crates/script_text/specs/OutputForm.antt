-- The forms of output lines: what is due at each place, and what the line then means.
use Rattle.std.specs.Prelude.{ℕ, Bool, true, false, if◌then◌else◌, List, [], ◌∷◌, ◌++◌, codes, Option, Some, None, Result, Ok, Err, bytes_eq}
use Rattle.text_lines.specs.Lines.{has_bad_byte}
use Rattle.text_lines.specs.Number.{number_of}
use Rattle.text_lines.specs.Words.{words_of}
use Rattle.script_text.specs.OutputPlace.{ActorDue, AnswerDue, AnyWords, BytesDue, Exactly, NumberDue, Place, Reading, Unknown, WordDue, actor_in, answer_in, behind_all, bytes_in, first_fault, number_in, past_all, rest, word_in}
use Rattle.script_text.specs.WordValue.{word_of}
use Rattle.script_text.specs.declared.faults.BadKind.{BadKind}
use Rattle.script_text.specs.declared.faults.BadKind.TheVariants as kind
use Rattle.script_text.specs.declared.out_lines.NotYetText.{NotYetText}
use Rattle.script_text.specs.declared.out_lines.NotYetText.TheVariants as notyet
use Rattle.script_text.specs.declared.out_lines.OutLine.{OutLine}
use Rattle.script_text.specs.declared.out_lines.OutLine.TheVariants as line
use Rattle.script_text.specs.declared.out_lines.RefusalText.{RefusalText}
use Rattle.script_text.specs.declared.out_lines.RefusalText.TheVariants as refusal
use Rattle.script_text.specs.declared.out_lines.ReplyText.{ReplyText}
use Rattle.script_text.specs.declared.out_lines.ReplyText.TheVariants.{Done, Value, Absent, Full, NoSpace}
use Rattle.script_text.specs.declared.out_names.LineName.{LineName}
use Rattle.script_text.specs.declared.out_names.LineName.TheVariants as name
use Rattle.script_text.specs.declared.scripts.CallText.{CallText}
use Rattle.script_text.specs.declared.scripts.CallText.TheVariants.{Put, Get, Delete}

-- What words mean, and what is due at each place. Where some word is not what is due, the meaning is of no account.
pub record Form (A : Type 0) : Type 0 where
  pub places : List Place
  pub means : A

abbrev pub form : {A : Type 0} → List Place → A → Form A
form places means = record { places = places; means = means }

-- Each of these is given the words from its first place on.

abbrev pub named_call : List ℕ → List (List ℕ) → Form CallText
named_call name words =
    if bytes_eq name (codes "put") then form (Exactly (codes "put") ∷ BytesDue ∷ BytesDue ∷ []) (Put (bytes_in words) (bytes_in (rest words)))
    else (if bytes_eq name (codes "get") then form (Exactly (codes "get") ∷ BytesDue ∷ []) (Get (bytes_in words))
    else (if bytes_eq name (codes "delete") then form (Exactly (codes "delete") ∷ BytesDue ∷ []) (Delete (bytes_in words))
    else form (Unknown ∷ []) (Get [])))

abbrev pub call_form : List (List ℕ) → Form CallText
call_form [] = form (Unknown ∷ []) (Get [])
call_form (name ∷ words) = named_call name words

abbrev pub named_reply : List ℕ → List (List ℕ) → Form ReplyText
named_reply name words =
    if bytes_eq name (codes "Done") then form (Exactly (codes "Done") ∷ []) Done
    else (if bytes_eq name (codes "Value") then form (Exactly (codes "Value") ∷ BytesDue ∷ []) (Value (bytes_in words))
    else (if bytes_eq name (codes "Absent") then form (Exactly (codes "Absent") ∷ []) Absent
    else (if bytes_eq name (codes "Full") then form (Exactly (codes "Full") ∷ []) Full
    else (if bytes_eq name (codes "NoSpace")
    then form (Exactly (codes "NoSpace") ∷ NumberDue ∷ NumberDue ∷ WordDue ∷ []) (NoSpace (number_in words) (number_in (rest words)) (word_in (rest (rest words))))
    else form (Unknown ∷ []) Done))))

abbrev pub reply_form : List (List ℕ) → Form ReplyText
reply_form [] = form (Unknown ∷ []) Done
reply_form (name ∷ words) = named_reply name words

abbrev pub named_not_yet : List ℕ → List (List ℕ) → Form NotYetText
named_not_yet name words =
    if bytes_eq name (codes "Sealed") then form (Exactly (codes "Sealed") ∷ WordDue ∷ []) (notyet.Sealed (word_in words))
    else (if bytes_eq name (codes "Lost") then form (Exactly (codes "Lost") ∷ NumberDue ∷ []) (notyet.Lost (number_in words))
    else (if bytes_eq name (codes "Unchanged")
    then form (Exactly (codes "Unchanged") ∷ NumberDue ∷ WordDue ∷ []) (notyet.Unchanged (number_in words) (word_in (rest words)))
    else form (Unknown ∷ []) (notyet.Lost 0)))

abbrev pub not_yet_form : List (List ℕ) → Form NotYetText
not_yet_form [] = form (Unknown ∷ []) (notyet.Lost 0)
not_yet_form (name ∷ words) = named_not_yet name words

abbrev pub are_over : List (List ℕ) → Bool
are_over [] = true
are_over (word ∷ words) = false

-- a mark that may stand last: no word, or exactly these
abbrev pub mark_form : List Place → List (List ℕ) → Form Bool
mark_form places words = if are_over words then form [] false else form places true

abbrev pub open_form : List (List ℕ) → Form Bool
open_form words = mark_form (Exactly (codes "open") ∷ []) words

abbrev pub lost_form : List (List ℕ) → Form Bool
lost_form words = mark_form (Exactly (codes "=") ∷ Exactly (codes "lost") ∷ []) words

-- a task's choice, from its kind on
abbrev pub named_task : List ℕ → List (List ℕ) → Form OutLine
named_task name words =
    if bytes_eq name (codes "settle") then form (Exactly (codes "settle") ∷ []) line.TaskSettle
    else (if bytes_eq name (codes "recover") then form (Exactly (codes "recover") ∷ NumberDue ∷ []) (line.TaskRecover (number_in words))
    else (if bytes_eq name (codes "join") then form (Exactly (codes "join") ∷ NumberDue ∷ []) (line.TaskJoin (number_in words))
    else form (Unknown ∷ []) line.TaskSettle))

abbrev pub task_form : List (List ℕ) → Form OutLine
task_form [] = form (Unknown ∷ []) line.TaskSettle
task_form (name ∷ words) = named_task name words

-- a verb of an actor, from the word behind its kind on
abbrev pub read_form : Option ℕ → List (List ℕ) → Form OutLine
read_form actor words =
    form (NumberDue ∷ NumberDue ∷ Exactly (codes "=") ∷ AnswerDue ∷ []) (line.VerbRead actor (number_in words) (number_in (rest words)) (answer_in (rest (rest (rest words)))))

abbrev pub write_form : Option ℕ → List (List ℕ) → Form OutLine
write_form actor words =
    let mark = lost_form (rest (rest (rest words))) in
    form (NumberDue ∷ NumberDue ∷ WordDue ∷ mark.places) (line.VerbWrite actor (number_in words) (number_in (rest words)) (word_in (rest (rest words))) mark.means)

abbrev pub swap_form : Option ℕ → List (List ℕ) → Form OutLine
swap_form actor words =
    form (NumberDue ∷ NumberDue ∷ WordDue ∷ WordDue ∷ Exactly (codes "=") ∷ AnswerDue ∷ [])
    (line.VerbSwap actor (number_in words) (number_in (rest words)) (word_in (rest (rest words))) (word_in (rest (rest (rest words)))) (answer_in (rest (rest (rest (rest (rest words)))))))

abbrev pub add_form : Option ℕ → List (List ℕ) → Form OutLine
add_form actor words =
    form (NumberDue ∷ NumberDue ∷ WordDue ∷ Exactly (codes "=") ∷ AnswerDue ∷ [])
    (line.VerbAdd actor (number_in words) (number_in (rest words)) (word_in (rest (rest words))) (answer_in (rest (rest (rest (rest words))))))

-- a form behind a word that is due
abbrev pub behind_word : List ℕ → Form OutLine → Form OutLine
behind_word word of = form (Exactly word ∷ of.places) of.means

abbrev pub named_verb : Option ℕ → List ℕ → List (List ℕ) → Form OutLine
named_verb actor name words =
    if bytes_eq name (codes "read") then behind_word (codes "read") (read_form actor words)
    else (if bytes_eq name (codes "write") then behind_word (codes "write") (write_form actor words)
    else (if bytes_eq name (codes "swap") then behind_word (codes "swap") (swap_form actor words)
    else (if bytes_eq name (codes "add") then behind_word (codes "add") (add_form actor words)
    else form (Unknown ∷ []) line.TaskSettle)))

abbrev pub verb_form : Option ℕ → List (List ℕ) → Form OutLine
verb_form actor [] = form (Unknown ∷ []) line.TaskSettle
verb_form actor (name ∷ words) = named_verb actor name words

abbrev pub entry_form : List (List ℕ) → Form OutLine
entry_form words =
    let call = call_form (rest (rest words)) in
    let reply = reply_form (behind_all call.places (rest (rest words))) in
    let mark = open_form (behind_all reply.places (behind_all call.places (rest (rest words)))) in
    form (NumberDue ∷ NumberDue ∷ (call.places ++ (reply.places ++ mark.places))) (line.Entry (number_in words) (number_in (rest words)) call.means reply.means mark.means)

-- what a refusal's words mean: those of no known form are `Other`

-- a refusal that names a number: its first word, and what it is
pub record Numbered : Type 0 where
  pub name : List ℕ
  pub refusal_of : ℕ → RefusalText

abbrev pub numbered : List ℕ → (ℕ → RefusalText) → Numbered
numbered name refusal_of = record { name = name; refusal_of = refusal_of }

abbrev pub numbered_among : List Numbered → List ℕ → ℕ → RefusalText
numbered_among [] word number = refusal.Other
numbered_among (first ∷ refusals) word number = if bytes_eq word first.name then first.refusal_of number else numbered_among refusals word number

abbrev pub numbered_refusals : List Numbered
numbered_refusals =
    numbered (codes "clients") refusal.Clients
    ∷ numbered (codes "unknown") refusal.Unknown
    ∷ numbered (codes "stopped") refusal.Stopped
    ∷ numbered (codes "busy") refusal.Busy
    ∷ numbered (codes "key") refusal.Key
    ∷ numbered (codes "value") refusal.Value
    ∷ numbered (codes "spent") refusal.Spent
    ∷ numbered (codes "idle") refusal.Idle
    ∷ numbered (codes "live") refusal.Live
    ∷ numbered (codes "running") refusal.Running
    ∷ numbered (codes "recovered") refusal.Recovered
    ∷ numbered (codes "node") refusal.Node
    ∷ numbered (codes "gone") refusal.Gone
    ∷ numbered (codes "lastlive") refusal.LastLive
    ∷ numbered (codes "masked") refusal.Masked
    ∷ []

abbrev pub numbered_refusal : List ℕ → ℕ → RefusalText
numbered_refusal word number = numbered_among numbered_refusals word number

abbrev pub number_refusal : List ℕ → Option ℕ → RefusalText
number_refusal name None = refusal.Other
number_refusal name (Some number) = numbered_refusal name number

abbrev pub sealed_refusal : Option ℕ → RefusalText
sealed_refusal None = refusal.Other
sealed_refusal (Some epoch) = refusal.Sealed epoch

abbrev pub two_word_refusal : List ℕ → List ℕ → RefusalText
two_word_refusal name word = if bytes_eq name (codes "sealed") then sealed_refusal (word_of word) else number_refusal name (number_of word)

abbrev pub refusal_of : List (List ℕ) → RefusalText
refusal_of [] = refusal.Other
refusal_of (name ∷ []) = if bytes_eq name (codes "task") then refusal.Task else refusal.Other
refusal_of (name ∷ word ∷ []) = two_word_refusal name word
refusal_of (name ∷ word ∷ more ∷ words) = refusal.Other

-- the first word of a line of this name
abbrev pub name_text : LineName → List ℕ
name_text name.Client = codes "client"
name_text name.Called = codes "called"
name_text name.Ended = codes "ended"
name_text name.NotYet = codes "notyet"
name_text name.Took = codes "took"
name_text name.Stopped = codes "stopped"
name_text name.Lost = codes "lost"
name_text name.Task = codes "task"
name_text name.Recovered = codes "recovered"
name_text name.Opened = codes "opened"
name_text name.Waiting = codes "waiting"
name_text name.Verb = codes "v"
name_text name.Word = codes "w"
name_text name.Dumped = codes "dumped"
name_text name.Blocks = codes "blocks"
name_text name.Objects = codes "objects"
name_text name.History = codes "history"
name_text name.Entry = codes "h"
name_text name.Refused = codes "refused"
name_text name.End = codes "end"
name_text name.Filled = codes "filled"
name_text name.Joined = codes "joined"

-- the name among these whose word this is
abbrev pub name_among : List LineName → List ℕ → Option LineName
name_among [] word = None
name_among (name ∷ names) word = if bytes_eq word (name_text name) then Some name else name_among names word

abbrev pub line_names : List LineName
line_names =
    name.Client ∷ name.Called ∷ name.Ended ∷ name.NotYet ∷ name.Took ∷ name.Stopped ∷ name.Lost ∷ name.Task ∷ name.Recovered ∷ name.Opened ∷ name.Waiting ∷ name.Verb ∷ name.Word ∷ name.Dumped ∷ name.Blocks ∷ name.Objects ∷ name.History ∷ name.Entry ∷ name.Refused ∷ name.End ∷ name.Filled ∷ name.Joined ∷ []

-- the name that a first word is
abbrev pub line_name : List ℕ → Option LineName
line_name word = name_among line_names word

-- a line of this name, from the word behind its name on
abbrev pub line_form : LineName → List (List ℕ) → Form OutLine
line_form name.Client words = form (NumberDue ∷ []) (line.Client (number_in words))
line_form name.Called words =
    let call = call_form (rest (rest words)) in
    form (NumberDue ∷ NumberDue ∷ call.places) (line.Called (number_in words) (number_in (rest words)) call.means)
line_form name.Ended words =
    let reply = reply_form (rest (rest words)) in
    form (NumberDue ∷ NumberDue ∷ reply.places) (line.Ended (number_in words) (number_in (rest words)) reply.means)
line_form name.NotYet words = let why = not_yet_form (rest words) in form (ActorDue ∷ why.places) (line.NotYet (actor_in words) why.means)
line_form name.Took words = form (ActorDue ∷ NumberDue ∷ []) (line.Took (actor_in words) (number_in (rest words)))
line_form name.Stopped words = form (NumberDue ∷ []) (line.Stopped (number_in words))
line_form name.Lost words = form (NumberDue ∷ []) (line.Lost (number_in words))
line_form name.Task words = task_form words
line_form name.Recovered words = form (NumberDue ∷ []) (line.Recovered (number_in words))
line_form name.Opened words = form (WordDue ∷ []) (line.Opened (word_in words))
line_form name.Waiting words = form (NumberDue ∷ WordDue ∷ []) (line.Waiting (number_in words) (word_in (rest words)))
line_form name.Verb words = let verb = verb_form (actor_in words) (rest words) in form (ActorDue ∷ verb.places) verb.means
line_form name.Word words = form (NumberDue ∷ NumberDue ∷ WordDue ∷ []) (line.Word (number_in words) (number_in (rest words)) (word_in (rest (rest words))))
line_form name.Dumped words = form (NumberDue ∷ []) (line.Dumped (number_in words))
line_form name.Blocks words =
    form (Exactly (codes "unused") ∷ NumberDue ∷ Exactly (codes "owned") ∷ NumberDue ∷ Exactly (codes "awaiting") ∷ NumberDue ∷ Exactly (codes "released") ∷ NumberDue ∷ [])
    (line.Blocks (number_in (rest words)) (number_in (rest (rest (rest words)))) (number_in (rest (rest (rest (rest (rest words))))))
    (number_in (rest (rest (rest (rest (rest (rest (rest words)))))))))
line_form name.Objects words =
    form (Exactly (codes "stock") ∷ NumberDue ∷ Exactly (codes "present") ∷ NumberDue ∷ Exactly (codes "held") ∷ NumberDue ∷ [])
    (line.Objects (number_in (rest words)) (number_in (rest (rest (rest words)))) (number_in (rest (rest (rest (rest (rest words)))))))
line_form name.History words = form (NumberDue ∷ []) (line.History (number_in words))
line_form name.Entry words = entry_form words
line_form name.Refused words = form (AnyWords ∷ []) (line.Refused (refusal_of words))
line_form name.End words = form [] line.End
line_form name.Filled words = form (NumberDue ∷ []) (line.Filled (number_in words))
line_form name.Joined words = form (NumberDue ∷ []) (line.Joined (number_in words))

-- the fault of words that are left behind the last place
abbrev pub left_fault : List (List ℕ) → Option BadKind
left_fault [] = None
left_fault (word ∷ words) = Some kind.Count

-- what is read where all places are passed
abbrev pub fault_or : Option BadKind → OutLine → Result OutLine BadKind
fault_or None out = Ok out
fault_or (Some fault) out = Err fault

abbrev pub ended : Reading → OutLine → Result OutLine BadKind
ended reading out = fault_or (first_fault reading.fault (left_fault reading.words)) out

abbrev pub of_form : Form OutLine → List (List ℕ) → Result OutLine BadKind
of_form due words = ended (past_all due.places (record { words = words; fault = None })) due.means

abbrev pub named_line : Option LineName → List (List ℕ) → Result OutLine BadKind
named_line None words = Err kind.Word
named_line (Some name) words = of_form (line_form name words) words

-- what the words of a line mean, or its first kind of fault
abbrev pub line_of_words : List (List ℕ) → Result OutLine BadKind
line_of_words [] = Err kind.Word
line_of_words (name ∷ words) = named_line (line_name name) words

-- what a line means, or its first kind of fault
abbrev pub line_of : List ℕ → Result OutLine BadKind
line_of text = if has_bad_byte text then Err kind.Byte else line_of_words (words_of text)
