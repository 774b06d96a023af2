-- The forms of output lines: what each of their words stands for.
use Rattle.std.specs.Prelude.{◌≡◌, ℕ, ◌<◌, ◌^◌, Bool, true, false, List, [], ◌∷◌, ◌++◌, codes, Option, Some, None}
use Rattle.std.specs.Fmt.{decimal}
use Rattle.std.specs.List.{All}
use Rattle.text_lines.specs.Number.{number_of}
use Rattle.script_text.specs.OutputPlace.{actor_of, answer_of}
use Rattle.script_text.specs.Shown.{actor_text, answer_text, bytes_text, word_text}
use Rattle.script_text.specs.WordValue.{bytes_of, word_of}
use Rattle.script_text.specs.declared.out_lines.NotYetText.{NotYetText}
use Rattle.script_text.specs.declared.out_lines.NotYetText.TheVariants as notyet
use Rattle.script_text.specs.declared.out_lines.OutLine.{OutLine}
use Rattle.script_text.specs.declared.out_lines.OutLine.TheVariants as line
use Rattle.script_text.specs.declared.out_lines.RefusalText.{RefusalText}
use Rattle.script_text.specs.declared.out_lines.RefusalText.TheVariants as refusal
use Rattle.script_text.specs.declared.out_lines.ReplyText.{ReplyText}
use Rattle.script_text.specs.declared.out_lines.ReplyText.TheVariants.{Done, Value, Absent, Full, NoSpace}
use Rattle.script_text.specs.declared.scripts.CallText.{CallText}
use Rattle.script_text.specs.declared.scripts.CallText.TheVariants.{Put, Get, Delete}

-- what a word of an output line stands for
pub data OutPart : Type 0 where
  fixed : List ℕ → OutPart
  number : ℕ → OutPart
  -- a client, or the master
  actor : Option ℕ → OutPart
  bytes : List ℕ → OutPart
  word : ℕ → OutPart
  -- a word, or that the node is lost
  answer : Option ℕ → OutPart

abbrev pub call_parts : CallText → List OutPart
call_parts (Put key value) = fixed (codes "put") ∷ bytes key ∷ bytes value ∷ []
call_parts (Get key) = fixed (codes "get") ∷ bytes key ∷ []
call_parts (Delete key) = fixed (codes "delete") ∷ bytes key ∷ []

abbrev pub reply_parts : ReplyText → List OutPart
reply_parts Done = fixed (codes "Done") ∷ []
reply_parts (Value value) = fixed (codes "Value") ∷ bytes value ∷ []
reply_parts Absent = fixed (codes "Absent") ∷ []
reply_parts Full = fixed (codes "Full") ∷ []
reply_parts (NoSpace class client begin) = fixed (codes "NoSpace") ∷ number class ∷ number client ∷ word begin ∷ []

abbrev pub not_yet_parts : NotYetText → List OutPart
not_yet_parts (notyet.Sealed epoch) = fixed (codes "Sealed") ∷ word epoch ∷ []
not_yet_parts (notyet.Lost node) = fixed (codes "Lost") ∷ number node ∷ []
not_yet_parts (notyet.Unchanged slot old) = fixed (codes "Unchanged") ∷ number slot ∷ word old ∷ []

-- the words after `refused`
abbrev pub refusal_parts : RefusalText → List OutPart
refusal_parts (refusal.Clients number_named) = fixed (codes "clients") ∷ number number_named ∷ []
refusal_parts (refusal.Unknown number_named) = fixed (codes "unknown") ∷ number number_named ∷ []
refusal_parts (refusal.Stopped number_named) = fixed (codes "stopped") ∷ number number_named ∷ []
refusal_parts (refusal.Busy number_named) = fixed (codes "busy") ∷ number number_named ∷ []
refusal_parts (refusal.Key number_named) = fixed (codes "key") ∷ number number_named ∷ []
refusal_parts (refusal.Value number_named) = fixed (codes "value") ∷ number number_named ∷ []
refusal_parts (refusal.Spent number_named) = fixed (codes "spent") ∷ number number_named ∷ []
refusal_parts (refusal.Idle number_named) = fixed (codes "idle") ∷ number number_named ∷ []
refusal_parts (refusal.Live number_named) = fixed (codes "live") ∷ number number_named ∷ []
refusal_parts (refusal.Running number_named) = fixed (codes "running") ∷ number number_named ∷ []
refusal_parts (refusal.Recovered number_named) = fixed (codes "recovered") ∷ number number_named ∷ []
refusal_parts (refusal.Node number_named) = fixed (codes "node") ∷ number number_named ∷ []
refusal_parts (refusal.Gone number_named) = fixed (codes "gone") ∷ number number_named ∷ []
refusal_parts (refusal.LastLive number_named) = fixed (codes "lastlive") ∷ number number_named ∷ []
refusal_parts (refusal.Masked number_named) = fixed (codes "masked") ∷ number number_named ∷ []
refusal_parts refusal.Task = fixed (codes "task") ∷ []
refusal_parts (refusal.Sealed epoch) = fixed (codes "sealed") ∷ word epoch ∷ []
refusal_parts refusal.Other = []

-- a mark that stands last, or not
abbrev pub mark_parts : Bool → List OutPart → List OutPart
mark_parts true parts = parts
mark_parts false parts = []

-- a line
abbrev pub line_parts : OutLine → List OutPart
line_parts (line.Client client) = fixed (codes "client") ∷ number client ∷ []
line_parts (line.Called client count call) = fixed (codes "called") ∷ number client ∷ number count ∷ call_parts call
line_parts (line.Ended client count reply) = fixed (codes "ended") ∷ number client ∷ number count ∷ reply_parts reply
line_parts (line.NotYet who why) = fixed (codes "notyet") ∷ actor who ∷ not_yet_parts why
line_parts (line.Took who verbs) = fixed (codes "took") ∷ actor who ∷ number verbs ∷ []
line_parts (line.Stopped client) = fixed (codes "stopped") ∷ number client ∷ []
line_parts (line.Lost node) = fixed (codes "lost") ∷ number node ∷ []
line_parts line.TaskSettle = fixed (codes "task") ∷ fixed (codes "settle") ∷ []
line_parts (line.TaskRecover client) = fixed (codes "task") ∷ fixed (codes "recover") ∷ number client ∷ []
line_parts (line.Recovered client) = fixed (codes "recovered") ∷ number client ∷ []
line_parts (line.Opened epoch) = fixed (codes "opened") ∷ word epoch ∷ []
line_parts (line.Waiting client begin) = fixed (codes "waiting") ∷ number client ∷ word begin ∷ []
line_parts (line.VerbRead who node at found) =
    fixed (codes "v") ∷ actor who ∷ fixed (codes "read") ∷ number node ∷ number at ∷ fixed (codes "=") ∷ answer found ∷ []
line_parts (line.VerbWrite who node at new lost) =
    fixed (codes "v") ∷ actor who ∷ fixed (codes "write") ∷ number node ∷ number at ∷ word new ∷ mark_parts lost (fixed (codes "=") ∷ fixed (codes "lost") ∷ [])
line_parts (line.VerbSwap who node at expect fresh found) =
    fixed (codes "v") ∷ actor who ∷ fixed (codes "swap") ∷ number node ∷ number at ∷ word expect ∷ word fresh ∷ fixed (codes "=") ∷ answer found ∷ []
line_parts (line.VerbAdd who node at amount found) =
    fixed (codes "v") ∷ actor who ∷ fixed (codes "add") ∷ number node ∷ number at ∷ word amount ∷ fixed (codes "=") ∷ answer found ∷ []
line_parts (line.Word node at stored) = fixed (codes "w") ∷ number node ∷ number at ∷ word stored ∷ []
line_parts (line.Dumped words) = fixed (codes "dumped") ∷ number words ∷ []
line_parts (line.Blocks unused owned awaiting released) =
    fixed (codes "blocks") ∷ fixed (codes "unused") ∷ number unused ∷ fixed (codes "owned") ∷ number owned
    ∷ fixed (codes "awaiting") ∷ number awaiting ∷ fixed (codes "released") ∷ number released ∷ []
line_parts (line.Objects stock present held) =
    fixed (codes "objects") ∷ fixed (codes "stock") ∷ number stock ∷ fixed (codes "present") ∷ number present ∷ fixed (codes "held") ∷ number held ∷ []
line_parts (line.History entries) = fixed (codes "history") ∷ number entries ∷ []
line_parts (line.Entry client count call reply unreturned) =
    fixed (codes "h") ∷ number client ∷ number count ∷ (call_parts call ++ (reply_parts reply ++ mark_parts unreturned (fixed (codes "open") ∷ [])))
line_parts (line.Refused why) = fixed (codes "refused") ∷ refusal_parts why
line_parts line.End = fixed (codes "end") ∷ []
line_parts (line.Filled node) = fixed (codes "filled") ∷ number node ∷ []
line_parts (line.Joined node) = fixed (codes "joined") ∷ number node ∷ []
line_parts (line.TaskJoin node) = fixed (codes "task") ∷ fixed (codes "join") ∷ number node ∷ []

-- how a part is written
abbrev pub part_text : OutPart → List ℕ
part_text (fixed name) = name
part_text (number value) = decimal value
part_text (actor who) = actor_text who
part_text (bytes value) = bytes_text value
part_text (word value) = word_text value
part_text (answer found) = answer_text found

-- a word that stands for this part
abbrev pub StandsFor : List ℕ → OutPart → Type 0
StandsFor text (fixed name) = text ≡ name
StandsFor text (number value) = number_of text ≡ Some value
StandsFor text (actor who) = actor_of text ≡ Some who
StandsFor text (bytes value) = bytes_of text ≡ Some value
StandsFor text (word value) = word_of text ≡ Some value
StandsFor text (answer found) = answer_of text ≡ Some found

-- words that stand for these parts, one each
abbrev pub StandFor : List (List ℕ) → List OutPart → Type 0
StandFor [] [] = Unit {0}
StandFor [] (part ∷ parts) = ⊥
StandFor (text ∷ texts) [] = ⊥
StandFor (text ∷ texts) (part ∷ parts) = StandsFor text part × StandFor texts parts

abbrev pub IfThere : (ℕ → Type 0) → Option ℕ → Type 0
IfThere P None = Unit {0}
IfThere P (Some value) = P value

-- a part whose number, word or bytes are within their types
abbrev pub IsInRange : OutPart → Type 0
IsInRange (fixed name) = Unit {0}
IsInRange (number value) = value < 2 ^ 32
IsInRange (actor who) = IfThere (λ client. client < 2 ^ 32) who
IsInRange (bytes value) = All (λ byte. byte < 256) value
IsInRange (word value) = value < 2 ^ 64
IsInRange (answer found) = IfThere (λ value. value < 2 ^ 64) found

-- a line whose numbers, words and bytes are within their types
abbrev pub HasInRange : OutLine → Type 0
HasInRange out = All IsInRange (line_parts out)
