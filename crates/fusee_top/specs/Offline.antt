-- What the top call answers: when each status comes, and what the sink then holds.
use Rattle.std.specs.Prelude.{◌≡◌, ◌≢◌, ℕ, ◌<◌, ◌≤◌, ◌⊎◌, true, ◌&&◌, nat_lt, if◌then◌else◌, List, ◌++◌, length, codes, Option, Some, None, Ok, slice_get}
use Rattle.std.specs.Fmt.{decimal}
use Rattle.lease_core.specs.Grammar.{events_from}
use Rattle.lease_core.specs.Run.{answers}
use Rattle.lease_core.specs.Terms.{Agreed}
use Rattle.lease_core.specs.Text as lease
use Rattle.lease_core.specs.declared.answering.LeaseAnswer.{LeaseAnswer}
use Rattle.lease_core.specs.declared.answering.LeaseAnswer.TheVariants as told
use Rattle.lease_core.specs.declared.lease_lines.LeaseLine.{LeaseLine}
use Rattle.outside.specs.Appended.{AppendsFront}
use Rattle.script_run.specs.declared.running.TheConstants.{MOST_WORDS}
use Rattle.script_text.specs.Meaning.{Means}
use Rattle.script_text.specs.OutputRead.{output_of}
use Rattle.script_text.specs.ScriptForm.{Plan}
use Rattle.script_text.specs.declared.faults.BadKind.{BadKind}
use Rattle.script_text.specs.declared.out_lines.OutLine.{OutLine}
use Rattle.sim_meaning.specs.Summary.{rendered}
use Rattle.sim_meaning.specs.declared.numbers.Numbers.{Numbers}
use Rattle.text_lines.specs.Lines as text
use Rattle.trace_audit.specs.Verdicts.{IsVerdict}
use Rattle.trace_audit.specs.declared.verdicts.Verdict.{Verdict}
use Rattle.fusee_top.specs.Course.{Ends, SinkCourse, SourceCourse, ReadFailed, Starves, Wrote}
use Rattle.fusee_top.specs.Endings.{Comes, Ending, Ran, Told, ending_status, ending_text, printed, status_of}
use Rattle.fusee_top.specs.Input.{GaveMore, WasAll}
use Rattle.fusee_top.specs.Notices.{bad_line_text}
use Rattle.fusee_top.specs.Sizes.{shape_words}
use Rattle.fusee_top.specs.Verdict.{verdict_text}
use Rattle.fusee_top.specs.Words.{is_reading, reads}
use Rattle.fusee_top.specs.declared.commands.Command.{Command}
use Rattle.fusee_top.specs.declared.commands.Command.TheVariants as command
use Rattle.fusee_top.specs.declared.notices.Notice.TheVariants as notice
use Rattle.fusee_top.specs.declared.reading.TheConstants.{LIMIT}

-- ---- what a call meets

-- what it met before it wrote
pub data Outcome : Type 0 where
  Usage : Outcome
  ReadFault : Outcome
  TooLarge : Outcome
  Whole : (command : Command) (input : List ℕ) (ending : Ending) → Outcome
  Simulates : Numbers → Outcome

-- when it meets that, given the command that the words name
abbrev pub Meets : Option Command → SourceCourse → Outcome → Type 0
Meets named source Usage = named ≡ None
Meets named source ReadFault = (is_reading named ≡ true) × ReadFailed source
Meets named source TooLarge = (is_reading named ≡ true) × GaveMore source.left source.left_now
Meets named source (Whole command input ending) = (named ≡ Some command) × WasAll source.left source.left_now input × Comes command input ending
Meets named source (Simulates numbers) = named ≡ Some (command.Sim numbers)

abbrev pub outcome_ending : Outcome → Ending
outcome_ending Usage = Told notice.Usage
outcome_ending ReadFault = Told notice.ReadFault
outcome_ending TooLarge = Told (notice.TooLarge 4194305)
outcome_ending (Whole command input ending) = ending
outcome_ending (Simulates numbers) = Ran (rendered numbers)

-- the answer, and what the sink holds: that of what was met, or 6 and nothing more than before
abbrev pub Answers : Option Command → SourceCourse → SinkCourse → ℕ → Type 0
Answers named source sink result =
    Starves sink result
    ⊎ ((met : Outcome) × Meets named source met × Ends sink (ending_text (outcome_ending met)) (ending_status (outcome_ending met)) result)

-- ---- status 0

-- a script was read whole and run, and the text of its run was written
pub record RanScript (source : SourceCourse) (sink : SinkCourse) : Type 0 where
  pub input : List ℕ
  pub plan : Plan
  pub read : WasAll source.left source.left_now input
  pub script : Means input plan
  pub within : shape_words plan.shape ≤ MOST_WORDS
  pub wrote : Wrote sink (printed plan)

-- an output was read whole, and the verdict on it was written
pub record RanAudit (source : SourceCourse) (sink : SinkCourse) : Type 0 where
  pub input : List ℕ
  pub lines : List OutLine
  pub verdict : Verdict
  pub read : WasAll source.left source.left_now input
  pub output : output_of input ≡ Ok lines
  pub judged : IsVerdict lines verdict
  pub wrote : Wrote sink (verdict_text verdict)

-- no verb of a client is lawful once the client is fenced
abbrev pub StayFenced : List LeaseAnswer → Type 0
StayFenced answers = (client fenced verb : ℕ) → slice_get answers fenced ≡ Some (told.Fenced client) → fenced < verb → slice_get answers verb ≢ Some (told.Lawful client)

-- lease lines were read whole, and the answers of their run were written: no verb is lawful after fencing
pub record RanLeases (terms : Agreed) (source : SourceCourse) (sink : SinkCourse) : Type 0 where
  pub input : List ℕ
  pub lines : List LeaseLine
  pub read : WasAll source.left source.left_now input
  pub events : events_from 1 (text.lines_of input) ≡ Ok lines
  pub wrote : Wrote sink (lease.text_of (answers terms lines))
  pub fenced : StayFenced (answers terms lines)

-- ---- the other statuses

pub record HasUsage (named : Option Command) (sink : SinkCourse) : Type 0 where
  pub none : named ≡ None
  pub wrote : Wrote sink (codes "usage\n")

pub record HasReadFault (source : SourceCourse) (sink : SinkCourse) : Type 0 where
  pub failed : ReadFailed source
  pub wrote : Wrote sink (codes "read fault\n")

-- an input was read whole, and this is its first bad line
pub record HasBadLine (named : Option Command) (source : SourceCourse) (sink : SinkCourse) : Type 0 where
  pub command : Command
  pub input : List ℕ
  pub number : ℕ
  pub kind : BadKind
  pub names : named ≡ Some command
  pub read : WasAll source.left source.left_now input
  pub bad : Comes command input (Told (notice.BadLine number kind))
  pub wrote : Wrote sink (bad_line_text number kind)

-- a script was read whole, and its shape has more words than there may be
pub record HasTooManyWords (named : Option Command) (source : SourceCourse) (sink : SinkCourse) : Type 0 where
  pub input : List ℕ
  pub plan : Plan
  pub names : named ≡ Some command.Script
  pub read : WasAll source.left source.left_now input
  pub script : Means input plan
  pub over : MOST_WORDS < shape_words plan.shape
  pub wrote : Wrote sink (codes "too large " ++ decimal (shape_words plan.shape) ++ codes "\n")

-- the sink grew by nothing, or by a front of the text of what was met
abbrev pub LeavesFront : Option Command → SourceCourse → SinkCourse → Type 0
LeavesFront named source sink =
    (sink.held_now ≡ sink.held)
    ⊎ ((met : Outcome) × Meets named source met × AppendsFront sink.held sink.held_now (ending_text (outcome_ending met)))

-- a command reads, and more bytes were given than an input may have
pub record HasTooManyBytes (named : Option Command) (source : SourceCourse) (sink : SinkCourse) : Type 0 where
  pub reads : is_reading named ≡ true
  pub gave : GaveMore source.left source.left_now
  pub wrote : Wrote sink (codes "too large " ++ decimal 4194305 ++ codes "\n")

abbrev pub IsTooLarge : Option Command → SourceCourse → SinkCourse → Type 0
IsTooLarge named source sink = HasTooManyBytes named source sink ⊎ HasTooManyWords named source sink

-- the status of any input; of a simulation, whatever is left to be read
abbrev pub input_status : Command → List ℕ → ℕ
input_status command input = if reads command && nat_lt LIMIT (length input) then 7 else status_of command input

-- the input is within size and in the grammar of the command, and a script asks for no more words than there may be; a
-- simulation takes any
abbrev pub IsAccepted : Command → List ℕ → Type 0
IsAccepted command.Script input = (length input ≤ LIMIT) × ((plan : Plan) × Means input plan × (shape_words plan.shape ≤ MOST_WORDS))
IsAccepted command.Audit input = (length input ≤ LIMIT) × ((lines : List OutLine) × (output_of input ≡ Ok lines))
IsAccepted (command.Leases terms) input = (length input ≤ LIMIT) × ((lines : List LeaseLine) × (events_from 1 (text.lines_of input) ≡ Ok lines))
IsAccepted (command.Sim numbers) input = Unit {0}

abbrev pub IsStatus : ℕ → Type 0
IsStatus result = (result ≡ 0) ⊎ ((result ≡ 2) ⊎ ((result ≡ 3) ⊎ ((result ≡ 4) ⊎ ((result ≡ 5) ⊎ ((result ≡ 6) ⊎ (result ≡ 7))))))
