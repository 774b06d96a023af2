-- What a command makes of an input that is within size.
use Rattle.std.specs.Prelude.{◌≡◌, ℕ, List, Result, Ok, Err, nat_lt, if◌then◌else◌}
use Rattle.lease_core.specs.Grammar.{events_from}
use Rattle.lease_core.specs.Terms.{Agreed}
use Rattle.lease_core.specs.Text as lease
use Rattle.lease_core.specs.declared.lease_lines.LeaseLine.{LeaseLine}
use Rattle.lease_core.specs.declared.reading.LeaseKind.{LeaseKind}
use Rattle.lease_core.specs.declared.reading.LeaseKind.TheVariants as lease_kind
use Rattle.script_meaning.specs.Scripts.{run_on, sizes_of}
use Rattle.script_run.specs.declared.running.TheConstants.{MOST_WORDS}
use Rattle.script_text.specs.OutputRead.{Bad, output_of}
use Rattle.script_text.specs.OutputText.{text_of}
use Rattle.script_text.specs.ScriptForm.{Fault, Plan, reading_of}
use Rattle.script_text.specs.declared.faults.BadKind.{BadKind}
use Rattle.script_text.specs.declared.faults.BadKind.TheVariants as kind
use Rattle.script_text.specs.declared.out_lines.OutLine.{OutLine}
use Rattle.text_lines.specs.Lines.{lines_of}
use Rattle.trace_audit.specs.Verdicts.{IsVerdict}
use Rattle.trace_audit.specs.declared.verdicts.Verdict.{Verdict}
use Rattle.fusee_top.specs.Notices.{notice_status, notice_text}
use Rattle.fusee_top.specs.Sizes.{shape_words}
use Rattle.fusee_top.specs.Verdict.{verdict_text}
use Rattle.fusee_top.specs.declared.commands.Command.{Command}
use Rattle.fusee_top.specs.declared.commands.Command.TheVariants as command
use Rattle.fusee_top.specs.declared.notices.Notice.{Notice}
use Rattle.fusee_top.specs.declared.notices.Notice.TheVariants as notice

-- a notice, or the text of a run
pub data Ending : Type 0 where
  Told : Notice → Ending
  Ran : List ℕ → Ending

abbrev pub ending_text : Ending → List ℕ
ending_text (Told notice) = notice_text notice
ending_text (Ran text) = text

abbrev pub ending_status : Ending → ℕ
ending_status (Told notice) = notice_status notice
ending_status (Ran text) = 0

-- ---- script

-- the text of the run of a script
unfoldable pub printed : Plan → List ℕ
printed plan = text_of (run_on (sizes_of plan.shape) plan.lines).lines

abbrev pub sized_ending : Plan → Ending
sized_ending plan = if nat_lt MOST_WORDS (shape_words plan.shape) then Told (notice.TooLarge (shape_words plan.shape)) else Ran (printed plan)

abbrev pub read_ending : Result Plan Fault → Ending
read_ending (Ok plan) = sized_ending plan
read_ending (Err fault) = Told (notice.BadLine fault.number fault.kind)

-- what a script comes to
abbrev pub script_ending : List ℕ → Ending
script_ending input = read_ending (reading_of input)

-- ---- audit

-- what an output comes to: the text of its verdict
abbrev pub IsOutputEnding : Result (List OutLine) Bad → Ending → Type 0
IsOutputEnding (Ok lines) ending = (verdict : Verdict) × IsVerdict lines verdict × (ending ≡ Ran (verdict_text verdict))
IsOutputEnding (Err bad) ending = ending ≡ Told (notice.BadLine bad.number bad.kind)

-- ---- leases

-- the name that a fault of a lease line has among those of all lines
abbrev pub kind_of_lease : LeaseKind → BadKind
kind_of_lease lease_kind.Byte = kind.Byte
kind_of_lease lease_kind.Word = kind.Word
kind_of_lease lease_kind.Count = kind.Count
kind_of_lease lease_kind.Number = kind.Number

abbrev pub events_ending : Agreed → Result (List LeaseLine) (ℕ × LeaseKind) → Ending
events_ending terms (Ok events) = Ran (lease.run_text terms events)
events_ending terms (Err bad) = Told (notice.BadLine bad.0 (kind_of_lease bad.1))

-- what lease lines come to
abbrev pub leases_ending : Agreed → List ℕ → Ending
leases_ending terms input = events_ending terms (events_from 1 (lines_of input))

-- ---- any command

-- the input comes to this; a simulation reads none
abbrev pub Comes : Command → List ℕ → Ending → Type 0
Comes command.Script input ending = ending ≡ script_ending input
Comes command.Audit input ending = IsOutputEnding (output_of input) ending
Comes (command.Leases terms) input ending = ending ≡ leases_ending terms input
Comes (command.Sim numbers) input ending = ⊥

abbrev pub output_status : Result (List OutLine) Bad → ℕ
output_status (Ok lines) = 0
output_status (Err bad) = 3

-- the status of an input
abbrev pub status_of : Command → List ℕ → ℕ
status_of command.Script input = ending_status (script_ending input)
status_of command.Audit input = output_status (output_of input)
status_of (command.Leases terms) input = ending_status (leases_ending terms input)
status_of (command.Sim numbers) input = 0
