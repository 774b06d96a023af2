-- The verdict on the lines of an output.
use Rattle.std.specs.Prelude.{◌≡◌, ℕ, ◌+◌, ◌<◌, List, Some, slice_get, length}
use Rattle.map_model.specs.declared.entries.Entry.{Entry}
use Rattle.map_model.specs.Trace.{Moment}
use Rattle.script_text.specs.declared.out_lines.OutLine.{OutLine}
use Rattle.script_text.specs.declared.out_lines.OutLine.TheVariants as line
use Rattle.script_text.specs.declared.out_lines.ReplyText.{ReplyText}
use Rattle.trace_audit.specs.declared.verdicts.Fault.{Fault}
use Rattle.trace_audit.specs.declared.verdicts.Verdict.{Verdict}
use Rattle.trace_audit.specs.declared.verdicts.Verdict.TheVariants as verdict
use Rattle.trace_audit.specs.Faults.{AreFaultless, IsFirstFault, IsListed}
use Rattle.trace_audit.specs.Fits.{Fits, IsFirstUnfit}
use Rattle.trace_audit.specs.Told.{history_of, trace_of}

-- the entry of this number, counted from 1, is the first at fault: this is its first fault, and its call
pub record IsFirstAtFault (trace : List Moment) (entries : List Entry) (number : ℕ) (fault : Fault) (client call : ℕ) : Type 0 where
  pub place : ℕ
  pub entry : Entry
  pub counted : number ≡ place + 1
  pub there : slice_get entries place ≡ Some entry
  pub first : IsFirstFault trace entries place entry fault
  pub before : AreFaultless trace entries place
  pub client_is : entry.client ≡ client
  pub call_is : entry.number ≡ call

-- the line ends a call that is not in the list
abbrev pub EndsUnlisted : OutLine → List Entry → ℕ → ℕ → Type 0
EndsUnlisted out entries client number = (reply : ReplyText) × (out ≡ line.Ended client number reply) × (¬ IsListed entries client number)

-- no line does
abbrev pub IsWhole : List OutLine → List Entry → Type 0
IsWhole lines entries = (at client number : ℕ) (out : OutLine) → slice_get lines at ≡ Some out → ¬ EndsUnlisted out entries client number

-- the first line that does ends this call
abbrev pub IsFirstMissing : List OutLine → List Entry → ℕ → ℕ → Type 0
IsFirstMissing lines entries client number = (at : ℕ) × (out : OutLine) × (slice_get lines at ≡ Some out) × EndsUnlisted out entries client number
    × ((earlier c n : ℕ) (before : OutLine) → earlier < at → slice_get lines earlier ≡ Some before → ¬ EndsUnlisted before entries c n)

-- no entry of the list is at fault
abbrev pub IsSound : List OutLine → Type 0
IsSound lines = AreFaultless (trace_of lines) (history_of lines) (length (history_of lines))

-- the verdict: a line that does not fit, else an entry at fault, else a call that is missing, else the list is linear
abbrev pub IsVerdict : List OutLine → Verdict → Type 0
IsVerdict lines (verdict.Trace number) = IsFirstUnfit lines number
IsVerdict lines (verdict.Entry at fault client number) = Fits lines × IsFirstAtFault (trace_of lines) (history_of lines) at fault client number
IsVerdict lines (verdict.Missing client number) = Fits lines × IsSound lines × IsFirstMissing lines (history_of lines) client number
IsVerdict lines (verdict.Linear count) = Fits lines × IsSound lines × IsWhole lines (history_of lines) × (count ≡ length (history_of lines))
