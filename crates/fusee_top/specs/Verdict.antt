-- The text of a verdict.
use Rattle.std.specs.Prelude.{ℕ, List, ◌++◌, codes}
use Rattle.std.specs.Fmt.{decimal}
use Rattle.trace_audit.specs.declared.verdicts.Fault.{Fault}
use Rattle.trace_audit.specs.declared.verdicts.Fault.TheVariants as fault
use Rattle.trace_audit.specs.declared.verdicts.Verdict.{Verdict}
use Rattle.trace_audit.specs.declared.verdicts.Verdict.TheVariants as verdict

abbrev pub fault_name : Fault → List ℕ
fault_name fault.Unknown = codes "Unknown"
fault_name fault.Double = codes "Double"
fault_name fault.Differs = codes "Differs"
fault_name fault.Order = codes "Order"
fault_name fault.Reply = codes "Reply"

-- a call: its client and its number
abbrev pub call_name : ℕ → ℕ → List ℕ
call_name client number = decimal client ++ codes " " ++ decimal number

abbrev pub verdict_text : Verdict → List ℕ
verdict_text (verdict.Linear count) = codes "linear " ++ decimal count ++ codes "\n"
verdict_text (verdict.Trace number) = codes "trace " ++ decimal number ++ codes "\n"
verdict_text (verdict.Entry at fault client number) = codes "no " ++ decimal at ++ codes " " ++ fault_name fault ++ codes " " ++ call_name client number ++ codes "\n"
verdict_text (verdict.Missing client number) = codes "missing " ++ call_name client number ++ codes "\n"
