-- What reading a script answers.
use Rattle.std.specs.Prelude.{◌≡◌, Result, Ok, Err}
use Rattle.script_text.specs.ScriptForm.{Fault, Plan, fault}
use Rattle.script_text.specs.ScriptRead.{plan_of}
use Rattle.script_text.specs.declared.faults.ScriptFault.{ScriptFault}
use Rattle.script_text.specs.declared.faults.ScriptFault.TheVariants.{BadLine, NoMemory}
use Rattle.script_text.specs.declared.scripts.Script.{Script}

-- the script that a text is read as, or its first bad line
abbrev pub IsScript : Result Script ScriptFault → Result Plan Fault → Type 0
IsScript (Ok script) read = read ≡ Ok (plan_of script)
IsScript (Err (BadLine number kind)) read = read ≡ fault number kind
IsScript (Err NoMemory) read = Unit {0}
