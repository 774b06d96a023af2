-- What reading answers, in the words of the meaning.
use Rattle.std.proofs.Common.{ℕ, List, Result, Ok, Err, refl}
use Rattle.std.specs.Prelude.{IfOk}
use Rattle.script_text.specs.ScriptForm.{reading_of}
use Rattle.script_text.specs.ScriptRead.{Gives, IsParsed, plan_of}
use Rattle.script_text.specs.Sound.{IsSound}
use Rattle.script_text.specs.declared.faults.ScriptFault.{ScriptFault}
use Rattle.script_text.specs.declared.faults.ScriptFault.TheVariants.{BadLine, NoMemory}
use Rattle.script_text.specs.declared.scripts.Script.{Script}
use Rattle.script_text.proofs.ScriptFormLemmas.{means-reading_of}
use Rattle.script_text.proofs.SoundLemmas.{IsSound-means}

pub IsParsed-given : (result : Result Script ScriptFault) (text : List ℕ) → Gives plan_of result (reading_of text) → IsParsed result text
IsParsed-given (Ok script) text gives = means-reading_of text (plan_of script) gives
IsParsed-given (Err (BadLine number kind)) text gives = rw gives refl
IsParsed-given (Err NoMemory) text gives = tt

pub IsSound-parsed : (result : Result Script ScriptFault) (text : List ℕ) → IsParsed result text → IfOk result (λ script. IsSound text (plan_of script))
IsSound-parsed (Ok script) text parsed = IsSound-means text (plan_of script) parsed
IsSound-parsed (Err fault) text parsed = tt
