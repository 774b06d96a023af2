-- What a writer of a text did to its sink.
use Rattle.std.specs.Prelude.{ℕ, List, Option, Result, Ok, Err}
use Rattle.std.specs.Io.KnownBytes.{Appends}
use Rattle.outside.specs.Appended.{AppendsFront}
use Rattle.outside.specs.Faults.{Rose}
use Rattle.script_run.specs.declared.running.Ran.{Ran}
use Rattle.script_run.specs.declared.running.Ran.TheVariants.{Whole, WriteFault}
use Rattle.script_run.specs.declared.running.Ran.TheVariants as ran
use Rattle.script_run.specs.declared.writing.Unwritten.{Unwritten}
use Rattle.script_run.specs.declared.writing.Unwritten.TheVariants.{Fault, NoMemory}

-- the writing stopped, with a fault that was counted or for want of memory: a front of the text was appended
abbrev pub Stops : Option (List ℕ) → Option (List ℕ) → ℕ → ℕ → Unwritten → List ℕ → Type 0
Stops held held' faults faults' Fault text = Rose faults faults' × AppendsFront held held' text
Stops held held' faults faults' NoMemory text = AppendsFront held held' text

-- what a writer answers, and what the sink holds before and after: all of the text was appended, or the writing stopped
abbrev pub Writes : {K T : Type 0} → (K → Option (List ℕ)) → (K → ℕ) → K → K → Result T Unwritten → List ℕ → Type 0
Writes held faults before now (Ok value) text = Appends (held before) (held now) text
Writes held faults before now (Err why) text = Stops (held before) (held now) (faults before) (faults now) why text

-- what a run of a script answers: all of its text was appended, or a front of it
abbrev pub Prints : {K : Type 0} → (K → Option (List ℕ)) → (K → ℕ) → K → K → Ran → List ℕ → Type 0
Prints held faults before now Whole text = Appends (held before) (held now) text
Prints held faults before now WriteFault text = Rose (faults before) (faults now) × AppendsFront (held before) (held now) text
Prints held faults before now ran.NoMemory text = AppendsFront (held before) (held now) text
