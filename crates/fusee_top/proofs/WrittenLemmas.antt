-- A call ends by the text that it writes.
use Rattle.std.proofs.Common.{◌≡◌, ℕ, List, inl, inr}
use Rattle.std.specs.Prelude.{Option, Result, Ok, Err}
use Rattle.script_run.specs.Written.{Writes}
use Rattle.script_run.specs.declared.writing.Unwritten.{Unwritten}
use Rattle.script_run.specs.declared.writing.Unwritten.TheVariants.{Fault, NoMemory}
use Rattle.fusee_top.specs.Course.{Concludes, sink_course}
use Rattle.fusee_top.specs.Notices.{ended}

-- a call that writes a text ends so
pub Concludes-written : {K T : Type 0} (held : K → Option (List ℕ)) (faults : K → ℕ) (a b : K) (written : Result T Unwritten) (text : List ℕ) (status result : ℕ)
    → Writes held faults a b written text → result ≡ ended written status → Concludes (sink_course held faults a b) text status result
Concludes-written held faults a b (Ok value) text status result w is = inr (inl (is, w))
Concludes-written held faults a b (Err Fault) text status result w is = inr (inr (inl (is, w.0, w.1)))
Concludes-written held faults a b (Err NoMemory) text status result w is = inr (inr (inr (is, w)))
