-- Writers one after another.
use Rattle.std.proofs.Common.{ℕ, ◌≤◌, List, [], ◌++◌, subst, append-nil, arith}
use Rattle.std.specs.Prelude.{Option, Result, Ok, Err}
use Rattle.std.specs.Io.KnownBytes.{Appends}
use Rattle.outside.specs.Faults.{Rose}
use Rattle.outside.proofs.AppendedLemmas.{appends_front, appends_then, front_of_longer}
use Rattle.script_run.specs.Written.{Stops, Writes}
use Rattle.script_run.specs.declared.writing.Unwritten.{Unwritten}
use Rattle.script_run.specs.declared.writing.Unwritten.TheVariants.{Fault, NoMemory}

rose_later : (first second third : ℕ) → first ≤ second → Rose second third → Rose first third
rose_later first second third later rose = omega arith

-- where the writing of a text stops behind one that was appended, it stops in both and what would have followed
pub stops_then : (a b c : Option (List ℕ)) (first second third : ℕ) (why : Unwritten) (xs ys zs : List ℕ)
    → Appends a b xs → first ≤ second → Stops b c second third why ys → Stops a c first third why (xs ++ (ys ++ zs))
stops_then a b c first second third Fault xs ys zs p later w = (rose_later first second third later w.0, appends_front a b c xs (ys ++ zs) p (front_of_longer b c ys zs w.1))
stops_then a b c first second third NoMemory xs ys zs p later w = appends_front a b c xs (ys ++ zs) p (front_of_longer b c ys zs w)

-- a text that is written behind one that was appended
pub writes_then : {K T : Type 0} (held : K → Option (List ℕ)) (faults : K → ℕ) (a b c : K) (result : Result T Unwritten) (xs ys : List ℕ)
    → Appends (held a) (held b) xs → faults a ≤ faults b → Writes held faults b c result ys → Writes held faults a c result (xs ++ ys)
writes_then held faults a b c (Ok value) xs ys p later w = appends_then (held a) (held b) (held c) xs ys p w
writes_then held faults a b c (Err why) xs ys p later w =
    subst (λ t. Stops (held a) (held c) (faults a) (faults c) why (xs ++ t)) (append-nil ys) (stops_then (held a) (held b) (held c) (faults a) (faults b) (faults c) why xs ys [] p later w)

-- where the writing of a text stops, it stops in what would have followed too
pub stops_before : (a b : Option (List ℕ)) (first second : ℕ) (why : Unwritten) (xs ys : List ℕ) → Stops a b first second why xs → Stops a b first second why (xs ++ ys)
stops_before a b first second Fault xs ys w = (w.0, front_of_longer a b xs ys w.1)
stops_before a b first second NoMemory xs ys w = front_of_longer a b xs ys w
