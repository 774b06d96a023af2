-- What of a text is still to be written.
use Rattle.std.proofs.Common.{◌≡◌, ℕ, ◌≤◌, List, [], ◌++◌, refl, sym, ap, ◌∙◌, append_assoc, append-nil, subst}
use Rattle.std.specs.Prelude.{Option, Some, None, Result}
use Rattle.std.specs.Io.KnownBytes.{Appends}
use Rattle.outside.specs.Appended.{AppendsFront}
use Rattle.outside.proofs.AppendedLemmas.{appends_then, front_of_longer, front_of_nothing}
use Rattle.script_run.proofs.WrittenLemmas.{stops_then, writes_then}
use Rattle.script_run.specs.Written.{Stops, Writes}
use Rattle.script_run.specs.declared.writing.Unwritten.{Unwritten}
use Rattle.script_run.specs.declared.writing.Unwritten.TheVariants.{Fault, NoMemory}

-- the text up to this rest was appended
abbrev pub Left : Option (List ℕ) → Option (List ℕ) → List ℕ → List ℕ → Type 0
Left held held' text rest = (done : List ℕ) × (text ≡ done ++ rest) × Appends held held' done

appends_none : (held : Option (List ℕ)) → Appends held held []
appends_none None = tt
appends_none (Some xs) = sym (append-nil xs)

-- where nothing is written, a front of any text is
pub starves : (held : Option (List ℕ)) (text : List ℕ) → AppendsFront held held text
starves held text = front_of_nothing held held text (appends_none held)

pub left_start : (held : Option (List ℕ)) (text : List ℕ) → Left held held text text
left_start held text = ([], refl, appends_none held)

pub left_more : (a b c : Option (List ℕ)) (text rest xs ys : List ℕ) → rest ≡ xs ++ ys → Left a b text rest → Appends b c xs → Left a c text ys
left_more a b c text rest xs ys cut left more =
    (left.0 ++ xs, left.1 ∙ ap (λ t. left.0 ++ t) cut ∙ sym (append_assoc left.0 xs ys), appends_then a b c left.0 xs left.2 more)

pub left_stops : (a b c : Option (List ℕ)) (first second third : ℕ) (why : Unwritten) (text rest xs ys : List ℕ)
    → rest ≡ xs ++ ys → Left a b text rest → first ≤ second → Stops b c second third why xs → Stops a c first third why text
left_stops a b c first second third why text rest xs ys cut left later stops =
    subst (Stops a c first third why) (sym (left.1 ∙ ap (λ t. left.0 ++ t) cut)) (stops_then a b c first second third why left.0 xs ys left.2 later stops)

pub left_writes : {K T : Type 0} (held : K → Option (List ℕ)) (faults : K → ℕ) (a b c : K) (result : Result T Unwritten) (text rest : List ℕ)
    → Left (held a) (held b) text rest → faults a ≤ faults b → Writes held faults b c result rest → Writes held faults a c result text
left_writes held faults a b c result text rest left later writes =
    subst (Writes held faults a c result) (sym left.1) (writes_then held faults a b c result left.0 rest left.2 later writes)

pub left_ends : (a b : Option (List ℕ)) (text : List ℕ) → Left a b text [] → Appends a b text
left_ends a b text left = subst (Appends a b) (sym (left.1 ∙ append-nil left.0)) left.2

-- where the first of two texts is not written to its end, neither are both
pub stops_in : (a b : Option (List ℕ)) (before now : ℕ) (why : Unwritten) (xs ys : List ℕ) → Stops a b before now why xs → Stops a b before now why (xs ++ ys)
stops_in a b before now Fault xs ys stops = (stops.0, front_of_longer a b xs ys stops.1)
stops_in a b before now NoMemory xs ys stops = front_of_longer a b xs ys stops
