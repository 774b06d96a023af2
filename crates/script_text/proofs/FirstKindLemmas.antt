-- The kind that a line is answered with is the first of its faults.
use Rattle.std.proofs.Common.{◌≡◌, ℕ, ◌≤◌, ◌⊎◌, Bool, true, false, List, [], ◌∷◌, Option, Some, None, Err, inl, inr, refl, sym, ap, arith}
use Rattle.std.specs.Prelude.{if◌then◌else◌, nat_lt}
use Rattle.std.proofs.lemmas.Bool.Decides.{nat_tests}
use Rattle.script_text.specs.OutputFault.{HasFault, IsFirstKind}
use Rattle.script_text.specs.OutputForm.{Form, fault_or, left_fault, of_form}
use Rattle.script_text.specs.OutputPlace.{Place, Reading, behind, first_fault, first_kind, past, past_all, place_fault, rank}
use Rattle.script_text.specs.declared.faults.BadKind.{BadKind}
use Rattle.script_text.specs.declared.out_lines.OutLine.{OutLine}

-- of two faults, the first
record IsFirstOfTwo (a b : Option BadKind) (fault : BadKind) : Type 0 where
  one : (a ≡ Some fault) ⊎ (b ≡ Some fault)
  before_a : (other : BadKind) → a ≡ Some other → rank fault ≤ rank other
  before_b : (other : BadKind) → b ≡ Some other → rank fault ≤ rank other

same_rank : (a b : BadKind) → Some a ≡ Some b → rank a ≤ rank b
same_rank a b is = let same : a ≡ b = cc in rw same (omega arith)

two_kinds : (a b fault : BadKind) (later : Bool) → nat_lt (rank b) (rank a) ≡ later → (if later then b else a) ≡ fault → IsFirstOfTwo (Some a) (Some b) fault
two_kinds a b fault true test is = record {
  one = inr (ap Some is);
  before_a = λ other e. let same : a ≡ other = cc in rw (← is, ← same) (grind (arith, nat_tests));
  before_b = λ other e. let same : b ≡ other = cc in rw (← is, ← same) (omega arith);
}
two_kinds a b fault false test is = record {
  one = inl (ap Some is);
  before_a = λ other e. let same : a ≡ other = cc in rw (← is, ← same) (omega arith);
  before_b = λ other e. let same : b ≡ other = cc in rw (← is, ← same) (grind (arith, nat_tests));
}

first_of_two : (a b : Option BadKind) (fault : BadKind) → first_fault a b ≡ Some fault → IsFirstOfTwo a b fault
first_of_two a None fault is = record { one = inl is; before_a = λ other e. let same : Some fault ≡ Some other = cc in same_rank fault other same; before_b = λ other e. cc }
first_of_two None (Some b) fault is = record { one = inr is; before_a = λ other e. cc; before_b = λ other e. let same : Some fault ≡ Some other = cc in same_rank fault other same }
first_of_two (Some a) (Some b) fault is = let kind_is : first_kind a b ≡ fault = cc in two_kinds a b fault (nat_lt (rank b) (rank a)) refl kind_is

-- the first of what was met, and of what stands at these places
record IsFirstFrom (met : Option BadKind) (places : List Place) (words : List (List ℕ)) (fault : BadKind) : Type 0 where
  here : (met ≡ Some fault) ⊎ HasFault places words fault
  before_met : (other : BadKind) → met ≡ Some other → rank fault ≤ rank other
  before_others : (other : BadKind) → HasFault places words other → rank fault ≤ rank other

first_at_end : (met : Option BadKind) (words : List (List ℕ)) (fault : BadKind) → IsFirstOfTwo met (left_fault words) fault → IsFirstFrom met [] words fault
first_at_end met [] fault two = record {
  here = elim two.one [ inl a ↦ inl a | inr b ↦ cc ];
  before_met = two.before_a;
  before_others = λ other has. absurd has;
}
first_at_end met (word ∷ words) fault two = record {
  here = elim two.one [ inl a ↦ inl a | inr b ↦ inr cc ];
  before_met = two.before_a;
  before_others = λ other has. two.before_b other (ap Some (sym has));
}

record FirstKind (a b : Option BadKind) (other : BadKind) : Type 0 where
  kind : BadKind
  is : first_fault a b ≡ Some kind
  before : rank kind ≤ rank other

kind_of_two : (a b other : BadKind) (later : Bool) → nat_lt (rank b) (rank a) ≡ later → (Some a ≡ Some other) ⊎ (Some b ≡ Some other) → rank (if later then b else a) ≤ rank other
kind_of_two a b other true test (inl e) = let same : a ≡ other = cc in rw (← same) (grind (arith, nat_tests))
kind_of_two a b other true test (inr e) = let same : b ≡ other = cc in rw (← same) (omega arith)
kind_of_two a b other false test (inl e) = let same : a ≡ other = cc in rw (← same) (omega arith)
kind_of_two a b other false test (inr e) = let same : b ≡ other = cc in rw (← same) (grind (arith, nat_tests))

first_kind_of : (a b : Option BadKind) (other : BadKind) → (a ≡ Some other) ⊎ (b ≡ Some other) → FirstKind a b other
first_kind_of a None other (inl e) = record { kind = other; is = e; before = omega arith }
first_kind_of a None other (inr e) = cc
first_kind_of None (Some b) other (inl e) = cc
first_kind_of None (Some b) other (inr e) = record { kind = other; is = e; before = omega arith }
first_kind_of (Some a) (Some b) other e = record { kind = first_kind a b; is = refl; before = kind_of_two a b other (nat_lt (rank b) (rank a)) refl e }

met_or_here : (met : Option BadKind) (place : Place) (places : List Place) (words : List (List ℕ)) (fault : BadKind) → (met ≡ Some fault) ⊎ (place_fault place words ≡ Some fault) → (met ≡ Some fault) ⊎ HasFault (place ∷ places) words fault
met_or_here met place places words fault (inl e) = inl e
met_or_here met place places words fault (inr e) = inr (inl e)

here_or_later : (met : Option BadKind) (place : Place) (places : List Place) (words : List (List ℕ)) (fault : BadKind)
    → (first_fault met (place_fault place words) ≡ Some fault) ⊎ HasFault places (behind place words) fault → (met ≡ Some fault) ⊎ HasFault (place ∷ places) words fault
here_or_later met place places words fault (inl e) = met_or_here met place places words fault (first_of_two met (place_fault place words) fault e).one
here_or_later met place places words fault (inr has) = inr (inr has)

before_all : (met : Option BadKind) (place : Place) (places : List Place) (words : List (List ℕ)) (fault other : BadKind) → IsFirstFrom (first_fault met (place_fault place words)) places (behind place words) fault
    → HasFault (place ∷ places) words other → rank fault ≤ rank other
before_all met place places words fault other later (inl e) =
    let first = first_kind_of met (place_fault place words) other (inr e) in
    let low : rank fault ≤ rank first.kind = later.before_met first.kind first.is in
    omega (arith, first.before)
before_all met place places words fault other later (inr has) = later.before_others other has

first_at_place : (place : Place) (places : List Place) (r : Reading) (fault : BadKind) → IsFirstFrom (past place r).fault places (past place r).words fault → IsFirstFrom r.fault (place ∷ places) r.words fault
first_at_place place places r fault later = record {
  here = here_or_later r.fault place places r.words fault later.here;
  before_met = λ other e.
      let first = first_kind_of r.fault (place_fault place r.words) other (inl e) in
      let low : rank fault ≤ rank first.kind = later.before_met first.kind first.is in
      omega (arith, first.before);
  before_others = λ other has. before_all r.fault place places r.words fault other later has;
}

met_of : (met : Option BadKind) (means : OutLine) (fault : BadKind) → fault_or met means ≡ Err fault → met ≡ Some fault
met_of None means fault is = cc
met_of (Some met) means fault is = cc

first_from : (places : List Place) (r : Reading) (fault : BadKind) → first_fault (past_all places r).fault (left_fault (past_all places r).words) ≡ Some fault → IsFirstFrom r.fault places r.words fault
first_from [] r fault is = first_at_end r.fault r.words fault (first_of_two r.fault (left_fault r.words) fault is)
first_from (place ∷ places) r fault is = first_at_place place places r fault (first_from places (past place r) fault is)

-- the kind that words are answered with is that of one of their faults, and the first
pub first_of_form : (due : Form OutLine) (words : List (List ℕ)) (fault : BadKind) → of_form due words ≡ Err fault → IsFirstKind due.places words fault
first_of_form due words fault is =
    let start : Reading = record { words = words; fault = None } in
    let met = met_of (first_fault (past_all due.places start).fault (left_fault (past_all due.places start).words)) due.means fault is in
    let first = first_from due.places start fault met in
    record { here = elim first.here [ inl none ↦ cc | inr has ↦ has ]; first = first.before_others }
