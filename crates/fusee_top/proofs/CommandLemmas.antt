-- The terms of leases and the numbers of a simulation, as the words of a call give them.
use Rattle.std.proofs.Common.{◌≡◌, ℕ, ◌*◌, ◌<◌, ◌≤◌, ◌==◌, Bool, true, false, ◌&&◌, List, [], ◌∷◌, length, Some, None, refl, ap, sym, subst, ◌∙◌, arith}
use Rattle.std.specs.Prelude.{Option, Result, Err, MatchOption, if◌then◌else◌, nat_lt, nat_le, bytes_eq, codes}
use Rattle.std.proofs.lemmas.Bool.{false≢true}
use Rattle.std.proofs.lemmas.Bool.Decides.{nat_tests}
use Rattle.lease_core.specs.Terms.{Agreed, AreTerms, agreed}
use Rattle.lease_core.specs.declared.lease_terms.TheConstants.{LONGEST}
use Rattle.fusee_top.specs.Options.{IsRead, option_values}
use Rattle.sim_meaning.specs.declared.numbers.Numbers.{Numbers}
use Rattle.fusee_top.specs.Words.{IsNamed, are_numbers, are_terms, command_of, leases_of, leases_under, lone, numbers_in, of_numbers, sim_names, sim_of, sim_under, terms_in, under_terms}
use Rattle.fusee_top.specs.declared.commands.Command.{Command}
use Rattle.fusee_top.specs.declared.commands.Command.TheVariants as command
use Rattle.fusee_top.specs.declared.options.Misread.{Misread}
use Rattle.fusee_top.specs.declared.options.Misread.TheVariants.{Form, NoMemory}

AreTerms-tests : (length error : ℕ) (a b c : Bool) → nat_lt 0 length ≡ a → nat_le length LONGEST ≡ b → nat_lt (2 * error) length ≡ c → (a && b && c) ≡ true → AreTerms (agreed length error)
AreTerms-tests length error true true true lasts bounded exceeds is = record { lasts = grind (arith, nat_tests); bounded = grind (arith, nat_tests); exceeds = grind (arith, nat_tests) }
AreTerms-tests length error false b c lasts bounded exceeds is = absurd (false≢true is)
AreTerms-tests length error true false c lasts bounded exceeds is = absurd (false≢true is)
AreTerms-tests length error true true false lasts bounded exceeds is = absurd (false≢true is)

are_terms-holds : (length error : ℕ) → are_terms length error ≡ true → AreTerms (agreed length error)
are_terms-holds length error is = AreTerms-tests length error (nat_lt 0 length) (nat_le length LONGEST) (nat_lt (2 * error) length) refl refl refl is

some_length : (n : ℕ) → 0 < n → nat_lt 0 n ≡ true
some_length n some = grind (arith, nat_tests)

short_length : (n : ℕ) → n ≤ LONGEST → nat_le n LONGEST ≡ true
short_length n few = grind (arith, nat_tests)

small_error : (m n : ℕ) → m < n → nat_lt m n ≡ true
small_error m n less = grind (arith, nat_tests)

holds-are_terms : (length error : ℕ) → AreTerms (agreed length error) → are_terms length error ≡ true
holds-are_terms length error are = rw (some_length length are.lasts, short_length length are.bounded, small_error (2 * error) length are.exceeds) refl

no_terms : (length error : ℕ) (b : Bool) → are_terms length error ≡ b → (AreTerms (agreed length error) → ⊥) → None ≡ (if b then Some (agreed length error) else None)
no_terms length error true is none = absurd (none (are_terms-holds length error is))
no_terms length error false is none = refl

pub terms_in-told : (length error : ℕ) (result : Option Agreed) → MatchOption result (AreTerms (agreed length error) → ⊥) (λ terms. (terms ≡ agreed length error) × AreTerms terms) → result ≡ terms_in length error
terms_in-told length error None none = no_terms length error (are_terms length error) refl none
terms_in-told length error (Some terms) some =
    let are = subst AreTerms some.0 some.1 in
    let test = holds-are_terms length error are in
    rw test (ap (λ t. Some t) some.0)

-- leases that words name are under terms

lone_leases : (called : Command) (none : Bool) (terms : Agreed) → ((called ≡ command.Leases terms) → ⊥) → (if none then Some called else None) ≡ Some (command.Leases terms) → ⊥
lone_leases called true terms other is = let same : called ≡ command.Leases terms = cc in other same
lone_leases called false terms other is = cc

terms_under : (length error : ℕ) (terms : Agreed) (test : Bool) → are_terms length error ≡ test → under_terms (if test then Some (agreed length error) else None) ≡ Some (command.Leases terms) → AreTerms terms
terms_under length error terms true test is = let same : agreed length error ≡ terms = cc in subst AreTerms same (are_terms-holds length error test)
terms_under length error terms false test is = cc

values_under : (values : Option (List ℕ)) (terms : Agreed) → leases_under values ≡ Some (command.Leases terms) → AreTerms terms
values_under None terms is = cc
values_under (Some []) terms is = cc
values_under (Some (length ∷ [])) terms is = cc
values_under (Some (length ∷ error ∷ [])) terms is = terms_under length error terms (are_terms length error) refl is
values_under (Some (length ∷ error ∷ other ∷ values)) terms is = cc

-- no simulation is leases

numbers_not_leases : (numbers : Option Numbers) (terms : Agreed) → of_numbers numbers ≡ Some (command.Leases terms) → ⊥
numbers_not_leases None terms is = cc
numbers_not_leases (Some numbers) terms is = cc

sim_not_leases : (values : Option (List ℕ)) (terms : Agreed) → sim_under values ≡ Some (command.Leases terms) → ⊥
sim_not_leases None terms is = cc
sim_not_leases (Some []) terms is = cc
sim_not_leases (Some (seed ∷ [])) terms is = cc
sim_not_leases (Some (seed ∷ clients ∷ [])) terms is = cc
sim_not_leases (Some (seed ∷ clients ∷ calls ∷ [])) terms is = cc
sim_not_leases (Some (seed ∷ clients ∷ calls ∷ stops ∷ [])) terms is = cc
sim_not_leases (Some (seed ∷ clients ∷ calls ∷ stops ∷ losses ∷ [])) terms is = numbers_not_leases (numbers_in seed clients calls stops losses) terms is
sim_not_leases (Some (seed ∷ clients ∷ calls ∷ stops ∷ losses ∷ other ∷ values)) terms is = cc

named : (script audit leases sim : Bool) (words : List (List ℕ)) (terms : Agreed)
    → (if script then lone command.Script words else (if audit then lone command.Audit words else (if leases then leases_of words else (if sim then sim_of words else None)))) ≡ Some (command.Leases terms)
    → AreTerms terms
named true audit leases sim words terms is = absurd (lone_leases command.Script (length words == 0) terms (λ same. cc) is)
named false true leases sim words terms is = absurd (lone_leases command.Audit (length words == 0) terms (λ same. cc) is)
named false false true sim words terms is = values_under (option_values (codes "length" ∷ codes "error" ∷ []) words) terms is
named false false false true words terms is = absurd (sim_not_leases (option_values sim_names words) terms is)
named false false false false words terms is = cc

pub AreTerms-named : (words : List (List ℕ)) (terms : Agreed) → command_of words ≡ Some (command.Leases terms) → AreTerms terms
AreTerms-named [] terms is = cc
AreTerms-named (name ∷ words) terms is =
    named (bytes_eq name (codes "script")) (bytes_eq name (codes "audit")) (bytes_eq name (codes "leases")) (bytes_eq name (codes "sim")) words terms is

-- a simulation that words name is of numbers that there may be

abbrev pub MayBe : Numbers → Type 0
MayBe numbers = are_numbers numbers.clients numbers.calls numbers.stops numbers.losses ≡ true

lone_sim : (called : Command) (none : Bool) (numbers : Numbers) → ((called ≡ command.Sim numbers) → ⊥) → (if none then Some called else None) ≡ Some (command.Sim numbers) → ⊥
lone_sim called true numbers other is = let same : called ≡ command.Sim numbers = cc in other same
lone_sim called false numbers other is = cc

terms_not_sim : (terms : Option Agreed) (numbers : Numbers) → under_terms terms ≡ Some (command.Sim numbers) → ⊥
terms_not_sim None numbers is = cc
terms_not_sim (Some terms) numbers is = cc

leases_not_sim : (values : Option (List ℕ)) (numbers : Numbers) → leases_under values ≡ Some (command.Sim numbers) → ⊥
leases_not_sim None numbers is = cc
leases_not_sim (Some []) numbers is = cc
leases_not_sim (Some (length ∷ [])) numbers is = cc
leases_not_sim (Some (length ∷ error ∷ [])) numbers is = terms_not_sim (terms_in length error) numbers is
leases_not_sim (Some (length ∷ error ∷ other ∷ values)) numbers is = cc

numbers_tested : (seed clients calls stops losses : ℕ) (numbers : Numbers) (test : Bool) → are_numbers clients calls stops losses ≡ test
    → of_numbers (if test then Some (record { seed = seed; clients = clients; calls = calls; stops = stops; losses = losses }) else None) ≡ Some (command.Sim numbers) → MayBe numbers
numbers_tested seed clients calls stops losses numbers true test is =
    let of : Numbers = record { seed = seed; clients = clients; calls = calls; stops = stops; losses = losses } in
    let same : of ≡ numbers = cc in
    subst MayBe same test
numbers_tested seed clients calls stops losses numbers false test is = cc

numbers_under : (values : Option (List ℕ)) (numbers : Numbers) → sim_under values ≡ Some (command.Sim numbers) → MayBe numbers
numbers_under None numbers is = cc
numbers_under (Some []) numbers is = cc
numbers_under (Some (seed ∷ [])) numbers is = cc
numbers_under (Some (seed ∷ clients ∷ [])) numbers is = cc
numbers_under (Some (seed ∷ clients ∷ calls ∷ [])) numbers is = cc
numbers_under (Some (seed ∷ clients ∷ calls ∷ stops ∷ [])) numbers is = cc
numbers_under (Some (seed ∷ clients ∷ calls ∷ stops ∷ losses ∷ [])) numbers is =
    numbers_tested seed clients calls stops losses numbers (are_numbers clients calls stops losses) refl is
numbers_under (Some (seed ∷ clients ∷ calls ∷ stops ∷ losses ∷ other ∷ values)) numbers is = cc

sim_named : (script audit leases sim : Bool) (words : List (List ℕ)) (numbers : Numbers)
    → (if script then lone command.Script words else (if audit then lone command.Audit words else (if leases then leases_of words else (if sim then sim_of words else None)))) ≡ Some (command.Sim numbers)
    → MayBe numbers
sim_named true audit leases sim words numbers is = absurd (lone_sim command.Script (length words == 0) numbers (λ same. cc) is)
sim_named false true leases sim words numbers is = absurd (lone_sim command.Audit (length words == 0) numbers (λ same. cc) is)
sim_named false false true sim words numbers is = absurd (leases_not_sim (option_values (codes "length" ∷ codes "error" ∷ []) words) numbers is)
sim_named false false false true words numbers is = numbers_under (option_values sim_names words) numbers is
sim_named false false false false words numbers is = cc

pub MayBe-named : (words : List (List ℕ)) (numbers : Numbers) → command_of words ≡ Some (command.Sim numbers) → MayBe numbers
MayBe-named [] numbers is = cc
MayBe-named (name ∷ words) numbers is =
    sim_named (bytes_eq name (codes "script")) (bytes_eq name (codes "audit")) (bytes_eq name (codes "leases")) (bytes_eq name (codes "sim")) words numbers is

-- what the values of a simulation's options name, or that they were misread
pub IsNamed-sim : (result : Result Command Misread) (words : List (List ℕ)) (values items : List ℕ) → option_values sim_names words ≡ Some items → values ≡ items
    → IsNamed result (sim_under (Some values)) → IsNamed result (sim_of words)
IsNamed-sim result words values items read same is = subst (λ given. IsNamed result (sim_under given)) (ap Some same ∙ sym read) is

pub IsNamed-misread : (why : Misread) (words : List (List ℕ)) → IsRead (Err why) (option_values sim_names words) → IsNamed (Err why) (sim_of words)
IsNamed-misread Form words read = ap sim_under read
IsNamed-misread NoMemory words read = tt
