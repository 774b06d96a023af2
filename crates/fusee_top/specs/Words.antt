-- The command that the words of a call name.
use Rattle.std.specs.Prelude.{◌≡◌, ℕ, ◌*◌, ◌==◌, Bool, true, false, ◌&&◌, nat_lt, nat_le, if◌then◌else◌, List, [], ◌∷◌, length, codes, Option, Some, None, Result, Ok, Err, bytes_eq}
use Rattle.lease_core.specs.Terms.{Agreed, agreed}
use Rattle.lease_core.specs.declared.lease_terms.TheConstants.{LONGEST}
use Rattle.sim_meaning.specs.declared.numbers.Numbers.{Numbers}
use Rattle.fusee_top.specs.Options.{option_values}
use Rattle.fusee_top.specs.declared.commands.Command.{Command}
use Rattle.fusee_top.specs.declared.commands.Command.TheVariants as command
use Rattle.fusee_top.specs.declared.options.Misread.{Misread}
use Rattle.fusee_top.specs.declared.options.Misread.TheVariants.{Form, NoMemory}

-- the command, where no word follows its name
abbrev pub lone : Command → List (List ℕ) → Option Command
lone command words = if length words == 0 then Some command else None

-- whether a length and an error are terms
abbrev pub are_terms : ℕ → ℕ → Bool
are_terms length error = nat_lt 0 length && nat_le length LONGEST && nat_lt (2 * error) length

abbrev pub terms_in : ℕ → ℕ → Option Agreed
terms_in length error = if are_terms length error then Some (agreed length error) else None

abbrev pub under_terms : Option Agreed → Option Command
under_terms (Some terms) = Some (command.Leases terms)
under_terms None = None

abbrev pub leases_under : Option (List ℕ) → Option Command
leases_under (Some (length ∷ error ∷ [])) = under_terms (terms_in length error)
leases_under values = None

-- leases under the terms that the words behind the name give
abbrev pub leases_of : List (List ℕ) → Option Command
leases_of words = leases_under (option_values (codes "length" ∷ codes "error" ∷ []) words)

-- whether these are numbers that a simulation may be of: 1 to 64 clients, 1 to 10,000 calls each and 100,000 in all, fewer
-- clients that stop than there are, and at most 2 nodes that are lost
abbrev pub are_numbers : ℕ → ℕ → ℕ → ℕ → Bool
are_numbers clients calls stops losses =
    nat_lt 0 clients && nat_le clients 64 && nat_lt 0 calls && nat_le calls 10000 && nat_le (clients * calls) 100000
    && nat_lt stops clients && nat_le losses 2

abbrev pub numbers_in : ℕ → ℕ → ℕ → ℕ → ℕ → Option Numbers
numbers_in seed clients calls stops losses =
    if are_numbers clients calls stops losses
    then Some (record { seed = seed; clients = clients; calls = calls; stops = stops; losses = losses })
    else None

abbrev pub of_numbers : Option Numbers → Option Command
of_numbers (Some numbers) = Some (command.Sim numbers)
of_numbers None = None

abbrev pub sim_under : Option (List ℕ) → Option Command
sim_under (Some (seed ∷ clients ∷ calls ∷ stops ∷ losses ∷ [])) = of_numbers (numbers_in seed clients calls stops losses)
sim_under values = None

abbrev pub sim_names : List (List ℕ)
sim_names = codes "seed" ∷ codes "clients" ∷ codes "calls" ∷ codes "stops" ∷ codes "losses" ∷ []

-- a simulation of the numbers that the words behind the name give
abbrev pub sim_of : List (List ℕ) → Option Command
sim_of words = sim_under (option_values sim_names words)

-- the command of a name and the words behind it
abbrev pub named_command : List ℕ → List (List ℕ) → Option Command
named_command name words =
    if bytes_eq name (codes "script") then lone command.Script words
    else (if bytes_eq name (codes "audit") then lone command.Audit words
    else (if bytes_eq name (codes "leases") then leases_of words
    else (if bytes_eq name (codes "sim") then sim_of words
    else None)))

abbrev pub command_of : List (List ℕ) → Option Command
command_of [] = None
command_of (name ∷ words) = named_command name words

-- whether a command reads its input; a simulation is of its numbers alone
abbrev pub reads : Command → Bool
reads command.Script = true
reads command.Audit = true
reads (command.Leases terms) = true
reads (command.Sim numbers) = false

-- whether the words name a command that reads
abbrev pub is_reading : Option Command → Bool
is_reading None = false
is_reading (Some command) = reads command

-- the command, or that the words name none
abbrev pub IsNamed : Result Command Misread → Option Command → Type 0
IsNamed (Ok command) named = named ≡ Some command
IsNamed (Err Form) named = named ≡ None
IsNamed (Err NoMemory) named = Unit {0}
