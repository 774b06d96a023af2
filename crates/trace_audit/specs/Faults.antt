-- The five faults of an entry, and the order in which they are looked for.
use Rattle.std.specs.Prelude.{◌≡◌, ℕ, ◌<◌, false, List, Some, slice_get, take, length, IsTrue}
use Rattle.map_model.specs.declared.calls.Reply.{Reply}
use Rattle.map_model.specs.declared.entries.Entry.{Entry}
use Rattle.map_model.specs.Linear.{ReturnsBefore}
use Rattle.map_model.specs.Map.{empty_map, map_after, may_reply}
use Rattle.map_model.specs.Trace.{Moment, Invoked, Returned}
use Rattle.trace_audit.specs.declared.verdicts.Fault.{Fault}
use Rattle.trace_audit.specs.declared.verdicts.Fault.TheVariants as fault
use Rattle.trace_audit.specs.Fits.{IsCalled, HasReturned}

-- one of the entries before this place is of this call
abbrev pub IsListedBefore : List Entry → ℕ → ℕ → ℕ → Type 0
IsListedBefore entries place client number = (at : ℕ) × (e : Entry) × (at < place) × (slice_get entries at ≡ Some e) × (e.client ≡ client) × (e.number ≡ number)

-- one of the entries is of this call
abbrev pub IsListed : List Entry → ℕ → ℕ → Type 0
IsListed entries client number = IsListedBefore entries (length entries) client number

-- the entry says what the trace says
pub record Agrees (trace : List Moment) (e : Entry) : Type 0 where
  -- this was called
  pub call : (at : ℕ) × (slice_get trace at ≡ Some (Invoked e.client e.number e.call))
  -- what returned is not marked as open, and has the reply that it returned with
  pub reply : (at : ℕ) (reply : Reply) → slice_get trace at ≡ Some (Returned e.client e.number reply) → IsTrue e.returned × (e.reply ≡ reply)
  -- what is not marked as open returned
  pub mark : IsTrue e.returned → HasReturned trace e.client e.number

-- the entry at this place has the fault
abbrev pub HasFault : List Moment → List Entry → ℕ → Entry → Fault → Type 0
HasFault trace entries place e fault.Unknown = ¬ IsCalled trace e.client e.number
HasFault trace entries place e fault.Double = IsListedBefore entries place e.client e.number
HasFault trace entries place e fault.Differs = ¬ Agrees trace e
HasFault trace entries place e fault.Order = (at : ℕ) × (later : Entry) × (place < at) × (slice_get entries at ≡ Some later) × ReturnsBefore trace later e
HasFault trace entries place e fault.Reply = may_reply (map_after empty_map (take place entries)) e.call e.reply ≡ false

-- the order of the faults
abbrev pub rank : Fault → ℕ
rank fault.Unknown = 0
rank fault.Double = 1
rank fault.Differs = 2
rank fault.Order = 3
rank fault.Reply = 4

-- this is the first of its faults
abbrev pub IsFirstFault : List Moment → List Entry → ℕ → Entry → Fault → Type 0
IsFirstFault trace entries place e fault = HasFault trace entries place e fault × ((other : Fault) → rank other < rank fault → ¬ HasFault trace entries place e other)

-- it has none of the faults
abbrev pub IsFaultless : List Moment → List Entry → ℕ → Entry → Type 0
IsFaultless trace entries place e = (fault : Fault) → ¬ HasFault trace entries place e fault

-- no entry before this place is at fault
abbrev pub AreFaultless : List Moment → List Entry → ℕ → Type 0
AreFaultless trace entries place = (at : ℕ) (e : Entry) → at < place → slice_get entries at ≡ Some e → IsFaultless trace entries at e
