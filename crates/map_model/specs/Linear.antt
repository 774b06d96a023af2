-- Linearizability, after Herlihy and Wing, "Linearizability: a correctness condition for concurrent objects" (1990): the
-- calls of a trace can be placed one after the other, so that a map gives each reply and no call stands before one that
-- had returned when it was made.
use Rattle.std.specs.Prelude.{ℕ, ◌+◌, ◌<◌, ◌≡◌, List, ◌∷◌, [], Some, slice_get, Contains, flat_map, IsTrue}
use Rattle.map_model.specs.declared.calls.Call.{Call}
use Rattle.map_model.specs.declared.calls.Reply.{Reply}
use Rattle.map_model.specs.declared.entries.Entry.{Entry}
use Rattle.map_model.specs.Map.{is_legal}
use Rattle.map_model.specs.Trace.{Moment, Invoked, Returned}

-- the entries are calls of the trace, each at most once, among them each call that returned
pub record IsPlacing (trace : List Moment) (entries : List Entry) : Type 0 where
  -- nothing stands in the list that was not called
  pub called : (e : Entry) → Contains entries e → Contains trace (Invoked e.client e.number e.call)
  -- what is marked as returned did return, with this reply
  pub marked : (e : Entry) → Contains entries e → IsTrue e.returned → Contains trace (Returned e.client e.number e.reply)
  -- what returned is marked, and has the reply that it returned with
  pub replied : (e : Entry) → Contains entries e → (reply : Reply) → Contains trace (Returned e.client e.number reply) → IsTrue e.returned × (e.reply ≡ reply)
  -- each call that returned stands in the list
  pub placed : (client number : ℕ) (reply : Reply) → Contains trace (Returned client number reply) → (e : Entry) × Contains entries e × (e.client ≡ client) × (e.number ≡ number)
  -- each call stands there once
  pub once : (i j : ℕ) (a b : Entry) → slice_get entries i ≡ Some a → slice_get entries j ≡ Some b → a.client ≡ b.client → a.number ≡ b.number → i ≡ j

-- the call of a returned before the call of b was made
pub record ReturnsBefore (trace : List Moment) (a b : Entry) : Type 0 where
  pub reply : Reply
  pub call : Call
  pub returned_at : ℕ
  pub called_at : ℕ
  pub returned : slice_get trace returned_at ≡ Some (Returned a.client a.number reply)
  pub called : slice_get trace called_at ≡ Some (Invoked b.client b.number call)
  pub earlier : returned_at < called_at

-- a call stands before each one that was made after it had returned
abbrev pub KeepsOrder : List Moment → List Entry → Type 0
KeepsOrder trace entries = (i j : ℕ) (a b : Entry) → slice_get entries i ≡ Some a → slice_get entries j ≡ Some b → ReturnsBefore trace a b → i < j

-- the entries are a linearization of the trace
pub record IsLinear (trace : List Moment) (entries : List Entry) : Type 0 where
  pub placing : IsPlacing trace entries
  pub legal : IsTrue (is_legal entries)
  pub order : KeepsOrder trace entries

-- the moments of calls that are made one after the other, each after the one before it had returned
abbrev pub moments_of : List Entry → List Moment
moments_of entries = flat_map (λ e. Invoked e.client e.number e.call ∷ Returned e.client e.number e.reply ∷ []) entries

-- the entries are the calls of one client, numbered from the one after this number, and each returned
abbrev pub IsSequence : ℕ → ℕ → List Entry → Type 0
IsSequence client number [] = Unit {0}
IsSequence client number (e ∷ es) = (e.client ≡ client) × (e.number ≡ number + 1) × IsTrue e.returned × IsSequence client (number + 1) es
