-- What holds where an event of a client is not refused.
use Rattle.std.proofs.Common.{◌≡◌, ◌≢◌, ℕ, ◌<◌, ◌≤◌, ◌==◌, Bool, true, false, ◌&&◌, length, Option, Some, None, refl, sym, ◌∙◌, arith}
use Rattle.std.specs.Prelude.{nat_le, nat_lt}
use Rattle.std.proofs.lemmas.Bool.Decides.{nat_tests}
use Rattle.machine.specs.declared.client_call.Before.{Before}
use Rattle.machine.specs.declared.client_call.Before.TheVariants as before
use Rattle.machine.specs.Client.{is_idle, refusal as refusal_of_call}
use Rattle.machine.specs.Stage.{Client}
use Rattle.machine_world.specs.Calls.{key_of, value_of}
use Rattle.machine_world.specs.Refusals.{of_call, of_client, of_lengths, of_step}
use Rattle.machine_world.specs.World.{World, client_at, is_registered, is_stopped}
use Rattle.machine_world.specs.declared.outcomes.Refused.{Refused}
use Rattle.machine_world.specs.declared.outcomes.Refused.TheVariants as refused
use Rattle.map_model.specs.declared.calls.Call.{Call}
use Rattle.object_form.specs.declared.classes.TheConstants.{LONGEST}

-- the client is registered and not stopped, and there is no other reason
pub client-allowed : (world : World) (client : ℕ) (rest : Option Refused) → of_client world client rest ≡ None
    → (1 ≤ client) × (client < length world.clients) × (is_stopped world client ≡ false) × (rest ≡ None)
client-allowed world client rest none = by (is_registered world client) refl (is_stopped world client) refl
  where
    by : (t : Bool) → is_registered world client ≡ t → (u : Bool) → is_stopped world client ≡ u
        → (1 ≤ client) × (client < length world.clients) × (is_stopped world client ≡ false) × (rest ≡ None)
    by true known true halted = let bad : Some (refused.Stopped client) ≡ None = sym (rw (known, halted) refl) ∙ none in absurd cc
    by true known false running = (grind (arith, nat_tests), grind (arith, nat_tests), running, sym (rw (known, running) refl) ∙ none)
    by false unknown u halted = let bad : Some (refused.Unknown client) ≡ None = sym (rw unknown refl) ∙ none in absurd cc

-- a client whose verb is not refused is inside a call
pub step-allowed : (world : World) (client : ℕ) (rest : Option Refused) → of_client world client (of_step world client rest) ≡ None
    → (1 ≤ client) × (client < length world.clients) × (is_idle (client_at world client) ≡ false)
step-allowed world client rest none = let known = client-allowed world client (of_step world client rest) none in (known.0, known.1, by (is_idle (client_at world client)) refl known.3)
  where
    by : (t : Bool) → is_idle (client_at world client) ≡ t → of_step world client rest ≡ None → is_idle (client_at world client) ≡ false
    by true idle left = let bad : Some (refused.Idle client) ≡ None = sym (rw idle refl) ∙ left in absurd cc
    by false busy left = busy

-- a call that is not refused is not one too many
lengths-room : (client : Client) (key_len value_len : ℕ) → refusal_of_call client key_len value_len ≡ None → client.number ≢ client.shape.calls
lengths-room client key_len value_len none = by (nat_lt 0 key_len && nat_le key_len 64) refl (nat_le value_len LONGEST) refl (client.number == client.shape.calls) refl
  where
    by : (t : Bool) → (nat_lt 0 key_len && nat_le key_len 64) ≡ t → (u : Bool) → nat_le value_len LONGEST ≡ u → (v : Bool) → (client.number == client.shape.calls) ≡ v
        → client.number ≢ client.shape.calls
    by false key u value v spent = let bad : Some (before.KeyLength key_len) ≡ None = sym (rw key refl) ∙ none in absurd cc
    by true key false value v spent = let bad : Some (before.ValueLength value_len) ≡ None = sym (rw (key, value) refl) ∙ none in absurd cc
    by true key true value true spent = let bad : Some before.Spent ≡ None = sym (rw (key, value, spent) refl) ∙ none in absurd cc
    by true key true value false more = grind (arith, nat_tests)

-- a client whose call is not refused is between calls, and may make one more
pub call-allowed : (world : World) (client : ℕ) (call : Call) → of_client world client (of_call world client call) ≡ None
    → (1 ≤ client) × (client < length world.clients) × (is_idle (client_at world client) ≡ true) × ((client_at world client).number ≢ (client_at world client).shape.calls)
call-allowed world client call none =
    let known = client-allowed world client (of_call world client call) none in
    let more = by (is_idle (client_at world client)) refl (refusal_of_call (client_at world client) (length (key_of call)) (length (value_of call))) refl known.3 in
    (known.0, known.1, more.0, more.1)
  where
    by : (t : Bool) → is_idle (client_at world client) ≡ t → (why : Option Before) → refusal_of_call (client_at world client) (length (key_of call)) (length (value_of call)) ≡ why → of_call world client call ≡ None
        → (is_idle (client_at world client) ≡ true) × ((client_at world client).number ≢ (client_at world client).shape.calls)
    by true idle None fits left = (idle, lengths-room (client_at world client) (length (key_of call)) (length (value_of call)) fits)
    by true idle (Some why) refuses left = let bad : Some (of_lengths client why) ≡ None = sym (rw (idle, refuses) refl) ∙ left in absurd cc
    by false busy why other left = let bad : Some (refused.Busy client) ≡ None = sym (rw busy refl) ∙ left in absurd cc
