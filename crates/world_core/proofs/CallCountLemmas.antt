-- How many calls a client has ended, and what is said of its calls at every event.
use Rattle.std.proofs.Common.{◌≡◌, ℕ, ◌+◌, ◌-◌, ◌<◌, ◌≤◌, Bool, true, false, List, refl, sym, ap, ◌∙◌, arith}
use Rattle.std.proofs.lemmas.Bool.{false≢true}
use Rattle.kv_ops.specs.Stepping.{is_ended}
use Rattle.kv_ops.proofs.KeptLemmas.{turn-kept}
use Rattle.machine.specs.declared.client_call.Step.{Step}
use Rattle.machine.specs.declared.client_call.Step.TheVariants as step
use Rattle.machine.specs.Client.{after, invoked, is_idle, told}
use Rattle.machine.specs.Stage.{Client, Operation, first_client}
use Rattle.machine.specs.Standing.{IsClient}
use Rattle.region_view.specs.Sizes.{Sizes}
use Rattle.verb_words.specs.declared.verbs.Answer.{Answer}
use Rattle.world_core.proofs.CallObjectLemmas.{ObjectAt}
use Rattle.world_core.proofs.CallStepLemmas.{object-kept}
use Rattle.world_core.proofs.LedgerLemmas.{ended_by}

abbrev ended_of : Bool → ℕ → ℕ
ended_of true number = number
ended_of false number = number - 1

-- how many calls a client has ended: all but the one that it is inside
abbrev pub calls_ended : Client → ℕ
calls_ended client = ended_of (is_idle client) client.number

most-ended : (idle : Bool) (number : ℕ) → ended_of idle number ≤ number
most-ended true number = omega arith
most-ended false number = omega arith

pub calls_ended-most : (client : Client) → calls_ended client ≤ client.number
calls_ended-most client = most-ended (is_idle client) client.number

ended-now : (tells : Step) (number : ℕ) → 1 ≤ number → ended_of (is_ended tells) number ≡ number - 1 + ended_by tells
ended-now (step.Ended result) number least = omega arith
ended-now step.Going number least = omega arith
ended-now (step.NotYet reason) number least = omega arith

-- a verb ends one call where it tells so, and else none
pub calls_ended-after : (client : Client) (answer : Answer) → is_idle client ≡ false → 1 ≤ client.number → calls_ended (after client answer) ≡ calls_ended client + ended_by (told client answer)
calls_ended-after client answer busy least =
    let kept = turn-kept client answer in
    (λ i. ended_of (kept.idle busy i) (kept.number i)) ∙ ended-now (told client answer) client.number least ∙ ap (λ idle. ended_of idle client.number + ended_by (told client answer)) (sym busy)

-- a call that begins ends none
pub calls_ended-invoked : (client : Client) (operation : Operation) (key value : List ℕ) → is_idle client ≡ true → calls_ended (invoked client operation key value) ≡ calls_ended client
calls_ended-invoked client operation key value idle = rw idle (omega arith)

-- a client has made no more calls than it may, it is inside one only once it has made one, and the call's object is as its
-- stage has it
pub record IsCalling (sizes : Sizes) (client : Client) : Type 0 where
  pub most : client.number ≤ sizes.calls
  pub begun : is_idle client ≡ false → 1 ≤ client.number
  pub object : ObjectAt client.stage client

pub first_client-calling : (sizes : Sizes) (number : ℕ) → IsCalling sizes (first_client number sizes)
first_client-calling sizes number = record { most = omega arith; begun = λ busy. absurd (false≢true (sym busy)); object = tt }

pub invoked-calling : (sizes : Sizes) (client : Client) (operation : Operation) (key value : List ℕ) → client.number < sizes.calls → IsCalling sizes (invoked client operation key value)
invoked-calling sizes client operation key value room = record { most = omega (arith, room); begun = λ busy. omega arith; object = refl }

pub after-calling : (sizes : Sizes) (number : ℕ) (client : Client) (answer : Answer) → IsClient sizes number client → is_idle client ≡ false → IsCalling sizes client → IsCalling sizes (after client answer)
after-calling sizes number client answer is busy calling =
    let kept = turn-kept client answer in
    record {
      most = omega (arith, kept.number, calling.most);
      begun = λ still. omega (arith, kept.number, calling.begun busy);
      object = object-kept sizes number client answer is busy calling.object;
    }
