-- What each verb of a client makes of its call's object, and where it ends the call.
use Rattle.std.proofs.Common.{◌≡◌, ℕ, ◌⊎◌, inl, inr, true, false, refl, sym, ap, subst, ◌∙◌}
use Rattle.std.proofs.lemmas.Bool.{false≢true}
use Rattle.kv_ops.specs.Ahead.{is_ending}
use Rattle.kv_ops.specs.Stepping.{is_ended}
use Rattle.machine.specs.declared.client_call.Outcome.{Outcome}
use Rattle.machine.specs.declared.client_call.Step.{Step}
use Rattle.machine.specs.declared.client_call.Step.TheVariants.{Ended}
use Rattle.machine.specs.BitChange as bits
use Rattle.machine.specs.Choosing as choosing
use Rattle.machine.specs.Client.{after, is_idle, is_idle_at, own_object, told, turn_at}
use Rattle.machine.specs.KeySearch as search
use Rattle.machine.specs.KeyTest as test
use Rattle.machine.specs.ObjectNames.{IsObject}
use Rattle.machine.specs.Resolution as resolution
use Rattle.machine.specs.SlotWrite as slots
use Rattle.machine.specs.Stage.{Client, Kept, FromStart, FromSeek, FromChoose, FromClear, FromBody, FromFind, FromResolve, FromFree, FromReturn, Stage, Idle, Start, ReadEpoch, Pause, Paused, LostNode, Seek, Fetch, Choose, Clear, Body, Find, ReadVersion, Log, WriteSlot, AwaitRound, TestKey, Resolve, Free, Return, End}
use Rattle.machine.specs.Standing.{IsAt, IsClient, KeepsFor}
use Rattle.machine.specs.ValueRead as values
use Rattle.machine.specs.WordsWrite as words
use Rattle.machine.proofs.ClientLemmas.{own_object-is}
use Rattle.region_view.specs.Sizes.{Sizes}
use Rattle.verb_words.specs.declared.verbs.Answer.{Answer}
use Rattle.verb_words.specs.declared.verbs.Answer.TheVariants.{Word, Done, Lost}
use Rattle.world_core.proofs.CallObjectLemmas.{HasNone, IsRow, MayOwn, ObjectAt, body-row, clear-row, epoch-row, fetch-row, finds_at-row, free-row, given, log-row, lost-row, paused-row, resolved-row, return-row, round-row, seek-row, test-row, took-row, version-row, wrote-row}

abbrev at_stage : Stage → Client → Client
at_stage stage client = record client { stage = stage }

-- the call ends only where its begin word is written even, and its object stays as its stage has it
record IsStep (stage : Stage) (client : Client) (answer : Answer) : Type 0 where
  ended : (result : Outcome) → (turn_at stage (at_stage stage client) answer).told ≡ Ended result → (stage ≡ End) × (answer ≡ Done) × (result ≡ client.outcome)
  object : MayOwn client × ObjectAt stage client
      → ObjectAt (turn_at stage (at_stage stage client) answer).state.stage (turn_at stage (at_stage stage client) answer).state

not_ended : (step : Step) (result : Outcome) → is_ended step ≡ false → step ≡ Ended result → ⊥
not_ended step result goes is = false≢true (sym goes ∙ ap is_ended is)

going : (stage : Stage) (client : Client) (answer : Answer) → IsRow (MayOwn client × ObjectAt stage client) (turn_at stage (at_stage stage client) answer) → IsStep stage client answer
going stage client answer row = record {
  ended = λ result is. absurd (not_ended (turn_at stage (at_stage stage client) answer).told result row.goes is);
  object = row.object;
}

end-step : (client : Client) (answer : Answer) → IsStep End client answer
end-step client Done = record { ended = λ result is. (refl, refl, cc); object = λ g. tt }
end-step client (Word found) = going End client (Word found) (record { goes = refl; object = λ g. g.1 })
end-step client Lost = going End client Lost (record { goes = refl; object = λ g. g.1 })

step-at : (stage : Stage) (client : Client) (answer : Answer) → IsStep stage client answer
step-at Idle client answer = going Idle client answer (record { goes = refl; object = λ g. tt })
step-at Start client Done = going Start client Done (record { goes = refl; object = λ g. g.1 })
step-at Start client (Word found) = going Start client (Word found) (record { goes = refl; object = λ g. g.1 })
step-at Start client Lost = going Start client Lost (record { goes = refl; object = λ g. g.1 })
step-at ReadEpoch client (Word found) = going ReadEpoch client (Word found) (given (λ g. g.1) (epoch-row (at_stage ReadEpoch client) found))
step-at ReadEpoch client Done = going ReadEpoch client Done (record { goes = refl; object = λ g. g.1 })
step-at ReadEpoch client Lost = going ReadEpoch client Lost (record { goes = refl; object = λ g. g.1 })
step-at (Pause word kept) client Done = going (Pause word kept) client Done (record { goes = refl; object = λ g. g.1 })
step-at (Pause word kept) client (Word found) = going (Pause word kept) client (Word found) (record { goes = refl; object = λ g. g.1 })
step-at (Pause word kept) client Lost = going (Pause word kept) client Lost (record { goes = refl; object = λ g. g.1 })
step-at (Paused word kept) client (Word found) =
    going (Paused word kept) client (Word found) (paused-row (at_stage (Paused word kept) client) word kept found)
step-at (Paused word kept) client Done = going (Paused word kept) client Done (record { goes = refl; object = λ g. g.1 })
step-at (Paused word kept) client Lost = going (Paused word kept) client Lost (record { goes = refl; object = λ g. g.1 })
step-at (LostNode node kept) client (Word found) = going (LostNode node kept) client (Word found) (given (λ g. g.1) (lost-row (at_stage (LostNode node kept) client) node kept found))
step-at (LostNode node kept) client Done = going (LostNode node kept) client Done (record { goes = refl; object = λ g. g.1 })
step-at (LostNode node kept) client Lost = going (LostNode node kept) client Lost (record { goes = refl; object = λ g. g.1 })
step-at (Seek key_search) client answer =
    let turned = search.turn key_search answer in
    going (Seek key_search) client answer (given (λ g. g.1) (seek-row (at_stage (Seek key_search) client) turned.state turned.told))
step-at (Fetch value_read) client answer =
    let turned = values.turn value_read answer in
    going (Fetch value_read) client answer (given (λ g. g.1) (fetch-row (at_stage (Fetch value_read) client) turned.state turned.told))
step-at Choose client answer =
    let turned = choosing.turn client.stock answer in
    going Choose client answer (given (λ g. g.1) (took-row (at_stage Choose client) turned.state turned.told))
step-at (Clear change) client answer =
    let origin = at_stage (Clear change) client in
    let turned = bits.turn change answer in
    going (Clear change) client answer (clear-row origin turned.state turned.told)
step-at (Body write) client answer =
    let origin = at_stage (Body write) client in
    let turned = words.turn write answer in
    going (Body write) client answer (body-row origin turned.state turned.told)
step-at (Find key_search) client answer =
    let origin = at_stage (Find key_search) client in
    going (Find key_search) client answer (finds_at-row key_search.phase origin key_search answer)
step-at (ReadVersion word) client answer =
    let origin = at_stage (ReadVersion word) client in
    going (ReadVersion word) client answer (version-row origin word answer)
step-at (Log write) client answer =
    let origin = at_stage (Log write) client in
    let turned = words.turn write answer in
    going (Log write) client answer (log-row origin turned.state turned.told)
step-at (WriteSlot write) client answer =
    let origin = at_stage (WriteSlot write) client in
    let turned = slots.turn write answer in
    going (WriteSlot write) client answer (wrote-row origin turned.state turned.told)
step-at (AwaitRound write) client (Word found) = going (AwaitRound write) client (Word found) (round-row _ (at_stage (AwaitRound write) client) write found)
step-at (AwaitRound write) client Done = going (AwaitRound write) client Done (record { goes = refl; object = λ g. tt })
step-at (AwaitRound write) client Lost = going (AwaitRound write) client Lost (record { goes = refl; object = λ g. tt })
step-at (TestKey key_test) client answer =
    let origin = at_stage (TestKey key_test) client in
    let turned = test.turn key_test answer in
    going (TestKey key_test) client answer (test-row origin turned.state turned.told)
step-at (Resolve resolving) client answer =
    let origin = at_stage (Resolve resolving) client in
    let turned = resolution.turn resolving answer in
    going (Resolve resolving) client answer (resolved-row origin turned.state turned.told)
step-at (Free change) client answer =
    let origin = at_stage (Free change) client in
    let turned = bits.turn change answer in
    going (Free change) client answer (free-row origin turned.state turned.told)
step-at (Return change) client answer =
    let origin = at_stage (Return change) client in
    let turned = bits.turn change answer in
    going (Return change) client answer (return-row origin turned.state turned.told)
step-at End client answer = end-step client answer

-- Where a call ends.

-- a call ends only where its begin word is written even, and as it was to return
pub ended-at : (client : Client) (answer : Answer) (result : Outcome) → told client answer ≡ Ended result → (client.stage ≡ End) × (answer ≡ Done) × (result ≡ client.outcome)
ended-at client answer result is = (step-at client.stage client answer).ended result is

-- so only where its next verb may end it
pub ending-at : (client : Client) (answer : Answer) (result : Outcome) → told client answer ≡ Ended result → (is_ending client.stage ≡ true) × (result ≡ client.outcome)
ending-at client answer result is = let at = ended-at client answer result is in (ap is_ending at.0, at.2)

-- and there it does
pub ended-of : (client : Client) (answer : Answer) → client.stage ≡ End → answer ≡ Done → told client answer ≡ Ended client.outcome
ended-of client answer stage done = λ i. (turn_at (stage i) client (done i)).told

-- The object.

may_own_for : (kept : Kept) (client : Client) → HasNone kept client.object → KeepsFor kept client → MayOwn client
may_own_for FromStart client none keeps = inl none
may_own_for FromSeek client none keeps = inl none
may_own_for FromChoose client none keeps = inl none
may_own_for FromClear client none keeps = inr (own_object-is client keeps.0)
may_own_for FromBody client none keeps = inr (own_object-is client keeps)
may_own_for FromFind client none keeps = inr (own_object-is client keeps)
may_own_for FromResolve client none keeps = inr (own_object-is client keeps.object)
may_own_for FromFree client none keeps = inr (own_object-is client keeps.object)
may_own_for FromReturn client none keeps = inr (own_object-is client keeps)

may_own_at : (stage : Stage) (client : Client) → is_idle_at stage ≡ false → ObjectAt stage client → IsAt stage client → MayOwn client
may_own_at Idle client busy has at = absurd (false≢true (sym busy))
may_own_at Start client busy has at = inl has
may_own_at ReadEpoch client busy has at = inl has
may_own_at (Pause word kept) client busy has at = may_own_for kept client has at
may_own_at (Paused word kept) client busy has at = may_own_for kept client has at
may_own_at (LostNode node kept) client busy has at = may_own_for kept client has at
may_own_at (Seek key_search) client busy has at = inl has
may_own_at (Fetch value_read) client busy has at = inl has
may_own_at Choose client busy has at = inl has
may_own_at (Clear change) client busy has at = inr (own_object-is client at.0.0)
may_own_at (Body write) client busy has at = inr (own_object-is client at.0)
may_own_at (Find key_search) client busy has at = inr (own_object-is client at.0)
may_own_at (ReadVersion word) client busy has at = inr (own_object-is client at.0.object)
may_own_at (Log write) client busy has at = inr (own_object-is client at.0.object)
may_own_at (WriteSlot write) client busy has at = inr (own_object-is client at.0.object)
may_own_at (AwaitRound write) client busy has at = inr (own_object-is client at.0.object)
may_own_at (TestKey key_test) client busy has at = inr (own_object-is client at.0.object)
may_own_at (Resolve resolving) client busy has at = inr (own_object-is client at.0.object)
may_own_at (Free change) client busy has at = inr (own_object-is client at.0.object)
may_own_at (Return change) client busy has at = inr (own_object-is client at.0)
may_own_at End client busy has at = has

-- the call's object stays as its stage has it, whatever is answered
pub object-kept : (sizes : Sizes) (number : ℕ) (client : Client) (answer : Answer) → IsClient sizes number client → is_idle client ≡ false → ObjectAt client.stage client → ObjectAt (after client answer).stage (after client answer)
object-kept sizes number client answer is busy has = (step-at client.stage client answer).object (may_own_at client.stage client busy has is.stage, has)

-- inside a call a client has no object, or one of its pool
pub object-named : (sizes : Sizes) (number : ℕ) (client : Client) → IsClient sizes number client → ObjectAt client.stage client → is_idle client ≡ false
    → (client.object ≡ 0) ⊎ IsObject sizes (own_object client)
object-named sizes number client is has busy = by (may_own_at client.stage client busy has is.stage)
  where
    by : MayOwn client → (client.object ≡ 0) ⊎ IsObject sizes (own_object client)
    by (inl none) = inl none
    by (inr owns) = let P : Sizes → Type 0 = λ pool. IsObject pool (own_object client) in inr (subst P is.member.same_shape owns)
