-- A client's call as the trace and the history tell it.
use Rattle.std.specs.Prelude.{ℕ, List, []}
use Rattle.machine.specs.declared.client_call.Outcome.{Outcome}
use Rattle.machine.specs.declared.client_call.Outcome.TheVariants as outcome
use Rattle.machine.specs.Stage.{Client, Operation, Get, Put, Delete}
use Rattle.map_model.specs.declared.calls.Call.{Call}
use Rattle.map_model.specs.declared.calls.Call.TheVariants as call
use Rattle.map_model.specs.declared.calls.Reply.{Reply}
use Rattle.map_model.specs.declared.calls.Reply.TheVariants as reply

abbrev pub operation_of : Call → Operation
operation_of (call.Get key) = Get
operation_of (call.Put key value) = Put
operation_of (call.Delete key) = Delete

abbrev pub key_of : Call → List ℕ
key_of (call.Get key) = key
key_of (call.Put key value) = key
key_of (call.Delete key) = key

-- what is written: a get and a delete have no value
abbrev pub value_of : Call → List ℕ
value_of (call.Get key) = []
value_of (call.Put key value) = value
value_of (call.Delete key) = []

abbrev pub call_with : Operation → List ℕ → List ℕ → Call
call_with Get key value = call.Get key
call_with Put key value = call.Put key value
call_with Delete key value = call.Delete key

-- the present or last call of a client
abbrev pub call_of : Client → Call
call_of client = call_with client.operation client.key client.value

-- the reply to a call that returned so, where a get has fetched these bytes
abbrev pub reply_with : Outcome → List ℕ → Reply
reply_with outcome.Done fetched = reply.Done
reply_with outcome.Value fetched = reply.Value fetched
reply_with outcome.Absent fetched = reply.Absent
reply_with outcome.Full fetched = reply.Full
reply_with (outcome.NoSpace class client begin) fetched = reply.NoSpace class client begin

abbrev pub reply_of : Client → Outcome → Reply
reply_of client result = reply_with result client.fetched
