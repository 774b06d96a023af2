-- The stages of the program as those of the machine.
use Rattle.std.specs.Prelude.{Bool, true, false, Option, Some, None}
use Rattle.kv_ops.specs.declared.calls.Operation.{Operation}
use Rattle.kv_ops.specs.declared.calls.Operation.TheVariants as operation
use Rattle.kv_ops.specs.declared.stages.Kept.{Kept}
use Rattle.kv_ops.specs.declared.stages.Kept.TheVariants as kept
use Rattle.kv_ops.specs.declared.stages.Stage.{Stage}
use Rattle.kv_ops.specs.declared.stages.Stage.TheVariants as stage
use Rattle.machine.specs.SlotWrite.{SlotWrite}
use Rattle.machine.specs.Stage as machine
use Rattle.machine.specs.ValueRead.{ValueRead}
use Rattle.machine.specs.WordsWrite.{WordsWrite}

abbrev pub operation_as : Operation → machine.Operation
operation_as operation.Get = machine.Get
operation_as operation.Put = machine.Put
operation_as operation.Delete = machine.Delete

abbrev pub kept_as : Kept → machine.Kept
kept_as kept.Start = machine.FromStart
kept_as kept.Seek = machine.FromSeek
kept_as kept.Choose = machine.FromChoose
kept_as kept.Clear = machine.FromClear
kept_as kept.Body = machine.FromBody
kept_as kept.Find = machine.FromFind
kept_as kept.Resolve = machine.FromResolve
kept_as kept.Free = machine.FromFree
kept_as kept.Return = machine.FromReturn

-- a slot write goes on, or awaits another writer's round
abbrev pub writing_of : Bool → SlotWrite → machine.Stage
writing_of true write = machine.AwaitRound write
writing_of false write = machine.WriteSlot write

-- a client reads a value, or writes an object, once such a reading or writing was begun
abbrev pub fetch_of : Option ValueRead → machine.Stage
fetch_of (Some reading) = machine.Fetch reading
fetch_of None = machine.Idle

abbrev pub body_of : Option WordsWrite → machine.Stage
body_of (Some write) = machine.Body write
body_of None = machine.Idle

abbrev pub stage_of : Stage → Option ValueRead → Option WordsWrite → machine.Stage
stage_of stage.Idle reading body = machine.Idle
stage_of stage.Start reading body = machine.Start
stage_of stage.ReadEpoch reading body = machine.ReadEpoch
stage_of (stage.Pause word keeps) reading body = machine.Pause word (kept_as keeps)
stage_of (stage.Paused word keeps) reading body = machine.Paused word (kept_as keeps)
stage_of (stage.LostNode node keeps) reading body = machine.LostNode node (kept_as keeps)
stage_of (stage.Seek search) reading body = machine.Seek search
stage_of stage.Fetch reading body = fetch_of reading
stage_of stage.Choose reading body = machine.Choose
stage_of (stage.Clear change) reading body = machine.Clear change
stage_of stage.Body reading body = body_of body
stage_of (stage.Find search) reading body = machine.Find search
stage_of (stage.ReadVersion word) reading body = machine.ReadVersion word
stage_of (stage.Log write) reading body = machine.Log write
stage_of (stage.WriteSlot write awaits) reading body = writing_of awaits write
stage_of (stage.TestKey key_test) reading body = machine.TestKey key_test
stage_of (stage.Resolve resolving) reading body = machine.Resolve resolving
stage_of (stage.Free change) reading body = machine.Free change
stage_of (stage.Return change) reading body = machine.Return change
stage_of stage.End reading body = machine.End
