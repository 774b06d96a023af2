-- A recovery of the program as one of the machine.
use Rattle.client_recovery.specs.declared.progress.Progress.{Progress}
use Rattle.client_recovery.specs.declared.progress.Stage.{Stage}
use Rattle.client_recovery.specs.declared.progress.Stage.TheVariants as stage
use Rattle.machine.specs.declared.recovery.Recovering.{Recovering}
use Rattle.machine.specs.RecoveryStage as machine
use Rattle.machine.specs.RecoveryStage.{IsRecovery, Recovery}
use Rattle.machine.specs.Turn.{Turn}

abbrev pub stage_of : Stage → machine.Stage
stage_of stage.ReadEpoch = machine.ReadEpoch
stage_of stage.ReadBegin = machine.ReadBegin
stage_of (stage.Walk walk) = machine.Walk walk
stage_of (stage.Restock class change) = machine.Restock class change
stage_of stage.ReadMeta = machine.ReadMeta
stage_of (stage.ReadLog key_len words) = machine.ReadLog key_len words.items
stage_of (stage.Find search) = machine.Find search
stage_of (stage.ReadVersion slot word) = machine.ReadVersion slot word
stage_of (stage.WriteSlot write) = machine.WriteSlot write
stage_of (stage.Resolve resolving) = machine.Resolve resolving
stage_of (stage.Erase write) = machine.Erase write
stage_of (stage.Free change) = machine.Free change
stage_of stage.WriteBegin = machine.WriteBegin
stage_of stage.ReadBlock = machine.ReadBlock
stage_of (stage.Spread class backup) = machine.Spread class backup
stage_of (stage.Release class) = machine.Release class

abbrev pub recovery_at : Progress → Recovery
recovery_at progress = record {
  shape = progress.shape;
  client = progress.client;
  stage = stage_of progress.stage;
  mask = progress.mask;
  number = progress.number;
  ends = progress.ends.items;
  object = progress.object;
  key = progress.key.items;
  version = progress.version;
  expect = progress.expect;
  position = progress.position;
  won = progress.won;
}

-- what a recovery is after a turn, and what the turn told
abbrev pub turn_of : Progress → Recovering → Turn Recovery Recovering
turn_of progress told = record { state = recovery_at progress; told = told }

-- what holds of each recovery
abbrev pub IsKept : Recovery → Type 0
IsKept recovery = IsRecovery recovery.shape recovery.client recovery

-- a stage that reads or writes what the client had taken or linked
abbrev pub IsOfObjects : Stage → Type 0
IsOfObjects (stage.Walk walk) = Unit {0}
IsOfObjects (stage.Restock class change) = Unit {0}
IsOfObjects (stage.Erase write) = Unit {0}
IsOfObjects (stage.Free change) = Unit {0}
IsOfObjects other = ⊥

-- a stage at which the key's slot is looked for, written or resolved
abbrev pub IsOfSlot : Stage → Type 0
IsOfSlot (stage.Find search) = Unit {0}
IsOfSlot (stage.WriteSlot write) = Unit {0}
IsOfSlot (stage.Resolve resolving) = Unit {0}
IsOfSlot other = ⊥

-- the stage at which the object of the last call is read
abbrev pub IsOfLog : Stage → Type 0
IsOfLog (stage.ReadLog key_len words) = Unit {0}
IsOfLog other = ⊥
