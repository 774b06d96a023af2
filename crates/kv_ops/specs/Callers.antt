-- A caller of the program as a client of the machine.
use Rattle.kv_ops.specs.declared.callers.Caller.{Caller}
use Rattle.kv_ops.specs.Stages.{operation_as, stage_of}
use Rattle.machine.specs.declared.client_call.Step.{Step}
use Rattle.machine.specs.Stage.{Client}
use Rattle.machine.specs.Turn.{Turn}

abbrev pub client_of : Caller → Client
client_of caller = record {
  shape = caller.shape;
  client = caller.client;
  number = caller.number;
  stage = stage_of caller.stage caller.reading caller.body;
  operation = operation_as caller.operation;
  key = caller.key.items;
  value = caller.value.items;
  mask = caller.mask;
  class = caller.class;
  object = caller.object;
  reserve = caller.reserve;
  place = caller.place;
  expect = caller.expect;
  version = caller.version;
  beaten = caller.beaten;
  outcome = caller.outcome;
  fetched = caller.fetched.items;
  stock = caller.stock;
  remembered = caller.remembered;
}

-- what a caller is after a turn, and what the turn told
abbrev pub turn_of : Caller → Step → Turn Client Step
turn_of caller told = record { state = client_of caller; told = told }
