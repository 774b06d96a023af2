-- The stages of a client's call, and the client with its call.
use Rattle.std.specs.Prelude.{ℕ, List, [], Option, None}
use Rattle.machine.specs.declared.client_call.Outcome.{Outcome}
use Rattle.machine.specs.declared.client_call.Outcome.TheVariants.{Done}
use Rattle.machine.specs.BitChange.{BitChange}
use Rattle.machine.specs.KeySearch.{KeySearch}
use Rattle.machine.specs.KeyTest.{KeyTest}
use Rattle.machine.specs.Remembered.{Pair}
use Rattle.machine.specs.Resolution.{Resolution}
use Rattle.machine.specs.SlotWrite.{SlotWrite}
use Rattle.machine.specs.Stock.{Stock, first_stock}
use Rattle.machine.specs.ValueRead.{ValueRead}
use Rattle.machine.specs.WordsWrite.{WordsWrite}
use Rattle.region_view.specs.Sizes.{Sizes}

pub data Operation : Type 0 where
  Get : Operation
  Put : Operation
  Delete : Operation

-- where a call that was interrupted goes on once an epoch is open: at its beginning, with its first search, with a
-- choosing, with the clearing of its object's bit, with the writing of its object, with the search for the slot to write,
-- with finding out how its slot write went, with the setting of the replaced object's bit, or of its own object's
pub data Kept : Type 0 where
  FromStart : Kept
  FromSeek : Kept
  FromChoose : Kept
  FromClear : Kept
  FromBody : Kept
  FromFind : Kept
  FromResolve : Kept
  FromFree : Kept
  FromReturn : Kept

pub data Stage : Type 0 where
  -- between calls
  Idle : Stage
  -- writes the begin word odd
  Start : Stage
  -- reads the epoch word for the first time
  ReadEpoch : Stage
  -- writes a sealed epoch word as its pause word
  Pause : (word : ℕ) → Kept → Stage
  -- reads the epoch word until it is another one
  Paused : (word : ℕ) → Kept → Stage
  -- reads the epoch word after a node was found lost
  LostNode : (node : ℕ) → Kept → Stage
  -- a get or a delete looks for its key
  Seek : KeySearch → Stage
  -- a get reads the value
  Fetch : ValueRead → Stage
  -- chooses an object
  Choose : Stage
  -- clears the object's bit
  Clear : BitChange → Stage
  -- writes the object and its link
  Body : WordsWrite → Stage
  -- looks for the slot to write
  Find : KeySearch → Stage
  -- reads the version of the object that a slot word names
  ReadVersion : (word : ℕ) → Stage
  -- writes into the object what it is to replace, and its version
  Log : WordsWrite → Stage
  -- writes the slot
  WriteSlot : SlotWrite → Stage
  -- reads the epoch word while another writer's round goes on
  AwaitRound : SlotWrite → Stage
  -- tests the key of an object that another writer put into the slot, which was empty
  TestKey : KeyTest → Stage
  -- finds out how an interrupted slot write went
  Resolve : Resolution → Stage
  -- sets the bit of the object that was replaced
  Free : BitChange → Stage
  -- sets the bit of its own object, which did not come to be used
  Return : BitChange → Stage
  -- writes the begin word even
  End : Stage

-- A client and its present or last call. Of the call: the mask of the view that is held, the class and the pointer of the
-- object (0 before it has one) and the reserve after it, the place in the order of the key's slots, the slot word to be
-- replaced and the version of the object, the slot and the version at which it was beaten, how it is to return, and the
-- value that a get has read
pub record Client : Type 0 where
  pub shape : Sizes
  pub client : ℕ
  pub number : ℕ
  pub stage : Stage
  pub operation : Operation
  pub key : List ℕ
  pub value : List ℕ
  pub mask : ℕ
  pub class : ℕ
  pub object : ℕ
  pub reserve : ℕ
  pub place : ℕ
  pub expect : ℕ
  pub version : ℕ
  pub beaten : Option (ℕ × ℕ)
  pub outcome : Outcome
  pub fetched : List ℕ
  pub stock : Stock
  pub remembered : List Pair

-- a client that has made no call
abbrev pub first_client : ℕ → Sizes → Client
first_client client sizes = record {
  shape = sizes;
  client = client;
  number = 0;
  stage = Idle;
  operation = Get;
  key = [];
  value = [];
  mask = 0;
  class = 0;
  object = 0;
  reserve = 0;
  place = 0;
  expect = 0;
  version = 0;
  beaten = None;
  outcome = Done;
  fetched = [];
  stock = first_stock client sizes;
  remembered = [];
}
