-- What holds of every client, whatever its verbs were answered.
use Rattle.std.specs.Prelude.{◌≡◌, ℕ, ◌<◌, ◌≤◌, true, List, length, All, Some}
use Rattle.machine.specs.BitChange.{IsBitChange}
use Rattle.machine.specs.Choosing.{IsChoosing}
use Rattle.machine.specs.Client.{view_of}
use Rattle.machine.specs.EpochRead.{IsView}
use Rattle.machine.specs.KeySearch.{IsKeySearch}
use Rattle.machine.specs.KeyTest.{IsKeyTest}
use Rattle.machine.specs.ObjectNames.{Object, names_object, object_in}
use Rattle.machine.specs.Remembered.{Pair}
use Rattle.machine.specs.Resolution.{IsResolution}
use Rattle.machine.specs.SlotWrite.{IsSlotWrite}
use Rattle.machine.specs.Stage.{Client, Kept, FromStart, FromSeek, FromChoose, FromClear, FromBody, FromFind, FromResolve, FromFree, FromReturn, Stage, Idle, Start, ReadEpoch, Pause, Paused, LostNode, Seek, Fetch, Choose, Clear, Body, Find, ReadVersion, Log, WriteSlot, AwaitRound, TestKey, Resolve, Free, Return, End}
use Rattle.machine.specs.Stock.{IsStock, Stock}
use Rattle.machine.specs.ValueRead.{IsValueRead}
use Rattle.machine.specs.WordsWrite.{IsWordsWrite}
use Rattle.object_form.specs.Class.{IsKeyLength, room_of, words_of}
use Rattle.object_form.specs.declared.classes.TheConstants.{CLASSES, LONGEST}
use Rattle.region_view.specs.Sizes.{IsWithinLimits, Sizes}
use Rattle.slot_order.specs.Slots.{order_of}

-- a remembered place is one of its key's order
abbrev pub IsPlaceOf : Sizes → Pair → Type 0
IsPlaceOf sizes pair = pair.1 < length (order_of pair.0 sizes.groups)

-- the client of a number is one of its pool, with a stock of its own and places that it remembers
pub record IsMember (shape : Sizes) (own : ℕ) (sizes : Sizes) (number : ℕ) (stock : Stock) (remembered : List Pair) : Type 0 where
  pub same_shape : sizes ≡ shape
  pub same_number : number ≡ own
  pub limits : IsWithinLimits sizes
  pub least : 1 ≤ number
  pub most : number ≤ sizes.clients
  pub is_stock : IsStock sizes number stock
  pub places : All (IsPlaceOf sizes) remembered

-- the call's key and value have lengths that are taken
pub record IsCall (key value : List ℕ) : Type 0 where
  pub key_len : IsKeyLength (length key)
  pub value_len : length value ≤ LONGEST

-- the call's class has room for its key and its value
pub record HasClass (key value : List ℕ) (class : ℕ) : Type 0 where
  pub below : class < CLASSES
  pub room : words_of (length key) (length value) ≤ room_of class

-- the call has an object of its class
pub record HasObject (sizes : Sizes) (key value : List ℕ) (class pointer : ℕ) : Type 0 where
  pub of_class : HasClass key value class
  pub named : names_object sizes class pointer ≡ true

-- the call has an object, and a place in the order of its key's slots
pub record HasPlace (sizes : Sizes) (key value : List ℕ) (class pointer place : ℕ) : Type 0 where
  pub object : HasObject sizes key value class pointer
  pub below : place < length (order_of key sizes.groups)

-- what a call has that goes on from a stage
abbrev pub KeepsFor : Kept → Client → Type 0
KeepsFor FromStart client = Unit {0}
KeepsFor FromSeek client = Unit {0}
KeepsFor FromChoose client = HasClass client.key client.value client.class
KeepsFor FromClear client =
    HasObject client.shape client.key client.value client.class client.object
    × (names_object client.shape client.class client.reserve ≡ true)
KeepsFor FromResolve client = HasPlace client.shape client.key client.value client.class client.object client.place
KeepsFor FromFree client = HasPlace client.shape client.key client.value client.class client.object client.place
KeepsFor kept client = HasObject client.shape client.key client.value client.class client.object

-- what holds of a call at a stage, besides
abbrev pub IsAt : Stage → Client → Type 0
IsAt Idle client = Unit {0}
IsAt Start client = Unit {0}
IsAt ReadEpoch client = Unit {0}
IsAt (Pause word kept) client = KeepsFor kept client
IsAt (Paused word kept) client = KeepsFor kept client
IsAt (LostNode node kept) client = KeepsFor kept client
IsAt (Seek key_search) client = IsKeySearch (view_of client) client.key key_search
IsAt (Fetch value_read) client = IsValueRead (view_of client) value_read
IsAt Choose client =
    HasClass client.key client.value client.class
    × IsChoosing (view_of client) client.client client.class client.stock
IsAt (Clear change) client = KeepsFor FromClear client × IsBitChange (view_of client) change
IsAt (Body write) client = KeepsFor FromBody client × IsWordsWrite (view_of client) write
IsAt (Find key_search) client = KeepsFor FromFind client × IsKeySearch (view_of client) client.key key_search
IsAt (ReadVersion word) client =
    KeepsFor FromResolve client × IsView (view_of client) × ((object : Object) × (object_in client.shape word ≡ Some object))
IsAt (Log write) client = KeepsFor FromResolve client × IsWordsWrite (view_of client) write
IsAt (WriteSlot write) client = KeepsFor FromResolve client × IsSlotWrite (view_of client) write
IsAt (AwaitRound write) client = KeepsFor FromResolve client × IsSlotWrite (view_of client) write
IsAt (TestKey key_test) client = KeepsFor FromResolve client × IsKeyTest (view_of client) client.key key_test
IsAt (Resolve resolving) client = KeepsFor FromResolve client × IsResolution (view_of client) resolving
IsAt (Free change) client = KeepsFor FromFree client × IsBitChange (view_of client) change
IsAt (Return change) client = KeepsFor FromReturn client × IsBitChange (view_of client) change
IsAt End client = Unit {0}

-- between calls there need be no key
abbrev pub HasCall : Stage → Client → Type 0
HasCall Idle client = Unit {0}
HasCall stage client = IsCall client.key client.value

-- what holds of every client of a pool of these sizes, with this number
pub record IsClient (sizes : Sizes) (number : ℕ) (client : Client) : Type 0 where
  pub member : IsMember sizes number client.shape client.client client.stock client.remembered
  pub call : HasCall client.stage client
  pub stage : IsAt client.stage client
