-- What holds of every client of the program, beside what holds of each client of the machine.
use Rattle.std.specs.Prelude.{◌≡◌, ◌≢◌, ◌≤◌, Bool, false, ◌==◌, length}
use Rattle.machine.specs.Client.{fresh_of}
use Rattle.machine.specs.KeySearch as search
use Rattle.machine.specs.Stage.{Client, Kept, FromStart, FromSeek, FromChoose, FromClear, FromBody, FromFind, FromResolve, FromFree, FromReturn, Stage, Idle, Start, ReadEpoch, Pause, Paused, LostNode, Seek, Fetch, Choose, Clear, Body, Find, ReadVersion, Log, WriteSlot, AwaitRound, TestKey, Resolve, Free, Return, End}
use Rattle.machine.specs.Standing.{HasObject, HasPlace, IsCall, IsClient, IsMember}
use Rattle.object_form.specs.Class.{class_in}
use Rattle.verb_words.specs.declared.verbs.Answer.{Answer}
use Rattle.verb_words.specs.declared.verbs.Answer.TheVariants.{Word}

-- the client is one of its pool and has a call
abbrev pub IsReadyUnder : Client → Type 0
IsReadyUnder client =
    IsMember client.shape client.client client.shape client.client client.stock client.remembered × IsCall client.key client.value

abbrev pub OwnsObject : Client → Type 0
OwnsObject client = HasObject client.shape client.key client.value client.class client.object

abbrev pub OwnsPlace : Client → Type 0
OwnsPlace client = HasPlace client.shape client.key client.value client.class client.object client.place

-- the class of the call's object is the least that has room for its key and its value
abbrev pub IsOfClass : Client → Type 0
IsOfClass client = client.class ≡ class_in (length client.key) (length client.value)

-- the word that is to be replaced is not the call's own
abbrev pub IsApart : Client → Type 0
IsApart client = client.expect ≢ fresh_of client

abbrev pub KeepsMore : Kept → Client → Type 0
KeepsMore FromStart client = Unit {0}
KeepsMore FromSeek client = Unit {0}
KeepsMore FromChoose client = IsOfClass client
KeepsMore FromClear client = IsOfClass client
KeepsMore FromBody client = IsOfClass client
KeepsMore FromFind client = Unit {0}
KeepsMore FromResolve client = IsApart client
KeepsMore FromFree client = Unit {0}
KeepsMore FromReturn client = Unit {0}

-- the slot word whose object's key is tested is not the call's own
abbrev pub IsOtherAt : search.Phase → Client → Type 0
IsOtherAt search.AtSlot client = Unit {0}
IsOtherAt (search.AtKey word key_test) client = word ≢ fresh_of client

abbrev pub IsOn : Stage → Client → Type 0
IsOn Idle client = Unit {0}
IsOn Start client = Unit {0}
IsOn ReadEpoch client = Unit {0}
IsOn (Pause word kept) client = KeepsMore kept client
IsOn (Paused word kept) client = KeepsMore kept client
IsOn (LostNode node kept) client = KeepsMore kept client
IsOn (Seek key_search) client = Unit {0}
IsOn (Fetch value_read) client = Unit {0}
IsOn Choose client = IsOfClass client
IsOn (Clear change) client = IsOfClass client
IsOn (Body write) client = IsOfClass client
IsOn (Find key_search) client = IsOtherAt key_search.phase client
IsOn (ReadVersion word) client = word ≢ fresh_of client
IsOn (Log write) client = IsApart client
IsOn (WriteSlot write) client = IsApart client
IsOn (AwaitRound write) client = IsApart client
IsOn (TestKey key_test) client = IsApart client
IsOn (Resolve resolving) client = IsApart client
IsOn (Free change) client = Unit {0}
IsOn (Return change) client = Unit {0}
IsOn End client = Unit {0}

pub record IsHeld (client : Client) : Type 0 where
  pub state : IsClient client.shape client.client client
  pub number : client.number ≤ client.shape.calls
  pub on : IsOn client.stage client

-- whether an answer is the call's own slot word
abbrev pub reads_own : Client → Answer → Bool
reads_own client (Word word) = word == fresh_of client
reads_own client answer = false

-- Which verbs a stage takes, but for a value's reading and an object's writing: of the searches, of the object, of the
-- slot, or of the client's own words alone.

abbrev pub IsSearch : Stage → Type 0
IsSearch (Seek key_search) = Unit {0}
IsSearch (Find key_search) = Unit {0}
IsSearch (ReadVersion word) = Unit {0}
IsSearch stage = ⊥

abbrev pub IsOfObject : Stage → Type 0
IsOfObject Choose = Unit {0}
IsOfObject (Clear change) = Unit {0}
IsOfObject (Log write) = Unit {0}
IsOfObject (Free change) = Unit {0}
IsOfObject (Return change) = Unit {0}
IsOfObject stage = ⊥

abbrev pub IsOfSlot : Stage → Type 0
IsOfSlot (WriteSlot write) = Unit {0}
IsOfSlot (AwaitRound write) = Unit {0}
IsOfSlot (TestKey key_test) = Unit {0}
IsOfSlot (Resolve resolving) = Unit {0}
IsOfSlot stage = ⊥

abbrev pub IsControl : Stage → Type 0
IsControl Idle = Unit {0}
IsControl Start = Unit {0}
IsControl ReadEpoch = Unit {0}
IsControl (Pause word kept) = Unit {0}
IsControl (Paused word kept) = Unit {0}
IsControl (LostNode node kept) = Unit {0}
IsControl End = Unit {0}
IsControl stage = ⊥
