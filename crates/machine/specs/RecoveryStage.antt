-- The stages of the recovery of a stopped client, and what the recovery knows.
use Rattle.std.specs.Prelude.{◌≡◌, ℕ, ◌+◌, ◌*◌, ◌/◌, ◌%◌, ◌<◌, ◌≤◌, Bool, false, List, [], ◌∷◌, length, Option, Some}
use Rattle.machine.specs.BitChange.{BitChange, IsBitChange}
use Rattle.machine.specs.EpochRead.{IsView}
use Rattle.machine.specs.KeySearch.{IsKeySearch, KeySearch}
use Rattle.machine.specs.LinkWalk.{IsLast, IsLinkWalk, IsReserve, LinkWalk}
use Rattle.machine.specs.ObjectNames.{IsObject, Object, object_in}
use Rattle.machine.specs.Places.{replica_count}
use Rattle.machine.specs.Resolution.{IsResolution, IsWalk, Resolution}
use Rattle.machine.specs.SlotWrite.{IsSlotWrite, SlotWrite}
use Rattle.machine.specs.WordsWrite.{IsWordsWrite, WordsWrite}
use Rattle.object_form.specs.declared.classes.TheConstants.{CLASSES}
use Rattle.object_form.specs.Class.{IsKeyLength, room_of, words_for}
use Rattle.region_view.specs.Layout.{NodeWord, BlockWord as block_word_of}
use Rattle.region_view.specs.Placed.{Viewed}
use Rattle.region_view.specs.Sizes.{IsWithinLimits, Sizes}

pub data Stage : Type 0 where
  -- reads the epoch word
  ReadEpoch : Stage
  -- reads the client's begin word
  ReadBegin : Stage
  -- walks along the client's links of a class
  Walk : LinkWalk → Stage
  -- sets the bit of the reserve of a class
  Restock : (class : ℕ) → BitChange → Stage
  -- reads the meta word of the object of the client's last call
  ReadMeta : Stage
  -- reads that object's words from the version on, which have these so far, with a key of this length
  ReadLog : (key_len : ℕ) → (words : List ℕ) → Stage
  -- looks for the object's key
  Find : KeySearch → Stage
  -- reads the version of the object that a slot's word names
  ReadVersion : (slot word : ℕ) → Stage
  -- writes the slot
  WriteSlot : SlotWrite → Stage
  -- walks back the versions of the slot's objects
  Resolve : Resolution → Stage
  -- writes the object's version 0
  Erase : WordsWrite → Stage
  -- sets the bit of the object that was replaced, or of the object itself
  Free : BitChange → Stage
  -- writes the client's begin word even
  WriteBegin : Stage
  -- reads the word of the next block
  ReadBlock : Stage
  -- writes a block of this class as released to a backup
  Spread : (class backup : ℕ) → Stage
  -- swaps the word of a block of this class, on the primary, from the client's to released
  Release : (class : ℕ) → Stage

-- what a walk found of a class: the object that the client linked last, with the number of its call, and the reserve
pub record ClassEnd : Type 0 where
  pub last : Option (ℕ × ℕ)
  pub reserve : Option ℕ

-- The recovery of a client: the mask of the view that is held; the number of the client's last call, and what was found of
-- each class; the call's object, its key, its version and the word that it was logged to replace; how many blocks were read
pub record Recovery : Type 0 where
  pub shape : Sizes
  pub client : ℕ
  pub stage : Stage
  pub mask : ℕ
  pub number : ℕ
  pub ends : List ClassEnd
  pub object : Object
  pub key : List ℕ
  pub version : ℕ
  pub expect : ℕ
  pub position : ℕ
  pub won : Bool

abbrev pub recovery_of : ℕ → Sizes → Recovery
recovery_of client sizes = record {
  shape = sizes;
  client = client;
  stage = ReadEpoch;
  mask = 0;
  number = 0;
  ends = [];
  object = record { pointer = 0; class = 0 };
  key = [];
  version = 0;
  expect = 0;
  position = 0;
  won = false;
}

abbrev pub view_of : Recovery → Viewed
view_of recovery = record { shape = recovery.shape; mask = recovery.mask }

-- the block at the present position: regions and blocks rise
abbrev pub word_at_block : Recovery → NodeWord
word_at_block recovery =
    block_word_of (1 + recovery.position / recovery.shape.blocks) (recovery.position % recovery.shape.blocks)

-- What holds of a recovery.

-- the ends of the classes from this one on name objects of their classes
abbrev pub AreEnds : Sizes → ℕ → List ClassEnd → Type 0
AreEnds sizes class [] = Unit {0}
AreEnds sizes class (end ∷ ends) = IsLast sizes class end.last × IsReserve sizes class end.reserve × AreEnds sizes (class + 1) ends

-- the view is one that may be held
abbrev pub HasView : Recovery → Type 0
HasView recovery = IsView (view_of recovery)

-- and the call's object is known
abbrev pub HasObject : Recovery → Type 0
HasObject recovery = HasView recovery × IsObject recovery.shape recovery.object

-- and its key is
abbrev pub HasKey : Recovery → Type 0
HasKey recovery = HasObject recovery × IsKeyLength (length recovery.key)

-- the block at the position is one of the pool
abbrev pub HasBlock : Recovery → Type 0
HasBlock recovery = HasView recovery × (recovery.position < recovery.shape.regions * recovery.shape.blocks)

-- a slot of the index, and a word that names an object
pub record IsSlotWith (sizes : Sizes) (slot word : ℕ) : Type 0 where
  pub below : slot < 24 * sizes.groups
  pub object : Object
  pub named : object_in sizes word ≡ Some object

-- the object has room for a key of the length, and one of these words is still to be read
pub record IsLog (class key_len : ℕ) (words : List ℕ) : Type 0 where
  pub len : IsKeyLength key_len
  pub room : 4 + words_for key_len ≤ room_of class
  pub more : length words < 2 + words_for key_len

abbrev pub IsAt : Stage → Recovery → Type 0
IsAt ReadEpoch recovery = Unit {0}
IsAt ReadBegin recovery = HasView recovery
IsAt (Walk walk) recovery =
    HasView recovery × AreEnds recovery.shape 0 recovery.ends × IsLinkWalk (view_of recovery) walk × (walk.class ≡ length recovery.ends)
IsAt (Restock class change) recovery = HasView recovery × AreEnds recovery.shape 0 recovery.ends × IsBitChange (view_of recovery) change
IsAt ReadMeta recovery = HasObject recovery
IsAt (ReadLog key_len words) recovery = HasObject recovery × IsLog recovery.object.class key_len words
IsAt (Find search) recovery = HasKey recovery × IsKeySearch (view_of recovery) recovery.key search
IsAt (ReadVersion slot word) recovery = HasKey recovery × IsSlotWith recovery.shape slot word
IsAt (WriteSlot write) recovery = HasKey recovery × IsSlotWrite (view_of recovery) write
IsAt (Resolve resolving) recovery = HasKey recovery × IsResolution (view_of recovery) resolving × IsWalk resolving.phase
IsAt (Erase write) recovery = HasObject recovery × IsWordsWrite (view_of recovery) write
IsAt (Free change) recovery = HasView recovery × IsBitChange (view_of recovery) change
IsAt WriteBegin recovery = HasView recovery
IsAt ReadBlock recovery = HasBlock recovery
IsAt (Spread class backup) recovery =
    HasBlock recovery × (class < CLASSES) × (backup + 1 < replica_count (view_of recovery) (word_at_block recovery))
IsAt (Release class) recovery = HasBlock recovery × (class < CLASSES)

-- what holds of each recovery of the client of a number, in a pool of these sizes
pub record IsRecovery (shape : Sizes) (number : ℕ) (recovery : Recovery) : Type 0 where
  pub same_shape : recovery.shape ≡ shape
  pub same_client : recovery.client ≡ number
  pub limits : IsWithinLimits recovery.shape
  pub client : (1 ≤ recovery.client) × (recovery.client ≤ recovery.shape.clients)
  pub stage : IsAt recovery.stage recovery
