-- What holds after each step: who owns a block, that an object is in stock or was taken by one client, that bits are changed
-- the right way, and that nobody takes an object that a running call may still read.
use Rattle.std.specs.Prelude.{◌≡◌, ◌≢◌, ℕ, ◌<◌, ◌≤◌, ◌⊎◌, true, false, not, List, [], ◌∷◌, ◌++◌, Some}
use Rattle.std.specs.List.{Contains}
use Rattle.block_alloc.specs.declared.BlockWord.TheVariants.{Owned, Released}
use Rattle.block_alloc.specs.BlockWord.{word_of}
use Rattle.machine.specs.declared.bit_change.Changed.TheVariants.{Whole}
use Rattle.machine.specs.BitChange as bits
use Rattle.machine.specs.BitChange.{BitChange, Change, bit_number, bitmap_place, has_bit}
use Rattle.machine.specs.ObjectNames.{IsObject, Object, bitmap_of, block_of, number_of}
use Rattle.machine.specs.Places.{primary_place, replica_count, written_place}
use Rattle.machine.specs.Stock.{OwnBlock}
use Rattle.pointer_fields.specs.Pointer.{region_of}
use Rattle.region_view.specs.Layout.{BlockWord as block_word}
use Rattle.verb_words.specs.Words.{word_at}
use Rattle.object_division.specs.Client.{Given, Under, Use, Untaken, Taken, Named, Returning}
use Rattle.object_division.specs.Run.{State, Event, ClearNext, ReturnNext, answered, begin_word, happens, is_in_stock, is_inside, object_of, run}
use Rattle.object_division.specs.Allowed.{IsAllowed, stock_of}

-- the client has gained the block for a class, and its release has not begun
pub record IsGained (state : State) (client class : ℕ) (own : OwnBlock) : Type 0 where
  pub gained : Contains (stock_of (state.clients client) class).own own
  pub kept : Contains (state.clients client).released (own.region, own.block) → ⊥

-- the block's word on each replica says that the client owns it for the class
abbrev pub IsOwnedBy : State → ℕ → ℕ → ℕ → ℕ → Type 0
IsOwnedBy state client class region block =
    (replica : ℕ) → replica < replica_count state.view (block_word region block)
    → word_at state.words (written_place state.view (block_word region block) replica) ≡ word_of (Owned client class)

-- the word on the primary of the block in which the object lies
abbrev pub block_word_of : State → Object → ℕ
block_word_of state object =
    word_at state.words (primary_place state.view (block_word (region_of object.pointer) (block_of object.pointer)))

-- the word of a block that is granted for objects of the class: a client owns it, or it is released
abbrev pub IsOfClass : ℕ → ℕ → Type 0
IsOfClass word class = (word ≡ word_of (Released class)) ⊎ ((client : ℕ) × (word ≡ word_of (Owned client class)))

-- the word of a block that is unused, or granted for objects of the class
abbrev pub IsOpenTo : ℕ → ℕ → Type 0
IsOpenTo word class = (word ≡ 0) ⊎ IsOfClass word class

-- the object's block is granted for objects of its class
abbrev pub IsGranted : State → Object → Type 0
IsGranted state object = IsOfClass (block_word_of state object) object.class

-- the object's block is unused, or granted for objects of its class
abbrev pub IsOpen : State → Object → Type 0
IsOpen state object = IsOpenTo (block_word_of state object) object.class

-- the client has taken the object, and it has not been given back
abbrev pub IsTakenBy : ℕ → Use → Type 0
IsTakenBy client Untaken = ⊥
IsTakenBy client (Taken taker) = client ≡ taker
IsTakenBy client (Named taker namer) = client ≡ taker
IsTakenBy client (Returning taker namer change) = client ≡ taker

-- the object is in stock, and nobody has taken it; or it is not in stock, and one client has taken it
abbrev pub IsDivided : State → Object → Type 0
IsDivided state object =
    ((is_in_stock state object ≡ true) × (state.uses object ≡ Untaken))
    ⊎ ((is_in_stock state object ≡ false) × (client : ℕ) × IsTakenBy client (state.uses object))

-- the object's bit is set on each replica
abbrev pub IsSetEverywhere : State → Object → Type 0
IsSetEverywhere state object =
    (replica : ℕ) → replica < replica_count state.view (bitmap_of object.pointer)
    → has_bit (word_at state.words (written_place state.view (bitmap_of object.pointer) replica)) (number_of object.pointer object.class)
    ≡ true

-- the object is the client's reserve of a class, in a block of its own whose release has not begun
pub record IsReserve (state : State) (client class pointer : ℕ) : Type 0 where
  pub is : (stock_of (state.clients client) class).reserve ≡ Some pointer
  pub kept : Contains (state.clients client).released (region_of pointer, block_of pointer) → ⊥

-- the event is the verb of the client's clearing by which it takes the object
pub record Takes (state : State) (event : Event) (client : ℕ) (object : Object) : Type 0 where
  pub class : ℕ
  pub given : Given
  pub change : BitChange
  pub clears : (state.clients client).clearing ≡ Under class given change
  pub next : event ≡ ClearNext client
  pub whole : (bits.turn change (answered state (bits.next change))).told ≡ Whole
  pub object_is : object ≡ object_of class given

-- the bit that a change adds to is as it is not wanted
abbrev pub IsRight : State → BitChange → Type 0
IsRight state change =
    change.phase ≡ Change → has_bit (word_at state.words (bitmap_place change)) (bit_number change) ≡ not change.set

-- what holds of a state
pub record IsDividedState (state : State) : Type 0 where
  pub owned : (client class : ℕ) (own : OwnBlock) → IsGained state client class own → IsOwnedBy state client class own.region own.block
  pub divided : (object : Object) → IsObject state.view.shape object → IsGranted state object → IsDivided state object
  -- a reserve is in stock on every replica, except while it is what the client's choosing gave
  pub reserves : (client class pointer : ℕ) → IsReserve state client class pointer
      → ((given : Given) → (state.clients client).given class ≡ Some given → given.object ≢ pointer)
      → IsSetEverywhere state (record { pointer = pointer; class = class })

-- what holds of an event
pub record Holds (state : State) (event : Event) : Type 0 where
  pub after : IsDividedState (happens state event)
  -- what is taken was in stock, and was in no other client's reserve
  pub stocked : (client : ℕ) (object : Object) → Takes state event client object → state.uses object ≡ Untaken
  pub unreserved : (client other : ℕ) (object : Object) → Takes state event client object → other ≢ client
      → IsReserve state other object.class object.pointer → ⊥
  pub cleared : (client class : ℕ) (given : Given) (change : BitChange) → event ≡ ClearNext client
      → (state.clients client).clearing ≡ Under class given change → IsRight state change
  pub set : (client taker : ℕ) (object : Object) (change : BitChange) → event ≡ ReturnNext client object
      → state.uses object ≡ Returning taker client change → IsRight state change

-- it holds of each of the events
abbrev pub HoldsAlong : State → List Event → Type 0
HoldsAlong state [] = Unit {0}
HoldsAlong state (event ∷ events) = Holds state event × HoldsAlong (happens state event) events

-- the number of a client of the pool
abbrev pub IsClientOf : State → ℕ → Type 0
IsClientOf state client = (1 ≤ client) × (client ≤ state.view.shape.clients)

-- an object that was taken while another client of the pool was inside a call is not taken anew before that client's begin
-- word has changed
abbrev pub HasGrace : State → Type 0
HasGrace start =
    (before between : List Event) (event : Event) (client other : ℕ) (object : Object)
    → IsAllowed start (before ++ (between ++ event ∷ []))
    → IsClientOf start other
    → other ≢ client
    → is_inside (run start before) other ≡ true
    → ((run start before).uses object ≢ Untaken)
    → Takes (run (run start before) between) event client object
    → begin_word (run (run start before) between) other ≢ begin_word (run start before) other
