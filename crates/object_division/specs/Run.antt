-- The pool and its clients, and what happens to them: with a fixed mask, and no node is ever lost.
use Rattle.std.specs.Prelude.{ℕ, ◌+◌, ◌%◌, ◌==◌, Bool, true, false, if◌then◌else◌, List, [], ◌∷◌, Option, Some, None}
use Rattle.block_alloc.specs.declared.BlockWord.TheVariants.{Owned, Released}
use Rattle.block_alloc.specs.BlockWord.{word_of}
use Rattle.machine.specs.declared.bit_change.Changed.{Changed}
use Rattle.machine.specs.declared.bit_change.Changed.TheVariants.{Whole}
use Rattle.machine.specs.declared.choosing.Took.{Took}
use Rattle.machine.specs.declared.choosing.Took.TheVariants.{Have}
use Rattle.machine.specs.BitChange as bits
use Rattle.machine.specs.BitChange.{BitChange, bit_change_of, has_bit}
use Rattle.machine.specs.Choosing as choosing
use Rattle.machine.specs.ObjectNames.{Object, bitmap_of, number_of}
use Rattle.machine.specs.Places.{control, primary_place, replica_count, written_place}
use Rattle.machine.specs.Stock.{Stock}
use Rattle.machine.specs.Turn.{Turn}
use Rattle.region_view.specs.Control.{Begin as begin_of}
use Rattle.region_view.specs.Layout.{BlockWord as block_word}
use Rattle.region_view.specs.Opening.{first_words_of}
use Rattle.region_view.specs.Placed.{Viewed}
use Rattle.reuse_grace.specs.Stock.{updated}
use Rattle.verb_words.specs.declared.verbs.Answer.{Answer}
use Rattle.verb_words.specs.declared.verbs.Verb.{Verb}
use Rattle.verb_words.specs.declared.verbs.Verb.TheVariants.{Write, Swap}
use Rattle.verb_words.specs.Applied.{answer_to, words_after}
use Rattle.verb_words.specs.Words.{word_at}
use Rattle.object_division.specs.Client.{Client, Clearing, Service, Given, NotClearing, Under, Cleared, Retired, Releasing, Use, Untaken, Taken, Named, Returning, first_client, is_same}

pub record State : Type 0 where
  pub view : Viewed
  pub words : List (List ℕ)
  pub clients : ℕ → Client
  pub uses : Object → Use

-- the opening words; nobody has taken anything
abbrev pub opening : Viewed → State
opening view =
    record { view = view; words = first_words_of view.shape; clients = first_client view.shape; uses = λ object. Untaken }

pub data Event : Type 0 where
  -- a client writes its begin word odd, and even
  Begin : (client : ℕ) → Event
  End : (client : ℕ) → Event
  -- it begins to choose an object of a class, and takes the next verb of its choosing
  Choose : (client class : ℕ) → Event
  Seek : (client : ℕ) → Event
  -- it begins to clear the bit of the object that its last choosing of a class gave, takes the next verb of that, and makes
  -- the next reserve its reserve
  Clear : (client class : ℕ) → Event
  ClearNext : (client : ℕ) → Event
  Renew : (client : ℕ) → Event
  -- it names an object to give it back, begins to set its bit, and takes the next verb of that
  Name : (client : ℕ) → (object : Object) → Event
  Return : (client : ℕ) → (object : Object) → (look : Bool) → Event
  ReturnNext : (client : ℕ) → (object : Object) → Event
  -- it takes no further step; the release of one of its blocks begins, and the next replica gets the new word
  Retire : (client : ℕ) → Event
  Release : (client region block class : ℕ) → Event
  ReleaseNext : (client : ℕ) → Event

-- the state after a verb, by which this client becomes such a one
abbrev pub after_verb : State → Verb → ℕ → Client → State
after_verb state verb number client =
    record state { words = words_after state.words verb false; clients = updated state.clients number client }

abbrev pub with_client : State → ℕ → Client → State
with_client state number client = record state { clients = updated state.clients number client }

-- what has become of the objects, once this became of one of them
abbrev pub with_use : (Object → Use) → Object → Use → Object → Use
with_use uses object use_of other = if is_same object other then use_of else uses other

abbrev pub answered : State → Verb → Answer
answered state verb = answer_to state.words verb false

-- the begin word of a client, and whether it is inside a call
abbrev pub begin_word : State → ℕ → ℕ
begin_word state client = word_at state.words (control (begin_of client))

abbrev pub is_inside : State → ℕ → Bool
is_inside state client = begin_word state client % 2 == 1

-- whether the bit of an object is set on the primary
abbrev pub is_in_stock : State → Object → Bool
is_in_stock state object =
    has_bit (word_at state.words (primary_place state.view (bitmap_of object.pointer))) (number_of object.pointer object.class)

-- the next begin word is written
abbrev pub moved_on : State → ℕ → State
moved_on state client = record state { words = words_after state.words (Write (control (begin_of client)) (begin_word state client + 1)) false }

-- a client once its choosing of a class has told something: what the choosing gave is the last gift of the class
abbrev pub told : Client → Stock → Took → Client
told client stock (Have object next) =
    record client { stock = stock; given = updated client.given stock.class (Some (record { object = object; next = next })) }
told client stock other = record client { stock = stock }

abbrev pub told_turn : Client → Turn Stock Took → Client
told_turn client turn = told client turn.state turn.told

abbrev pub chosen : State → ℕ → ℕ → State
chosen state number class =
    with_client state number
    (told_turn (state.clients number) (choosing.begins (state.clients number).stock state.view.mask class))

abbrev pub sought : State → ℕ → Stock → State
sought state number stock =
    after_verb state (choosing.next stock) number
    (told_turn (state.clients number) (choosing.turn stock (answered state (choosing.next stock))))

-- the object that a choosing of a class gave
abbrev pub object_of : ℕ → Given → Object
object_of class given = record { pointer = given.object; class = class }

abbrev pub clearing_of : Viewed → ℕ → Option Given → Clearing
clearing_of view class None = NotClearing
clearing_of view class (Some given) = Under class given (bit_change_of view (object_of class given) false false)

-- one more replica is changed; the primary is the last, and by its change the client takes the object
abbrev pub clearing_after : ℕ → Given → Turn BitChange Changed → Changed → Clearing
clearing_after class given turn Whole = Cleared class given
clearing_after class given turn other = Under class given turn.state

abbrev pub use_after_clearing : ℕ → Changed → Use → Use
use_after_clearing number Whole use_of = Taken number
use_after_clearing number other use_of = use_of

abbrev pub cleared_next : State → ℕ → Clearing → State
cleared_next state number NotClearing = state
cleared_next state number (Cleared class given) = state
cleared_next state number (Under class given change) =
    let turn = bits.turn change (answered state (bits.next change)) in
    record (after_verb state (bits.next change) number (record (state.clients number) {
      clearing = clearing_after class given turn turn.told;
    })) {
      uses = with_use state.uses (object_of class given)
          (use_after_clearing number turn.told (state.uses (object_of class given)));
    }

abbrev pub renewed : Client → Clearing → Client
renewed client NotClearing = client
renewed client (Under class given change) = client
renewed client (Cleared class given) =
    record client {
      stock = choosing.taken client.stock class given.next;
      given = updated client.given class None;
      clearing = NotClearing;
    }

abbrev pub named : ℕ → Use → Use
named namer Untaken = Untaken
named namer (Taken client) = Named client namer
named namer (Named client other) = Named client other
named namer (Returning client other change) = Returning client other change

abbrev pub returning : Viewed → Object → Bool → Use → Use
returning view object look Untaken = Untaken
returning view object look (Taken client) = Taken client
returning view object look (Named client namer) = Returning client namer (bit_change_of view object true look)
returning view object look (Returning client namer change) = Returning client namer change

-- one more replica is changed, or was looked at; by the change of the last, the primary, the object is given back
abbrev pub use_after_setting : ℕ → ℕ → Turn BitChange Changed → Changed → Use
use_after_setting client namer turn Whole = Untaken
use_after_setting client namer turn other = Returning client namer turn.state

abbrev pub returned_next : State → Object → Use → State
returned_next state object (Returning client namer change) =
    let turn = bits.turn change (answered state (bits.next change)) in
    record state {
      words = words_after state.words (bits.next change) false;
      uses = with_use state.uses object (use_after_setting client namer turn turn.told);
    }
returned_next state object other = state

-- the last replica is the primary, which is swapped; the others are written
abbrev pub release_verb : Viewed → ℕ → ℕ → ℕ → ℕ → ℕ → Verb
release_verb view number region block class replicas =
    if replicas + 1 == replica_count view (block_word region block)
    then Swap (written_place view (block_word region block) replicas) (word_of (Owned number class)) (word_of (Released class))
    else Write (written_place view (block_word region block) replicas) (word_of (Released class))

abbrev pub service_after : Viewed → ℕ → ℕ → ℕ → ℕ → Service
service_after view region block class replicas =
    if replicas + 1 == replica_count view (block_word region block) then Retired else Releasing region block class (replicas + 1)

abbrev pub released_next : State → ℕ → Service → State
released_next state number (Releasing region block class replicas) =
    after_verb state (release_verb state.view number region block class replicas) number
    (record (state.clients number) { service = service_after state.view region block class replicas })
released_next state number other = state

abbrev pub happens : State → Event → State
happens state (Begin client) = moved_on state client
happens state (End client) = moved_on state client
happens state (Choose client class) = chosen state client class
happens state (Seek client) = sought state client (state.clients client).stock
happens state (Clear client class) =
    with_client state client
    (record (state.clients client) { clearing = clearing_of state.view class ((state.clients client).given class) })
happens state (ClearNext client) = cleared_next state client (state.clients client).clearing
happens state (Renew client) = with_client state client (renewed (state.clients client) (state.clients client).clearing)
happens state (Name client object) = record state { uses = with_use state.uses object (named client (state.uses object)) }
happens state (Return client object look) =
    record state { uses = with_use state.uses object (returning state.view object look (state.uses object)) }
happens state (ReturnNext client object) = returned_next state object (state.uses object)
happens state (Retire client) = with_client state client (record (state.clients client) { service = Retired })
happens state (Release client region block class) =
    with_client state client
    (record (state.clients client) {
      service = Releasing region block class 0;
      released = (region, block) ∷ (state.clients client).released;
    })
happens state (ReleaseNext client) = released_next state client (state.clients client).service

-- the state after these events
abbrev pub run : State → List Event → State
run state [] = state
run state (event ∷ events) = run (happens state event) events
