-- Which steps the clients may take.
use Rattle.std.specs.Prelude.{◌≡◌, ◌≢◌, ℕ, ◌<◌, ◌≤◌, true, false, List, [], ◌∷◌, Some}
use Rattle.block_alloc.specs.declared.BlockWord.TheVariants.{Owned}
use Rattle.block_alloc.specs.BlockWord.{word_of}
use Rattle.machine.specs.BitChange.{BitChange}
use Rattle.machine.specs.ObjectNames.{Object}
use Rattle.machine.specs.Places.{primary_place}
use Rattle.machine.specs.Stock.{ClassStock, Ask, Rest, no_stock}
use Rattle.object_form.specs.declared.classes.TheConstants.{CLASSES}
use Rattle.region_view.specs.Layout.{BlockWord as block_word}
use Rattle.std.specs.Prelude.{slice_index_or}
use Rattle.verb_words.specs.Words.{word_at}
use Rattle.object_division.specs.Client.{Client, NotClearing, Under, Cleared, Given, Service, Active, Retired, Taken, Named, Returning}
use Rattle.object_division.specs.Run.{State, Event, Begin, End, Choose, Seek, Clear, ClearNext, Renew, Name, Return, ReturnNext, Retire, Release, ReleaseNext, happens, is_inside}

-- the client is one of the pool's, and still takes steps
pub record IsActive (state : State) (client : ℕ) : Type 0 where
  pub number : (1 ≤ client) × (client ≤ state.view.shape.clients)
  pub active : (state.clients client).service ≡ Active

-- it is inside a call, and clears no bit
pub record IsFreeInside (state : State) (client : ℕ) : Type 0 where
  pub active : IsActive state client
  pub inside : is_inside state client ≡ true
  pub clearing : (state.clients client).clearing ≡ NotClearing

-- what a client has of a class
abbrev pub stock_of : Client → ℕ → ClassStock
stock_of client class = slice_index_or client.stock.classes class no_stock

-- it changes no bit
pub record ChangesNothing (state : State) (client : ℕ) : Type 0 where
  pub clearing : (state.clients client).clearing ≡ NotClearing
  pub setting : (object : Object) (taker : ℕ) (change : BitChange) → state.uses object ≢ Returning taker client change

-- no client that still takes steps has the object in reserve
abbrev pub IsNoReserve : State → Object → Type 0
IsNoReserve state object =
    (client : ℕ) → (state.clients client).service ≡ Active
    → (stock_of (state.clients client) object.class).reserve ≢ Some object.pointer

-- A client chooses, changes bits and names objects only inside a call, and ends a call only when it changes no bit. It
-- begins a choosing unless one asks the clients. It clears the bit of the object that its last choosing of a class gave,
-- once, and does nothing else until it has made the next reserve its reserve. It names an object that was taken and that
-- nobody has named since, and sets its bit once. Between calls it may retire; then its blocks are released, one after the
-- other.
abbrev pub MayHappen : State → Event → Type 0
MayHappen state (Begin client) = IsActive state client × (is_inside state client ≡ false)
MayHappen state (End client) = IsActive state client × (is_inside state client ≡ true) × ChangesNothing state client
MayHappen state (Choose client class) =
    IsFreeInside state client × (class < CLASSES)
    × ((asked : ℕ) → (state.clients client).stock.phase ≢ Ask asked)
MayHappen state (Seek client) = IsFreeInside state client × ((state.clients client).stock.phase ≢ Rest)
MayHappen state (Clear client class) =
    IsFreeInside state client × (class < CLASSES)
    × ((given : Given) × ((state.clients client).given class ≡ Some given))
MayHappen state (ClearNext client) =
    IsActive state client × (is_inside state client ≡ true)
    × ((class : ℕ) × (given : Given) × (change : BitChange) × ((state.clients client).clearing ≡ Under class given change))
MayHappen state (Renew client) =
    IsActive state client × (is_inside state client ≡ true)
    × ((class : ℕ) × (given : Given) × ((state.clients client).clearing ≡ Cleared class given))
MayHappen state (Name client object) =
    IsFreeInside state client × ((taker : ℕ) × (state.uses object ≡ Taken taker)) × IsNoReserve state object
MayHappen state (Return client object look) =
    IsFreeInside state client × ((taker : ℕ) × (state.uses object ≡ Named taker client))
MayHappen state (ReturnNext client object) =
    IsFreeInside state client
    × ((taker : ℕ) × (change : BitChange) × (state.uses object ≡ Returning taker client change))
MayHappen state (Retire client) = IsActive state client × (is_inside state client ≡ false)
MayHappen state (Release client region block class) =
    (1 ≤ client) × (client ≤ state.view.shape.clients) × ((state.clients client).service ≡ Retired)
    × (1 ≤ region) × (region ≤ state.view.shape.regions) × (block < state.view.shape.blocks) × (class < CLASSES)
    × (word_at state.words (primary_place state.view (block_word region block)) ≡ word_of (Owned client class))
MayHappen state (ReleaseNext client) =
    (region : ℕ) × (block : ℕ) × (class : ℕ) × (replicas : ℕ)
    × ((state.clients client).service ≡ Service.Releasing region block class replicas)

-- each of the events may happen when it does
abbrev pub IsAllowed : State → List Event → Type 0
IsAllowed state [] = Unit {0}
IsAllowed state (event ∷ events) = MayHappen state event × IsAllowed (happens state event) events
