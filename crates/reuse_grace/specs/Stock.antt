-- The objects of one owner, and the clients whose calls may know them.
use Rattle.std.specs.Prelude.{ℕ, ◌+◌, ◌%◌, ◌==◌, ◌&&◌, Bool, true, false, not, nat_lt, nat_le, if◌then◌else◌, List, [], ◌∷◌}
use Rattle.reuse_epoch.specs.Awaited.{Awaited, client_of, noted, still_awaited}

-- what the owner knows of an object
pub data Mark : Type 0 where
  Unmarked : Mark
  -- it was found in stock, and calls that run may have met it
  Waiting : Mark
  -- it may be taken
  Ripe : Mark

pub record State : Type 0 where
  pub owner : ℕ
  -- clients have the numbers 1 to this one
  pub clients : ℕ
  -- the begin word of each client, which is odd while the client is inside a call
  pub begins : ℕ → ℕ
  -- whether an object is in stock
  pub stock : ℕ → Bool
  pub marks : ℕ → Mark
  -- whom the waiting objects wait for
  pub awaited : List Awaited
  -- the clients up to this number were asked since an object was last noted
  pub asked : ℕ
  -- whether a client's call has met an object: the object was out of stock at some moment since the call began
  pub met : ℕ → ℕ → Bool

-- every client is between calls, and the owner knows nothing of its objects
abbrev pub opening : ℕ → ℕ → (ℕ → Bool) → State
opening owner clients stock =
    record {
      owner = owner;
      clients = clients;
      begins = λ client. 0;
      stock = stock;
      marks = λ object. Unmarked;
      awaited = [];
      asked = 0;
      met = λ client object. false;
    }

pub data Event : Type 0 where
  -- a client begins a call, and ends it
  Begin : ℕ → Event
  End : ℕ → Event
  -- the owner takes an object out of stock, and somebody gives one back
  Take : ℕ → Event
  GiveBack : ℕ → Event
  -- the owner is granted an object that nobody has met
  Grant : ℕ → Event
  -- the owner looks at an object, and notes that it waits if it is in stock
  Note : ℕ → Event
  -- the owner begins to ask the clients, and asks the next one
  AskAnew : Event
  Ask : Event
  -- the owner looks again at the first client that is waited for
  Look : Event
  -- what waits is ripe, if all were asked and nobody is waited for
  Ripen : Event

-- a function that has this value at one place
abbrev pub updated : {A : Type 0} → (ℕ → A) → ℕ → A → ℕ → A
updated values place value other = if place == other then value else values other

-- whether a client is inside a call
abbrev pub is_inside : State → ℕ → Bool
is_inside state client = state.begins client % 2 == 1

-- a client moves on to its next begin word, and has met these objects then
abbrev pub moved_on : State → ℕ → (ℕ → Bool) → State
moved_on state client objects =
    record state {
      begins = updated state.begins client (state.begins client + 1);
      met = updated state.met client objects;
    }

-- an object is taken: each call that runs has met it
abbrev pub taken : State → ℕ → State
taken state object =
    record state {
      stock = updated state.stock object false;
      marks = updated state.marks object Unmarked;
      met = λ client. if is_inside state client then updated (state.met client) object true else state.met client;
    }

-- nobody was asked
abbrev pub unasked : State → State
unasked state = record state { awaited = []; asked = 0 }

-- an object waits: whoever was asked before does not count
abbrev pub waiting : State → ℕ → State
waiting state object = record state { marks = updated state.marks object Waiting; awaited = []; asked = 0 }

-- the next client is asked, unless it is the owner
abbrev pub asked_next : State → State
asked_next state =
    let client = state.asked + 1 in
    record state {
      awaited = if client == state.owner then state.awaited else noted state.awaited client (state.begins client);
      asked = client;
    }

-- whom is waited for once the first client was looked at again
abbrev pub looked : (ℕ → ℕ) → List Awaited → List Awaited
looked begins [] = []
looked begins (one ∷ rest) = still_awaited (one ∷ rest) (client_of one) (begins (client_of one))

abbrev pub is_nobody : List Awaited → Bool
is_nobody [] = true
is_nobody (one ∷ rest) = false

-- whether all were asked, and nobody is waited for
abbrev pub is_over : State → Bool
is_over state = nat_le state.clients state.asked && is_nobody state.awaited

abbrev pub ripened : Mark → Mark
ripened Unmarked = Unmarked
ripened Waiting = Ripe
ripened Ripe = Ripe

abbrev pub happens : State → Event → State
happens state (Begin client) = moved_on state client (λ object. not (state.stock object))
happens state (End client) = moved_on state client (λ object. false)
happens state (Take object) = taken state object
happens state (GiveBack object) = record state { stock = updated state.stock object true }
happens state (Grant object) = record state { marks = updated state.marks object Ripe }
happens state (Note object) = if state.stock object then waiting state object else state
happens state AskAnew = unasked state
happens state Ask = if nat_lt state.asked state.clients then asked_next state else state
happens state Look = record state { awaited = looked state.begins state.awaited }
happens state Ripen = if is_over state then record state { marks = λ object. ripened (state.marks object) } else state

-- the state after these events
abbrev pub run : State → List Event → State
run state [] = state
run state (event ∷ events) = run (happens state event) events
