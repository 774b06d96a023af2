-- What a client clears is what its last choosing of the class gave, until the next reserve is the reserve.
use Rattle.std.proofs.Common.{◌≡◌, ℕ, ◌∷◌, Option, Some, None, refl, subst, sym}
use Rattle.machine.specs.declared.bit_change.Changed.{Changed}
use Rattle.machine.specs.declared.bit_change.Changed.TheVariants as changed
use Rattle.machine.specs.declared.choosing.Took.{Took}
use Rattle.machine.specs.declared.choosing.Took.TheVariants as took
use Rattle.machine.specs.BitChange as bits
use Rattle.machine.specs.BitChange.{BitChange}
use Rattle.machine.specs.Choosing.{begins, next, turn}
use Rattle.machine.specs.ObjectNames.{Object}
use Rattle.machine.specs.Stock.{Stock}
use Rattle.machine.specs.Turn.{Turn}
use Rattle.region_view.specs.Placed.{Viewed}
use Rattle.reuse_grace.proofs.Soundness.{at_updated}
use Rattle.reuse_grace.specs.Stock.{updated}
use Rattle.object_division.specs.Allowed.{MayHappen}
use Rattle.object_division.specs.Client.{Active, Cleared, Clearing, Client, Given, Named, NotClearing, Releasing, Retired, Returning, Service, Taken, Under, Untaken, Use}
use Rattle.object_division.specs.Run.{Begin, Choose, Clear, ClearNext, End, Event, Name, Release, ReleaseNext, Renew, Retire, Return, ReturnNext, Seek, State, answered, cleared_next, clearing_after, clearing_of, happens, opening, released_next, renewed, returned_next, service_after, told}
use Rattle.object_division.proofs.InOrder.{AllClearGifts, ClearsGift}

updated_gift : (clients : ℕ → Client) (number : ℕ) (client : Client) → AllClearGifts clients
    → ClearsGift client.given client.clearing → AllClearGifts (updated clients number client)
unfolding AllClearGifts
updated_gift clients number client all here other =
    at_updated (λ (c : Client). ClearsGift c.given c.clearing) clients number client other (λ same. here) (λ apart. all other)

told_gift : (client : Client) (stock : Stock) (answer : Took) → client.clearing ≡ NotClearing
    → ClearsGift (told client stock answer).given (told client stock answer).clearing
told_gift client stock took.Going none = subst (λ c. ClearsGift client.given c) (sym none) tt
told_gift client stock (took.Have object next_object) none =
    subst (λ c. ClearsGift (told client stock (took.Have object next_object)).given c) (sym none) tt
told_gift client stock (took.NoSpace class awaited begin) none = subst (λ c. ClearsGift client.given c) (sym none) tt
told_gift client stock (took.Refused node) none = subst (λ c. ClearsGift client.given c) (sym none) tt

clearing_gift : (view : Viewed) (class : ℕ) (given : ℕ → Option Given) (one : Option Given) → given class ≡ one
    → ClearsGift given (clearing_of view class one)
clearing_gift view class given None is = tt
clearing_gift view class given (Some one) is = is

after_gift : (class : ℕ) (given : ℕ → Option Given) (one : Given) (t : Turn BitChange Changed) (answer : Changed)
    → given class ≡ Some one → ClearsGift given (clearing_after class one t answer)
after_gift class given one t changed.Going is = is
after_gift class given one t changed.Whole is = is
after_gift class given one t (changed.Refused node) is = is

cleared_gift : (state : State) (number : ℕ) (clearing : Clearing) → ClearsGift (state.clients number).given clearing
    → AllClearGifts state.clients → AllClearGifts (cleared_next state number clearing).clients
cleared_gift state number NotClearing is all = all
cleared_gift state number (Cleared class given) is all = all
cleared_gift state number (Under class given change) is all =
    let t = bits.turn change (answered state (bits.next change)) in
    updated_gift state.clients number (record (state.clients number) { clearing = clearing_after class given t t.told }) all
    (after_gift class (state.clients number).given given t t.told is)

renewed_gift : (client : Client) (clearing : Clearing) → ClearsGift client.given client.clearing
    → ClearsGift (renewed client clearing).given (renewed client clearing).clearing
renewed_gift client NotClearing is = is
renewed_gift client (Under class given change) is = is
renewed_gift client (Cleared class given) is = tt

returned_gift : (state : State) (object : Object) (use_of : Use) → AllClearGifts state.clients
    → AllClearGifts (returned_next state object use_of).clients
returned_gift state object Untaken all = all
returned_gift state object (Taken client) all = all
returned_gift state object (Named client namer) all = all
returned_gift state object (Returning client namer change) all = all

released_gift : (state : State) (number : ℕ) (service : Service) → AllClearGifts state.clients
    → AllClearGifts (released_next state number service).clients
unfolding AllClearGifts
released_gift state number Active all = all
released_gift state number Retired all = all
released_gift state number (Releasing region block class replicas) all =
    updated_gift state.clients number
    (record (state.clients number) { service = service_after state.view region block class replicas }) all (all number)

pub gifts-happens : (state : State) (event : Event) → MayHappen state event → AllClearGifts state.clients
    → AllClearGifts (happens state event).clients
unfolding AllClearGifts
gifts-happens state (Begin client) may all = all
gifts-happens state (End client) may all = all
gifts-happens state (Choose number class) may all =
    let client = state.clients number in
    let t = begins client.stock state.view.mask class in
    updated_gift state.clients number (told client t.state t.told) all (told_gift client t.state t.told may.0.clearing)
gifts-happens state (Seek number) may all =
    let client = state.clients number in
    let t = turn client.stock (answered state (next client.stock)) in
    updated_gift state.clients number (told client t.state t.told) all (told_gift client t.state t.told may.0.clearing)
gifts-happens state (Clear number class) may all =
    let client = state.clients number in
    updated_gift state.clients number (record client { clearing = clearing_of state.view class (client.given class) }) all
    (clearing_gift state.view class client.given (client.given class) refl)
gifts-happens state (ClearNext number) may all = cleared_gift state number (state.clients number).clearing (all number) all
gifts-happens state (Renew number) may all =
    let client = state.clients number in
    updated_gift state.clients number (renewed client client.clearing) all (renewed_gift client client.clearing (all number))
gifts-happens state (Name client object) may all = all
gifts-happens state (Return client object look) may all = all
gifts-happens state (ReturnNext client object) may all = returned_gift state object (state.uses object) all
gifts-happens state (Retire number) may all =
    updated_gift state.clients number (record (state.clients number) { service = Retired }) all (all number)
gifts-happens state (Release number region block class) may all =
    let client = state.clients number in
    updated_gift state.clients number
    (record client { service = Releasing region block class 0; released = (region, block) ∷ client.released }) all (all number)
gifts-happens state (ReleaseNext number) may all = released_gift state number (state.clients number).service all

pub gifts-opening : (view : Viewed) → AllClearGifts (opening view).clients
unfolding AllClearGifts
gifts-opening view number = tt
