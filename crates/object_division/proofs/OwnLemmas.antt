-- The theorem on objects that are taken: their taker owns their block, and nobody else has them in reserve. And what a choosing
-- gives are the reserve and another object that is ripe.
use Rattle.std.proofs.Common.{◌≡◌, ◌≢◌, ℕ, ◌+◌, ◌<◌, ◌==◌, List, [], ◌∷◌, ◌++◌, length, Option, Some, None, refl, sym, ◌∙◌, subst, arith, inl, inr}
use Rattle.std.specs.Prelude.{All, Contains, slice_index_or}
use Rattle.std.proofs.lemmas.Bool.{cases_eq, cond_both}
use Rattle.block_claims.proofs.Soundness.{IsOwner}
use Rattle.block_claims.proofs.WordLemmas.{owned-same}
use Rattle.block_claims.specs.Claims.{owned}
use Rattle.machine.proofs.ChoosingLemmas.{begins-turned, turn-turned}
use Rattle.machine.specs.declared.bit_change.Changed.{Changed}
use Rattle.machine.specs.declared.bit_change.Changed.TheVariants as changed
use Rattle.machine.specs.declared.choosing.Took.{Took}
use Rattle.machine.specs.declared.choosing.Took.TheVariants as took
use Rattle.machine.specs.BitChange as bits
use Rattle.machine.specs.BitChange.{BitChange, bit_change_of}
use Rattle.machine.specs.Choosing.{begins, next, taken, turn}
use Rattle.machine.specs.EpochRead.{IsView}
use Rattle.machine.specs.ObjectNames.{Object, block_of, number_of}
use Rattle.machine.specs.Places.{replica_count}
use Rattle.machine.specs.Stock.{ClassStock, IsOwn, IsStock, Stock, no_stock, with_reserve}
use Rattle.machine.specs.Turn.{Turn}
use Rattle.object_form.specs.declared.classes.TheConstants.{CLASSES}
use Rattle.pointer_fields.specs.Pointer.{region_of}
use Rattle.region_view.specs.Layout.{Bitmap, BlockWord as block_word}
use Rattle.region_view.specs.Placed.{Viewed}
use Rattle.region_view.specs.Sizes.{IsWithinLimits, Sizes}
use Rattle.reuse_grace.proofs.Soundness.{at_updated}
use Rattle.reuse_grace.specs.Stock.{updated}
use Rattle.verb_words.specs.Verb.{place_of}
use Rattle.verb_words.specs.Words.{word_at}
use Rattle.object_division.specs.Allowed.{IsAllowed, MayHappen, stock_of}
use Rattle.object_division.specs.Claims.{IsOwnedBy, IsReserve, Takes}
use Rattle.object_division.specs.Client.{Active, Cleared, Clearing, Client, Given, Named, NotClearing, Releasing, Retired, Returning, Service, Taken, Under, Untaken, Use}
use Rattle.object_division.specs.Marks.{IsGoodGift, IsRipe}
use Rattle.object_division.specs.Run.{Begin, Choose, Clear, ClearNext, End, Event, Name, Release, ReleaseNext, Renew, Retire, Return, ReturnNext, Seek, State, answered, cleared_next, clearing_after, clearing_of, happens, object_of, opening, released_next, renewed, returned_next, run, service_after, told}
use Rattle.object_division.specs.Seen.{IsApart}
use Rattle.object_division.proofs.BlockLemmas.{IsSound-happens, IsSound-opening, IsSound-run, first_stocks}
use Rattle.object_division.proofs.BlockWordLemmas.{block_words, block_words-at, length-block_words}
use Rattle.object_division.proofs.GiftLemmas.{AreApart, IsFound, IsGift, IsRipe-held, begins-gift, class_replaced, cleared-ripe, first_free-apart, first_free-ripe, reserve_of, sought-gift}
use Rattle.object_division.proofs.GrownLemmas.{own_of}
use Rattle.object_division.proofs.Soundness.{IsSound}

abbrev pub class_at : Stock → ℕ → ClassStock
class_at stock class = slice_index_or stock.classes class no_stock

-- what a choosing gave: the reserve, and another object that is ripe
pub record IsGiven (of_class : ClassStock) (class : ℕ) (given : Given) : Type 0 where
  pub reserve : of_class.reserve ≡ Some given.object
  pub next : IsRipe of_class.own class given.next
  pub apart : AreApart class given.object given.next

abbrev pub ClearsOwn : Stock → Clearing → Type 0
ClearsOwn stock NotClearing = Unit {0}
ClearsOwn stock (Under class given change) = IsGiven (class_at stock class) class given
ClearsOwn stock (Cleared class given) = IsGiven (class_at stock class) class given

-- what a client has in reserve is ripe in its blocks, and so is what its choosings gave; and no block of a client that takes
-- steps is released
pub record HasItsOwn (client : Client) : Type 0 where
  pub reserves : (class pointer : ℕ) → reserve_of client.stock class ≡ Some pointer
      → IsRipe (own_of client.stock class) class pointer
  pub given : (class : ℕ) (given : Given) → client.given class ≡ Some given → IsGiven (class_at client.stock class) class given
  pub clearing : ClearsOwn client.stock client.clearing
  pub released : client.service ≡ Active → client.released ≡ []

unfoldable pub AllHaveTheirOwn : (ℕ → Client) → Type 0
AllHaveTheirOwn clients = (number : ℕ) → HasItsOwn (clients number)

IsGiven-kept : (stock : Stock) (t : Turn Stock Took) (class : ℕ) (given : Given) → IsGift stock t
    → IsGiven (class_at stock class) class given → IsGiven (class_at t.state class) class given
IsGiven-kept stock t class given gift is =
    record {
      reserve = gift.keeps class given.object is.reserve;
      next = IsRipe-held (own_of t.state class) (own_of stock class) class given.next (gift.grows class) is.next;
      apart = is.apart;
    }

-- ---- a client whose choosing has told something

abbrev HasRipeReserves : Stock → Type 0
HasRipeReserves stock =
    (class pointer : ℕ) → reserve_of stock class ≡ Some pointer → IsRipe (own_of stock class) class pointer

found_ripe : (sizes : Sizes) (number class pointer : ℕ) (stock : Stock) → IsWithinLimits sizes → class < CLASSES
    → IsStock sizes number stock → IsFound (own_of stock class) class pointer → IsRipe (own_of stock class) class pointer
found_ripe sizes number class pointer stock limits below is found =
    subst (λ list. IsRipe list class pointer) found.own
    (first_free-ripe sizes class found.of_class pointer limits below
    (subst (λ list. All (IsOwn sizes class) list) (sym found.own) (is.classes class below).own) found.found)

reserves_told : (sizes : Sizes) (number : ℕ) (stock : Stock) (t : Turn Stock Took) → IsWithinLimits sizes
    → t.state.class < CLASSES → IsStock sizes number t.state → IsGift stock t
    → HasRipeReserves stock → HasRipeReserves t.state
reserves_told sizes number stock t limits below is gift old class pointer has =
    elim (gift.reserves class pointer has) [
      | inl before ↦
          IsRipe-held (own_of t.state class) (own_of stock class) class pointer (gift.grows class) (old class pointer before)
      | inr found ↦
          found_ripe sizes number class pointer t.state limits (subst (λ k. k < CLASSES) (sym found.0) below) is found.1
    ]

some_given : (one other : Given) → Some one ≡ Some other → one ≡ other
some_given one other same = cc

HasItsOwn-stocked : (client : Client) (stock : Stock) (given : ℕ → Option Given) → HasItsOwn client
    → client.clearing ≡ NotClearing
    → HasRipeReserves stock
    → ((class : ℕ) (one : Given) → given class ≡ Some one → IsGiven (class_at stock class) class one)
    → HasItsOwn (record client { stock = stock; given = given })
HasItsOwn-stocked client stock given old clears reserves gifts =
    record {
      reserves = reserves;
      given = gifts;
      clearing = subst (λ c. ClearsOwn stock c) (sym clears) tt;
      released = old.released;
    }

HasItsOwn-told : (sizes : Sizes) (number : ℕ) (client : Client) (stock : Stock) (answer : Took) → IsWithinLimits sizes
    → stock.class < CLASSES → IsStock sizes number stock
    → IsGift client.stock (record { state = stock; told = answer }) → HasItsOwn client → client.clearing ≡ NotClearing
    → HasItsOwn (told client stock answer)
HasItsOwn-told sizes number client stock took.Going limits below is gift old clears =
    HasItsOwn-stocked client stock client.given old clears
    (reserves_told sizes number client.stock (record { state = stock; told = took.Going }) limits below is gift old.reserves)
    (λ class one has.
    IsGiven-kept client.stock (record { state = stock; told = took.Going }) class one gift (old.given class one has))
HasItsOwn-told sizes number client stock (took.Have object next_object) limits below is gift old clears =
    let one : Given = record { object = object; next = next_object } in
    let t : Turn Stock Took = record { state = stock; told = took.Have object next_object } in
    let own = (is.classes stock.class below).own in
    let gives : IsGiven (class_at stock stock.class) stock.class one = record {
      reserve = gift.gives.0;
      next = first_free-ripe sizes stock.class (class_at stock stock.class) next_object limits below own gift.gives.1;
      apart =
          first_free-apart sizes stock.class (class_at stock stock.class) object next_object limits below own gift.gives.0
          gift.gives.1;
    } in
    HasItsOwn-stocked client stock (updated client.given stock.class (Some one)) old clears
    (reserves_told sizes number client.stock t limits below is gift old.reserves)
    (λ class given.
    at_updated (λ (o : Option Given). o ≡ Some given → IsGiven (class_at stock class) class given) client.given stock.class
    (Some one) class
    (λ same some.
    subst (λ g. IsGiven (class_at stock class) class g) (some_given one given some)
    (subst (λ c. IsGiven (class_at stock c) c one) same gives))
    (λ apart has. IsGiven-kept client.stock t class given gift (old.given class given has)))
HasItsOwn-told sizes number client stock (took.NoSpace class awaited begin) limits below is gift old clears =
    HasItsOwn-stocked client stock client.given old clears
    (reserves_told sizes number client.stock (record { state = stock; told = took.NoSpace class awaited begin }) limits below is
    gift old.reserves)
    (λ k one has.
    IsGiven-kept client.stock (record { state = stock; told = took.NoSpace class awaited begin }) k one gift
    (old.given k one has))
HasItsOwn-told sizes number client stock (took.Refused node) limits below is gift old clears =
    HasItsOwn-stocked client stock client.given old clears
    (reserves_told sizes number client.stock (record { state = stock; told = took.Refused node }) limits below is gift old.reserves)
    (λ k one has.
    IsGiven-kept client.stock (record { state = stock; told = took.Refused node }) k one gift (old.given k one has))

-- ---- the clearing

HasItsOwn-clearing : (client : Client) (clearing : Clearing) → HasItsOwn client → ClearsOwn client.stock clearing
    → HasItsOwn (record client { clearing = clearing })
HasItsOwn-clearing client clearing old clears =
    record { reserves = old.reserves; given = old.given; clearing = clears; released = old.released }

ClearsOwn-begun : (view : Viewed) (stock : Stock) (class : ℕ) (gift : Option Given)
    → ((given : Given) → gift ≡ Some given → IsGiven (class_at stock class) class given) → ClearsOwn stock (clearing_of view class gift)
ClearsOwn-begun view stock class None lies = tt
ClearsOwn-begun view stock class (Some given) lies = lies given refl

ClearsOwn-after : (stock : Stock) (class : ℕ) (given : Given) (t : Turn BitChange Changed) (answer : Changed)
    → IsGiven (class_at stock class) class given → ClearsOwn stock (clearing_after class given t answer)
ClearsOwn-after stock class given t changed.Going lies = lies
ClearsOwn-after stock class given t changed.Whole lies = lies
ClearsOwn-after stock class given t (changed.Refused node) lies = lies

none_some : {A : Type 0} (given : Given) → None ≡ Some given → A
none_some given is = absurd cc

some_same : (x y : ℕ) → Some x ≡ Some y → x ≡ y
some_same x y same = cc

HasItsOwn-renewed : (client : Client) (clearing : Clearing) → HasItsOwn client → ClearsOwn client.stock clearing
    → HasItsOwn (renewed client clearing)
HasItsOwn-renewed client NotClearing old clears = old
HasItsOwn-renewed client (Under class given change) old clears = old
HasItsOwn-renewed client (Cleared class given) old clears =
    let stock = client.stock in
    let of_class = class_at stock class in
    let later = with_reserve class of_class given.next in
    let ripe = cleared-ripe class of_class given.object given.next clears.reserve clears.apart clears.next in
    record {
      reserves = λ other pointer.
          class_replaced (λ c. c.reserve ≡ Some pointer → IsRipe c.own other pointer) stock.classes class other later
          (λ same is.
          subst (λ k. IsRipe later.own k pointer) (sym same)
          (subst (λ p. IsRipe later.own class p) (some_same given.next pointer is) ripe))
          (old.reserves other pointer);
      given = λ other one.
          at_updated (λ (o : Option Given). o ≡ Some one → IsGiven (class_at (taken stock class given.next) other) other one)
          client.given class None other
          (λ same some. none_some one some)
          (λ apart some.
          class_replaced (λ c. IsGiven c other one) stock.classes class other later (λ same. absurd (apart (sym same)))
          (old.given other one some));
      clearing = tt;
      released = old.released;
    }

-- ---- service

HasItsOwn-served : (client : Client) (service : Service) (released : List (ℕ × ℕ)) → HasItsOwn client → (service ≡ Active → ⊥)
    → HasItsOwn (record client { service = service; released = released })
HasItsOwn-served client service released old inactive =
    record {
      reserves = old.reserves;
      given = old.given;
      clearing = old.clearing;
      released = λ active. absurd (inactive active);
    }

pub retired_active : Retired ≡ Active → ⊥
retired_active is = cc

pub releasing_active : (region block class replicas : ℕ) → Releasing region block class replicas ≡ Active → ⊥
releasing_active region block class replicas is = cc

pub served_on : (view : Viewed) (region block class replicas : ℕ) → service_after view region block class replicas ≡ Active → ⊥
served_on view region block class replicas =
    cond_both (replicas + 1 == replica_count view (block_word region block)) Retired (Releasing region block class (replicas + 1))
    (λ service. service ≡ Active → ⊥) (λ last. retired_active) (λ more. releasing_active region block class (replicas + 1))

-- ---- any step

updated_own : (clients : ℕ → Client) (number : ℕ) (client : Client) → AllHaveTheirOwn clients → HasItsOwn client
    → AllHaveTheirOwn (updated clients number client)
unfolding AllHaveTheirOwn
updated_own clients number client all own other =
    at_updated (λ (c : Client). HasItsOwn c) clients number client other (λ same. own) (λ apart. all other)

cleared_own : (state : State) (number : ℕ) (clearing : Clearing) → AllHaveTheirOwn state.clients
    → ClearsOwn (state.clients number).stock clearing → AllHaveTheirOwn (cleared_next state number clearing).clients
unfolding AllHaveTheirOwn
cleared_own state number NotClearing all clears = all
cleared_own state number (Cleared class given) all clears = all
cleared_own state number (Under class given change) all clears =
    let t = bits.turn change (answered state (bits.next change)) in
    let later = clearing_after class given t t.told in
    updated_own state.clients number (record (state.clients number) { clearing = later }) all
    (HasItsOwn-clearing (state.clients number) later (all number)
    (ClearsOwn-after (state.clients number).stock class given t t.told clears))

returned_own : (state : State) (object : Object) (use_of : Use) → AllHaveTheirOwn state.clients
    → AllHaveTheirOwn (returned_next state object use_of).clients
returned_own state object Untaken all = all
returned_own state object (Taken client) all = all
returned_own state object (Named client namer) all = all
returned_own state object (Returning client namer change) all = all

released_own : (state : State) (number : ℕ) (service : Service) → AllHaveTheirOwn state.clients
    → AllHaveTheirOwn (released_next state number service).clients
unfolding AllHaveTheirOwn
released_own state number Active all = all
released_own state number Retired all = all
released_own state number (Releasing region block class replicas) all =
    let client = state.clients number in
    let service = service_after state.view region block class replicas in
    updated_own state.clients number (record client { service = service }) all
    (HasItsOwn-served client service client.released (all number) (served_on state.view region block class replicas))

pub own-happens : (state : State) (event : Event) → MayHappen state event → IsSound state → AllHaveTheirOwn state.clients
    → AllHaveTheirOwn (happens state event).clients
unfolding AllHaveTheirOwn
own-happens state (Begin client) may sound all = all
own-happens state (End client) may sound all = all
own-happens state (Choose number class) may sound all =
    let client = state.clients number in
    let t = begins client.stock state.view.mask class in
    let turned =
    begins-turned state.view number class client.stock (sound.clients number).stock sound.is_view may.0.active.number may.1 in
    updated_own state.clients number (told client t.state t.told) all
    (HasItsOwn-told state.view.shape number client t.state t.told sound.is_view.limits
    (subst (λ c. c < CLASSES) (sym turned.choosing.ready.same) may.1) turned.choosing.ready.is_stock
    (begins-gift client.stock state.view.mask class) (all number) may.0.clearing)
own-happens state (Seek number) may sound all =
    let client = state.clients number in
    let stock = client.stock in
    let is = (sound.clients number).choosing may.1 in
    let t = turn stock (answered state (next stock)) in
    let turned = turn-turned state.view number stock.class stock (answered state (next stock)) is in
    updated_own state.clients number (told client t.state t.told) all
    (HasItsOwn-told state.view.shape number client t.state t.told sound.is_view.limits
    (subst (λ c. c < CLASSES) (sym turned.choosing.ready.same) is.ready.below) turned.choosing.ready.is_stock
    (sought-gift stock stock.phase (word_at state.words (place_of (next stock))) is.phase) (all number) may.0.clearing)
own-happens state (Clear number class) may sound all =
    let client = state.clients number in
    let clearing = clearing_of state.view class (client.given class) in
    updated_own state.clients number (record client { clearing = clearing }) all
    (HasItsOwn-clearing client clearing (all number)
    (ClearsOwn-begun state.view client.stock class (client.given class) ((all number).given class)))
own-happens state (ClearNext number) may sound all =
    cleared_own state number (state.clients number).clearing all (all number).clearing
own-happens state (Renew number) may sound all =
    let client = state.clients number in
    updated_own state.clients number (renewed client client.clearing) all
    (HasItsOwn-renewed client client.clearing (all number) (all number).clearing)
own-happens state (Name client object) may sound all = all
own-happens state (Return client object look) may sound all = all
own-happens state (ReturnNext client object) may sound all = returned_own state object (state.uses object) all
own-happens state (Retire number) may sound all =
    let client = state.clients number in
    updated_own state.clients number (record client { service = Retired }) all
    (HasItsOwn-served client Retired client.released (all number) retired_active)
own-happens state (Release number region block class) may sound all =
    let client = state.clients number in
    let released = (region, block) ∷ client.released in
    updated_own state.clients number (record client { service = Releasing region block class 0; released = released }) all
    (HasItsOwn-served client (Releasing region block class 0) released (all number) (releasing_active region block class 0))
own-happens state (ReleaseNext number) may sound all = released_own state number (state.clients number).service all

pub own-opening : (view : Viewed) → AllHaveTheirOwn (opening view).clients
unfolding AllHaveTheirOwn
own-opening view number =
    record {
      reserves = λ class pointer is.
          absurd (none_reserved pointer (subst (λ (c : ClassStock). c.reserve ≡ Some pointer) (first_stocks class view.shape number) is));
      given = λ class given is. none_some given is;
      clearing = tt;
      released = λ active. refl;
    }
  where
    none_reserved : (pointer : ℕ) → None ≡ Some pointer → ⊥
    none_reserved pointer is = cc

pub own-run : (state : State) (events : List Event) → IsAllowed state events → IsSound state → AllHaveTheirOwn state.clients
    → AllHaveTheirOwn (run state events).clients
own-run state [] allowed sound all = all
own-run state (event ∷ events) allowed sound all =
    own-run (happens state event) events allowed.1 (IsSound-happens state event allowed.0 sound)
    (own-happens state event allowed.0 sound all)

-- ---- the theorem

-- the steps before the last, and the last
pub allowed_last : (state : State) (events : List Event) (event : Event) → IsAllowed state (events ++ event ∷ [])
    → IsAllowed state events × MayHappen (run state events) event
allowed_last state [] event allowed = (tt, allowed.0)
allowed_last state (first ∷ events) event allowed =
    let rest = allowed_last (happens state first) events event allowed.1 in
    ((allowed.0, rest.0), rest.1)

-- the client owns the block in which the object lies, and every replica says so
abbrev pub OwnsBlockOf : State → ℕ → Object → Type 0
OwnsBlockOf state client object =
    IsOwner (block_words state.view state.words (region_of object.pointer) (block_of object.pointer)) client object.class
    × ((place : ℕ) → place < length (block_words state.view state.words (region_of object.pointer) (block_of object.pointer))
    → slice_index_or (block_words state.view state.words (region_of object.pointer) (block_of object.pointer)) place 0
    ≡ owned client object.class)

-- a client owns the block of the object whose bit it clears
pub clearer_owns : (state : State) (client class : ℕ) (given : Given) (change : BitChange) → IsSound state
    → AllHaveTheirOwn state.clients → (state.clients client).service ≡ Active
    → (state.clients client).clearing ≡ Under class given change → OwnsBlockOf state client (object_of class given)
unfolding AllHaveTheirOwn
clearer_owns state client class given change sound all active clears =
    let now = state.clients client in
    let is : IsGiven (class_at now.stock class) class given = subst (λ c. ClearsOwn now.stock c) clears (all client).clearing in
    let own = (all client).reserves class given.object is.reserve in
    let kept : Contains now.released (own.own.region, own.own.block) → ⊥ = λ has.
    none_has (own.own.region, own.own.block) (subst (λ list. Contains list (own.own.region, own.own.block)) ((all client).released active) has) in
    let here = (sound.clients client).gained class own.own own.has kept in
    let At : ℕ → ℕ → Type 0 = λ r b.
    IsOwner (block_words state.view state.words r b) client class
    × ((place : ℕ) → place < length (block_words state.view state.words r b)
    → slice_index_or (block_words state.view state.words r b) place 0 ≡ owned client class) in
    subst (λ r. At r (block_of given.object)) (sym own.region) (subst (λ b. At own.own.region b) (sym own.block) here)
  where
    none_has : (one : ℕ × ℕ) → Contains [] one → ⊥
    none_has one has = omega (arith, has.1)

-- the taker owns the block for the class
taker_owns : (state : State) (event : Event) (client : ℕ) (object : Object) → IsSound state → AllHaveTheirOwn state.clients
    → MayHappen state event → Takes state event client object → OwnsBlockOf state client object
taker_owns state event client object sound all may takes =
    subst (OwnsBlockOf state client) (sym takes.object_is)
    (clearer_owns state client takes.class takes.given takes.change sound all
    (subst (λ e. MayHappen state e) takes.next may).0.active takes.clears)

pub taken_owned : (view : Viewed) (events : List Event) (event : Event) → IsView view
    → IsAllowed (opening view) (events ++ event ∷ []) → (client : ℕ) (object : Object)
    → Takes (run (opening view) events) event client object
    → IsOwnedBy (run (opening view) events) client object.class (region_of object.pointer) (block_of object.pointer)
taken_owned view events event is allowed client object takes replica inside =
    let both = allowed_last (opening view) events event allowed in
    let state = run (opening view) events in
    let sound = IsSound-run (opening view) events both.0 (IsSound-opening view is) in
    let all = own-run (opening view) events both.0 (IsSound-opening view is) (own-opening view) in
    let owns = taker_owns state event client object sound all both.1 takes in
    sym (block_words-at state.view state.words (region_of object.pointer) (block_of object.pointer) replica inside)
    ∙ owns.1 replica
    (omega (arith, inside, length-block_words state.view state.words (region_of object.pointer) (block_of object.pointer)))

pub takes_unreserved : (state : State) (event : Event) (client other : ℕ) (object : Object) → IsSound state
    → AllHaveTheirOwn state.clients → MayHappen state event → Takes state event client object → other ≢ client
    → IsReserve state other object.class object.pointer → ⊥
unfolding AllHaveTheirOwn
takes_unreserved state event client other object sound all may takes apart reserve =
    let owns = (taker_owns state event client object sound all may takes).0 in
    let own = (all other).reserves object.class object.pointer reserve.is in
    let kept : Contains (state.clients other).released (own.own.region, own.own.block) → ⊥ = λ has.
    reserve.kept
    (subst (λ r. Contains (state.clients other).released (r, block_of object.pointer)) (sym own.region)
    (subst (λ b. Contains (state.clients other).released (own.own.region, b)) (sym own.block) has)) in
    let here = ((sound.clients other).gained object.class own.own own.has kept).0 in
    let At : ℕ → ℕ → Type 0 = λ r b. IsOwner (block_words state.view state.words r b) other object.class in
    let also : At (region_of object.pointer) (block_of object.pointer) =
    subst (λ r. At r (block_of object.pointer)) (sym own.region) (subst (λ b. At own.own.region b) (sym own.block) here) in
    apart
    ((owned-same other client object.class object.class also.client_within also.class_within owns.client_within
    owns.class_within (sym also.primary ∙ owns.primary)).0)

pub taken_unreserved : (view : Viewed) (events : List Event) (event : Event) → IsView view
    → IsAllowed (opening view) (events ++ event ∷ []) → (client other : ℕ) (object : Object)
    → Takes (run (opening view) events) event client object → other ≢ client
    → IsReserve (run (opening view) events) other object.class object.pointer → ⊥
taken_unreserved view events event is allowed client other object =
    let both = allowed_last (opening view) events event allowed in
    takes_unreserved (run (opening view) events) event client other object
    (IsSound-run (opening view) events both.0 (IsSound-opening view is))
    (own-run (opening view) events both.0 (IsSound-opening view is) (own-opening view)) both.1

-- ---- what a choosing gives

pub bitmap_same : (region block region' block' : ℕ) → Bitmap region block ≡ Bitmap region' block'
    → (region ≡ region') × (block ≡ block')
bitmap_same region block region' block' is = (cc, cc)

IsApart-given : (class one other : ℕ) → AreApart class one other
    → IsApart (record { pointer = one; class = class }) (record { pointer = other; class = class })
IsApart-given class one other apart =
    elim (cases_eq (number_of one class) (number_of other class)) [
      | inl same ↦
          inl
          (λ is.
          let both = bitmap_same (region_of one) (block_of one) (region_of other) (block_of other) is in
          apart both.0 both.1 same)
      | inr differ ↦ inr differ
    ]

IsGoodGift-given : (client : Client) (class : ℕ) (given : Given) → HasItsOwn client
    → IsGiven (class_at client.stock class) class given → IsGoodGift (stock_of client class) class given
IsGoodGift-given client class given own is =
    record {
      reserve = is.reserve;
      object = own.reserves class given.object is.reserve;
      next = is.next;
      apart = IsApart-given class given.object given.next is.apart;
    }

pub reserves_ripe : (view : Viewed) (events : List Event) → IsView view → IsAllowed (opening view) events
    → (client class pointer : ℕ)
    → (stock_of ((run (opening view) events).clients client) class).reserve ≡ Some pointer
    → IsRipe (stock_of ((run (opening view) events).clients client) class).own class pointer
unfolding AllHaveTheirOwn
reserves_ripe view events is allowed client class pointer held =
    (own-run (opening view) events allowed (IsSound-opening view is) (own-opening view) client).reserves class pointer held

pub gifts_good : (view : Viewed) (events : List Event) → IsView view → IsAllowed (opening view) events
    → (client class : ℕ) (given : Given) → ((run (opening view) events).clients client).given class ≡ Some given
    → IsGoodGift (stock_of ((run (opening view) events).clients client) class) class given
unfolding AllHaveTheirOwn
gifts_good view events is allowed client class given has =
    let own = own-run (opening view) events allowed (IsSound-opening view is) (own-opening view) client in
    IsGoodGift-given ((run (opening view) events).clients client) class given own (own.given class given has)

-- and so it is while the bit of what it gave is cleared
pub clearings_good : (view : Viewed) (events : List Event) → IsView view → IsAllowed (opening view) events
    → (client class : ℕ) (given : Given) (change : BitChange)
    → ((run (opening view) events).clients client).clearing ≡ Under class given change
    → IsGoodGift (stock_of ((run (opening view) events).clients client) class) class given
unfolding AllHaveTheirOwn
clearings_good view events is allowed client class given change clears =
    let own = own-run (opening view) events allowed (IsSound-opening view is) (own-opening view) client in
    let now = (run (opening view) events).clients client in
    IsGoodGift-given now class given own (subst (λ c. ClearsOwn now.stock c) clears own.clearing)
