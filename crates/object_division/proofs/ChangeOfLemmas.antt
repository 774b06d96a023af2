-- Each change of a bit is the one that was begun for its object, however far it has come.
use Rattle.std.proofs.Common.{◌≡◌, ℕ, ◌+◌, nat_lt, Bool, true, false, List, [], ◌∷◌, Option, Some, None, refl, ◌∙◌, subst}
use Rattle.std.proofs.lemmas.Bool.{cond_both}
use Rattle.machine.specs.declared.bit_change.Changed.{Changed}
use Rattle.machine.specs.declared.bit_change.Changed.TheVariants as changed
use Rattle.machine.specs.declared.choosing.Took.{Took}
use Rattle.machine.specs.declared.choosing.Took.TheVariants as took
use Rattle.machine.specs.BitChange as bits
use Rattle.machine.specs.BitChange.{BitChange, Look, Phase, bit_change_of, is_as_wanted, on_replica}
use Rattle.machine.specs.Choosing.{begins, next, turn}
use Rattle.machine.specs.ObjectNames.{Object, bitmap_of}
use Rattle.machine.specs.Places.{replica_count}
use Rattle.machine.specs.Stock.{Stock}
use Rattle.machine.specs.Turn.{Turn}
use Rattle.region_view.specs.Placed.{Viewed}
use Rattle.reuse_grace.proofs.Soundness.{at_updated}
use Rattle.reuse_grace.specs.Stock.{updated}
use Rattle.verb_words.specs.declared.verbs.Answer.{Answer}
use Rattle.verb_words.specs.declared.verbs.Answer.TheVariants.{Done, Lost, Word}
use Rattle.object_division.specs.Client.{Cleared, Clearing, Client, Given, Named, NotClearing, Releasing, Retired, Active, Returning, Service, Taken, Under, Untaken, Use, is_same}
use Rattle.object_division.specs.Run.{Begin, Choose, Clear, ClearNext, End, Event, Name, Release, ReleaseNext, Renew, Retire, Return, ReturnNext, Seek, State, answered, cleared_next, clearing_after, clearing_of, happens, named, object_of, opening, released_next, renewed, returned_next, returning, run, service_after, told, use_after_clearing, use_after_setting, with_use}
use Rattle.object_division.specs.Seen.{IsChangeOf}
use Rattle.object_division.proofs.StepLemmas.{is_same-true}

-- ---- a turn

-- the change is still of this object, and looks if it looked before
record IsStillOf (change : BitChange) (object : Object) (set : Bool) (later : BitChange) : Type 0 where
  pub of_object : IsChangeOf later object set
  pub look : later.look ≡ change.look

first_looks : (look : Bool) → bits.first_phase look ≡ Look → look ≡ true
first_looks true is = refl
first_looks false is = absurd cc

change_look : {A : Type 0} → bits.Change ≡ Look → A
change_look is = absurd cc

moved-of : (change : BitChange) (object : Object) (set : Bool) → IsChangeOf change object set
    → IsStillOf change object set (on_replica change).state
moved-of change object set is = by (nat_lt (change.replica + 1) (replica_count change.view (bitmap_of change.object.pointer))) refl
  where
    by : (t : Bool) → nat_lt (change.replica + 1) (replica_count change.view (bitmap_of change.object.pointer)) ≡ t
        → IsStillOf change object set (on_replica change).state
    by true more =
        rw more
        (record {
          of_object = record { object_is = is.object_is; set_is = is.set_is; looks = first_looks change.look };
          look = refl;
        })
    by false last = rw last (record { of_object = is; look = refl })

word-of : (change : BitChange) (object : Object) (set : Bool) (phase : Phase) (found : ℕ) → IsChangeOf change object set
    → IsStillOf change object set (bits.turn_at phase change found).state
word-of change object set Look found is = by (is_as_wanted change found) refl
  where
    by : (t : Bool) → is_as_wanted change found ≡ t → IsStillOf change object set (bits.turn_at Look change found).state
    by true wanted = rw wanted (moved-of change object set is)
    by false other =
        rw other
        (record {
          of_object = record { object_is = is.object_is; set_is = is.set_is; looks = change_look };
          look = refl;
        })
word-of change object set bits.Change found is = moved-of change object set is

turn-of : (change : BitChange) (object : Object) (set : Bool) (answer : Answer) → IsChangeOf change object set
    → IsStillOf change object set (bits.turn change answer).state
turn-of change object set (Word found) is = word-of change object set change.phase found is
turn-of change object set Done is = record { of_object = is; look = refl }
turn-of change object set Lost is = record { of_object = is; look = refl }

-- ---- the clients, and the objects

abbrev pub ClearingIsOf : Clearing → Type 0
ClearingIsOf NotClearing = Unit {0}
ClearingIsOf (Under class given change) = IsChangeOf change (object_of class given) false × (change.look ≡ false)
ClearingIsOf (Cleared class given) = Unit {0}

abbrev pub UseIsOf : Object → Use → Type 0
UseIsOf object Untaken = Unit {0}
UseIsOf object (Taken client) = Unit {0}
UseIsOf object (Named client namer) = Unit {0}
UseIsOf object (Returning client namer change) = IsChangeOf change object true

pub record AreOf (clients : ℕ → Client) (uses : Object → Use) : Type 0 where
  pub clears : (number : ℕ) → ClearingIsOf (clients number).clearing
  pub sets : (object : Object) → UseIsOf object (uses object)

with_client-of : (clients : ℕ → Client) (uses : Object → Use) (number : ℕ) (client : Client) → AreOf clients uses
    → ClearingIsOf client.clearing → AreOf (updated clients number client) uses
with_client-of clients uses number client all here =
    record {
      clears = λ other.
          at_updated (λ (c : Client). ClearingIsOf c.clearing) clients number client other (λ same. here)
          (λ apart. all.clears other);
      sets = all.sets;
    }

with_use-of : (clients : ℕ → Client) (uses : Object → Use) (object : Object) (use_of : Use) → AreOf clients uses
    → UseIsOf object use_of → AreOf clients (with_use uses object use_of)
with_use-of clients uses object use_of all here =
    record {
      clears = all.clears;
      sets = λ other.
          cond_both (is_same object other) use_of (uses other) (UseIsOf other)
          (λ same. subst (λ o. UseIsOf o use_of) (is_same-true object other same) here)
          (λ apart. all.sets other);
    }

told-of : (client : Client) (stock : Stock) (answer : Took) → ClearingIsOf client.clearing
    → ClearingIsOf (told client stock answer).clearing
told-of client stock took.Going is = is
told-of client stock (took.Have object next_object) is = is
told-of client stock (took.NoSpace class awaited begin) is = is
told-of client stock (took.Refused node) is = is

clearing-of : (view : Viewed) (class : ℕ) (given : Option Given) → ClearingIsOf (clearing_of view class given)
clearing-of view class None = tt
clearing-of view class (Some given) = (record { object_is = refl; set_is = refl; looks = change_look }, refl)

after-of : (class : ℕ) (given : Given) (t : Turn BitChange Changed) (answer : Changed)
    → IsChangeOf t.state (object_of class given) false × (t.state.look ≡ false)
    → ClearingIsOf (clearing_after class given t answer)
after-of class given t changed.Going is = is
after-of class given t changed.Whole is = tt
after-of class given t (changed.Refused node) is = is

taken-of : (number : ℕ) (object : Object) (answer : Changed) (use_of : Use) → UseIsOf object use_of
    → UseIsOf object (use_after_clearing number answer use_of)
taken-of number object changed.Going use_of is = is
taken-of number object changed.Whole use_of is = tt
taken-of number object (changed.Refused node) use_of is = is

cleared-of : (state : State) (number : ℕ) (clearing : Clearing) → ClearingIsOf clearing → AreOf state.clients state.uses
    → AreOf (cleared_next state number clearing).clients (cleared_next state number clearing).uses
cleared-of state number NotClearing is all = all
cleared-of state number (Cleared class given) is all = all
cleared-of state number (Under class given change) is all =
    let t = bits.turn change (answered state (bits.next change)) in
    let object = object_of class given in
    let still = turn-of change object false (answered state (bits.next change)) is.0 in
    let later = record (state.clients number) { clearing = clearing_after class given t t.told } in
    with_use-of (updated state.clients number later) state.uses object (use_after_clearing number t.told (state.uses object))
    (with_client-of state.clients state.uses number later all
    (after-of class given t t.told (still.of_object, still.look ∙ is.1)))
    (taken-of number object t.told (state.uses object) (all.sets object))

renewed-of : (client : Client) (clearing : Clearing) → ClearingIsOf client.clearing
    → ClearingIsOf (renewed client clearing).clearing
renewed-of client NotClearing is = is
renewed-of client (Under class given change) is = is
renewed-of client (Cleared class given) is = tt

named-of : (object : Object) (namer : ℕ) (use_of : Use) → UseIsOf object use_of → UseIsOf object (named namer use_of)
named-of object namer Untaken is = tt
named-of object namer (Taken client) is = tt
named-of object namer (Named client other) is = tt
named-of object namer (Returning client other change) is = is

returning-of : (view : Viewed) (object : Object) (look : Bool) (use_of : Use) → UseIsOf object use_of
    → UseIsOf object (returning view object look use_of)
returning-of view object look Untaken is = tt
returning-of view object look (Taken client) is = tt
returning-of view object look (Named client namer) is = record { object_is = refl; set_is = refl; looks = first_looks look }
returning-of view object look (Returning client namer change) is = is

setting-of : (object : Object) (client namer : ℕ) (t : Turn BitChange Changed) (answer : Changed)
    → IsChangeOf t.state object true → UseIsOf object (use_after_setting client namer t answer)
setting-of object client namer t changed.Going is = is
setting-of object client namer t changed.Whole is = tt
setting-of object client namer t (changed.Refused node) is = is

returned-of : (state : State) (object : Object) (use_of : Use) → UseIsOf object use_of → AreOf state.clients state.uses
    → AreOf (returned_next state object use_of).clients (returned_next state object use_of).uses
returned-of state object Untaken is all = all
returned-of state object (Taken client) is all = all
returned-of state object (Named client namer) is all = all
returned-of state object (Returning client namer change) is all =
    let t = bits.turn change (answered state (bits.next change)) in
    with_use-of state.clients state.uses object (use_after_setting client namer t t.told) all
    (setting-of object client namer t t.told (turn-of change object true (answered state (bits.next change)) is).of_object)

released-of : (state : State) (number : ℕ) (service : Service) → AreOf state.clients state.uses
    → AreOf (released_next state number service).clients (released_next state number service).uses
released-of state number Active all = all
released-of state number Retired all = all
released-of state number (Releasing region block class replicas) all =
    with_client-of state.clients state.uses number
    (record (state.clients number) { service = service_after state.view region block class replicas }) all (all.clears number)

pub of-happens : (state : State) (event : Event) → AreOf state.clients state.uses
    → AreOf (happens state event).clients (happens state event).uses
of-happens state (Begin client) all = all
of-happens state (End client) all = all
of-happens state (Choose number class) all =
    let client = state.clients number in
    let t = begins client.stock state.view.mask class in
    with_client-of state.clients state.uses number (told client t.state t.told) all
    (told-of client t.state t.told (all.clears number))
of-happens state (Seek number) all =
    let client = state.clients number in
    let t = turn client.stock (answered state (next client.stock)) in
    with_client-of state.clients state.uses number (told client t.state t.told) all
    (told-of client t.state t.told (all.clears number))
of-happens state (Clear number class) all =
    let client = state.clients number in
    with_client-of state.clients state.uses number
    (record client { clearing = clearing_of state.view class (client.given class) }) all
    (clearing-of state.view class (client.given class))
of-happens state (ClearNext number) all =
    cleared-of state number (state.clients number).clearing (all.clears number) all
of-happens state (Renew number) all =
    let client = state.clients number in
    with_client-of state.clients state.uses number (renewed client client.clearing) all
    (renewed-of client client.clearing (all.clears number))
of-happens state (Name client object) all =
    with_use-of state.clients state.uses object (named client (state.uses object)) all
    (named-of object client (state.uses object) (all.sets object))
of-happens state (Return client object look) all =
    with_use-of state.clients state.uses object (returning state.view object look (state.uses object)) all
    (returning-of state.view object look (state.uses object) (all.sets object))
of-happens state (ReturnNext client object) all =
    returned-of state object (state.uses object) (all.sets object) all
of-happens state (Retire number) all =
    with_client-of state.clients state.uses number (record (state.clients number) { service = Retired }) all (all.clears number)
of-happens state (Release number region block class) all =
    let client = state.clients number in
    with_client-of state.clients state.uses number
    (record client { service = Releasing region block class 0; released = (region, block) ∷ client.released }) all
    (all.clears number)
of-happens state (ReleaseNext number) all = released-of state number (state.clients number).service all

of-run : (state : State) (events : List Event) → AreOf state.clients state.uses
    → AreOf (run state events).clients (run state events).uses
of-run state [] all = all
of-run state (event ∷ events) all = of-run (happens state event) events (of-happens state event all)

pub of-opening : (view : Viewed) → AreOf (opening view).clients (opening view).uses
of-opening view = record { clears = λ number. tt; sets = λ object. tt }

-- ---- the theorem

pub clearings_of : (view : Viewed) (events : List Event) (client class : ℕ) (given : Given) (change : BitChange)
    → ((run (opening view) events).clients client).clearing ≡ Under class given change
    → IsChangeOf change (object_of class given) false × (change.look ≡ false)
clearings_of view events client class given change clears =
    subst (λ c. ClearingIsOf c) clears ((of-run (opening view) events (of-opening view)).clears client)

pub settings_of : (view : Viewed) (events : List Event) (object : Object) (taker namer : ℕ) (change : BitChange)
    → (run (opening view) events).uses object ≡ Returning taker namer change → IsChangeOf change object true
settings_of view events object taker namer change sets =
    subst (λ u. UseIsOf object u) sets ((of-run (opening view) events (of-opening view)).sets object)
