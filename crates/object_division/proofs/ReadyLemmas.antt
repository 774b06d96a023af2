-- What a client holds ready, in a block whose release has not begun, nobody has taken, but for the object it has just cleared.
use Rattle.std.proofs.Common.{◌≡◌, ◌≢◌, ℕ, true, false, inl, inr, List, [], ◌∷◌, refl, sym, ◌∙◌, ap, subst}
use Rattle.std.proofs.lemmas.List.Elements.{Contains-append_right}
use Rattle.machine.specs.declared.bit_change.Changed.{Changed}
use Rattle.machine.specs.declared.bit_change.Changed.TheVariants as changed
use Rattle.machine.specs.declared.choosing.Took.{Took}
use Rattle.machine.specs.declared.choosing.Took.TheVariants as took
use Rattle.machine.specs.BitChange as bits
use Rattle.machine.specs.BitChange.{BitChange}
use Rattle.machine.specs.Choosing.{IsChoosing, begins, next, taken, turn}
use Rattle.machine.specs.ObjectNames.{IsObject, Object, block_of, number_of}
use Rattle.machine.specs.Stock.{Stock}
use Rattle.machine.specs.Turn.{Turn}
use Rattle.pointer_fields.specs.Pointer.{region_of}
use Rattle.region_view.specs.Placed.{Viewed}
use Rattle.reuse_grace.proofs.Soundness.{at_updated}
use Rattle.reuse_grace.specs.Stock.{updated}
use Rattle.verb_words.specs.Applied.{words_after}
use Rattle.verb_words.specs.Verb.{place_of}
use Rattle.verb_words.specs.Words.{word_at}
use Rattle.object_division.specs.Allowed.{MayHappen}
use Rattle.object_division.specs.Client.{Active, Cleared, Clearing, Client, Given, Named, NotClearing, Releasing, Retired, Returning, Service, Taken, Under, Untaken, Use}
use Rattle.object_division.specs.Marks.{IsMarked, blocks_of}
use Rattle.object_division.specs.Run.{Begin, Choose, Clear, ClearNext, End, Event, Name, Release, ReleaseNext, Renew, Retire, Return, ReturnNext, Seek, State, answered, cleared_next, clearing_after, clearing_of, happens, is_in_stock, named, object_of, opening, released_next, renewed, returned_next, returning, service_after, told, use_after_clearing, with_use}
use Rattle.object_division.proofs.CallLemmas.{AllInCalls}
use Rattle.object_division.proofs.ClassLemmas.{returned-before, with_use-before}
use Rattle.object_division.proofs.ClearerLemmas.{one_owner}
use Rattle.object_division.proofs.BlockWordLemmas.{block_words}
use Rattle.object_division.proofs.InOrder.{AllHoldFree, HoldsFree, IsFreeBut, at_use, object_cases}
use Rattle.object_division.proofs.MarkLemmas.{begins-marks, taken-marks, turn_seen}
use Rattle.object_division.proofs.OwnerLemmas.{Owns, cleared_owned, ready_owned}
use Rattle.object_division.proofs.SortedLemmas.{AllSorted, taken_unmarked}
use Rattle.object_division.proofs.StockMarkLemmas.{seen_good}
use Rattle.object_division.proofs.UntakenBlockLemmas.{IsKept, untaken}

-- what is needed of a state, besides
pub record IsReadied (state : State) : Type 0 where
  pub kept : IsKept state
  pub sorted : AllSorted state.clients
  pub calls : AllInCalls state
  -- what is in stock is untaken
  pub found : (object : Object) → IsObject state.view.shape object → is_in_stock state object ≡ true → state.uses object ≡ Untaken

-- ---- one client, and what becomes of the objects

client_free : (state : State) (words : List (List ℕ)) (number : ℕ) (client : Client) → AllHoldFree state
    → HoldsFree state.view state.uses client
    → AllHoldFree (record state { words = words; clients = updated state.clients number client })
unfolding AllHoldFree
client_free state words number client all here other =
    at_updated (HoldsFree state.view state.uses) state.clients number client other (λ same. here) (λ apart. all other)

-- nothing is taken that was not
uses_free : (state : State) (words : List (List ℕ)) (uses : Object → Use)
    → ((object : Object) → uses object ≢ Untaken → state.uses object ≢ Untaken) → AllHoldFree state
    → AllHoldFree (record state { words = words; uses = uses })
unfolding AllHoldFree
uses_free state words uses before all number object is kept ready =
    elim (all number object is kept ready) [
      | inl free ↦ inl (untaken (uses object) (λ used. before object used free))
      | inr cleared ↦ inr cleared
    ]

-- an object that the client has not just cleared
pub untaken_but : (clearing : Clearing) (uses : Object → Use) (object : Object)
    → ((given : Given) → clearing ≡ Cleared object.class given → object ≢ object_of object.class given)
    → IsFreeBut clearing uses object → uses object ≡ Untaken
untaken_but clearing uses object other (inl free) = free
untaken_but clearing uses object other (inr cleared) = absurd (other cleared.0 cleared.1 cleared.2)

pub not_cleared : (class : ℕ) (given : Given) → NotClearing ≡ Cleared class given → ⊥
not_cleared class given is = cc

under_cleared : (class of_class : ℕ) (given of_given : Given) (change : BitChange)
    → Under class given change ≡ Cleared of_class of_given → ⊥
under_cleared class of_class given of_given change is = cc

-- ---- choosings

told_free : (view : Viewed) (uses : Object → Use) (client : Client) (stock : Stock) (answer : Took)
    → HoldsFree view uses (record client { stock = stock }) → HoldsFree view uses (told client stock answer)
told_free view uses client stock took.Going here = here
told_free view uses client stock (took.Have object next_object) here = here
told_free view uses client stock (took.NoSpace class awaited begin) here = here
told_free view uses client stock (took.Refused node) here = here

sought_free : (state : State) (number : ℕ) → IsReadied state → MayHappen state (Seek number) → AllHoldFree state
    → HoldsFree state.view state.uses
    (record (state.clients number) {
      stock = (turn (state.clients number).stock (answered state (next (state.clients number).stock))).state;
    })
unfolding AllHoldFree
sought_free state number readied may all object is kept ready =
    elim (turn_seen stock stock.phase found choosing.phase object.class (region_of object.pointer) (block_of object.pointer)
    (number_of object.pointer object.class) ready) [
      | inl before ↦ all number object is kept before
      | inr seen ↦
          elim (seen_good state number object stock.phase readied.kept may.0.active.active may.1 refl is seen) [
            | inl in_stock ↦ inl (readied.found object is in_stock.0)
            | inr free ↦ inl free
          ]
    ]
  where
    stock : Stock
    stock = (state.clients number).stock

    found : ℕ
    found = word_at state.words (place_of (next stock))

    choosing : IsChoosing state.view number stock.class stock
    choosing = (readied.kept.sound.clients number).choosing may.1

-- ---- clearings

clear_free : (view : Viewed) (uses : Object → Use) (client : Client) (clearing : Clearing) → client.clearing ≡ NotClearing
    → HoldsFree view uses client → HoldsFree view uses (record client { clearing = clearing })
clear_free view uses client clearing none here object is kept ready =
    inl
    (untaken_but client.clearing uses object
    (λ given clears. absurd (not_cleared object.class given (sym none ∙ clears))) (here object is kept ready))

-- a clearing that goes on
goes_free : (state : State) (words : List (List ℕ)) (number class : ℕ) (given : Given) (change : BitChange) (later : BitChange)
    → (state.clients number).clearing ≡ Under class given change → AllHoldFree state
    → AllHoldFree
    (record state {
      words = words;
      clients = updated state.clients number (record (state.clients number) { clearing = Under class given later });
      uses = with_use state.uses (object_of class given) (state.uses (object_of class given));
    })
unfolding AllHoldFree
goes_free state words number class given change later clears all =
    uses_free (record state { clients = clients }) words
    (with_use state.uses (object_of class given) (state.uses (object_of class given)))
    (with_use-before state.uses (object_of class given) (state.uses (object_of class given)) (λ used. used))
    (client_free state state.words number next_client all here)
  where
    next_client : Client
    next_client = record (state.clients number) { clearing = Under class given later }

    clients : ℕ → Client
    clients = updated state.clients number next_client

    here : HoldsFree state.view state.uses next_client
    here object is kept ready =
        inl
        (untaken_but (state.clients number).clearing state.uses object
        (λ of_given cleared. absurd (under_cleared class object.class given of_given change (sym clears ∙ cleared)))
        (all number object is kept ready))

-- a clearing that is whole: the object is taken by the one client that had it ready
taken_free : (state : State) (words : List (List ℕ)) (number class : ℕ) (given : Given) (change : BitChange)
    → IsReadied state → (state.clients number).clearing ≡ Under class given change → AllHoldFree state
    → AllHoldFree
    (record state {
      words = words;
      clients = updated state.clients number (record (state.clients number) { clearing = Cleared class given });
      uses = with_use state.uses (object_of class given) (Taken number);
    })
unfolding AllHoldFree
taken_free state words number class given change readied clears all other =
    at_updated (HoldsFree state.view uses) state.clients number later other (λ same. here) there
  where
    cleared : Object
    cleared = object_of class given

    uses : Object → Use
    uses = with_use state.uses cleared (Taken number)

    later : Client
    later = record (state.clients number) { clearing = Cleared class given }

    still : (object : Object) → cleared ≢ object → state.uses object ≡ Untaken → uses object ≡ Untaken
    still object differs free =
        at_use (λ u. u ≡ Untaken) state.uses cleared (Taken number) object (λ same. absurd (differs same)) (λ apart. free)

    here : HoldsFree state.view uses later
    here object is kept ready =
        elim (object_cases cleared object) [
          | inl same ↦
              subst (λ (o : Object). IsFreeBut (Cleared class given) uses o) same (inr (given, refl, refl))
          | inr differs ↦
              inl
              (still object differs
              (untaken_but (state.clients number).clearing state.uses object
              (λ of_given is_cleared. absurd (under_cleared class object.class given of_given change (sym clears ∙ is_cleared)))
              (all number object is kept ready)))
        ]

    there : number ≢ other → HoldsFree state.view uses (state.clients other)
    there apart object is kept ready =
        elim (object_cases cleared object) [
          | inl same ↦
              absurd
              (apart
              (one_owner (block_words state.view state.words (region_of object.pointer) (block_of object.pointer)) number other
              object.class object.class
              (subst (λ o. Owns state number o) same
              (cleared_owned state number class given change readied.kept.sound readied.kept.own readied.calls clears))
              (ready_owned state other object readied.kept.sound kept ready)))
          | inr differs ↦
              elim (all other object is kept ready) [
                | inl free ↦ inl (still object differs free)
                | inr its ↦ inr its
              ]
        ]

cleared_free : (state : State) (number : ℕ) (clearing : Clearing) → (state.clients number).clearing ≡ clearing
    → IsReadied state → AllHoldFree state → AllHoldFree (cleared_next state number clearing)
cleared_free state number NotClearing is readied all = all
cleared_free state number (Cleared class given) is readied all = all
cleared_free state number (Under class given change) is readied all = by t.told
  where
    t : Turn BitChange Changed
    t = bits.turn change (answered state (bits.next change))

    words : List (List ℕ)
    words = words_after state.words (bits.next change) false

    by : (answer : Changed) → AllHoldFree
        (record state {
          words = words;
          clients = updated state.clients number (record (state.clients number) { clearing = clearing_after class given t answer });
          uses = with_use state.uses (object_of class given) (use_after_clearing number answer (state.uses (object_of class given)));
        })
    by changed.Going = goes_free state words number class given change t.state is all
    by changed.Whole = taken_free state words number class given change readied is all
    by (changed.Refused node) = goes_free state words number class given change t.state is all

-- the next reserve is the reserve, and the object that was cleared is held ready no more
renewed_here : (state : State) (number class : ℕ) (given : Given) → (state.clients number).clearing ≡ Cleared class given
    → IsReadied state → AllHoldFree state
    → HoldsFree state.view state.uses (renewed (state.clients number) (Cleared class given))
unfolding AllHoldFree
renewed_here state number class given clears readied all object is kept ready =
    inl
    (untaken_but client.clearing state.uses object no_more
    (all number object is kept
    (taken-marks client.stock class given.next object.class (region_of object.pointer) (block_of object.pointer)
    (number_of object.pointer object.class) ready)))
  where
    client : Client
    client = state.clients number

    class_same : (of_class : ℕ) (of_given : Given) → Cleared class given ≡ Cleared of_class of_given → of_class ≡ class
    class_same of_class of_given same = cc

    given_same : (of_class : ℕ) (of_given : Given) → Cleared class given ≡ Cleared of_class of_given → of_given ≡ given
    given_same of_class of_given same = cc

    no_more : (of_given : Given) → client.clearing ≡ Cleared object.class of_given → object ≢ object_of object.class of_given
    no_more of_given also same =
        let classes = class_same object.class of_given (sym clears ∙ also) in
        let gifts = given_same object.class of_given (sym clears ∙ also) in
        taken_unmarked state number class given readied.kept.sound readied.kept.own readied.sorted clears
        (subst
        (λ (o : Object). IsMarked (blocks_of (taken client.stock class given.next) o.class) (region_of o.pointer) (block_of o.pointer) (number_of o.pointer o.class))
        (same ∙ (λ i. object_of (classes i) (gifts i))) ready)

renewed_free : (state : State) (number : ℕ) (clearing : Clearing) → (state.clients number).clearing ≡ clearing
    → IsReadied state → AllHoldFree state → HoldsFree state.view state.uses (renewed (state.clients number) clearing)
unfolding AllHoldFree
renewed_free state number NotClearing clears readied all = all number
renewed_free state number (Under class given change) clears readied all = all number
renewed_free state number (Cleared class given) clears readied all = renewed_here state number class given clears readied all

-- ---- the other steps

returned_free : (state : State) (object : Object) (use_of : Use) → state.uses object ≡ use_of → AllHoldFree state
    → AllHoldFree (returned_next state object use_of)
returned_free state object Untaken is all = all
returned_free state object (Taken client) is all = all
returned_free state object (Named client namer) is all = all
returned_free state object (Returning client namer change) is all =
    let new = returned_next state object (Returning client namer change) in
    uses_free state new.words new.uses (returned-before state object (Returning client namer change) is) all

released_free : (state : State) (number : ℕ) (service : Service) → AllHoldFree state
    → AllHoldFree (released_next state number service)
unfolding AllHoldFree
released_free state number Active all = all
released_free state number Retired all = all
released_free state number (Releasing region block class replicas) all =
    client_free state (released_next state number (Releasing region block class replicas)).words number
    (record (state.clients number) { service = service_after state.view region block class replicas }) all (all number)

pub ready-happens : (state : State) (event : Event) → MayHappen state event → IsReadied state → AllHoldFree state
    → AllHoldFree (happens state event)
unfolding AllHoldFree
ready-happens state (Begin client) may readied all = all
ready-happens state (End client) may readied all = all
ready-happens state (Choose number class) may readied all =
    let client = state.clients number in
    let t = begins client.stock state.view.mask class in
    client_free state state.words number (told client t.state t.told) all
    (told_free state.view state.uses client t.state t.told
    (λ object is kept ready.
    all number object is kept
    (begins-marks client.stock state.view.mask class object.class (region_of object.pointer) (block_of object.pointer)
    (number_of object.pointer object.class) ready)))
ready-happens state (Seek number) may readied all =
    let client = state.clients number in
    let t = turn client.stock (answered state (next client.stock)) in
    client_free state (words_after state.words (next client.stock) false) number (told client t.state t.told) all
    (told_free state.view state.uses client t.state t.told (sought_free state number readied may all))
ready-happens state (Clear number class) may readied all =
    let client = state.clients number in
    let clearing = clearing_of state.view class (client.given class) in
    client_free state state.words number (record client { clearing = clearing }) all
    (clear_free state.view state.uses client clearing may.0.clearing (all number))
ready-happens state (ClearNext number) may readied all = cleared_free state number (state.clients number).clearing refl readied all
ready-happens state (Renew number) may readied all =
    let client = state.clients number in
    client_free state state.words number (renewed client client.clearing) all
    (renewed_free state number client.clearing refl readied all)
ready-happens state (Name client object) may readied all =
    uses_free state state.words (happens state (Name client object)).uses
    (with_use-before state.uses object (named client (state.uses object)) (λ used is. used (ap (named client) is))) all
ready-happens state (Return client object look) may readied all =
    uses_free state state.words (happens state (Return client object look)).uses
    (with_use-before state.uses object (returning state.view object look (state.uses object))
    (λ used is. used (ap (returning state.view object look) is))) all
ready-happens state (ReturnNext client object) may readied all = returned_free state object (state.uses object) refl all
ready-happens state (Retire number) may readied all =
    client_free state state.words number (record (state.clients number) { service = Retired }) all (all number)
ready-happens state (Release number region block class) may readied all =
    let client = state.clients number in
    client_free state state.words number
    (record client { service = Releasing region block class 0; released = (region, block) ∷ client.released }) all
    (λ object is kept.
    all number object is
    (λ has.
    kept (Contains-append_right ((region, block) ∷ []) client.released (region_of object.pointer, block_of object.pointer) has)))
ready-happens state (ReleaseNext number) may readied all = released_free state number (state.clients number).service all

pub ready-opening : (view : Viewed) → AllHoldFree (opening view)
unfolding AllHoldFree
ready-opening view number object is kept ready = inl refl
