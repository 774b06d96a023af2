-- What is seen of a client in the machine of its objects stays so at each step of the pool that is no call's begin or end.
use Rattle.std.proofs.Common.{◌≡◌, ℕ, ◌+◌, ◌≤◌, ◌⊎◌, inl, inr, ◌∷◌, ◌/◌, Option, Some, None, refl, sym, ap, subst, ◌∙◌, arith}
use Rattle.machine.proofs.ChoosingLemmas.{class_stock-is, held_view}
use Rattle.machine.specs.declared.bit_change.Changed.{Changed}
use Rattle.machine.specs.declared.bit_change.Changed.TheVariants as changed
use Rattle.machine.specs.declared.choosing.Took.{Took}
use Rattle.machine.specs.declared.choosing.Took.TheVariants as took
use Rattle.machine.specs.BitChange as bits
use Rattle.machine.specs.BitChange.{BitChange}
use Rattle.machine.specs.Choosing.{IsAt, IsChoosing, begins, block_at, first_awaited, next, region_at, turn, verb_at, word_at_block}
use Rattle.machine.specs.ObjectNames.{IsObject, Object}
use Rattle.machine.specs.Places.{primary_place}
use Rattle.machine.specs.Stock.{AskFirst, Ask, Claim, IsAwaitedIn, Phase, ReadBitmap, ReadBlock, Rest, Scan, Spread, Stock, WriteHead, view_of}
use Rattle.machine.specs.Turn.{Turn}
use Rattle.pointer_fields.specs.Pointer.{region_of}
use Rattle.region_view.specs.Layout.{BlockWord as block_word}
use Rattle.region_view.specs.Placed.{Viewed}
use Rattle.region_view.specs.Sizes.{Sizes}
use Rattle.reuse_epoch.specs.Awaited.{client_of}
use Rattle.reuse_grace.proofs.Soundness.{at_updated}
use Rattle.reuse_grace.specs.Stock as grace
use Rattle.reuse_grace.specs.Stock.{updated}
use Rattle.verb_words.specs.Verb.{place_of}
use Rattle.verb_words.specs.Words.{word_at}
use Rattle.object_division.specs.Allowed.{MayHappen}
use Rattle.object_division.specs.Claims.{IsGranted, IsOfClass}
use Rattle.object_division.specs.Client.{Active, Cleared, Clearing, Client, Given, Named, NotClearing, Releasing, Retired, Returning, Service, Taken, Under, Untaken, Use}
use Rattle.object_division.specs.Run.{Begin, Choose, Clear, ClearNext, End, Event, Name, Release, ReleaseNext, Renew, Retire, Return, ReturnNext, Seek, State, answered, begin_word, cleared_next, clearing_after, clearing_of, happens, released_next, renewed, returned_next, service_after, told}
use Rattle.object_division.proofs.ClassWordLemmas.{class-unused}
use Rattle.object_division.proofs.OwnLemmas.{releasing_active, retired_active, served_on}
use Rattle.object_division.proofs.Soundness.{IsSound}
use Rattle.division_grace.proofs.LeadLemmas.{Leads, leads_nowhere, leads_on}
use Rattle.division_grace.proofs.SeenLemmas.{Sees, begins_sees, taken_sees, turn_sees}
use Rattle.division_grace.proofs.StandLemmas.{HasSeat, IsElsewhere}
use Rattle.division_grace.proofs.TurnLemmas.{IsRead}

-- the stock of a client that takes steps is seen in the machine as it will be once the next reserve is the reserve
abbrev pub SeesClient : Object → Client → grace.State → Type 0
SeesClient object client machine =
    client.service ≡ Active → Sees object (renewed client client.clearing).stock machine

-- ---- a client that clears nothing

sees_free : (object : Object) (client : Client) (machine : grace.State) → client.service ≡ Active
    → client.clearing ≡ NotClearing → SeesClient object client machine → Sees object client.stock machine
sees_free object client machine active none sees =
    subst (λ c. Sees object (renewed client c).stock machine) none (sees active)

free_sees : (object : Object) (client : Client) (machine : grace.State) → client.clearing ≡ NotClearing
    → Sees object client.stock machine → SeesClient object client machine
free_sees object client machine none sees active =
    subst (λ c. Sees object (renewed client c).stock machine) (sym none) sees

told_sees : (object : Object) (client : Client) (stock : Stock) (answer : Took) (machine : grace.State)
    → client.clearing ≡ NotClearing → Sees object stock machine → SeesClient object (told client stock answer) machine
told_sees object client stock took.Going machine none sees = free_sees object (told client stock took.Going) machine none sees
told_sees object client stock (took.Have one later) machine none sees =
    free_sees object (told client stock (took.Have one later)) machine none sees
told_sees object client stock (took.NoSpace class awaited begin) machine none sees =
    free_sees object (told client stock (took.NoSpace class awaited begin)) machine none sees
told_sees object client stock (took.Refused node) machine none sees =
    free_sees object (told client stock (took.Refused node)) machine none sees

-- ---- a client that clears the bit of an object

clear_sees : (object : Object) (client : Client) (view : Viewed) (class : ℕ) (given : Option Given) (machine : grace.State)
    → Sees object client.stock machine
    → SeesClient object (record client { clearing = clearing_of view class given }) machine
clear_sees object client view class None machine sees active = sees
clear_sees object client view class (Some given) machine sees active = sees

after_sees : (object : Object) (client : Client) (class : ℕ) (given : Given) (t : Turn BitChange Changed) (answer : Changed)
    (machine : grace.State) → Sees object client.stock machine
    → SeesClient object (record client { clearing = clearing_after class given t answer }) machine
after_sees object client class given t changed.Going machine sees active = sees
after_sees object client class given t changed.Whole machine sees active =
    taken_sees object client.stock class given.next machine sees
after_sees object client class given t (changed.Refused node) machine sees active = sees

renew_sees : (object : Object) (client : Client) (clearing : Clearing) (machine : grace.State) → client.clearing ≡ clearing
    → SeesClient object client machine → SeesClient object (renewed client clearing) machine
renew_sees object client NotClearing machine is sees = sees
renew_sees object client (Under class given change) machine is sees = sees
renew_sees object client (Cleared class given) machine is sees = λ active.
    subst (λ c. Sees object (renewed client c).stock machine) is (sees active)

-- ---- a client that chooses

-- the machine has the begin words of the pool's clients
abbrev pub SameBegins : State → grace.State → Type 0
SameBegins state machine =
    (client : ℕ) → 1 ≤ client → client ≤ state.view.shape.clients → machine.begins client ≡ begin_word state client

-- the object is one of a granted block, or its pointer names no region
abbrev pub IsSpared : State → Object → Type 0
IsSpared state object = (IsObject state.view.shape object × IsGranted state object) ⊎ (region_of object.pointer ≡ 0)

no_region : (x : ℕ) → 1 + x ≡ 0 → ⊥
no_region x is = omega (arith, is)

claimed_elsewhere : (state : State) (object : Object) (number : ℕ) → (is : IsChoosing state.view number (state.clients number).stock.class (state.clients number).stock)
    → IsSpared state object
    → word_at state.words (primary_place (view_of (state.clients number).stock) (word_at_block (state.clients number).stock)) ≡ 0
    → IsElsewhere object (state.clients number).stock
claimed_elsewhere state object number is (inr none) found region block =
    no_region ((state.clients number).stock.position / (state.clients number).stock.shape.blocks) (region ∙ none)
claimed_elsewhere state object number is (inl granted) found region block =
    class-unused (At (region_at stock) (block_at stock)) object.class zero
    (subst (λ r. IsOfClass (At r (block_at stock)) object.class) (sym region)
    (subst (λ b. IsOfClass (At (region_of object.pointer) b) object.class) (sym block) granted.1))
  where
    stock : Stock
    stock = (state.clients number).stock

    At : ℕ → ℕ → ℕ
    At r b = word_at state.words (primary_place state.view (block_word r b))

    zero : At (region_at stock) (block_at stock) ≡ 0
    zero =
        subst (λ (v : Viewed). word_at state.words (primary_place v (word_at_block stock)) ≡ 0)
        (held_view state.view number stock.class stock is.ready) found

reads_at : (state : State) (object : Object) (number : ℕ) (phase : Phase) (machine : grace.State)
    → IsChoosing state.view number (state.clients number).stock.class (state.clients number).stock
    → IsAt phase (state.clients number).stock → IsSpared state object → SameBegins state machine
    → IsRead phase object (state.clients number).stock
    (word_at state.words (place_of (verb_at phase (state.clients number).stock))) machine
reads_at state object number Rest machine is at spared begins = tt
reads_at state object number AskFirst machine is at spared begins =
    let stock = (state.clients number).stock in
    let one : IsAwaitedIn state.view.shape (first_awaited stock) =
    (class_stock-is state.view number stock.class stock is.ready).awaited 0 (0, 0) at in
    begins (client_of (first_awaited stock)) one.0 one.1
reads_at state object number (Scan i) machine is at spared begins = tt
reads_at state object number (Ask client) machine is at spared begins =
    begins client at.0 (subst (λ (s : Sizes). client ≤ s.clients) is.ready.is_stock.shape at.1)
reads_at state object number ReadBlock machine is at spared begins = tt
reads_at state object number (Claim word) machine is at spared begins = λ found. claimed_elsewhere state object number is spared found
reads_at state object number (Spread unused backup) machine is at spared begins = tt
reads_at state object number ReadBitmap machine is at spared begins = tt
reads_at state object number WriteHead machine is at spared begins = tt

-- the machine is that of the client's objects
pub record IsOf (state : State) (owner : ℕ) (machine : grace.State) : Type 0 where
  pub owner_is : machine.owner ≡ owner
  pub clients_are : machine.clients ≡ state.view.shape.clients
  pub begins : SameBegins state machine

has_seat : (state : State) (number : ℕ) (machine : grace.State)
    → IsChoosing state.view number (state.clients number).stock.class (state.clients number).stock
    → IsOf state number machine → HasSeat (state.clients number).stock machine
has_seat state number machine is of =
    let stock = (state.clients number).stock in
    let clients : stock.shape.clients ≡ state.view.shape.clients = ap (λ (s : Sizes). s.clients) is.ready.is_stock.shape in
    record {
      within = omega (arith, is.ready.below, is.ready.is_stock.whole);
      owner = is.ready.is_stock.owner ∙ sym of.owner_is;
      clients_are = clients ∙ sym of.clients_are;
      number = (
        omega (arith, is.ready.is_stock.owner, is.ready.number.0),
        omega (arith, is.ready.is_stock.owner, is.ready.number.1, clients),
      );
    }

-- ---- the steps

-- the client is replaced by a later one
replaced : (object : Object) (clients : ℕ → Client) (number : ℕ) (later : Client) (owner : ℕ) (machine : grace.State)
    → SeesClient object (clients owner) machine
    → (number ≡ owner → SeesClient object (clients number) machine
    → Leads machine object.pointer (λ end. SeesClient object later end))
    → Leads machine object.pointer (λ end. SeesClient object (updated clients number later owner) end)
replaced object clients number later owner machine sees here =
    at_updated (λ (c : Client). Leads machine object.pointer (λ end. SeesClient object c end)) clients number later owner
    (λ same. here same (subst (λ n. SeesClient object (clients n) machine) (sym same) sees))
    (λ apart. leads_nowhere machine object.pointer (λ end. SeesClient object (clients owner) end) sees)

stays : (object : Object) (client : Client) (machine : grace.State) → SeesClient object client machine
    → Leads machine object.pointer (λ end. SeesClient object client end)
stays object client machine sees = leads_nowhere machine object.pointer (λ end. SeesClient object client end) sees

seek_leads : (state : State) (object : Object) (number : ℕ) (machine : grace.State) → MayHappen state (Seek number)
    → IsSound state → IsSpared state object → IsOf state number machine → SeesClient object (state.clients number) machine
    → Leads machine object.pointer (λ end.
    SeesClient object
    (told (state.clients number) (turn (state.clients number).stock (answered state (next (state.clients number).stock))).state
    (turn (state.clients number).stock (answered state (next (state.clients number).stock))).told)
    end)
seek_leads state object number machine may sound spared of sees =
    leads_on machine object.pointer (λ later. Sees object t.state later) (λ later. SeesClient object (told client t.state t.told) later)
    (turn_sees object client.stock (word_at state.words (place_of (next client.stock))) machine is.phase
    (has_seat state number machine is of)
    (λ same. reads_at state object number client.stock.phase machine is is.phase spared of.begins)
    (sees_free object client machine may.0.active.active may.0.clearing sees))
    (λ later onward seen. stays object (told client t.state t.told) later (told_sees object client t.state t.told later may.0.clearing seen))
  where
    client : Client
    client = state.clients number

    is : IsChoosing state.view number client.stock.class client.stock
    is = (sound.clients number).choosing may.1

    t : Turn Stock Took
    t = turn client.stock (answered state (next client.stock))

clear_next_leads : (state : State) (object : Object) (number : ℕ) (clearing : Clearing) (owner : ℕ) (machine : grace.State)
    → (state.clients number).service ≡ Active → (state.clients number).clearing ≡ clearing
    → SeesClient object (state.clients owner) machine
    → Leads machine object.pointer (λ end. SeesClient object ((cleared_next state number clearing).clients owner) end)
clear_next_leads state object number NotClearing owner machine active is sees = stays object (state.clients owner) machine sees
clear_next_leads state object number (Cleared class given) owner machine active is sees =
    stays object (state.clients owner) machine sees
clear_next_leads state object number (Under class given change) owner machine active is sees =
    let client = state.clients number in
    let t = bits.turn change (answered state (bits.next change)) in
    let later = record client { clearing = clearing_after class given t t.told } in
    replaced object state.clients number later owner machine sees
    (λ same old.
    stays object later machine
    (after_sees object client class given t t.told machine
    (subst (λ c. Sees object (renewed client c).stock machine) is (old active))))

returned_leads : (state : State) (object one : Object) (use_of : Use) (owner : ℕ) (machine : grace.State)
    → SeesClient object (state.clients owner) machine
    → Leads machine object.pointer (λ end. SeesClient object ((returned_next state one use_of).clients owner) end)
returned_leads state object one Untaken owner machine sees = stays object (state.clients owner) machine sees
returned_leads state object one (Taken client) owner machine sees = stays object (state.clients owner) machine sees
returned_leads state object one (Named client namer) owner machine sees = stays object (state.clients owner) machine sees
returned_leads state object one (Returning client namer change) owner machine sees =
    stays object (state.clients owner) machine sees

released_leads : (state : State) (object : Object) (number : ℕ) (service : Service) (owner : ℕ) (machine : grace.State)
    → SeesClient object (state.clients owner) machine
    → Leads machine object.pointer (λ end. SeesClient object ((released_next state number service).clients owner) end)
released_leads state object number Active owner machine sees = stays object (state.clients owner) machine sees
released_leads state object number Retired owner machine sees = stays object (state.clients owner) machine sees
released_leads state object number (Releasing region block class replicas) owner machine sees =
    let later = record (state.clients number) { service = service_after state.view region block class replicas } in
    replaced object state.clients number later owner machine sees
    (λ same old. stays object later machine (λ active. absurd (served_on state.view region block class replicas active)))

pub step_leads : (state : State) (event : Event) (object : Object) (owner : ℕ) (machine : grace.State) → MayHappen state event
    → IsSound state → IsSpared state object → IsOf state owner machine → SeesClient object (state.clients owner) machine
    → Leads machine object.pointer (λ end. SeesClient object ((happens state event).clients owner) end)
step_leads state (Begin client) object owner machine may sound spared of sees = stays object (state.clients owner) machine sees
step_leads state (End client) object owner machine may sound spared of sees = stays object (state.clients owner) machine sees
step_leads state (Choose number class) object owner machine may sound spared of sees =
    let client = state.clients number in
    let t = begins client.stock state.view.mask class in
    let later = told client t.state t.told in
    replaced object state.clients number later owner machine sees
    (λ same old.
    stays object later machine
    (told_sees object client t.state t.told machine may.0.clearing
    (begins_sees object client.stock state.view.mask class machine may.2
    (sees_free object client machine may.0.active.active may.0.clearing old))))
step_leads state (Seek number) object owner machine may sound spared of sees =
    let client = state.clients number in
    let t = turn client.stock (answered state (next client.stock)) in
    replaced object state.clients number (told client t.state t.told) owner machine sees
    (λ same old.
    seek_leads state object number machine may sound spared (subst (λ n. IsOf state n machine) (sym same) of) old)
step_leads state (Clear number class) object owner machine may sound spared of sees =
    let client = state.clients number in
    let later = record client { clearing = clearing_of state.view class (client.given class) } in
    replaced object state.clients number later owner machine sees
    (λ same old.
    stays object later machine
    (clear_sees object client state.view class (client.given class) machine
    (sees_free object client machine may.0.active.active may.0.clearing old)))
step_leads state (ClearNext number) object owner machine may sound spared of sees =
    clear_next_leads state object number (state.clients number).clearing owner machine may.0.active refl sees
step_leads state (Renew number) object owner machine may sound spared of sees =
    let client = state.clients number in
    replaced object state.clients number (renewed client client.clearing) owner machine sees
    (λ same old.
    stays object (renewed client client.clearing) machine (renew_sees object client client.clearing machine refl old))
step_leads state (Name client one) object owner machine may sound spared of sees = stays object (state.clients owner) machine sees
step_leads state (Return client one look) object owner machine may sound spared of sees =
    stays object (state.clients owner) machine sees
step_leads state (ReturnNext client one) object owner machine may sound spared of sees =
    returned_leads state object one (state.uses one) owner machine sees
step_leads state (Retire number) object owner machine may sound spared of sees =
    let later = record (state.clients number) { service = Retired } in
    replaced object state.clients number later owner machine sees
    (λ same old. stays object later machine (λ active. absurd (retired_active active)))
step_leads state (Release number region block class) object owner machine may sound spared of sees =
    let client = state.clients number in
    let later = record client { service = Releasing region block class 0; released = (region, block) ∷ client.released } in
    replaced object state.clients number later owner machine sees
    (λ same old. stays object later machine (λ active. absurd (releasing_active region block class 0 active)))
step_leads state (ReleaseNext number) object owner machine may sound spared of sees =
    released_leads state object number (state.clients number).service owner machine sees
