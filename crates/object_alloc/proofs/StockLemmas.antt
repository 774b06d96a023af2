-- What holds of a stock stays so.
use Rattle.std.proofs.Common.{◌≡◌, ℕ, zero, suc, ◌*◌, ◌<◌, ◌≤◌, true, length, get_or, Option, Some, None, refl, sym, subst, ◌∙◌, arith}
use Rattle.std.specs.Prelude.{All, slice_index_or}
use Rattle.std.specs.List.{IsDistinct}
use Rattle.machine.specs.declared.choosing.Took.{Took}
use Rattle.machine.specs.Choosing.{IsChoosing, IsReady, IsTaken, begins, next, turn, turn_at, verb_at}
use Rattle.machine.specs.ObjectNames.{names_object}
use Rattle.machine.specs.Places.{IsInPool}
use Rattle.machine.specs.Stock.{AskFirst, Ask, Claim, ClassStock, IsClassStock, IsOwn, IsStock, OwnBlock, Phase, ReadBitmap, ReadBlock, Rest, Scan, Spread, Stock, WriteHead, class_stock, first_stock, no_stock, view_of}
use Rattle.machine.specs.Turn.{Turn}
use Rattle.machine.proofs.ChoosingLemmas.{IsTurned, begins-turned, next-inside, turn-turned}
use Rattle.machine.proofs.ObjectNamesLemmas.{names_object-says}
use Rattle.machine.proofs.PlacesLemmas.{control-inside}
use Rattle.machine.proofs.StockLemmas.{first_stock-is}
use Rattle.object_alloc.proofs.HeldLemmas.{IsBase, IsOrderly, begins-orderly, gained-apart, turn-orderly}
use Rattle.object_alloc.proofs.OrderLemmas.{apart-room}
use Rattle.machine.proofs.ViewLemmas.{IsView-of}
use Rattle.object_alloc.specs.Choosers.{IsFit, IsInside}
use Rattle.object_alloc.specs.Classes.{HasUnit}
use Rattle.object_alloc.specs.Held.{HasView, IsApart, IsHeld, IsNotOwn}
use Rattle.object_form.specs.declared.classes.TheConstants.{CLASSES}
use Rattle.region_view.specs.Control.{EpochWord}
use Rattle.region_view.specs.Placed.{LeavesNoneBare, Viewed}
use Rattle.region_view.specs.Sizes.{IsWithinLimits, Sizes}
use Rattle.verb_words.specs.declared.verbs.Answer.{Answer}
use Rattle.verb_words.specs.declared.verbs.Answer.TheVariants.{Word, Done, Lost}
use Rattle.verb_words.specs.Verb.{place_of}

-- the reserve stands in a unit of a block
pub has_unit : (sizes : Sizes) (class : ℕ) (of_class : ClassStock) → IsClassStock sizes class of_class → HasUnit of_class.reserve
has_unit sizes class of_class is = by of_class.reserve is.reserve
  where
    by : (reserve : Option ℕ) → ((pointer : ℕ) → reserve ≡ Some pointer → names_object sizes class pointer ≡ true) → HasUnit reserve
    by None named = tt
    by (Some pointer) named = let says = names_object-says sizes class pointer (named pointer refl) in (says.below, says.first)

pub fit-of : (stock : Stock) → IsStock stock.shape stock.client stock → IsWithinLimits stock.shape → stock.class < CLASSES → IsFit stock
fit-of stock is limits below = record { limits = limits; whole = is.whole; class = below; reserve = has_unit stock.shape stock.class (class_stock stock) (is.classes stock.class below) }

-- a stock of which a turn is taken
ready-of : (stock : Stock) → IsHeld stock → LeavesNoneBare stock.shape stock.mask → IsReady (view_of stock) stock.client stock.class stock
ready-of stock held full = record {
  is_stock = held.state;
  is_view = IsView-of (view_of stock) held.fit.limits full;
  number = held.number;
  held = refl;
  same = refl;
  below = held.fit.class;
}

choosing-of : (stock : Stock) → IsHeld stock → LeavesNoneBare stock.shape stock.mask → IsChoosing (view_of stock) stock.client stock.class stock
choosing-of stock held full = record { ready = ready-of stock held full; phase = held.at }

-- what a turn under a view leaves
view-at : (phase : Phase) (stock : Stock) → LeavesNoneBare stock.shape stock.mask → HasView phase stock
view-at Rest stock full = tt
view-at AskFirst stock full = full
view-at (Scan own) stock full = full
view-at (Ask client) stock full = full
view-at ReadBlock stock full = full
view-at (Claim word) stock full = full
view-at (Spread unused backup) stock full = full
view-at ReadBitmap stock full = full
view-at WriteHead stock full = full

held-from : (view : Viewed) (client class : ℕ) (turned : Turn Stock Took) → LeavesNoneBare view.shape view.mask → IsTurned view client class turned → IsOrderly turned.state → IsHeld turned.state
held-from view client class turned full is orderly =
    let stock = turned.state in
    let ready = is.choosing.ready in
    let shape : stock.shape ≡ view.shape = ready.is_stock.shape in
    let owner : stock.client ≡ client = ready.is_stock.owner in
    let state : IsStock stock.shape stock.client stock = subst (λ s. IsStock s stock.client stock) (sym shape) (subst (λ n. IsStock view.shape n stock) (sym owner) ready.is_stock) in
    let limits : IsWithinLimits stock.shape = subst IsWithinLimits (sym shape) ready.is_view.limits in
    let below : stock.class < CLASSES = subst (λ n. n < CLASSES) (sym ready.same) ready.below in
    record {
      state = state;
      fit = fit-of stock state limits below;
      number = subst (λ n. (1 ≤ n) × (n ≤ stock.shape.clients)) (sym owner) (subst (λ (s : Sizes). (1 ≤ client) × (client ≤ s.clients)) (sym shape) ready.number);
      apart = orderly.base.apart;
      view = view-at stock.phase stock (subst (λ s. LeavesNoneBare s stock.mask) (sym shape) (subst (LeavesNoneBare view.shape) (sym ready.held) full));
      at = is.choosing.phase;
      on = orderly.on;
    }

orderly-of : (stock : Stock) → IsHeld stock → IsOrderly stock
orderly-of stock held = record { base = record { whole = held.state.whole; class = held.fit.class; apart = held.apart }; on = held.on }

own-of : (stock : Stock) → IsHeld stock → All (IsOwn stock.shape stock.class) (class_stock stock).own
own-of stock held = (held.state.classes stock.class held.fit.class).own

-- the blocks of the class, and one that is none of them
few-gained : (stock : Stock) → IsBase stock → IsHeld stock → IsInside stock → IsNotOwn stock → length (class_stock stock).own < stock.shape.regions * stock.shape.blocks
few-gained stock base held inside none =
    apart-room stock.shape stock.class (class_stock stock).own stock.position (own-of stock held) (base.apart stock.class base.class) (gained-apart stock base (own-of stock held) none) inside

-- a stock of this shape, in a choosing for this class, in which all of this holds
abbrev pub StaysHeld : Sizes → ℕ → Stock → Type 0
StaysHeld sizes class stock = IsHeld stock × (stock.shape ≡ sizes) × (stock.class ≡ class)

-- a choosing that is under way at some phase
under_way : (stock : Stock) (answer : Answer) → IsHeld stock → LeavesNoneBare stock.shape stock.mask → StaysHeld stock.shape stock.class (turn stock answer).state
under_way stock answer held full =
    let turned = turn-turned (view_of stock) stock.client stock.class stock answer (choosing-of stock held full) in
    (held-from (view_of stock) stock.client stock.class (turn stock answer) full turned (turn-orderly stock answer (orderly-of stock held) (own-of stock held)), turned.choosing.ready.is_stock.shape, turned.choosing.ready.same)

at_rest : (stock : Stock) (answer : Answer) → stock.phase ≡ Rest → (turn stock answer).state ≡ stock
at_rest stock (Word found) rests = by stock.phase rests
  where
    by : (phase : Phase) → phase ≡ Rest → (turn_at phase stock (Word found)).state ≡ stock
    by phase is = rw is refl
at_rest stock Done rests = by stock.phase rests
  where
    by : (phase : Phase) → phase ≡ Rest → (turn_at phase stock Done).state ≡ stock
    by phase is = rw is refl
at_rest stock Lost rests = by stock.phase rests
  where
    by : (phase : Phase) → phase ≡ Rest → (turn_at phase stock Lost).state ≡ stock
    by phase is = rw is refl

-- what holds of a stock holds after each answer
pub turn-held : (stock : Stock) (answer : Answer) → IsHeld stock → StaysHeld stock.shape stock.class (turn stock answer).state
turn-held stock answer held = by stock.phase refl
  where
    full : (phase : Phase) → stock.phase ≡ phase → HasView phase stock
    full phase at = subst (λ p. HasView p stock) at held.view

    by : (phase : Phase) → stock.phase ≡ phase → StaysHeld stock.shape stock.class (turn stock answer).state
    by Rest at = subst (StaysHeld stock.shape stock.class) (sym (at_rest stock answer at)) (held, refl, refl)
    by AskFirst at = under_way stock answer held (full AskFirst at)
    by (Scan own) at = under_way stock answer held (full (Scan own) at)
    by (Ask client) at = under_way stock answer held (full (Ask client) at)
    by ReadBlock at = under_way stock answer held (full ReadBlock at)
    by (Claim word) at = under_way stock answer held (full (Claim word) at)
    by (Spread unused backup) at = under_way stock answer held (full (Spread unused backup) at)
    by ReadBitmap at = under_way stock answer held (full ReadBitmap at)
    by WriteHead at = under_way stock answer held (full WriteHead at)

-- a new choosing under a view
begins-turn : (stock : Stock) (view : Viewed) (class : ℕ) → IsHeld stock → view.shape ≡ stock.shape → LeavesNoneBare view.shape view.mask → class < CLASSES → IsTurned view stock.client class (begins stock view.mask class)
begins-turn stock view class held same full below =
    begins-turned view stock.client class stock (subst (λ s. IsStock s stock.client stock) (sym same) held.state)
    (IsView-of view (subst IsWithinLimits (sym same) held.fit.limits) full)
    (subst (λ (s : Sizes). (1 ≤ stock.client) × (stock.client ≤ s.clients)) (sym same) held.number) below

pub begins-held : (stock : Stock) (view : Viewed) (class : ℕ) → IsHeld stock → view.shape ≡ stock.shape → LeavesNoneBare view.shape view.mask → class < CLASSES → StaysHeld stock.shape class (begins stock view.mask class).state
begins-held stock view class held same full below =
    let turned = begins-turn stock view class held same full below in
    (held-from view stock.client class (begins stock view.mask class) full turned (begins-orderly stock view.mask class (orderly-of stock held).base below), turned.choosing.ready.is_stock.shape ∙ same, turned.choosing.ready.same)

-- the first stock
pub first-held : (client : ℕ) (sizes : Sizes) → IsWithinLimits sizes → (1 ≤ client) × (client ≤ sizes.clients) → IsHeld (first_stock client sizes)
unfolding IsDistinct
first-held client sizes limits number =
    let state = first_stock-is sizes client in
    record { state = state; fit = fit-of (first_stock client sizes) state limits (omega arith); number = number; apart = apart; view = tt; at = tt; on = tt }
  where
    apart : (class : ℕ) → class < CLASSES → IsApart sizes (slice_index_or (first_stock client sizes).classes class no_stock)
    apart zero below = tt
    apart (suc zero) below = tt
    apart (suc (suc zero)) below = tt
    apart (suc (suc (suc zero))) below = tt
    apart (suc (suc (suc (suc zero)))) below = tt
    apart (suc (suc (suc (suc (suc zero))))) below = tt
    apart (suc (suc (suc (suc (suc (suc class)))))) below = absurd (omega arith)

-- a client's own block is a block of the pool
pub own_within : (stock : Stock) (i : ℕ) (d : OwnBlock) → IsHeld stock → i < length (class_stock stock).own
    → (1 ≤ (get_or (class_stock stock).own i d).region) × ((get_or (class_stock stock).own i d).region ≤ stock.shape.regions) × ((get_or (class_stock stock).own i d).block < stock.shape.blocks)
own_within stock i d held below = let own = own-of stock held i d below in (own.region.0, own.region.1, own.block)

-- where a block is gained there is room for it
pub room_left : (stock : Stock) → IsHeld stock → IsInside stock → IsNotOwn stock → length (class_stock stock).own < stock.shape.regions * stock.shape.blocks
room_left stock held inside none = few-gained stock (orderly-of stock held).base held inside none

-- the verb goes to a place of the pool
pub next_inside : (stock : Stock) → IsHeld stock → IsInPool stock.shape (place_of (next stock))
next_inside stock held = by stock.phase refl
  where
    full : (phase : Phase) → stock.phase ≡ phase → HasView phase stock
    full phase at = subst (λ p. HasView p stock) at held.view

    inside : LeavesNoneBare stock.shape stock.mask → IsInPool stock.shape (place_of (next stock))
    inside covers = next-inside (view_of stock) stock.client stock.class stock (choosing-of stock held covers)

    by : (phase : Phase) → stock.phase ≡ phase → IsInPool stock.shape (place_of (next stock))
    by Rest at = let P : Phase → Type 0 = λ p. IsInPool stock.shape (place_of (verb_at p stock)) in subst P (sym at) (control-inside stock.shape EpochWord tt)
    by AskFirst at = inside (full AskFirst at)
    by (Scan own) at = inside (full (Scan own) at)
    by (Ask client) at = inside (full (Ask client) at)
    by ReadBlock at = inside (full ReadBlock at)
    by (Claim word) at = inside (full (Claim word) at)
    by (Spread unused backup) at = inside (full (Spread unused backup) at)
    by ReadBitmap at = inside (full ReadBitmap at)
    by WriteHead at = inside (full WriteHead at)

-- what a turn tells are objects of the class
pub turn-taken : (stock : Stock) (answer : Answer) → IsHeld stock → IsTaken stock.shape stock.class (turn stock answer).told
turn-taken stock answer held = by stock.phase refl
  where
    full : (phase : Phase) → stock.phase ≡ phase → HasView phase stock
    full phase at = subst (λ p. HasView p stock) at held.view

    taken : LeavesNoneBare stock.shape stock.mask → IsTaken stock.shape stock.class (turn stock answer).told
    taken covers = (turn-turned (view_of stock) stock.client stock.class stock answer (choosing-of stock held covers)).taken

    at_rest-told : (answer : Answer) → stock.phase ≡ Rest → IsTaken stock.shape stock.class (turn_at Rest stock answer).told
    at_rest-told (Word found) at = tt
    at_rest-told Done at = tt
    at_rest-told Lost at = tt

    by : (phase : Phase) → stock.phase ≡ phase → IsTaken stock.shape stock.class (turn stock answer).told
    by Rest at = let P : Phase → Type 0 = λ p. IsTaken stock.shape stock.class (turn_at p stock answer).told in subst P (sym at) (at_rest-told answer at)
    by AskFirst at = taken (full AskFirst at)
    by (Scan own) at = taken (full (Scan own) at)
    by (Ask client) at = taken (full (Ask client) at)
    by ReadBlock at = taken (full ReadBlock at)
    by (Claim word) at = taken (full (Claim word) at)
    by (Spread unused backup) at = taken (full (Spread unused backup) at)
    by ReadBitmap at = taken (full ReadBitmap at)
    by WriteHead at = taken (full WriteHead at)

pub begins-taken : (stock : Stock) (view : Viewed) (class : ℕ) → IsHeld stock → view.shape ≡ stock.shape → LeavesNoneBare view.shape view.mask → class < CLASSES
    → IsTaken view.shape class (begins stock view.mask class).told
begins-taken stock view class held same full below = (begins-turn stock view class held same full below).taken
