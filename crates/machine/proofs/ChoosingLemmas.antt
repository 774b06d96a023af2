-- A choosing stays one, its verbs go to places of the pool, and what it takes are objects of its class.
use Rattle.std.proofs.Common.{◌≡◌, ◌≢◌, ℕ, ◌+◌, ◌*◌, ◌/◌, ◌%◌, ◌^◌, ◌<◌, ◌≤◌, ◌==◌, ◌⊎◌, inl, inr, Bool, true, false, ◌&&◌, List, [], ◌∷◌, length, get_or, Option, Some, None, refl, sym, subst, ◌∙◌, arith, length-set, pow_pos}
use Rattle.std.specs.Prelude.{All, bit_and, not, nat_le, nat_lt, slice_index_or, slice_set}
use Rattle.std.proofs.lemmas.Bool.Decides.{eqb_tells, nat_tests}
use Rattle.std.proofs.Math.Nat.{div-lt_iff_lt-mul, mod-lt}
use Rattle.std.proofs.lemmas.List.{get_or-set_other, get_or-set_same}
use Rattle.std.proofs.lemmas.List.Elements.{All-append, All-filter}
use Rattle.block_alloc.specs.declared.BlockWord.{BlockWord}
use Rattle.block_alloc.specs.declared.BlockWord.TheVariants.{Unused, Owned, Released}
use Rattle.block_alloc.specs.BlockWord.{block_in}
use Rattle.machine.specs.declared.choosing.Took.{Took}
use Rattle.machine.specs.declared.choosing.Took.TheVariants.{Going, Have, Refused}
use Rattle.machine.specs.Choosing.{IsAt, IsChoosing, IsReady, IsTaken, asked, asks_after, asks_from, at_block, begins, bitmap_at_block, block_at, chooses, first_awaited, goes_to, looks, next, next_block, no_block, not_awaited, on_block, on_block_word, on_first, on_scan, own_at, owns, region_at, rests, ripens, scanned_all, spreads_from, taken, takes, turn, turn_at, verb_at, with_awaited, with_block, with_scanned, word_at_block}
use Rattle.machine.specs.EpochRead.{IsView}
use Rattle.machine.specs.ObjectNames.{names_object}
use Rattle.machine.specs.Places.{IsInPool, control, primary_place, replica_count, written_place}
use Rattle.machine.specs.Stock.{AskFirst, Ask, Claim, ClassStock, IsAwaitedIn, IsClassStock, IsOwn, IsStock, OwnBlock, Phase, ReadBitmap, ReadBlock, Rest, Scan, Spread, Stock, WriteHead, any_waits, class_stock, first_free, is_own, no_stock, object_bits, scanned_block, view_of, with_class_stock, with_reserve}
use Rattle.machine.specs.Turn.{Turn}
use Rattle.machine.proofs.PlacesLemmas.{control-inside, primary_place-inside, written_place-inside}
use Rattle.machine.proofs.StockLemmas.{bit_and-below, first_free-named, object_bits-below, ripened-is, scanned_block-is, some_same, with_class-is, with_reserve-is}
use Rattle.object_form.specs.Class.{units_of}
use Rattle.object_form.specs.declared.classes.TheConstants.{CLASSES}
use Rattle.region_view.specs.Control.{Begin, EpochWord, Head}
use Rattle.region_view.specs.Layout.{Bitmap, HasWord, NodeWord, region_of_word}
use Rattle.region_view.specs.Placed.{Viewed}
use Rattle.region_view.specs.Sizes.{Sizes}
use Rattle.reuse_epoch.specs.Awaited.{Awaited, begin_of, client_of, is_still_awaited, noted, still_awaited}
use Rattle.verb_words.specs.declared.verbs.Answer.{Answer}
use Rattle.verb_words.specs.declared.verbs.Answer.TheVariants.{Word, Done, Lost}
use Rattle.verb_words.specs.Verb.{place_of}

-- what holds of a turn of a choosing
pub record IsTurned (view : Viewed) (client class : ℕ) (turn : Turn Stock Took) : Type 0 where
  pub choosing : IsChoosing view client class turn.state
  pub taken : IsTaken view.shape class turn.told

-- Changes of the stock that leave it ready.

-- the stock of the chosen class, where it is ready
pub class_stock-is : (view : Viewed) (client class : ℕ) (stock : Stock) → IsReady view client class stock → IsClassStock view.shape class (class_stock stock)
class_stock-is view client class stock is =
    let P : ℕ → Type 0 = λ n. IsClassStock view.shape class (slice_index_or stock.classes n no_stock) in
    subst P (sym is.same) (is.is_stock.classes class is.below)

with_class_stock-ready : (view : Viewed) (client class : ℕ) (stock : Stock) (of_class : ClassStock) → IsReady view client class stock → IsClassStock view.shape class of_class
    → IsReady view client class (with_class_stock stock of_class)
with_class_stock-ready view client class stock of_class is new = record {
  is_stock = record {
    owner = is.is_stock.owner;
    shape = is.is_stock.shape;
    whole = length-set stock.classes stock.class of_class ∙ is.is_stock.whole;
    classes = let P : ℕ → Type 0 = λ n. (other : ℕ) → other < CLASSES → IsClassStock view.shape other (slice_index_or (slice_set stock.classes n of_class) other no_stock) in
        subst P (sym is.same) (with_class-is view.shape client class of_class stock.classes is.is_stock.whole is.below is.is_stock.classes new);
  };
  is_view = is.is_view;
  number = is.number;
  held = is.held;
  same = is.same;
  below = is.below;
}

-- the chosen class has the stock that it was given
class_stock-with : (view : Viewed) (client class : ℕ) (stock : Stock) (of_class : ClassStock) → IsReady view client class stock → class_stock (with_class_stock stock of_class) ≡ of_class
class_stock-with view client class stock of_class is =
    get_or-set_same stock.classes stock.class of_class no_stock (let whole = is.is_stock.whole in let same = is.same in let below = is.below in omega arith)

-- what a phase, a mark or a position does not change
other_marks : (view : Viewed) (client class : ℕ) (stock : Stock) (scanned : Bool) (position : ℕ) (phase : Phase) → IsReady view client class stock
    → IsReady view client class (record stock { scanned = scanned; position = position; phase = phase })
other_marks view client class stock scanned position phase is = record {
  is_stock = record { owner = is.is_stock.owner; shape = is.is_stock.shape; whole = is.is_stock.whole; classes = is.is_stock.classes };
  is_view = is.is_view;
  number = is.number;
  held = is.held;
  same = is.same;
  below = is.below;
}

with_awaited-ready : (view : Viewed) (client class : ℕ) (stock : Stock) (awaited : List Awaited) → IsReady view client class stock → All (IsAwaitedIn view.shape) awaited
    → IsReady view client class (with_awaited stock awaited)
with_awaited-ready view client class stock awaited is all =
    let before = class_stock-is view client class stock is in
    with_class_stock-ready view client class stock _ is (record { own = before.own; reserve = before.reserve; awaited = all })

-- Turns.

goes_to-turned : (view : Viewed) (client class : ℕ) (stock : Stock) (phase : Phase) → IsReady view client class stock → IsAt phase (record stock { phase = phase }) → IsTurned view client class (goes_to stock phase)
goes_to-turned view client class stock phase is at =
    record { choosing = record { ready = other_marks view client class stock stock.scanned stock.position phase is; phase = at }; taken = tt }

rests-turned : (view : Viewed) (client class : ℕ) (stock : Stock) (told : Took) → IsReady view client class stock → IsTaken view.shape class told → IsTurned view client class (rests stock told)
rests-turned view client class stock told is good =
    record { choosing = record { ready = other_marks view client class stock stock.scanned stock.position Rest is; phase = tt }; taken = good }

at_block-turned : (view : Viewed) (client class : ℕ) (stock : Stock) → IsReady view client class stock → IsTurned view client class (at_block stock)
at_block-turned view client class stock is = by (nat_lt stock.position (stock.shape.regions * stock.shape.blocks)) refl
  where
    by : (t : Bool) → nat_lt stock.position (stock.shape.regions * stock.shape.blocks) ≡ t → IsTurned view client class (at_block stock)
    by true within = rw within (goes_to-turned view client class stock ReadBlock is (grind (arith, nat_tests)))
    by false last = rw last (rests-turned view client class stock _ is tt)

next_block-turned : (view : Viewed) (client class : ℕ) (stock : Stock) → IsReady view client class stock → IsTurned view client class (next_block stock)
next_block-turned view client class stock is =
    at_block-turned view client class (record stock { position = stock.position + 1 }) (other_marks view client class stock stock.scanned (stock.position + 1) stock.phase is)

takes-turned : (view : Viewed) (client class : ℕ) (stock : Stock) (free : ℕ) → IsReady view client class stock → names_object view.shape class free ≡ true → IsTurned view client class (takes stock free)
takes-turned view client class stock free is named = by (class_stock stock).reserve refl
  where
    before : IsClassStock view.shape class (class_stock stock)
    before = class_stock-is view client class stock is

    by : (reserve : Option ℕ) → (class_stock stock).reserve ≡ reserve → IsTurned view client class (takes stock free)
    by (Some reserve) some = rw some (rests-turned view client class stock (Have reserve free) is (before.reserve reserve some, named))
    by None none = rw none (goes_to-turned view client class _ WriteHead
        (with_class_stock-ready view client class stock _ is (record {
          own = before.own;
          reserve = λ pointer same. subst (λ p. names_object view.shape class p ≡ true) (some_same same) named;
          awaited = before.awaited;
        })) tt)

looks-turned : (view : Viewed) (client class : ℕ) (stock : Stock) → IsReady view client class stock → IsTurned view client class (looks stock)
looks-turned view client class stock is = by (nat_lt 0 (length (class_stock stock).awaited)) refl (not stock.scanned && nat_lt 0 (length (class_stock stock).own)) refl
  where
    by : (t : Bool) → nat_lt 0 (length (class_stock stock).awaited) ≡ t → (u : Bool) → (not stock.scanned && nat_lt 0 (length (class_stock stock).own)) ≡ u → IsTurned view client class (looks stock)
    by true some u scan = rw some (goes_to-turned view client class stock AskFirst is (grind (arith, nat_tests)))
    by false none true scan = rw (none, scan) (goes_to-turned view client class stock (Scan 0) is (grind (arith, nat_tests)))
    by false none false done = rw (none, done) (at_block-turned view client class stock is)

pub chooses-turned : (view : Viewed) (client class : ℕ) (stock : Stock) → IsReady view client class stock → IsTurned view client class (chooses stock)
chooses-turned view client class stock is = by (first_free stock.class (class_stock stock)) refl
  where
    by : (free : Option ℕ) → first_free stock.class (class_stock stock) ≡ free → IsTurned view client class (chooses stock)
    by None none = rw none (looks-turned view client class stock is)
    by (Some free) some =
        let P : ℕ → Type 0 = λ n. first_free n (class_stock stock) ≡ Some free in
        rw some (takes-turned view client class stock free is
        (first_free-named view.shape class (class_stock stock) free is.is_view.limits is.below (class_stock-is view client class stock is) (subst P is.same some)))

-- a new choosing
pub begins-turned : (view : Viewed) (client class : ℕ) (stock : Stock) → IsStock view.shape client stock → IsView view → (1 ≤ client) × (client ≤ view.shape.clients) → class < CLASSES
    → IsTurned view client class (begins stock view.mask class)
begins-turned view client class stock is is_view number below =
    chooses-turned view client class (record stock { mask = view.mask; class = class; scanned = false; position = 0 }) (record {
      is_stock = record { owner = is.owner; shape = is.shape; whole = is.whole; classes = is.classes };
      is_view = is_view;
      number = number;
      held = refl;
      same = refl;
      below = below;
    })

ripens-turned : (view : Viewed) (client class : ℕ) (stock : Stock) → IsReady view client class stock → IsTurned view client class (ripens stock)
ripens-turned view client class stock is =
    chooses-turned view client class _ (with_class_stock-ready view client class stock _ is (ripened-is view.shape class (class_stock stock) (class_stock-is view client class stock is)))

asked-turned : (view : Viewed) (client class : ℕ) (stock : Stock) → IsReady view client class stock → IsTurned view client class (asked stock)
asked-turned view client class stock is = by (length (class_stock stock).awaited == 0) refl
  where
    by : (t : Bool) → (length (class_stock stock).awaited == 0) ≡ t → IsTurned view client class (asked stock)
    by true none = rw none (ripens-turned view client class stock is)
    by false some = rw some (at_block-turned view client class stock is)

asks_after-turned : (view : Viewed) (client class : ℕ) (stock : Stock) (number : ℕ) → IsReady view client class stock → 1 ≤ number → IsTurned view client class (asks_after stock number)
asks_after-turned view client class stock number is some = by (nat_le number stock.shape.clients) refl
  where
    by : (t : Bool) → nat_le number stock.shape.clients ≡ t → IsTurned view client class (asks_after stock number)
    by true within = rw within (goes_to-turned view client class stock (Ask number) is (some, grind (arith, nat_tests)))
    by false beyond = rw beyond (asked-turned view client class stock is)

asks_from-turned : (view : Viewed) (client class : ℕ) (stock : Stock) (number : ℕ) → IsReady view client class stock → 1 ≤ number → IsTurned view client class (asks_from stock number)
asks_from-turned view client class stock number is some = by (number == stock.client) refl
  where
    by : (t : Bool) → (number == stock.client) ≡ t → IsTurned view client class (asks_from stock number)
    by true own = rw own (asks_after-turned view client class stock (number + 1) is (omega arith))
    by false other = rw other (asks_after-turned view client class stock number is some)

not_awaited-turned : (view : Viewed) (client class : ℕ) (stock : Stock) → IsReady view client class stock → IsTurned view client class (not_awaited stock)
not_awaited-turned view client class stock is = by (length (class_stock stock).awaited == 0) refl
  where
    by : (t : Bool) → (length (class_stock stock).awaited == 0) ≡ t → IsTurned view client class (not_awaited stock)
    by true none = rw none (ripens-turned view client class stock is)
    by false some = rw some (goes_to-turned view client class stock AskFirst is (grind (arith, nat_tests)))

on_first-turned : (view : Viewed) (client class : ℕ) (stock : Stock) (found : ℕ) → IsReady view client class stock → IsTurned view client class (on_first stock found)
on_first-turned view client class stock found is = by (found == begin_of (first_awaited stock)) refl
  where
    awaited : List Awaited
    awaited = still_awaited (class_stock stock).awaited (client_of (first_awaited stock)) found

    by : (t : Bool) → (found == begin_of (first_awaited stock)) ≡ t → IsTurned view client class (on_first stock found)
    by true same = rw same (at_block-turned view client class stock is)
    by false other = rw other (not_awaited-turned view client class (with_awaited stock awaited)
        (with_awaited-ready view client class stock awaited is
        (All-filter (is_still_awaited (client_of (first_awaited stock)) found) (IsAwaitedIn view.shape) (class_stock stock).awaited (class_stock-is view client class stock is).awaited)))

-- one own block is replaced
own-set : (sizes : Sizes) (class i : ℕ) (own : List OwnBlock) (new : OwnBlock) → All (IsOwn sizes class) own → IsOwn sizes class new → i < length own → All (IsOwn sizes class) (slice_set own i new)
own-set sizes class i own new all is below = λ k d under. by k d (omega (arith, length-set own i new)) (eqb_tells k i)
  where
    by : (k : ℕ) (d : OwnBlock) → k < length own → (((k == i) ≡ true) × (k ≡ i)) ⊎ (((k == i) ≡ false) × (k ≢ i)) → IsOwn sizes class (get_or (slice_set own i new) k d)
    by k d under (inl (test, same)) = let P : ℕ → Type 0 = λ n. IsOwn sizes class (get_or (slice_set own i new) n d) in subst P (sym same) (rw (get_or-set_same own i new d below) is)
    by k d under (inr (test, differ)) = rw (get_or-set_other own i k new d differ) (all k d under)

with_scanned-ready : (view : Viewed) (client class : ℕ) (stock : Stock) (i found : ℕ) → IsReady view client class stock → i < length (class_stock stock).own → IsReady view client class (with_scanned stock i found)
with_scanned-ready view client class stock i found is below =
    let before = class_stock-is view client class stock is in
    let P : ℕ → Type 0 = λ n. IsOwn view.shape class (scanned_block n (class_stock stock) (own_at stock i) found) in
    let new = subst P (sym is.same) (scanned_block-is view.shape class found (class_stock stock) (own_at stock i) (before.own i no_block below)) in
    with_class_stock-ready view client class stock _ is (record {
      own = own-set view.shape class i (class_stock stock).own _ before.own new below;
      reserve = before.reserve;
      awaited = before.awaited;
    })

scanned_all-turned : (view : Viewed) (client class : ℕ) (stock : Stock) → IsReady view client class stock → IsTurned view client class (scanned_all stock)
scanned_all-turned view client class stock is = by (any_waits (class_stock stock)) refl
  where
    by : (t : Bool) → any_waits (class_stock stock) ≡ t → IsTurned view client class (scanned_all stock)
    by true some = rw some (asks_from-turned view client class stock 1 is (omega arith))
    by false none = rw none (at_block-turned view client class stock is)

on_scan-turned : (view : Viewed) (client class : ℕ) (stock : Stock) (i : ℕ) → IsReady view client class stock → IsTurned view client class (on_scan stock i)
on_scan-turned view client class stock i is = by (nat_lt (i + 1) (length (class_stock stock).own)) refl
  where
    by : (t : Bool) → nat_lt (i + 1) (length (class_stock stock).own) ≡ t → IsTurned view client class (on_scan stock i)
    by true more = rw more (goes_to-turned view client class stock (Scan (i + 1)) is (grind (arith, nat_tests)))
    by false last = rw last (scanned_all-turned view client class _ (other_marks view client class stock true stock.position stock.phase is))

-- the block at the position is a block of the pool
block_within : (position regions blocks : ℕ) → 1 ≤ blocks → position < regions * blocks → (1 + position / blocks ≤ regions) × (position % blocks < blocks)
block_within position regions blocks some within = (omega (arith, (div-lt_iff_lt-mul some).1 within), mod-lt position some)

with_block-ready : (view : Viewed) (client class : ℕ) (stock : Stock) (ripe waiting : ℕ) → IsReady view client class stock → stock.position < stock.shape.regions * stock.shape.blocks
    → ripe < 2 ^ (64 / units_of class) → waiting < 2 ^ (64 / units_of class) → IsReady view client class (with_block stock ripe waiting)
with_block-ready view client class stock ripe waiting is within below below' =
    let before = class_stock-is view client class stock is in
    let same = is.is_stock.shape in
    let P : Sizes → Type 0 = λ s. 1 ≤ s.blocks in
    let here = block_within stock.position stock.shape.regions stock.shape.blocks (subst P (sym same) is.is_view.limits.blocks.0) within in
    let gained : OwnBlock = record { region = region_at stock; block = block_at stock; ripe = ripe; waiting = waiting } in
    let Q : Sizes → Type 0 = λ s. IsOwn s class gained in
    let new : IsOwn view.shape class gained = subst Q same (record { region = (omega arith, here.0); block = here.1; ripe = below; waiting = below' }) in
    other_marks view client class _ stock.scanned (stock.position + 1) stock.phase
    (with_class_stock-ready view client class stock _ is (record {
      own = All-append (IsOwn view.shape class) (class_stock stock).own (gained ∷ []) before.own (λ k d under. let first : k ≡ 0 = omega arith in rw first new);
      reserve = before.reserve;
      awaited = before.awaited;
    }))

owns-turned : (view : Viewed) (client class : ℕ) (stock : Stock) (unused : Bool) → IsReady view client class stock → stock.position < stock.shape.regions * stock.shape.blocks → IsTurned view client class (owns stock unused)
owns-turned view client class stock true is within =
    let P : ℕ → Type 0 = λ n. object_bits n < 2 ^ (64 / units_of class) in
    chooses-turned view client class _ (with_block-ready view client class stock (object_bits stock.class) 0 is within (subst P (sym is.same) (object_bits-below class)) (pow_pos (64 / units_of class)))
owns-turned view client class stock false is within = goes_to-turned view client class stock ReadBitmap is within

spreads_from-turned : (view : Viewed) (client class : ℕ) (stock : Stock) (unused : Bool) (backup : ℕ) → IsReady view client class stock → stock.position < stock.shape.regions * stock.shape.blocks
    → IsTurned view client class (spreads_from stock unused backup)
spreads_from-turned view client class stock unused backup is within = by (nat_lt (backup + 1) (replica_count (view_of stock) (word_at_block stock))) refl
  where
    by : (t : Bool) → nat_lt (backup + 1) (replica_count (view_of stock) (word_at_block stock)) ≡ t → IsTurned view client class (spreads_from stock unused backup)
    by true more = rw more (goes_to-turned view client class stock (Spread unused backup) is (within, grind (arith, nat_tests)))
    by false last = rw last (owns-turned view client class stock unused is within)

on_block-turned : (view : Viewed) (client class : ℕ) (stock : Stock) (found : ℕ) (block : Option BlockWord) → IsReady view client class stock → stock.position < stock.shape.regions * stock.shape.blocks
    → IsTurned view client class (on_block stock found block)
on_block-turned view client class stock found None is within = next_block-turned view client class stock is
on_block-turned view client class stock found (Some Unused) is within = goes_to-turned view client class stock (Claim found) is within
on_block-turned view client class stock found (Some (Released other)) is within = by (other == stock.class) refl
  where
    by : (t : Bool) → (other == stock.class) ≡ t → IsTurned view client class (on_block stock found (Some (Released other)))
    by true same = rw same (goes_to-turned view client class stock (Claim found) is within)
    by false differ = rw differ (next_block-turned view client class stock is)
on_block-turned view client class stock found (Some (Owned owner other)) is within = by ((owner == stock.client) && (other == stock.class)) refl
  where
    by : (t : Bool) → ((owner == stock.client) && (other == stock.class)) ≡ t → IsTurned view client class (on_block stock found (Some (Owned owner other)))
    by true own = rw own (spreads_from-turned view client class stock false 0 is within)
    by false differ = rw differ (next_block-turned view client class stock is)

on_block_word-turned : (view : Viewed) (client class : ℕ) (stock : Stock) (found : ℕ) → IsReady view client class stock → stock.position < stock.shape.regions * stock.shape.blocks
    → IsTurned view client class (on_block_word stock found)
on_block_word-turned view client class stock found is within = by (is_own stock (region_at stock) (block_at stock)) refl
  where
    by : (t : Bool) → is_own stock (region_at stock) (block_at stock) ≡ t → IsTurned view client class (on_block_word stock found)
    by true own = rw own (next_block-turned view client class stock is)
    by false other = rw other (on_block-turned view client class stock found (block_in found) is within)

-- the clients that are noted are clients of the pool
noted-all : (sizes : Sizes) (awaited : List Awaited) (client begin : ℕ) → All (IsAwaitedIn sizes) awaited → (1 ≤ client) × (client ≤ sizes.clients) → All (IsAwaitedIn sizes) (noted awaited client begin)
noted-all sizes awaited client begin all within = by (begin % 2 == 1) refl
  where
    by : (t : Bool) → (begin % 2 == 1) ≡ t → All (IsAwaitedIn sizes) (noted awaited client begin)
    by true odd = rw odd (All-append (IsAwaitedIn sizes) awaited ((client, begin) ∷ []) all (λ k d under. let first : k ≡ 0 = omega arith in rw first within))
    by false even = rw even all

stays-turned : (view : Viewed) (client class : ℕ) (stock : Stock) (told : Took) → IsChoosing view client class stock → IsTaken view.shape class told → IsTurned view client class (record { state = stock; told = told })
stays-turned view client class stock told is good = record { choosing = is; taken = good }

at_of : (view : Viewed) (client class : ℕ) (stock : Stock) (phase : Phase) → stock.phase ≡ phase → IsChoosing view client class stock → IsAt phase stock
at_of view client class stock phase at is = let P : Phase → Type 0 = λ p. IsAt p stock in subst P at is.phase

turn_at-turned : (view : Viewed) (client class : ℕ) (stock : Stock) (phase : Phase) (answer : Answer) → stock.phase ≡ phase → IsChoosing view client class stock → IsTurned view client class (turn_at phase stock answer)
turn_at-turned view client class stock AskFirst (Word found) at is = on_first-turned view client class stock found is.ready
turn_at-turned view client class stock (Scan i) (Word found) at is =
    on_scan-turned view client class (with_scanned stock i found) i (with_scanned-ready view client class stock i found is.ready (at_of view client class stock (Scan i) at is))
turn_at-turned view client class stock (Ask number) (Word found) at is =
    let here = at_of view client class stock (Ask number) at is in
    let P : Sizes → Type 0 = λ s. number ≤ s.clients in
    asks_from-turned view client class _ (number + 1)
    (with_awaited-ready view client class stock _ is.ready
    (noted-all view.shape (class_stock stock).awaited number found (class_stock-is view client class stock is.ready).awaited (here.0, subst P is.ready.is_stock.shape here.1))) (omega arith)
turn_at-turned view client class stock ReadBlock (Word found) at is = on_block_word-turned view client class stock found is.ready (at_of view client class stock ReadBlock at is)
turn_at-turned view client class stock (Claim word) (Word found) at is = by (found == word) refl
  where
    by : (t : Bool) → (found == word) ≡ t → IsTurned view client class (turn_at (Claim word) stock (Word found))
    by true swapped = rw swapped (spreads_from-turned view client class stock (word == 0) 0 is.ready (at_of view client class stock (Claim word) at is))
    by false lost = rw lost (next_block-turned view client class stock is.ready)
turn_at-turned view client class stock (Spread unused backup) Done at is = spreads_from-turned view client class stock unused (backup + 1) is.ready (at_of view client class stock (Spread unused backup) at is).0
turn_at-turned view client class stock ReadBitmap (Word found) at is =
    let P : ℕ → Type 0 = λ n. bit_and found (object_bits n) < 2 ^ (64 / units_of class) in
    let bits = subst P (sym is.ready.same) (bit_and-below found (object_bits class) (2 ^ (64 / units_of class)) (object_bits-below class)) in
    asks_from-turned view client class _ 1
    (with_awaited-ready view client class _ []
    (with_block-ready view client class stock 0 _ is.ready (at_of view client class stock ReadBitmap at is) (pow_pos (64 / units_of class)) bits)
    (λ k d under. absurd (omega arith))) (omega arith)
turn_at-turned view client class stock WriteHead Done at is =
    let P : ℕ → Type 0 = λ mask. IsTurned view client class (begins stock mask stock.class) in
    let Q : ℕ → Type 0 = λ n. IsTurned view client class (begins stock view.mask n) in
    subst P (sym is.ready.held) (subst Q (sym is.ready.same) (begins-turned view client class stock is.ready.is_stock is.ready.is_view is.ready.number is.ready.below))
turn_at-turned view client class stock Rest (Word found) at is = stays-turned view client class stock Going is tt
turn_at-turned view client class stock Rest Done at is = stays-turned view client class stock Going is tt
turn_at-turned view client class stock Rest Lost at is = stays-turned view client class stock (Refused (place_of (verb_at Rest stock)).node) is tt
turn_at-turned view client class stock AskFirst Done at is = stays-turned view client class stock Going is tt
turn_at-turned view client class stock AskFirst Lost at is = stays-turned view client class stock (Refused (place_of (verb_at AskFirst stock)).node) is tt
turn_at-turned view client class stock (Scan i) Done at is = stays-turned view client class stock Going is tt
turn_at-turned view client class stock (Scan i) Lost at is = stays-turned view client class stock (Refused (place_of (verb_at (Scan i) stock)).node) is tt
turn_at-turned view client class stock (Ask number) Done at is = stays-turned view client class stock Going is tt
turn_at-turned view client class stock (Ask number) Lost at is = stays-turned view client class stock (Refused (place_of (verb_at (Ask number) stock)).node) is tt
turn_at-turned view client class stock ReadBlock Done at is = stays-turned view client class stock Going is tt
turn_at-turned view client class stock ReadBlock Lost at is = stays-turned view client class stock (Refused (place_of (verb_at ReadBlock stock)).node) is tt
turn_at-turned view client class stock (Claim word) Done at is = stays-turned view client class stock Going is tt
turn_at-turned view client class stock (Claim word) Lost at is = stays-turned view client class stock (Refused (place_of (verb_at (Claim word) stock)).node) is tt
turn_at-turned view client class stock (Spread unused backup) (Word found) at is = stays-turned view client class stock Going is tt
turn_at-turned view client class stock (Spread unused backup) Lost at is = stays-turned view client class stock (Refused (place_of (verb_at (Spread unused backup) stock)).node) is tt
turn_at-turned view client class stock ReadBitmap Done at is = stays-turned view client class stock Going is tt
turn_at-turned view client class stock ReadBitmap Lost at is = stays-turned view client class stock (Refused (place_of (verb_at ReadBitmap stock)).node) is tt
turn_at-turned view client class stock WriteHead (Word found) at is = stays-turned view client class stock Going is tt
turn_at-turned view client class stock WriteHead Lost at is = stays-turned view client class stock (Refused (place_of (verb_at WriteHead stock)).node) is tt

-- a choosing stays one, whatever is answered, and it takes objects of its class
pub turn-turned : (view : Viewed) (client class : ℕ) (stock : Stock) (answer : Answer) → IsChoosing view client class stock → IsTurned view client class (turn stock answer)
turn-turned view client class stock answer is = turn_at-turned view client class stock stock.phase answer refl is

-- the stock once the next reserve is the reserve
pub taken-is : (sizes : Sizes) (client class next : ℕ) (stock : Stock) → IsStock sizes client stock → class < CLASSES → names_object sizes class next ≡ true → IsStock sizes client (taken stock class next)
taken-is sizes client class next stock is below named = record {
  owner = is.owner;
  shape = is.shape;
  whole = length-set stock.classes class (with_reserve class (slice_index_or stock.classes class no_stock) next) ∙ is.whole;
  classes = with_class-is sizes client class _ stock.classes is.whole below is.classes (with_reserve-is sizes class next _ (is.classes class below) named);
}

-- The places.

begin-inside : (view : Viewed) (client : ℕ) → IsView view → (1 ≤ client) × (client ≤ view.shape.clients) → IsInPool view.shape (control (Begin client))
begin-inside view client is within = control-inside view.shape (Begin client) (within.0, omega (arith, within.1, is.limits.clients))

-- the view under which it chooses
pub held_view : (view : Viewed) (client class : ℕ) (stock : Stock) → IsReady view client class stock → view_of stock ≡ view
held_view view client class stock is = let shape = is.is_stock.shape in let mask = is.held in λ i. record { shape = shape i; mask = mask i }

-- the block at the position is a block of the pool
pub here_block : (view : Viewed) (client class : ℕ) (stock : Stock) → IsReady view client class stock → stock.position < stock.shape.regions * stock.shape.blocks
    → (1 ≤ region_at stock) × (region_at stock ≤ view.shape.regions) × (block_at stock < view.shape.blocks)
here_block view client class stock is within =
    let P : Sizes → Type 0 = λ s. 1 ≤ s.blocks in
    let Q : Sizes → Type 0 = λ s. (1 ≤ region_at stock) × (region_at stock ≤ s.regions) × (block_at stock < s.blocks) in
    let here = block_within stock.position stock.shape.regions stock.shape.blocks (subst P (sym is.is_stock.shape) is.is_view.limits.blocks.0) within in
    subst Q is.is_stock.shape (omega arith, here.0, here.1)

-- a word on the primary, where the view is the one that is held
primary_held : (view : Viewed) (client class : ℕ) (stock : Stock) (word : NodeWord) → IsReady view client class stock → HasWord view.shape word → region_of_word word ≤ view.shape.regions
    → IsInPool view.shape (primary_place (view_of stock) word)
primary_held view client class stock word is has within =
    let P : Viewed → Type 0 = λ v. IsInPool view.shape (primary_place v word) in
    subst P (sym (held_view view client class stock is)) (primary_place-inside view word is.is_view has within)

verb_at-inside : (view : Viewed) (client class : ℕ) (stock : Stock) (phase : Phase) → IsReady view client class stock → IsAt phase stock → IsInPool view.shape (place_of (verb_at phase stock))
verb_at-inside view client class stock Rest is at = control-inside view.shape EpochWord tt
verb_at-inside view client class stock AskFirst is at = begin-inside view _ is.is_view ((class_stock-is view client class stock is).awaited 0 (0, 0) at)
verb_at-inside view client class stock (Scan i) is at =
    let own = (class_stock-is view client class stock is).own i no_block at in
    primary_held view client class stock (Bitmap (own_at stock i).region (own_at stock i).block) is (own.region.0, own.region.1, own.block) own.region.1
verb_at-inside view client class stock (Ask number) is at =
    let P : Sizes → Type 0 = λ s. number ≤ s.clients in
    begin-inside view number is.is_view (at.0, subst P is.is_stock.shape at.1)
verb_at-inside view client class stock ReadBlock is at = let here = here_block view client class stock is at in primary_held view client class stock (word_at_block stock) is here here.1
verb_at-inside view client class stock (Claim word) is at = let here = here_block view client class stock is at in primary_held view client class stock (word_at_block stock) is here here.1
verb_at-inside view client class stock (Spread unused backup) is at =
    let P : Viewed → Type 0 = λ v. IsInPool view.shape (written_place v (word_at_block stock) backup) in
    let Q : Viewed → Type 0 = λ v. backup + 1 < replica_count v (word_at_block stock) in
    let same = held_view view client class stock is in
    let below = subst Q same at.1 in
    subst P (sym same) (written_place-inside view (word_at_block stock) backup is.is_view (here_block view client class stock is at.0) (omega arith))
verb_at-inside view client class stock ReadBitmap is at = let here = here_block view client class stock is at in primary_held view client class stock (bitmap_at_block stock) is here here.1
verb_at-inside view client class stock WriteHead is at =
    let P : ℕ → Type 0 = λ n. IsInPool view.shape (control (Head n stock.class)) in
    let Q : ℕ → Type 0 = λ n. IsInPool view.shape (control (Head client n)) in
    let below = is.below in
    subst P (sym is.is_stock.owner) (subst Q (sym is.same) (control-inside view.shape (Head client class) (is.number.0, omega (arith, is.number.1, is.is_view.limits.clients), omega arith)))

-- its verb goes to a place of the pool
pub next-inside : (view : Viewed) (client class : ℕ) (stock : Stock) → IsChoosing view client class stock → IsInPool view.shape (place_of (next stock))
next-inside view client class stock is = verb_at-inside view client class stock stock.phase is.ready is.phase
