-- A stock stays in order, whatever is answered.
use Rattle.std.proofs.Common.{◌≡◌, ◌≢◌, ℕ, zero, suc, ◌+◌, ◌-◌, ◌*◌, ◌/◌, ◌%◌, ◌<◌, ◌==◌, ◌⊎◌, inl, inr, Bool, true, false, ◌&&◌, ◌||◌, List, [], ◌∷◌, length, map, Option, Some, None, refl, sym, ap, subst, ◌∙◌, arith, length-set}
use Rattle.std.specs.Prelude.{All, bit_and, not, nat_le, nat_lt, slice_index_or, slice_set}
use Rattle.std.specs.List.{AllByRecursion, IsDistinct, list_any}
use Rattle.std.proofs.Math.Seq.{map-set_same}
use Rattle.std.proofs.lemmas.Bool.{false≢true}
use Rattle.std.proofs.lemmas.Bool.Decides.{eqb_tells, nat_tests}
use Rattle.std.proofs.lemmas.List.{get_or-set_other, get_or-set_same}
use Rattle.std.proofs.lemmas.List.Elements.{All-append}
use Rattle.std.proofs.lemmas.Nat.{div-add-mod'}
use Rattle.block_alloc.specs.declared.BlockWord.{BlockWord}
use Rattle.block_alloc.specs.declared.BlockWord.TheVariants.{Unused, Owned, Released}
use Rattle.block_alloc.specs.BlockWord.{block_in}
use Rattle.machine.specs.Choosing.{asked, asks_after, asks_from, at_block, begins, block_at, chooses, first_awaited, goes_to, looks, next_block, no_block, not_awaited, on_block, on_block_word, on_first, on_scan, own_at, owns, region_at, rests, ripens, scanned_all, spreads_from, takes, turn, turn_at, with_awaited, with_block, with_scanned, word_at_block}
use Rattle.machine.specs.declared.choosing.Took.{Took}
use Rattle.machine.specs.declared.choosing.Took.TheVariants.{Have, NoSpace}
use Rattle.machine.specs.Places.{replica_count}
use Rattle.machine.specs.Stock.{AskFirst, Ask, Claim, ClassStock, IsOwn, OwnBlock, Phase, ReadBitmap, ReadBlock, Rest, Scan, Spread, Stock, WriteHead, any_waits, class_stock, first_free, is_block, is_own, no_stock, object_bits, ripened, ripened_block, scanned_block, view_of, with_class_stock}
use Rattle.object_alloc.proofs.OrderLemmas.{apart-push, not_own-apart}
use Rattle.object_alloc.specs.Held.{IsApart, IsNotOwn, IsOn, number_in}
use Rattle.object_form.specs.declared.classes.TheConstants.{CLASSES}
use Rattle.region_view.specs.Sizes.{Sizes}
use Rattle.reuse_epoch.specs.Awaited.{Awaited, begin_of, client_of, noted, still_awaited}
use Rattle.verb_words.specs.declared.verbs.Answer.{Answer}
use Rattle.verb_words.specs.declared.verbs.Answer.TheVariants.{Word, Done, Lost}

-- the own blocks of each class are blocks of the pool, and no block stands twice in a class
pub record IsBase (stock : Stock) : Type 0 where
  pub whole : length stock.classes ≡ CLASSES
  pub class : stock.class < CLASSES
  pub apart : (class : ℕ) → class < CLASSES → IsApart stock.shape (slice_index_or stock.classes class no_stock)

pub record IsOrderly (stock : Stock) : Type 0 where
  pub base : IsBase stock
  pub on : IsOn stock.phase stock

-- ---- changes of the stock

-- what a mask, a mark, a position or a phase does not change
other_marks : (stock : Stock) (scanned : Bool) (position : ℕ) (phase : Phase) → IsBase stock → IsBase (record stock { scanned = scanned; position = position; phase = phase })
other_marks stock scanned position phase is = record { whole = is.whole; class = is.class; apart = is.apart }

-- the stock of one class is replaced
pub set-apart : (sizes : Sizes) (classes : List ClassStock) (class : ℕ) (of_class : ClassStock) → class < length classes → ((other : ℕ) → other < CLASSES → IsApart sizes (slice_index_or classes other no_stock)) → IsApart sizes of_class
    → (other : ℕ) → other < CLASSES → IsApart sizes (slice_index_or (slice_set classes class of_class) other no_stock)
set-apart sizes classes class of_class below all is other under = by (eqb_tells other class)
  where
    by : (((other == class) ≡ true) × (other ≡ class)) ⊎ (((other == class) ≡ false) × (other ≢ class)) → IsApart sizes (slice_index_or (slice_set classes class of_class) other no_stock)
    by (inl (test, same)) = let P : ℕ → Type 0 = λ n. IsApart sizes (slice_index_or (slice_set classes class of_class) n no_stock) in
        subst P (sym same) (subst (IsApart sizes) (sym (get_or-set_same classes class of_class no_stock below)) is)
    by (inr (test, differ)) = subst (IsApart sizes) (sym (get_or-set_other classes class other of_class no_stock differ)) (all other under)

with_class : (stock : Stock) (of_class : ClassStock) → IsBase stock → IsApart stock.shape of_class → IsBase (with_class_stock stock of_class)
with_class stock of_class is apart = record {
  whole = length-set stock.classes stock.class of_class ∙ is.whole;
  class = is.class;
  apart = set-apart stock.shape stock.classes stock.class of_class (let whole = is.whole in let below = is.class in omega arith) is.apart apart;
}

here : (stock : Stock) → IsBase stock → IsApart stock.shape (class_stock stock)
here stock is = is.apart stock.class is.class

pub class_stock-with : (stock : Stock) (of_class : ClassStock) → IsBase stock → class_stock (with_class_stock stock of_class) ≡ of_class
class_stock-with stock of_class is = get_or-set_same stock.classes stock.class of_class no_stock (let whole = is.whole in let below = is.class in omega arith)

awaiting : (stock : Stock) (awaited : List Awaited) → IsBase stock → IsBase (with_awaited stock awaited)
awaiting stock awaited is = with_class stock _ is (here stock is)

awaited-with : (stock : Stock) (awaited : List Awaited) → IsBase stock → (class_stock (with_awaited stock awaited)).awaited ≡ awaited
awaited-with stock awaited is = ap (λ (of_class : ClassStock). of_class.awaited) (class_stock-with stock (record (class_stock stock) { awaited = awaited }) is)

-- each block is changed, and stays the block that it is
numbers-map : (sizes : Sizes) (f : OwnBlock → OwnBlock) (own : List OwnBlock) → ((one : OwnBlock) → number_in sizes (f one) ≡ number_in sizes one) → map (number_in sizes) (map f own) ≡ map (number_in sizes) own
numbers-map sizes f [] same = refl
numbers-map sizes f (one ∷ own) same = λ i. same one i ∷ numbers-map sizes f own same i

pub apart-map : (sizes : Sizes) (f : OwnBlock → OwnBlock) (of_class : ClassStock) → ((one : OwnBlock) → number_in sizes (f one) ≡ number_in sizes one) → IsApart sizes of_class → IsApart sizes (record of_class { own = map f of_class.own })
apart-map sizes f of_class same is = subst (IsDistinct (λ one other. one == other)) (sym (numbers-map sizes f of_class.own same)) is

scanned-apart : (stock : Stock) (i found : ℕ) → IsBase stock → IsBase (with_scanned stock i found)
scanned-apart stock i found is =
    with_class stock _ is
    (subst (IsDistinct (λ one other. one == other)) (sym (map-set_same (number_in stock.shape) (class_stock stock).own i (scanned_block stock.class (class_stock stock) (own_at stock i) found) no_block refl)) (here stock is))

-- a block is none of the class's own, where it is none of all
not_own-here : (stock : Stock) → IsBase stock → IsNotOwn stock → list_any (is_block (region_at stock) (block_at stock)) (class_stock stock).own ≡ false
not_own-here stock is none = nowhere stock.classes stock.class (let whole = is.whole in let below = is.class in omega arith) none
  where
    step : (test : Bool) (classes : List ClassStock) → (test || list_any (λ of_class. list_any (is_block (region_at stock) (block_at stock)) of_class.own) classes) ≡ false
        → (test ≡ false) × (list_any (λ of_class. list_any (is_block (region_at stock) (block_at stock)) of_class.own) classes ≡ false)
    step true classes any = absurd (false≢true (sym any))
    step false classes any = (refl, any)

    nowhere : (classes : List ClassStock) (k : ℕ) → k < length classes → list_any (λ of_class. list_any (is_block (region_at stock) (block_at stock)) of_class.own) classes ≡ false
        → list_any (is_block (region_at stock) (block_at stock)) (slice_index_or classes k no_stock).own ≡ false
    nowhere [] k below any = absurd (omega arith)
    nowhere (one ∷ classes) zero below any = (step _ classes any).0
    nowhere (one ∷ classes) (suc k) below any = nowhere classes k (omega arith) (step _ classes any).1

-- the number of the block at the position is the position
number-here : (stock : Stock) (ripe waiting : ℕ) → number_in stock.shape (record { region = region_at stock; block = block_at stock; ripe = ripe; waiting = waiting }) ≡ stock.position
number-here stock ripe waiting =
    let before : 1 + stock.position / stock.shape.blocks - 1 ≡ stock.position / stock.shape.blocks = omega arith in
    ap (λ n. n * stock.shape.blocks + stock.position % stock.shape.blocks) before ∙ div-add-mod' stock.position stock.shape.blocks

pub gained-apart : (stock : Stock) → IsBase stock → All (IsOwn stock.shape stock.class) (class_stock stock).own → IsNotOwn stock
    → AllByRecursion (λ n. (n == stock.position) ≡ false) (map (number_in stock.shape) (class_stock stock).own)
gained-apart stock is own none = not_own-apart stock.shape stock.class stock.position (class_stock stock).own own (not_own-here stock is none)

gaining : (stock : Stock) (ripe waiting : ℕ) → IsBase stock → All (IsOwn stock.shape stock.class) (class_stock stock).own → IsNotOwn stock → IsBase (with_block stock ripe waiting)
gaining stock ripe waiting is own none =
    let new : OwnBlock = record { region = region_at stock; block = block_at stock; ripe = ripe; waiting = waiting } in
    let fresh = subst (λ p. AllByRecursion (λ n. (n == p) ≡ false) (map (number_in stock.shape) (class_stock stock).own)) (sym (number-here stock ripe waiting)) (gained-apart stock is own none) in
    other_marks _ stock.scanned (stock.position + 1) stock.phase (with_class stock _ is (apart-push stock.shape (class_stock stock) new (here stock is) fresh))

-- ---- turns

goes : (stock : Stock) (phase : Phase) → IsBase stock → IsOn phase (record stock { phase = phase }) → IsOrderly (goes_to stock phase).state
goes stock phase is on = record { base = other_marks stock stock.scanned stock.position phase is; on = on }

rest : (stock : Stock) (told : Took) → IsBase stock → IsOrderly (rests stock told).state
rest stock told is = record { base = other_marks stock stock.scanned stock.position Rest is; on = tt }

at_block-orderly : (stock : Stock) → IsBase stock → IsOrderly (at_block stock).state
at_block-orderly stock is = by (nat_lt stock.position (stock.shape.regions * stock.shape.blocks)) refl
  where
    by : (t : Bool) → nat_lt stock.position (stock.shape.regions * stock.shape.blocks) ≡ t → IsOrderly (at_block stock).state
    by true within = rw within (goes stock ReadBlock is tt)
    by false last = rw last (rest stock (NoSpace stock.class (client_of (first_awaited stock)) (begin_of (first_awaited stock))) is)

next_block-orderly : (stock : Stock) → IsBase stock → IsOrderly (next_block stock).state
next_block-orderly stock is = at_block-orderly _ (other_marks stock stock.scanned (stock.position + 1) stock.phase is)

takes-orderly : (stock : Stock) (free : ℕ) → IsBase stock → IsOrderly (takes stock free).state
takes-orderly stock free is = by (class_stock stock).reserve refl
  where
    by : (reserve : Option ℕ) → (class_stock stock).reserve ≡ reserve → IsOrderly (takes stock free).state
    by (Some reserve) some = rw some (rest stock (Have reserve free) is)
    by None none = rw none (goes _ WriteHead (with_class stock _ is (here stock is)) tt)

none_awaited : (awaited : List Awaited) → nat_lt 0 (length awaited) ≡ false → awaited ≡ []
none_awaited [] none = refl
none_awaited (one ∷ awaited) none = absurd (let some : 0 < length (one ∷ awaited) = omega arith in grind (arith, nat_tests))

looks-orderly : (stock : Stock) → IsBase stock → IsOrderly (looks stock).state
looks-orderly stock is = by (nat_lt 0 (length (class_stock stock).awaited)) refl (not stock.scanned && nat_lt 0 (length (class_stock stock).own)) refl
  where
    by : (t : Bool) → nat_lt 0 (length (class_stock stock).awaited) ≡ t → (u : Bool) → (not stock.scanned && nat_lt 0 (length (class_stock stock).own)) ≡ u → IsOrderly (looks stock).state
    by true some u scan = rw some (goes stock AskFirst is tt)
    by false none true scan = rw (none, scan) (goes stock (Scan 0) is (none_awaited (class_stock stock).awaited none))
    by false none false done = rw (none, done) (at_block-orderly stock is)

chooses-orderly : (stock : Stock) → IsBase stock → IsOrderly (chooses stock).state
chooses-orderly stock is = by (first_free stock.class (class_stock stock)) refl
  where
    by : (free : Option ℕ) → first_free stock.class (class_stock stock) ≡ free → IsOrderly (chooses stock).state
    by None none = rw none (looks-orderly stock is)
    by (Some free) some = rw some (takes-orderly stock free is)

pub begins-orderly : (stock : Stock) (mask class : ℕ) → IsBase stock → class < CLASSES → IsOrderly (begins stock mask class).state
begins-orderly stock mask class is below = chooses-orderly (record stock { mask = mask; class = class; scanned = false; position = 0 }) (record { whole = is.whole; class = below; apart = is.apart })

ripens-orderly : (stock : Stock) → IsBase stock → IsOrderly (ripens stock).state
ripens-orderly stock is = chooses-orderly _ (with_class stock (ripened (class_stock stock)) is (apart-map stock.shape ripened_block (class_stock stock) (λ one. refl) (here stock is)))

asked-orderly : (stock : Stock) → IsBase stock → IsOrderly (asked stock).state
asked-orderly stock is = by (length (class_stock stock).awaited == 0) refl
  where
    by : (t : Bool) → (length (class_stock stock).awaited == 0) ≡ t → IsOrderly (asked stock).state
    by true none = rw none (ripens-orderly stock is)
    by false some = rw some (at_block-orderly stock is)

-- the clients that are awaited have lower numbers than this one
IsAbove : Stock → ℕ → Type 0
IsAbove stock client = All (λ one. client_of one < client) (class_stock stock).awaited

asks_after-orderly : (stock : Stock) (client : ℕ) → IsBase stock → IsAbove stock client → IsOrderly (asks_after stock client).state
unfolding IsAbove
asks_after-orderly stock client is above = by (nat_le client stock.shape.clients) refl
  where
    by : (t : Bool) → nat_le client stock.shape.clients ≡ t → IsOrderly (asks_after stock client).state
    by true within = rw within (goes stock (Ask client) is above)
    by false beyond = rw beyond (asked-orderly stock is)

asks_from-orderly : (stock : Stock) (client : ℕ) → IsBase stock → IsAbove stock client → IsOrderly (asks_from stock client).state
unfolding IsAbove
asks_from-orderly stock client is above = by (client == stock.client) refl
  where
    by : (t : Bool) → (client == stock.client) ≡ t → IsOrderly (asks_from stock client).state
    by true own = rw own (asks_after-orderly stock (client + 1) is (λ k d under. let lower = above k d under in omega arith))
    by false other = rw other (asks_after-orderly stock client is above)

nobody-above : (stock : Stock) (client : ℕ) → (class_stock stock).awaited ≡ [] → IsAbove stock client
unfolding IsAbove
nobody-above stock client none = subst (All (λ one. client_of one < client)) (sym none) (λ k d under. absurd (omega arith))

not_awaited-orderly : (stock : Stock) → IsBase stock → IsOrderly (not_awaited stock).state
not_awaited-orderly stock is = by (length (class_stock stock).awaited == 0) refl
  where
    by : (t : Bool) → (length (class_stock stock).awaited == 0) ≡ t → IsOrderly (not_awaited stock).state
    by true none = rw none (ripens-orderly stock is)
    by false some = rw some (goes stock AskFirst is tt)

on_first-orderly : (stock : Stock) (found : ℕ) → IsBase stock → IsOrderly (on_first stock found).state
on_first-orderly stock found is = by (found == begin_of (first_awaited stock)) refl
  where
    by : (t : Bool) → (found == begin_of (first_awaited stock)) ≡ t → IsOrderly (on_first stock found).state
    by true same = rw same (at_block-orderly stock is)
    by false other = rw other (not_awaited-orderly _ (awaiting stock (still_awaited (class_stock stock).awaited (client_of (first_awaited stock)) found) is))

scanned_all-orderly : (stock : Stock) → IsBase stock → (class_stock stock).awaited ≡ [] → IsOrderly (scanned_all stock).state
scanned_all-orderly stock is none = by (any_waits (class_stock stock)) refl
  where
    by : (t : Bool) → any_waits (class_stock stock) ≡ t → IsOrderly (scanned_all stock).state
    by true some = rw some (asks_from-orderly stock 1 is (nobody-above stock 1 none))
    by false nothing = rw nothing (at_block-orderly stock is)

on_scan-orderly : (stock : Stock) (i : ℕ) → IsBase stock → (class_stock stock).awaited ≡ [] → IsOrderly (on_scan stock i).state
on_scan-orderly stock i is none = by (nat_lt (i + 1) (length (class_stock stock).own)) refl
  where
    by : (t : Bool) → nat_lt (i + 1) (length (class_stock stock).own) ≡ t → IsOrderly (on_scan stock i).state
    by true more = rw more (goes stock (Scan (i + 1)) is none)
    by false last = rw last (scanned_all-orderly (record stock { scanned = true }) (other_marks stock true stock.position stock.phase is) none)

-- the own blocks of the class are blocks of the pool
IsOwnAll : Stock → Type 0
IsOwnAll stock = All (IsOwn stock.shape stock.class) (class_stock stock).own

owns-orderly : (stock : Stock) (unused : Bool) → IsBase stock → IsOwnAll stock → IsNotOwn stock → IsOrderly (owns stock unused).state
unfolding IsOwnAll
owns-orderly stock true is own none = chooses-orderly _ (gaining stock (object_bits stock.class) 0 is own none)
owns-orderly stock false is own none = goes stock ReadBitmap is none

spreads_from-orderly : (stock : Stock) (unused : Bool) (backup : ℕ) → IsBase stock → IsOwnAll stock → IsNotOwn stock → IsOrderly (spreads_from stock unused backup).state
spreads_from-orderly stock unused backup is own none = by (nat_lt (backup + 1) (replica_count (view_of stock) (word_at_block stock))) refl
  where
    by : (t : Bool) → nat_lt (backup + 1) (replica_count (view_of stock) (word_at_block stock)) ≡ t → IsOrderly (spreads_from stock unused backup).state
    by true more = rw more (goes stock (Spread unused backup) is none)
    by false last = rw last (owns-orderly stock unused is own none)

on_block-orderly : (stock : Stock) (found : ℕ) (word : Option BlockWord) → IsBase stock → IsOwnAll stock → IsNotOwn stock → IsOrderly (on_block stock found word).state
on_block-orderly stock found None is own none = next_block-orderly stock is
on_block-orderly stock found (Some Unused) is own none = goes stock (Claim found) is none
on_block-orderly stock found (Some (Released class)) is own none = by (class == stock.class) refl
  where
    by : (t : Bool) → (class == stock.class) ≡ t → IsOrderly (on_block stock found (Some (Released class))).state
    by true same = rw same (goes stock (Claim found) is none)
    by false other = rw other (next_block-orderly stock is)
on_block-orderly stock found (Some (Owned client class)) is own none = by ((client == stock.client) && (class == stock.class)) refl
  where
    by : (t : Bool) → ((client == stock.client) && (class == stock.class)) ≡ t → IsOrderly (on_block stock found (Some (Owned client class))).state
    by true same = rw same (spreads_from-orderly stock false 0 is own none)
    by false other = rw other (next_block-orderly stock is)

on_block_word-orderly : (stock : Stock) (found : ℕ) → IsBase stock → IsOwnAll stock → IsOrderly (on_block_word stock found).state
on_block_word-orderly stock found is own = by (is_own stock (region_at stock) (block_at stock)) refl
  where
    by : (t : Bool) → is_own stock (region_at stock) (block_at stock) ≡ t → IsOrderly (on_block_word stock found).state
    by true owned = rw owned (next_block-orderly stock is)
    by false none = rw none (on_block-orderly stock found (block_in found) is own none)

-- ---- by phases

gaining-unfolded : (stock : Stock) (ripe waiting : ℕ) → IsBase stock → IsOwnAll stock → IsNotOwn stock → IsBase (with_block stock ripe waiting)
unfolding IsOwnAll
gaining-unfolded stock ripe waiting is own none = gaining stock ripe waiting is own none

noted-above : (awaited : List Awaited) (client found : ℕ) → All (λ one. client_of one < client) awaited → All (λ one. client_of one < client + 1) (noted awaited client found)
noted-above awaited client found above = by (found % 2 == 1) refl
  where
    before : All (λ one. client_of one < client + 1) awaited
    before = λ k d under. let lower = above k d under in omega arith

    by : (t : Bool) → (found % 2 == 1) ≡ t → All (λ one. client_of one < client + 1) (noted awaited client found)
    by true odd = rw odd (All-append (λ one. client_of one < client + 1) awaited ((client, found) ∷ []) before (λ k d under. let first : k ≡ 0 = omega arith in rw first (omega arith)))
    by false even = rw even before

above-with : (stock : Stock) (client found : ℕ) → IsBase stock → All (λ one. client_of one < client) (class_stock stock).awaited
    → IsAbove (with_awaited stock (noted (class_stock stock).awaited client found)) (client + 1)
unfolding IsAbove
above-with stock client found is above =
    subst (All (λ one. client_of one < client + 1)) (sym (awaited-with stock (noted (class_stock stock).awaited client found) is))
    (noted-above (class_stock stock).awaited client found above)

stays : (stock : Stock) (phase : Phase) → stock.phase ≡ phase → IsBase stock → IsOn phase stock → IsOrderly stock
stays stock phase at is on = record { base = is; on = subst (λ p. IsOn p stock) (sym at) on }

turn_at-orderly : (stock : Stock) (phase : Phase) (answer : Answer) → stock.phase ≡ phase → IsBase stock → IsOwnAll stock → IsOn phase stock → IsOrderly (turn_at phase stock answer).state
turn_at-orderly stock AskFirst (Word found) at is own on = on_first-orderly stock found is
turn_at-orderly stock (Scan i) (Word found) at is own on =
    on_scan-orderly (with_scanned stock i found) i (scanned-apart stock i found is)
    (ap (λ (of_class : ClassStock). of_class.awaited) (class_stock-with stock _ is) ∙ on)
turn_at-orderly stock (Ask client) (Word found) at is own on =
    asks_from-orderly (with_awaited stock (noted (class_stock stock).awaited client found)) (client + 1) (awaiting stock _ is)
    (above-with stock client found is on)
turn_at-orderly stock ReadBlock (Word found) at is own on = on_block_word-orderly stock found is own
turn_at-orderly stock (Claim word) (Word found) at is own on = by (found == word) refl
  where
    by : (t : Bool) → (found == word) ≡ t → IsOrderly (turn_at (Claim word) stock (Word found)).state
    by true swapped = rw swapped (spreads_from-orderly stock (word == 0) 0 is own on)
    by false lost = rw lost (next_block-orderly stock is)
turn_at-orderly stock (Spread unused backup) Done at is own on = spreads_from-orderly stock unused (backup + 1) is own on
turn_at-orderly stock ReadBitmap (Word found) at is own on =
    let gained = with_block stock 0 (bit_and found (object_bits stock.class)) in
    let base = gaining-unfolded stock 0 (bit_and found (object_bits stock.class)) is own on in
    asks_from-orderly (with_awaited gained []) 1 (awaiting gained [] base) (nobody-above (with_awaited gained []) 1 (awaited-with gained [] base))
turn_at-orderly stock WriteHead Done at is own on = begins-orderly stock stock.mask stock.class is is.class
turn_at-orderly stock Rest (Word found) at is own on = stays stock Rest at is on
turn_at-orderly stock Rest Done at is own on = stays stock Rest at is on
turn_at-orderly stock Rest Lost at is own on = stays stock Rest at is on
turn_at-orderly stock AskFirst Done at is own on = stays stock AskFirst at is on
turn_at-orderly stock AskFirst Lost at is own on = stays stock AskFirst at is on
turn_at-orderly stock (Scan i) Done at is own on = stays stock (Scan i) at is on
turn_at-orderly stock (Scan i) Lost at is own on = stays stock (Scan i) at is on
turn_at-orderly stock (Ask client) Done at is own on = stays stock (Ask client) at is on
turn_at-orderly stock (Ask client) Lost at is own on = stays stock (Ask client) at is on
turn_at-orderly stock ReadBlock Done at is own on = stays stock ReadBlock at is on
turn_at-orderly stock ReadBlock Lost at is own on = stays stock ReadBlock at is on
turn_at-orderly stock (Claim word) Done at is own on = stays stock (Claim word) at is on
turn_at-orderly stock (Claim word) Lost at is own on = stays stock (Claim word) at is on
turn_at-orderly stock (Spread unused backup) (Word found) at is own on = stays stock (Spread unused backup) at is on
turn_at-orderly stock (Spread unused backup) Lost at is own on = stays stock (Spread unused backup) at is on
turn_at-orderly stock ReadBitmap Done at is own on = stays stock ReadBitmap at is on
turn_at-orderly stock ReadBitmap Lost at is own on = stays stock ReadBitmap at is on
turn_at-orderly stock WriteHead (Word found) at is own on = stays stock WriteHead at is on
turn_at-orderly stock WriteHead Lost at is own on = stays stock WriteHead at is on

pub turn-orderly : (stock : Stock) (answer : Answer) → IsOrderly stock → All (IsOwn stock.shape stock.class) (class_stock stock).own → IsOrderly (turn stock answer).state
unfolding IsOwnAll
turn-orderly stock answer is own = turn_at-orderly stock stock.phase answer refl is.base own is.on
