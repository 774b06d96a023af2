-- Why a choosing tells what it tells.
use Rattle.std.proofs.Common.{◌≡◌, ◌≢◌, ℕ, ◌+◌, ◌*◌, ◌==◌, Bool, true, false, ◌&&◌, [], length, Option, Some, None, ◌≤◌, refl, sym, ap, subst, ◌∙◌, arith}
use Rattle.std.specs.Prelude.{◌↔◌, bit_and, not, nat_le, nat_lt}
use Rattle.std.proofs.lemmas.Bool.{false≢true}
use Rattle.std.proofs.lemmas.Bool.Decides.{nat_tests}
use Rattle.block_alloc.specs.declared.BlockWord.{BlockWord}
use Rattle.block_alloc.specs.declared.BlockWord.TheVariants.{Unused, Owned, Released}
use Rattle.block_alloc.specs.BlockWord.{block_in}
use Rattle.machine.specs.Choosing.{asked, asks_after, asks_from, at_block, block_at, chooses, first_awaited, looks, next, next_block, not_awaited, on_block, on_block_word, on_first, on_scan, owns, region_at, scanned_all, spreads_from, takes, turn, turn_at, with_awaited, with_block, with_scanned, word_at_block}
use Rattle.machine.specs.declared.choosing.Took.{Took}
use Rattle.machine.specs.declared.choosing.Took.TheVariants.{Going, Have, NoSpace, Refused}
use Rattle.machine.specs.Places.{replica_count}
use Rattle.machine.specs.Stock.{AskFirst, Ask, Claim, Phase, ReadBitmap, ReadBlock, Rest, Scan, Spread, Stock, WriteHead, any_waits, class_stock, first_free, is_own, object_bits, ripened, view_of, with_class_stock}
use Rattle.machine.specs.Turn.{Turn}
use Rattle.object_alloc.proofs.TurnLemmas.{turn_lost}
use Rattle.object_alloc.specs.Causes.{HasObjects, IsSpent}
use Rattle.object_alloc.specs.Choosers.{stock_of, turn_of}
use Rattle.object_alloc.specs.declared.choosers.Chooser.{Chooser}
use Rattle.reuse_epoch.specs.Awaited.{begin_of, client_of, noted, still_awaited}
use Rattle.verb_words.specs.declared.verbs.Answer.{Answer}
use Rattle.verb_words.specs.declared.verbs.Answer.TheVariants.{Word, Done, Lost}
use Rattle.verb_words.specs.Verb.{place_of}

-- what a turn tells has its cause in the stock, and is no refusal
abbrev Causes : Took → Stock → Type 0
Causes Going stock = Unit {0}
Causes (Have object next) stock = HasObjects stock object next
Causes (NoSpace class client begin) stock = IsSpent stock class client begin
Causes (Refused node) stock = Unit {0} → true ≡ false

abbrev IsCaused : Turn Stock Took → Type 0
IsCaused turned = Causes turned.told turned.state

gone_past : (stock : Stock) → nat_lt stock.position (stock.shape.regions * stock.shape.blocks) ≡ false → stock.shape.regions * stock.shape.blocks ≤ stock.position
gone_past stock last = grind (arith, nat_tests)

at_block-caused : (stock : Stock) → IsCaused (at_block stock)
at_block-caused stock = by (nat_lt stock.position (stock.shape.regions * stock.shape.blocks)) refl
  where
    by : (t : Bool) → nat_lt stock.position (stock.shape.regions * stock.shape.blocks) ≡ t → IsCaused (at_block stock)
    by true within = rw within tt
    by false last = rw last (record { class_is = refl; past = gone_past stock last; awaited = refl })

takes-caused : (stock : Stock) (free : ℕ) → first_free stock.class (class_stock stock) ≡ Some free → IsCaused (takes stock free)
takes-caused stock free ripe = by (class_stock stock).reserve refl
  where
    by : (reserve : Option ℕ) → (class_stock stock).reserve ≡ reserve → IsCaused (takes stock free)
    by (Some reserve) some = rw some (record { reserve_is = some; next_is = ripe })
    by None none = rw none tt

looks-caused : (stock : Stock) → IsCaused (looks stock)
looks-caused stock = by (nat_lt 0 (length (class_stock stock).awaited)) refl (not stock.scanned && nat_lt 0 (length (class_stock stock).own)) refl
  where
    by : (t : Bool) → nat_lt 0 (length (class_stock stock).awaited) ≡ t → (u : Bool) → (not stock.scanned && nat_lt 0 (length (class_stock stock).own)) ≡ u → IsCaused (looks stock)
    by true some u scan = rw some tt
    by false none true scan = rw (none, scan) tt
    by false none false done = rw (none, done) (at_block-caused stock)

chooses-caused : (stock : Stock) → IsCaused (chooses stock)
chooses-caused stock = by (first_free stock.class (class_stock stock)) refl
  where
    by : (free : Option ℕ) → first_free stock.class (class_stock stock) ≡ free → IsCaused (chooses stock)
    by None none = rw none (looks-caused stock)
    by (Some free) some = rw some (takes-caused stock free some)

asked-caused : (stock : Stock) → IsCaused (asked stock)
asked-caused stock = by (length (class_stock stock).awaited == 0) refl
  where
    by : (t : Bool) → (length (class_stock stock).awaited == 0) ≡ t → IsCaused (asked stock)
    by true none = rw none (chooses-caused (with_class_stock stock (ripened (class_stock stock))))
    by false some = rw some (at_block-caused stock)

asks_after-caused : (stock : Stock) (client : ℕ) → IsCaused (asks_after stock client)
asks_after-caused stock client = by (nat_le client stock.shape.clients) refl
  where
    by : (t : Bool) → nat_le client stock.shape.clients ≡ t → IsCaused (asks_after stock client)
    by true within = rw within tt
    by false beyond = rw beyond (asked-caused stock)

asks_from-caused : (stock : Stock) (client : ℕ) → IsCaused (asks_from stock client)
asks_from-caused stock client = by (client == stock.client) refl
  where
    by : (t : Bool) → (client == stock.client) ≡ t → IsCaused (asks_from stock client)
    by true own = rw own (asks_after-caused stock (client + 1))
    by false other = rw other (asks_after-caused stock client)

not_awaited-caused : (stock : Stock) → IsCaused (not_awaited stock)
not_awaited-caused stock = by (length (class_stock stock).awaited == 0) refl
  where
    by : (t : Bool) → (length (class_stock stock).awaited == 0) ≡ t → IsCaused (not_awaited stock)
    by true none = rw none (chooses-caused (with_class_stock stock (ripened (class_stock stock))))
    by false some = rw some tt

on_first-caused : (stock : Stock) (found : ℕ) → IsCaused (on_first stock found)
on_first-caused stock found = by (found == begin_of (first_awaited stock)) refl
  where
    by : (t : Bool) → (found == begin_of (first_awaited stock)) ≡ t → IsCaused (on_first stock found)
    by true same = rw same (at_block-caused stock)
    by false other = rw other (not_awaited-caused (with_awaited stock (still_awaited (class_stock stock).awaited (client_of (first_awaited stock)) found)))

scanned_all-caused : (stock : Stock) → IsCaused (scanned_all stock)
scanned_all-caused stock = by (any_waits (class_stock stock)) refl
  where
    by : (t : Bool) → any_waits (class_stock stock) ≡ t → IsCaused (scanned_all stock)
    by true some = rw some (asks_from-caused stock 1)
    by false nothing = rw nothing (at_block-caused stock)

on_scan-caused : (stock : Stock) (i : ℕ) → IsCaused (on_scan stock i)
on_scan-caused stock i = by (nat_lt (i + 1) (length (class_stock stock).own)) refl
  where
    by : (t : Bool) → nat_lt (i + 1) (length (class_stock stock).own) ≡ t → IsCaused (on_scan stock i)
    by true more = rw more tt
    by false last = rw last (scanned_all-caused (record stock { scanned = true }))

owns-caused : (stock : Stock) (unused : Bool) → IsCaused (owns stock unused)
owns-caused stock true = chooses-caused (with_block stock (object_bits stock.class) 0)
owns-caused stock false = tt

spreads_from-caused : (stock : Stock) (unused : Bool) (backup : ℕ) → IsCaused (spreads_from stock unused backup)
spreads_from-caused stock unused backup = by (nat_lt (backup + 1) (replica_count (view_of stock) (word_at_block stock))) refl
  where
    by : (t : Bool) → nat_lt (backup + 1) (replica_count (view_of stock) (word_at_block stock)) ≡ t → IsCaused (spreads_from stock unused backup)
    by true more = rw more tt
    by false last = rw last (owns-caused stock unused)

next_block-caused : (stock : Stock) → IsCaused (next_block stock)
next_block-caused stock = at_block-caused (record stock { position = stock.position + 1 })

on_block-caused : (stock : Stock) (found : ℕ) (word : Option BlockWord) → IsCaused (on_block stock found word)
on_block-caused stock found None = next_block-caused stock
on_block-caused stock found (Some Unused) = tt
on_block-caused stock found (Some (Released class)) = by (class == stock.class) refl
  where
    by : (t : Bool) → (class == stock.class) ≡ t → IsCaused (on_block stock found (Some (Released class)))
    by true same = rw same tt
    by false other = rw other (next_block-caused stock)
on_block-caused stock found (Some (Owned client class)) = by ((client == stock.client) && (class == stock.class)) refl
  where
    by : (t : Bool) → ((client == stock.client) && (class == stock.class)) ≡ t → IsCaused (on_block stock found (Some (Owned client class)))
    by true same = rw same (spreads_from-caused stock false 0)
    by false other = rw other (next_block-caused stock)

on_block_word-caused : (stock : Stock) (found : ℕ) → IsCaused (on_block_word stock found)
on_block_word-caused stock found = by (is_own stock (region_at stock) (block_at stock)) refl
  where
    by : (t : Bool) → is_own stock (region_at stock) (block_at stock) ≡ t → IsCaused (on_block_word stock found)
    by true owned = rw owned (next_block-caused stock)
    by false none = rw none (on_block-caused stock found (block_in found))

word-caused : (phase : Phase) (stock : Stock) (found : ℕ) → IsCaused (turn_at phase stock (Word found))
word-caused Rest stock found = tt
word-caused AskFirst stock found = on_first-caused stock found
word-caused (Scan i) stock found = on_scan-caused (with_scanned stock i found) i
word-caused (Ask client) stock found = asks_from-caused (with_awaited stock (noted (class_stock stock).awaited client found)) (client + 1)
word-caused ReadBlock stock found = on_block_word-caused stock found
word-caused (Claim word) stock found = by (found == word) refl
  where
    by : (t : Bool) → (found == word) ≡ t → IsCaused (turn_at (Claim word) stock (Word found))
    by true swapped = rw swapped (spreads_from-caused stock (word == 0) 0)
    by false lost = rw lost (next_block-caused stock)
word-caused (Spread unused backup) stock found = tt
word-caused ReadBitmap stock found = asks_from-caused (with_awaited (with_block stock 0 (bit_and found (object_bits stock.class))) []) 1
word-caused WriteHead stock found = tt

done-caused : (phase : Phase) (stock : Stock) → IsCaused (turn_at phase stock Done)
done-caused Rest stock = tt
done-caused AskFirst stock = tt
done-caused (Scan i) stock = tt
done-caused (Ask client) stock = tt
done-caused ReadBlock stock = tt
done-caused (Claim word) stock = tt
done-caused (Spread unused backup) stock = spreads_from-caused stock unused (backup + 1)
done-caused ReadBitmap stock = tt
done-caused WriteHead stock = chooses-caused (record stock { scanned = false; position = 0 })

never : (told : Took) (stock : Stock) (node : ℕ) → Causes told stock → told ≡ Refused node → true ≡ false
never told stock node caused is = subst (λ t. Causes t stock) is caused tt

refused_node : (one other : ℕ) → Refused one ≡ Refused other → other ≡ one
refused_node one other same = cc

-- exactly where the answer is that the node is lost, a choosing is refused, by that node
pub turn-refused : (stock : Stock) (answer : Answer) (node : ℕ) → ((turn stock answer).told ≡ Refused node) ↔ ((answer ≡ Lost) × (node ≡ (place_of (next stock)).node))
turn-refused stock (Word found) node = (λ is. absurd (false≢true (sym (never _ _ node (word-caused stock.phase stock found) is))), λ lost. absurd (let bad = lost.0 in cc))
turn-refused stock Done node = (λ is. absurd (false≢true (sym (never _ _ node (done-caused stock.phase stock) is))), λ lost. absurd (let bad = lost.0 in cc))
turn-refused stock Lost node =
    let told = ap (λ (t : Turn Stock Took). t.told) (turn_lost stock.phase stock) in
    (λ is. (refl, refused_node _ node (sym told ∙ is)), λ lost. told ∙ ap Refused (sym lost.1))

pub after-refused : (before after : Chooser) (now : Stock) (told : Took) (answer : Answer) (node : ℕ) → stock_of before ≡ now → turn_of after told ≡ turn (stock_of before) answer
    → (told ≡ Refused node) ↔ ((answer ≡ Lost) × (node ≡ (place_of (next now)).node))
after-refused before after now told answer node same is =
    subst (λ t. (t ≡ Refused node) ↔ ((answer ≡ Lost) × (node ≡ (place_of (next now)).node))) (sym (ap (λ (t : Turn Stock Took). t.told) (is ∙ ap (λ s. turn s answer) same))) (turn-refused now answer node)

-- ---- the program's stock

-- what an answer tells, but for a refusal, has its cause in the stock
answer-caused : (stock : Stock) (answer : Answer) (told : Took) → told ≡ (turn stock answer).told → ((node : ℕ) → told ≢ Refused node) → Causes told (turn stock answer).state
answer-caused stock (Word found) told is other = subst (λ t. Causes t (turn stock (Word found)).state) (sym is) (word-caused stock.phase stock found)
answer-caused stock Done told is other = subst (λ t. Causes t (turn stock Done).state) (sym is) (done-caused stock.phase stock)
answer-caused stock Lost told is other = absurd (other _ (is ∙ ap (λ (t : Turn Stock Took). t.told) (turn_lost stock.phase stock)))

pub after-has : (before after : Chooser) (told : Took) (answer : Answer) (object next : ℕ) → turn_of after told ≡ turn (stock_of before) answer → told ≡ Have object next → HasObjects (stock_of after) object next
after-has before after told answer object next is has =
    subst (λ s. HasObjects s object next) (sym (ap (λ (t : Turn Stock Took). t.state) is))
    (answer-caused (stock_of before) answer (Have object next) (sym has ∙ ap (λ (t : Turn Stock Took). t.told) is) (λ node. λ same. cc))

-- where it tells that no object is left, none is
pub turn-spent : (stock : Stock) (answer : Answer) (class client begin : ℕ) → (turn stock answer).told ≡ NoSpace class client begin → IsSpent (turn stock answer).state class client begin
turn-spent stock answer class client begin none = answer-caused stock answer (NoSpace class client begin) (sym none) (λ node. λ same. cc)

pub after-spent : (before after : Chooser) (told : Took) (answer : Answer) (class client begin : ℕ) → turn_of after told ≡ turn (stock_of before) answer → told ≡ NoSpace class client begin → IsSpent (stock_of after) class client begin
after-spent before after told answer class client begin is none =
    subst (λ s. IsSpent s class client begin) (sym (ap (λ (t : Turn Stock Took). t.state) is))
    (turn-spent (stock_of before) answer class client begin (sym (ap (λ (t : Turn Stock Took). t.told) is) ∙ none))
