-- A choosing that tells that no object is left has passed over each block that is not the client's own.
use Rattle.std.proofs.Common.{◌≡◌, ◌≢◌, ℕ, zero, suc, ◌+◌, ◌*◌, ◌/◌, ◌%◌, ◌<◌, ◌≤◌, ◌==◌, ◌⊎◌, inl, inr, Bool, true, false, ◌&&◌, ◌||◌, List, [], ◌∷◌, ◌++◌, length, map, Option, Some, None, refl, sym, ap, subst, ◌∙◌, arith}
use Rattle.std.specs.Prelude.{bit_and, not, nat_le, nat_lt, slice_index_or, slice_set}
use Rattle.std.specs.List.{list_any}
use Rattle.std.proofs.lemmas.Bool.{cases_lt, false≢true}
use Rattle.std.proofs.lemmas.Bool.Decides.{eqb_tells}
use Rattle.std.proofs.lemmas.List.Folds.{list_any-append}
use Rattle.block_alloc.specs.declared.BlockWord.{BlockWord}
use Rattle.block_alloc.specs.declared.BlockWord.TheVariants.{Unused, Owned, Released}
use Rattle.block_alloc.specs.BlockWord.{block_in}
use Rattle.machine.proofs.ChoosingLemmas.{turn-turned}
use Rattle.machine.specs.Choosing.{IsChoosing, asked, asks_after, asks_from, at_block, block_at, chooses, first_awaited, looks, next_block, no_block, not_awaited, on_block, on_block_word, on_first, on_scan, own_at, owns, region_at, ripens, scanned_all, spreads_from, takes, turn, turn_at, with_awaited, with_block, with_scanned, word_at_block}
use Rattle.machine.specs.declared.choosing.Took.TheVariants.{NoSpace}
use Rattle.machine.specs.Places.{replica_count}
use Rattle.machine.specs.Stock.{AskFirst, Ask, Claim, ClassStock, OwnBlock, Phase, ReadBitmap, ReadBlock, Rest, Scan, Spread, Stock, WriteHead, any_waits, class_stock, first_free, is_block, is_own, no_stock, object_bits, ripened, ripened_block, scanned_block, view_of, with_class_stock}
use Rattle.object_alloc.proofs.CauseLemmas.{turn-spent}
use Rattle.object_alloc.proofs.TurnLemmas.{turn_lost}
use Rattle.object_alloc.specs.Passed.{IsOwnAt, PassesOver, WasPassed, after_all, is_no_offer}
use Rattle.region_view.specs.Placed.{Viewed}
use Rattle.region_view.specs.Sizes.{Sizes}
use Rattle.reuse_epoch.specs.Awaited.{Awaited, begin_of, client_of, noted, still_awaited}
use Rattle.verb_words.specs.declared.verbs.Answer.{Answer}
use Rattle.verb_words.specs.declared.verbs.Answer.TheVariants.{Word, Done, Lost}

-- ---- tests over lists

same_test : (n : ℕ) → (n == n) ≡ true
same_test n = by (eqb_tells n n)
  where
    by : (((n == n) ≡ true) × (n ≡ n)) ⊎ (((n == n) ≡ false) × (n ≢ n)) → (n == n) ≡ true
    by (inl (test, same)) = test
    by (inr (test, differ)) = absurd (differ refl)

either : (t u : Bool) → (t || u) ≡ true → (t ≡ true) ⊎ (u ≡ true)
either true u any = inl refl
either false u any = inr any

or-left : (t u : Bool) → t ≡ true → (t || u) ≡ true
or-left true u is = refl
or-left false u is = absurd (false≢true is)

or-right : (t u : Bool) → u ≡ true → (t || u) ≡ true
or-right true u is = refl
or-right false u is = is

-- an element is replaced by one that passes the test where it did
any-set : {X : Type 0} (p : X → Bool) (xs : List X) (k : ℕ) (d x : X) → (p (slice_index_or xs k d) ≡ true → p x ≡ true) → list_any p xs ≡ true → list_any p (slice_set xs k x) ≡ true
any-set p [] k d x passes any = absurd (false≢true any)
any-set {X} p (one ∷ xs) zero d x passes any = by (either (p one) (list_any p xs) any)
  where
    by : (p one ≡ true) ⊎ (list_any p xs ≡ true) → (p x || list_any p xs) ≡ true
    by (inl first) = or-left (p x) (list_any p xs) (passes first)
    by (inr later) = or-right (p x) (list_any p xs) later
any-set {X} p (one ∷ xs) (suc k) d x passes any = by (either (p one) (list_any p xs) any) (any-set p xs k d x passes)
  where
    by : (p one ≡ true) ⊎ (list_any p xs ≡ true) → (list_any p xs ≡ true → list_any p (slice_set xs k x) ≡ true) → (p one || list_any p (slice_set xs k x)) ≡ true
    by (inl first) rest = or-left (p one) (list_any p (slice_set xs k x)) first
    by (inr later) rest = or-right (p one) (list_any p (slice_set xs k x)) (rest later)

any-put : {X : Type 0} (p : X → Bool) (xs : List X) (k : ℕ) (x : X) → k < length xs → p x ≡ true → list_any p (slice_set xs k x) ≡ true
any-put p [] k x below passes = absurd (omega arith)
any-put p (one ∷ xs) zero x below passes = or-left (p x) (list_any p xs) passes
any-put p (one ∷ xs) (suc k) x below passes = or-right (p one) (list_any p (slice_set xs k x)) (any-put p xs k x (omega arith) passes)

any-map : {X : Type 0} (p : X → Bool) (f : X → X) → ((x : X) → p (f x) ≡ p x) → (xs : List X) → list_any p (map f xs) ≡ list_any p xs
any-map p f same [] = refl
any-map p f same (x ∷ xs) = λ i. same x i || any-map p f same xs i

-- ---- what the stock becomes

-- each own block stays one
record Grows (before after : Stock) : Type 0 where
  shape : after.shape ≡ before.shape
  own : (region block : ℕ) → is_own before region block ≡ true → is_own after region block ≡ true

-- no block is read
record Keeps (before after : Stock) : Type 0 where
  grows : Grows before after
  position : after.position ≡ before.position

-- no block is read, or the choosing begins anew, or the block at the position was gained or passed over
record Moves (Passed : Type 0) (before after : Stock) : Type 0 where
  grows : Grows before after
  position : (after.position ≡ before.position) ⊎ ((after.position ≡ 0) ⊎ ((after.position ≡ before.position + 1) × (IsOwnAt after before.position ⊎ Passed)))

grows-same : (stock : Stock) → Grows stock stock
grows-same stock = record { shape = refl; own = λ region block is. is }

grows-on : (one two three : Stock) → Grows one two → Grows two three → Grows one three
grows-on one two three first second = record { shape = second.shape ∙ first.shape; own = λ region block is. second.own region block (first.own region block is) }

-- an own block stays one
own-stays : (before after : Stock) (number : ℕ) → Grows before after → IsOwnAt before number → IsOwnAt after number
own-stays before after number grows is =
    let P : Sizes → Type 0 = λ s. is_own after (1 + number / s.blocks) (number % s.blocks) ≡ true in
    subst P (sym grows.shape) (grows.own (1 + number / before.shape.blocks) (number % before.shape.blocks) is)

keeps-marked : (stock : Stock) (scanned : Bool) (phase : Phase) → Keeps stock (record stock { scanned = scanned; phase = phase })
keeps-marked stock scanned phase = record { grows = record { shape = refl; own = λ region block is. is }; position = refl }

keeps-on : (one two three : Stock) → Keeps one two → Keeps two three → Keeps one three
keeps-on one two three first second = record { grows = grows-on one two three first.grows second.grows; position = second.position ∙ first.position }

-- the stock of the class has the own blocks that it had
keeps-class : (stock : Stock) (of_class : ClassStock) → ((region block : ℕ) → list_any (is_block region block) (class_stock stock).own ≡ true → list_any (is_block region block) of_class.own ≡ true)
    → Keeps stock (with_class_stock stock of_class)
keeps-class stock of_class stays = record {
  grows = record { shape = refl; own = λ region block is. any-set (λ (c : ClassStock). list_any (is_block region block) c.own) stock.classes stock.class no_stock of_class (stays region block) is };
  position = refl;
}

keeps-awaited : (stock : Stock) (awaited : List Awaited) → Keeps stock (with_awaited stock awaited)
keeps-awaited stock awaited = keeps-class stock (record (class_stock stock) { awaited = awaited }) (λ region block is. is)

keeps-ripened : (stock : Stock) → Keeps stock (with_class_stock stock (ripened (class_stock stock)))
keeps-ripened stock = keeps-class stock (ripened (class_stock stock)) (λ region block is. any-map (is_block region block) ripened_block (λ one. refl) (class_stock stock).own ∙ is)

keeps-scanned : (stock : Stock) (i found : ℕ) → Keeps stock (with_scanned stock i found)
keeps-scanned stock i found =
    let scanned = scanned_block stock.class (class_stock stock) (own_at stock i) found in
    keeps-class stock (record (class_stock stock) { own = slice_set (class_stock stock).own i scanned })
    (λ region block is. any-set (is_block region block) (class_stock stock).own i no_block scanned (λ same. same) is)

-- ---- turns that read no block

at_block-keeps : (stock : Stock) → Keeps stock (at_block stock).state
at_block-keeps stock = by (nat_lt stock.position (stock.shape.regions * stock.shape.blocks)) refl
  where
    by : (t : Bool) → nat_lt stock.position (stock.shape.regions * stock.shape.blocks) ≡ t → Keeps stock (at_block stock).state
    by true within = rw within (keeps-marked stock stock.scanned ReadBlock)
    by false last = rw last (keeps-marked stock stock.scanned Rest)

takes-keeps : (stock : Stock) (free : ℕ) → Keeps stock (takes stock free).state
takes-keeps stock free = by (class_stock stock).reserve refl
  where
    by : (reserve : Option ℕ) → (class_stock stock).reserve ≡ reserve → Keeps stock (takes stock free).state
    by (Some reserve) some = rw some (keeps-marked stock stock.scanned Rest)
    by None none = rw none (
        let with_free = with_class_stock stock (record (class_stock stock) { reserve = Some free }) in
        keeps-on stock with_free _ (keeps-class stock (record (class_stock stock) { reserve = Some free }) (λ region block is. is)) (keeps-marked with_free stock.scanned WriteHead))

looks-keeps : (stock : Stock) → Keeps stock (looks stock).state
looks-keeps stock = by (nat_lt 0 (length (class_stock stock).awaited)) refl (not stock.scanned && nat_lt 0 (length (class_stock stock).own)) refl
  where
    by : (t : Bool) → nat_lt 0 (length (class_stock stock).awaited) ≡ t → (u : Bool) → (not stock.scanned && nat_lt 0 (length (class_stock stock).own)) ≡ u → Keeps stock (looks stock).state
    by true some u scan = rw some (keeps-marked stock stock.scanned AskFirst)
    by false none true scan = rw (none, scan) (keeps-marked stock stock.scanned (Scan 0))
    by false none false done = rw (none, done) (at_block-keeps stock)

chooses-keeps : (stock : Stock) → Keeps stock (chooses stock).state
chooses-keeps stock = by (first_free stock.class (class_stock stock)) refl
  where
    by : (free : Option ℕ) → first_free stock.class (class_stock stock) ≡ free → Keeps stock (chooses stock).state
    by None none = rw none (looks-keeps stock)
    by (Some free) some = rw some (takes-keeps stock free)

ripens-keeps : (stock : Stock) → Keeps stock (ripens stock).state
ripens-keeps stock =
    let ripe = with_class_stock stock (ripened (class_stock stock)) in
    keeps-on stock ripe _ (keeps-ripened stock) (chooses-keeps ripe)

asked-keeps : (stock : Stock) → Keeps stock (asked stock).state
asked-keeps stock = by (length (class_stock stock).awaited == 0) refl
  where
    by : (t : Bool) → (length (class_stock stock).awaited == 0) ≡ t → Keeps stock (asked stock).state
    by true none = rw none (ripens-keeps stock)
    by false some = rw some (at_block-keeps stock)

asks_after-keeps : (stock : Stock) (client : ℕ) → Keeps stock (asks_after stock client).state
asks_after-keeps stock client = by (nat_le client stock.shape.clients) refl
  where
    by : (t : Bool) → nat_le client stock.shape.clients ≡ t → Keeps stock (asks_after stock client).state
    by true within = rw within (keeps-marked stock stock.scanned (Ask client))
    by false beyond = rw beyond (asked-keeps stock)

asks_from-keeps : (stock : Stock) (client : ℕ) → Keeps stock (asks_from stock client).state
asks_from-keeps stock client = by (client == stock.client) refl
  where
    by : (t : Bool) → (client == stock.client) ≡ t → Keeps stock (asks_from stock client).state
    by true own = rw own (asks_after-keeps stock (client + 1))
    by false other = rw other (asks_after-keeps stock client)

not_awaited-keeps : (stock : Stock) → Keeps stock (not_awaited stock).state
not_awaited-keeps stock = by (length (class_stock stock).awaited == 0) refl
  where
    by : (t : Bool) → (length (class_stock stock).awaited == 0) ≡ t → Keeps stock (not_awaited stock).state
    by true none = rw none (ripens-keeps stock)
    by false some = rw some (keeps-marked stock stock.scanned AskFirst)

on_first-keeps : (stock : Stock) (found : ℕ) → Keeps stock (on_first stock found).state
on_first-keeps stock found = by (found == begin_of (first_awaited stock)) refl
  where
    still : List Awaited
    still = still_awaited (class_stock stock).awaited (client_of (first_awaited stock)) found

    by : (t : Bool) → (found == begin_of (first_awaited stock)) ≡ t → Keeps stock (on_first stock found).state
    by true same = rw same (at_block-keeps stock)
    by false other = rw other (keeps-on stock (with_awaited stock still) _ (keeps-awaited stock still) (not_awaited-keeps (with_awaited stock still)))

scanned_all-keeps : (stock : Stock) → Keeps stock (scanned_all stock).state
scanned_all-keeps stock = by (any_waits (class_stock stock)) refl
  where
    by : (t : Bool) → any_waits (class_stock stock) ≡ t → Keeps stock (scanned_all stock).state
    by true some = rw some (asks_from-keeps stock 1)
    by false nothing = rw nothing (at_block-keeps stock)

on_scan-keeps : (stock : Stock) (i : ℕ) → Keeps stock (on_scan stock i).state
on_scan-keeps stock i = by (nat_lt (i + 1) (length (class_stock stock).own)) refl
  where
    by : (t : Bool) → nat_lt (i + 1) (length (class_stock stock).own) ≡ t → Keeps stock (on_scan stock i).state
    by true more = rw more (keeps-marked stock stock.scanned (Scan (i + 1)))
    by false last = rw last (keeps-on stock (record stock { scanned = true }) _ (keeps-marked stock true stock.phase) (scanned_all-keeps (record stock { scanned = true })))

-- ---- turns that read a block

stays : (Passed : Type 0) (before after : Stock) → Keeps before after → Moves Passed before after
stays Passed before after keeps = record { grows = keeps.grows; position = inl keeps.position }

-- a stock that stands at the next block goes on
goes_on : (Passed : Type 0) (before next after : Stock) → Grows before next → next.position ≡ before.position + 1 → IsOwnAt next before.position ⊎ Passed → Keeps next after → Moves Passed before after
goes_on Passed before next after grows position done keeps = record {
  grows = grows-on before next after grows keeps.grows;
  position = inr (inr (keeps.position ∙ position, by done));
}
  where
    by : IsOwnAt next before.position ⊎ Passed → IsOwnAt after before.position ⊎ Passed
    by (inl own) = inl (own-stays next after before.position keeps.grows own)
    by (inr passed) = inr passed

next_block-moves : (Passed : Type 0) (stock : Stock) → IsOwnAt stock stock.position ⊎ Passed → Moves Passed stock (next_block stock).state
next_block-moves Passed stock done =
    let after : Stock = record stock { position = stock.position + 1 } in
    goes_on Passed stock after _ (record { shape = refl; own = λ region block is. is }) refl done (at_block-keeps after)

-- the block at the position becomes an own one
gained : (Passed : Type 0) (stock after : Stock) (ripe waiting : ℕ) → stock.class < length stock.classes → Keeps (with_block stock ripe waiting) after → Moves Passed stock after
gained Passed stock after ripe waiting below keeps =
    goes_on Passed stock (with_block stock ripe waiting) after (record { shape = refl; own = stays_own }) refl (inl new_own) keeps
  where
    new : OwnBlock
    new = record { region = region_at stock; block = block_at stock; ripe = ripe; waiting = waiting }

    own : List OwnBlock
    own = (class_stock stock).own

    appended : (region block : ℕ) → list_any (is_block region block) (own ++ new ∷ []) ≡ (list_any (is_block region block) own || (is_block region block new || false))
    appended region block = list_any-append (is_block region block) own (new ∷ [])

    stays_own : (region block : ℕ) → is_own stock region block ≡ true → is_own (with_block stock ripe waiting) region block ≡ true
    stays_own region block is =
        any-set (λ (c : ClassStock). list_any (is_block region block) c.own) stock.classes stock.class no_stock (record (class_stock stock) { own = own ++ new ∷ [] })
        (λ here. appended region block ∙ or-left (list_any (is_block region block) own) (is_block region block new || false) here) is

    new_own : IsOwnAt (with_block stock ripe waiting) stock.position
    new_own =
        let here : is_block (region_at stock) (block_at stock) new ≡ true = rw (same_test (region_at stock), same_test (block_at stock)) refl in
        any-put (λ (c : ClassStock). list_any (is_block (region_at stock) (block_at stock)) c.own) stock.classes stock.class (record (class_stock stock) { own = own ++ new ∷ [] }) below
        (appended (region_at stock) (block_at stock) ∙ or-right (list_any (is_block (region_at stock) (block_at stock)) own) (is_block (region_at stock) (block_at stock) new || false) (or-left (is_block (region_at stock) (block_at stock) new) false here))

owns-moves : (Passed : Type 0) (stock : Stock) (unused : Bool) → stock.class < length stock.classes → Moves Passed stock (owns stock unused).state
owns-moves Passed stock true below = gained Passed stock _ (object_bits stock.class) 0 below (chooses-keeps (with_block stock (object_bits stock.class) 0))
owns-moves Passed stock false below = stays Passed stock _ (keeps-marked stock stock.scanned ReadBitmap)

spreads_from-moves : (Passed : Type 0) (stock : Stock) (unused : Bool) (backup : ℕ) → stock.class < length stock.classes → Moves Passed stock (spreads_from stock unused backup).state
spreads_from-moves Passed stock unused backup below = by (nat_lt (backup + 1) (replica_count (view_of stock) (word_at_block stock))) refl
  where
    by : (t : Bool) → nat_lt (backup + 1) (replica_count (view_of stock) (word_at_block stock)) ≡ t → Moves Passed stock (spreads_from stock unused backup).state
    by true more = rw more (stays Passed stock _ (keeps-marked stock stock.scanned (Spread unused backup)))
    by false last = rw last (owns-moves Passed stock unused below)

on_block-moves : (Passed : Type 0) (stock : Stock) (found : ℕ) (word : Option BlockWord) → stock.class < length stock.classes → (is_no_offer stock word ≡ true → Passed) → Moves Passed stock (on_block stock found word).state
on_block-moves Passed stock found None below passed = next_block-moves Passed stock (inr (passed refl))
on_block-moves Passed stock found (Some Unused) below passed = stays Passed stock _ (keeps-marked stock stock.scanned (Claim found))
on_block-moves Passed stock found (Some (Released class)) below passed = by (class == stock.class) refl
  where
    by : (t : Bool) → (class == stock.class) ≡ t → Moves Passed stock (on_block stock found (Some (Released class))).state
    by true same = rw same (stays Passed stock _ (keeps-marked stock stock.scanned (Claim found)))
    by false other = rw other (next_block-moves Passed stock (inr (passed (ap not other))))
on_block-moves Passed stock found (Some (Owned client class)) below passed = by ((client == stock.client) && (class == stock.class)) refl
  where
    by : (t : Bool) → ((client == stock.client) && (class == stock.class)) ≡ t → Moves Passed stock (on_block stock found (Some (Owned client class))).state
    by true same = rw same (spreads_from-moves Passed stock false 0 below)
    by false other = rw other (next_block-moves Passed stock (inr (passed (ap not other))))

on_block_word-moves : (Passed : Type 0) (stock : Stock) (found : ℕ) → stock.class < length stock.classes → (is_no_offer stock (block_in found) ≡ true → Passed) → Moves Passed stock (on_block_word stock found).state
on_block_word-moves Passed stock found below passed = by (is_own stock (region_at stock) (block_at stock)) refl
  where
    by : (t : Bool) → is_own stock (region_at stock) (block_at stock) ≡ t → Moves Passed stock (on_block_word stock found).state
    by true owned = rw owned (next_block-moves Passed stock (inl owned))
    by false none = rw none (on_block-moves Passed stock found (block_in found) below passed)

-- ---- by phases

-- the answer is a word that passes the block at the position over
abbrev Passes : Stock → Answer → Type 0
Passes stock answer = (found : ℕ) × (answer ≡ Word found) × PassesOver stock found

same-moves : (Passed : Type 0) (stock : Stock) → Moves Passed stock stock
same-moves Passed stock = record { grows = grows-same stock; position = inl refl }

word-moves : (Passed : Type 0) (phase : Phase) (stock : Stock) (found : ℕ) → stock.phase ≡ phase → stock.class < length stock.classes → (PassesOver stock found → Passed) → Moves Passed stock (turn_at phase stock (Word found)).state
word-moves Passed Rest stock found at below passed = same-moves Passed stock
word-moves Passed AskFirst stock found at below passed = stays Passed stock _ (on_first-keeps stock found)
word-moves Passed (Scan i) stock found at below passed = stays Passed stock _ (keeps-on stock (with_scanned stock i found) _ (keeps-scanned stock i found) (on_scan-keeps (with_scanned stock i found) i))
word-moves Passed (Ask client) stock found at below passed =
    let awaited = noted (class_stock stock).awaited client found in
    stays Passed stock _ (keeps-on stock (with_awaited stock awaited) _ (keeps-awaited stock awaited) (asks_from-keeps (with_awaited stock awaited) (client + 1)))
word-moves Passed ReadBlock stock found at below passed = on_block_word-moves Passed stock found below (λ none. passed (inl (at, none)))
word-moves Passed (Claim word) stock found at below passed = by (eqb_tells found word)
  where
    by : (((found == word) ≡ true) × (found ≡ word)) ⊎ (((found == word) ≡ false) × (found ≢ word)) → Moves Passed stock (turn_at (Claim word) stock (Word found)).state
    by (inl (swapped, same)) = rw swapped (spreads_from-moves Passed stock (word == 0) 0 below)
    by (inr (lost, differ)) = rw lost (next_block-moves Passed stock (inr (passed (inr (word, at, differ)))))
word-moves Passed (Spread unused backup) stock found at below passed = same-moves Passed stock
word-moves Passed ReadBitmap stock found at below passed =
    let bits = bit_and found (object_bits stock.class) in
    let with_new = with_block stock 0 bits in
    gained Passed stock _ 0 bits below (keeps-on with_new (with_awaited with_new []) _ (keeps-awaited with_new []) (asks_from-keeps (with_awaited with_new []) 1))
word-moves Passed WriteHead stock found at below passed = same-moves Passed stock

done-moves : (Passed : Type 0) (phase : Phase) (stock : Stock) → stock.class < length stock.classes → Moves Passed stock (turn_at phase stock Done).state
done-moves Passed Rest stock below = same-moves Passed stock
done-moves Passed AskFirst stock below = same-moves Passed stock
done-moves Passed (Scan i) stock below = same-moves Passed stock
done-moves Passed (Ask client) stock below = same-moves Passed stock
done-moves Passed ReadBlock stock below = same-moves Passed stock
done-moves Passed (Claim word) stock below = same-moves Passed stock
done-moves Passed (Spread unused backup) stock below = spreads_from-moves Passed stock unused (backup + 1) below
done-moves Passed ReadBitmap stock below = same-moves Passed stock
done-moves Passed WriteHead stock below =
    let begun : Stock = record stock { scanned = false; position = 0 } in
    let keeps = chooses-keeps begun in
    record { grows = grows-on stock begun _ (record { shape = refl; own = λ region block is. is }) keeps.grows; position = inr (inl keeps.position) }

turn-moves : (stock : Stock) (answer : Answer) → stock.class < length stock.classes → Moves (Passes stock answer) stock (turn stock answer).state
turn-moves stock (Word found) below = word-moves (Passes stock (Word found)) stock.phase stock found refl below (λ passes. (found, refl, passes))
turn-moves stock Done below = done-moves (Passes stock Done) stock.phase stock below
turn-moves stock Lost below = subst (λ (t : Stock). Moves (Passes stock Lost) stock t) (sym (ap (λ t. t.state) (turn_lost stock.phase stock))) (same-moves (Passes stock Lost) stock)

-- ---- all answers of a choosing

class-inside : (view : Viewed) (client class : ℕ) (stock : Stock) → IsChoosing view client class stock → stock.class < length stock.classes
class-inside view client class stock is =
    let same = is.ready.same in let below = is.ready.below in let whole = is.ready.is_stock.whole in
    omega arith

turned : (view : Viewed) (client class : ℕ) (stock : Stock) (answer : Answer) → IsChoosing view client class stock → IsChoosing view client class (turn stock answer).state
turned view client class stock answer is = let next = turn-turned view client class stock answer is in next.choosing

after_all-choosing : (view : Viewed) (client class : ℕ) (stock : Stock) (answers : List Answer) → IsChoosing view client class stock → IsChoosing view client class (after_all stock answers)
after_all-choosing view client class stock [] is = is
after_all-choosing view client class stock (answer ∷ answers) is = after_all-choosing view client class (turn stock answer).state answers (turned view client class stock answer is)

after_all-grows : (view : Viewed) (client class : ℕ) (stock : Stock) (answers : List Answer) → IsChoosing view client class stock → Grows stock (after_all stock answers)
after_all-grows view client class stock [] is = grows-same stock
after_all-grows view client class stock (answer ∷ answers) is =
    let moves = turn-moves stock answer (class-inside view client class stock is) in
    grows-on stock (turn stock answer).state _ moves.grows (after_all-grows view client class (turn stock answer).state answers (turned view client class stock answer is))

after_all-last : (stock : Stock) (answers : List Answer) (answer : Answer) → after_all stock (answers ++ answer ∷ []) ≡ (turn (after_all stock answers) answer).state
after_all-last stock [] answer = refl
after_all-last stock (one ∷ answers) answer = after_all-last (turn stock one).state answers answer

-- what the first answer passes over
passed-first : (stock : Stock) (answer : Answer) (answers : List Answer) (number : ℕ) → stock.position ≡ number → Passes stock answer → WasPassed stock (answer ∷ answers) number
passed-first stock answer answers number here (found, is, passes) = record {
  before = [];
  found = found;
  after = answers;
  split = ap (λ a. a ∷ answers) is;
  here = here;
  passes = passes;
}

-- what a later answer passes over
passed-later : (stock : Stock) (answer : Answer) (answers : List Answer) (number : ℕ) → WasPassed (turn stock answer).state answers number → WasPassed stock (answer ∷ answers) number
passed-later stock answer answers number was = record {
  before = answer ∷ was.before;
  found = was.found;
  after = was.after;
  split = ap (λ rest. answer ∷ rest) was.split;
  here = was.here;
  passes = was.passes;
}

-- each block below the position is an own one, or was passed over, or stood below the position before
after_all-passed : (view : Viewed) (client class : ℕ) (stock : Stock) (answers : List Answer) → IsChoosing view client class stock → (number : ℕ) → number < (after_all stock answers).position
    → IsOwnAt (after_all stock answers) number ⊎ (WasPassed stock answers number ⊎ (number < stock.position))
after_all-passed view client class stock [] is number below = inr (inr below)
after_all-passed view client class stock (answer ∷ answers) is number below = by (after_all-passed view client class next answers next_is number below)
  where
    next : Stock
    next = (turn stock answer).state

    next_is : IsChoosing view client class next
    next_is = turned view client class stock answer is

    last : Stock
    last = after_all next answers

    moves : Moves (Passes stock answer) stock next
    moves = turn-moves stock answer (class-inside view client class stock is)

    here : number ≡ stock.position → IsOwnAt next stock.position ⊎ Passes stock answer → IsOwnAt last number ⊎ (WasPassed stock (answer ∷ answers) number ⊎ (number < stock.position))
    here at (inl own) = inl (own-stays next last number (after_all-grows view client class next answers next_is) (subst (λ n. IsOwnAt next n) (sym at) own))
    here at (inr passes) = inr (inl (passed-first stock answer answers number (sym at) passes))

    at_next : (number < stock.position) ⊎ (stock.position ≤ number) → number < stock.position + 1 → IsOwnAt next stock.position ⊎ Passes stock answer → IsOwnAt last number ⊎ (WasPassed stock (answer ∷ answers) number ⊎ (number < stock.position))
    at_next (inl lower) under done = inr (inr lower)
    at_next (inr higher) under done = here (omega arith) done

    step : (next.position ≡ stock.position) ⊎ ((next.position ≡ 0) ⊎ ((next.position ≡ stock.position + 1) × (IsOwnAt next stock.position ⊎ Passes stock answer))) → number < next.position
        → IsOwnAt last number ⊎ (WasPassed stock (answer ∷ answers) number ⊎ (number < stock.position))
    step (inl same) under = inr (inr (omega arith))
    step (inr (inl none)) under = absurd (omega arith)
    step (inr (inr (more, done))) under = at_next (cases_lt number stock.position) (omega arith) done

    by : IsOwnAt last number ⊎ (WasPassed next answers number ⊎ (number < next.position)) → IsOwnAt last number ⊎ (WasPassed stock (answer ∷ answers) number ⊎ (number < stock.position))
    by (inl own) = inl own
    by (inr (inl was)) = inr (inl (passed-later stock answer answers number was))
    by (inr (inr under)) = step moves.position under

-- where no object is left, each block is an own one or was passed over
pub no_space-passed : (view : Viewed) (client class : ℕ) (start : Stock) (answers : List Answer) (answer : Answer) → IsChoosing view client class start → start.position ≡ 0
    → (of awaited begin : ℕ) → (turn (after_all start answers) answer).told ≡ NoSpace of awaited begin
    → (number : ℕ) → number < view.shape.regions * view.shape.blocks
    → IsOwnAt (turn (after_all start answers) answer).state number ⊎ WasPassed start (answers ++ answer ∷ []) number
no_space-passed view client class start answers answer is first of awaited begin none number below = by (after_all-passed view client class start (answers ++ answer ∷ []) is number under)
  where
    last : Stock
    last = (turn (after_all start answers) answer).state

    last_is : IsChoosing view client class last
    last_is = turned view client class (after_all start answers) answer (after_all-choosing view client class start answers is)

    past : view.shape.regions * view.shape.blocks ≤ last.position
    past =
        let spent = turn-spent (after_all start answers) answer of awaited begin none in
        let P : Sizes → Type 0 = λ s. s.regions * s.blocks ≤ last.position in
        subst P last_is.ready.is_stock.shape spent.past

    reached : number < last.position
    reached = omega (arith, below, past)

    under : number < (after_all start (answers ++ answer ∷ [])).position
    under = subst (λ s. number < s.position) (sym (after_all-last start answers answer)) reached

    by : IsOwnAt (after_all start (answers ++ answer ∷ [])) number ⊎ (WasPassed start (answers ++ answer ∷ []) number ⊎ (number < start.position)) → IsOwnAt last number ⊎ WasPassed start (answers ++ answer ∷ []) number
    by (inl own) = inl (subst (λ s. IsOwnAt s number) (after_all-last start answers answer) own)
    by (inr (inl was)) = inr was
    by (inr (inr lower)) = absurd (omega arith)
