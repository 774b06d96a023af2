-- An object is ripe or waits after a turn of a choosing only if it did before, or if the turn has seen its bit.
use Rattle.std.proofs.Common.{◌≡◌, ℕ, ◌+◌, ◌*◌, ◌<◌, ◌==◌, ◌⊎◌, inl, inr, Bool, true, false, ◌&&◌, List, [], ◌∷◌, ◌++◌, length, map, get_or, Option, Some, None, refl, sym, ap, subst, ◌∙◌, arith, length-set, get_or-set_other, get_or-set_same}
use Rattle.std.specs.Prelude.{bit_and, not, nat_le, nat_lt, slice_index_or, slice_set}
use Rattle.std.specs.Int.{bit_at}
use Rattle.std.proofs.lemmas.Bool.{cases_eq, eqb-true}
use Rattle.std.proofs.lemmas.List.{get_or-map, get_or_default, length-map}
use Rattle.std.proofs.lemmas.List.Elements.{Contains-append_cases}
use Rattle.block_alloc.specs.declared.BlockWord.{BlockWord}
use Rattle.block_alloc.specs.declared.BlockWord.TheVariants.{Unused, Owned, Released}
use Rattle.block_alloc.specs.BlockWord.{block_in}
use Rattle.machine.specs.Choosing.{IsAt, asked, asks_after, asks_from, at_block, begins, block_at, chooses, first_awaited, looks, next_block, no_block, not_awaited, on_block, on_block_word, on_first, on_scan, own_at, owns, region_at, ripens, scanned_all, spreads_from, taken, takes, turn_at, verb_at, with_awaited, with_block, with_scanned, word_at_block}
use Rattle.machine.specs.Places.{replica_count}
use Rattle.machine.specs.Stock.{AskFirst, Ask, Claim, ClassStock, OwnBlock, Phase, ReadBitmap, ReadBlock, Rest, Scan, Spread, Stock, WriteHead, any_waits, class_stock, cleared_block, first_free, is_own, new_bits, no_stock, object_bits, reserve_bit, ripened, ripened_block, scanned_block, view_of, with_class_stock, with_reserve, without}
use Rattle.reuse_epoch.specs.Awaited.{Awaited, begin_of, client_of, noted, still_awaited}
use Rattle.verb_words.specs.declared.verbs.Answer.TheVariants.{Word}
use Rattle.verb_words.specs.Verb.{answer_of}
use Rattle.object_division.specs.Marks.{HasMark, IsHere, IsMarked, IsSeen, blocks_of}
use Rattle.object_division.proofs.BitLemmas.{bit_at-without, both_set, either, no_bit}
use Rattle.object_division.proofs.GiftLemmas.{class_replaced}

-- ---- marks that are kept

abbrev pub KeepsMarks : Stock → Stock → Type 0
KeepsMarks stock new =
    (class region block j : ℕ) → IsMarked (blocks_of new class) region block j → IsMarked (blocks_of stock class) region block j

-- a mark was there, or was seen
abbrev pub MarksFrom : Stock → Stock → (ℕ → ℕ → ℕ → ℕ → Type 0) → Type 0
MarksFrom stock new Seen =
    (class region block j : ℕ) → IsMarked (blocks_of new class) region block j
    → IsMarked (blocks_of stock class) region block j ⊎ Seen class region block j

KeepsMarks-marked : (stock new : Stock) → new.classes ≡ stock.classes → KeepsMarks stock new
KeepsMarks-marked stock new same class region block j is =
    subst (λ (classes : List ClassStock). IsMarked (slice_index_or classes class no_stock).own region block j) same is

KeepsMarks-on : (stock middle new : Stock) → KeepsMarks stock middle → KeepsMarks middle new → KeepsMarks stock new
KeepsMarks-on stock middle new first second class region block j is =
    first class region block j (second class region block j is)

KeepsMarks-class : (stock : Stock) (class : ℕ) (of_class : ClassStock)
    → ((region block j : ℕ) → IsMarked of_class.own region block j → IsMarked (blocks_of stock class) region block j)
    → KeepsMarks stock (record stock { classes = slice_set stock.classes class of_class })
KeepsMarks-class stock class of_class kept other region block j =
    class_replaced (λ c. IsMarked c.own region block j → IsMarked (blocks_of stock other) region block j) stock.classes class other
    of_class (λ same is. subst (λ k. IsMarked (blocks_of stock k) region block j) (sym same) (kept region block j is)) (λ is. is)

IsMarked-map : (f : OwnBlock → OwnBlock) (list : List OwnBlock)
    → ((own : OwnBlock) → ((f own).region ≡ own.region) × ((f own).block ≡ own.block))
    → ((own : OwnBlock) (j : ℕ) → HasMark (f own) j → HasMark own j)
    → (region block j : ℕ) → IsMarked (map f list) region block j → IsMarked list region block j
IsMarked-map f list same kept region block j is =
    let within : is.has.0 < length list = omega (arith, is.has.1, length-map list f) in
    let old = get_or list is.has.0 no_block in
    let new : f old ≡ is.own = sym (get_or-map f list is.has.0 no_block is.own within) ∙ is.has.2 in
    record {
      own = old;
      has = (is.has.0, within, get_or_default list is.has.0 old no_block within);
      region_is = sym (same old).0 ∙ (ap (λ (o : OwnBlock). o.region) new ∙ is.region_is);
      block_is = sym (same old).1 ∙ (ap (λ (o : OwnBlock). o.block) new ∙ is.block_is);
      mark = kept old j (subst (λ o. HasMark o j) (sym new) is.mark);
    }

ripened-mark : (own : OwnBlock) (j : ℕ) → HasMark (ripened_block own) j → HasMark own j
ripened-mark own j (inl ripe) = either own.ripe own.waiting j ripe
ripened-mark own j (inr waits) = no_bit j waits

cleared-mark : (class : ℕ) (of_class : ClassStock) (own : OwnBlock) (j : ℕ) → HasMark (cleared_block class of_class own) j
    → HasMark own j
cleared-mark class of_class own j (inl ripe) = inl (bit_at-without own.ripe (reserve_bit class of_class own) j ripe)
cleared-mark class of_class own j (inr waits) = inr waits

-- a scan adds what it found
scanned-mark : (class : ℕ) (of_class : ClassStock) (own : OwnBlock) (found j : ℕ)
    → HasMark (scanned_block class of_class own found) j → HasMark own j ⊎ (bit_at found j ≡ 1)
scanned-mark class of_class own found j (inl ripe) = inl (inl ripe)
scanned-mark class of_class own found j (inr waits) =
    elim (either own.waiting (new_bits class of_class own found) j waits) [
      | inl old ↦ inl (inr old)
      | inr new ↦
          inr
          (both_set found (object_bits class) j
          (bit_at-without (bit_and found (object_bits class)) own.ripe j
          (bit_at-without (without (bit_and found (object_bits class)) own.ripe) own.waiting j
          (bit_at-without (without (without (bit_and found (object_bits class)) own.ripe) own.waiting)
          (reserve_bit class of_class own) j new))))
    ]

-- ---- turns that see nothing

at_block-marks : (stock : Stock) → KeepsMarks stock (at_block stock).state
at_block-marks stock = by (nat_lt stock.position (stock.shape.regions * stock.shape.blocks)) refl
  where
    by : (t : Bool) → nat_lt stock.position (stock.shape.regions * stock.shape.blocks) ≡ t → KeepsMarks stock (at_block stock).state
    by true within = rw within (KeepsMarks-marked stock (record stock { phase = ReadBlock }) refl)
    by false last = rw last (KeepsMarks-marked stock (record stock { phase = Rest }) refl)

next_block-marks : (stock : Stock) → KeepsMarks stock (next_block stock).state
next_block-marks stock =
    let moved = record stock { position = stock.position + 1 } in
    KeepsMarks-on stock moved (next_block stock).state (KeepsMarks-marked stock moved refl) (at_block-marks moved)

takes-marks : (stock : Stock) (free : ℕ) → KeepsMarks stock (takes stock free).state
takes-marks stock free = by (class_stock stock).reserve refl
  where
    by : (reserve : Option ℕ) → (class_stock stock).reserve ≡ reserve → KeepsMarks stock (takes stock free).state
    by (Some reserve) some = rw some (KeepsMarks-marked stock (record stock { phase = Rest }) refl)
    by None none =
        rw none
        (KeepsMarks-class stock stock.class (record (class_stock stock) { reserve = Some free }) (λ region block j is. is))

looks-marks : (stock : Stock) → KeepsMarks stock (looks stock).state
looks-marks stock = by (nat_lt 0 (length (class_stock stock).awaited)) refl (not stock.scanned && nat_lt 0 (length (class_stock stock).own)) refl
  where
    by : (t : Bool) → nat_lt 0 (length (class_stock stock).awaited) ≡ t → (u : Bool)
        → (not stock.scanned && nat_lt 0 (length (class_stock stock).own)) ≡ u → KeepsMarks stock (looks stock).state
    by true some u scan = rw some (KeepsMarks-marked stock (record stock { phase = AskFirst }) refl)
    by false none true scan = rw (none, scan) (KeepsMarks-marked stock (record stock { phase = Scan 0 }) refl)
    by false none false done = rw (none, done) (at_block-marks stock)

chooses-marks : (stock : Stock) → KeepsMarks stock (chooses stock).state
chooses-marks stock = by (first_free stock.class (class_stock stock)) refl
  where
    by : (free : Option ℕ) → first_free stock.class (class_stock stock) ≡ free → KeepsMarks stock (chooses stock).state
    by None none = rw none (looks-marks stock)
    by (Some free) some = rw some (takes-marks stock free)

pub begins-marks : (stock : Stock) (mask class : ℕ) → KeepsMarks stock (begins stock mask class).state
begins-marks stock mask class =
    let new = record stock { mask = mask; class = class; scanned = false; position = 0 } in
    KeepsMarks-on stock new (begins stock mask class).state (KeepsMarks-marked stock new refl) (chooses-marks new)

ripens-marks : (stock : Stock) → KeepsMarks stock (ripens stock).state
ripens-marks stock =
    let ripe = with_class_stock stock (ripened (class_stock stock)) in
    KeepsMarks-on stock ripe (ripens stock).state
    (KeepsMarks-class stock stock.class (ripened (class_stock stock))
    (IsMarked-map ripened_block (class_stock stock).own (λ own. (refl, refl)) ripened-mark))
    (chooses-marks ripe)

asked-marks : (stock : Stock) → KeepsMarks stock (asked stock).state
asked-marks stock = by (length (class_stock stock).awaited == 0) refl
  where
    by : (t : Bool) → (length (class_stock stock).awaited == 0) ≡ t → KeepsMarks stock (asked stock).state
    by true none = rw none (ripens-marks stock)
    by false some = rw some (at_block-marks stock)

asks_after-marks : (stock : Stock) (client : ℕ) → KeepsMarks stock (asks_after stock client).state
asks_after-marks stock client = by (nat_le client stock.shape.clients) refl
  where
    by : (t : Bool) → nat_le client stock.shape.clients ≡ t → KeepsMarks stock (asks_after stock client).state
    by true within = rw within (KeepsMarks-marked stock (record stock { phase = Ask client }) refl)
    by false beyond = rw beyond (asked-marks stock)

asks_from-marks : (stock : Stock) (client : ℕ) → KeepsMarks stock (asks_from stock client).state
asks_from-marks stock client = by (client == stock.client) refl
  where
    by : (t : Bool) → (client == stock.client) ≡ t → KeepsMarks stock (asks_from stock client).state
    by true own = rw own (asks_after-marks stock (client + 1))
    by false other = rw other (asks_after-marks stock client)

with_awaited-marks : (stock : Stock) (awaited : List Awaited) → KeepsMarks stock (with_awaited stock awaited)
with_awaited-marks stock awaited =
    KeepsMarks-class stock stock.class (record (class_stock stock) { awaited = awaited }) (λ region block j is. is)

asks_with-marks : (stock : Stock) (awaited : List Awaited) (client : ℕ)
    → KeepsMarks stock (asks_from (with_awaited stock awaited) client).state
asks_with-marks stock awaited client =
    KeepsMarks-on stock (with_awaited stock awaited) (asks_from (with_awaited stock awaited) client).state
    (with_awaited-marks stock awaited) (asks_from-marks (with_awaited stock awaited) client)

not_awaited-marks : (stock : Stock) → KeepsMarks stock (not_awaited stock).state
not_awaited-marks stock = by (length (class_stock stock).awaited == 0) refl
  where
    by : (t : Bool) → (length (class_stock stock).awaited == 0) ≡ t → KeepsMarks stock (not_awaited stock).state
    by true none = rw none (ripens-marks stock)
    by false some = rw some (KeepsMarks-marked stock (record stock { phase = AskFirst }) refl)

on_first-marks : (stock : Stock) (found : ℕ) → KeepsMarks stock (on_first stock found).state
on_first-marks stock found = by (found == begin_of (first_awaited stock)) refl
  where
    still : List Awaited
    still = still_awaited (class_stock stock).awaited (client_of (first_awaited stock)) found

    by : (t : Bool) → (found == begin_of (first_awaited stock)) ≡ t → KeepsMarks stock (on_first stock found).state
    by true same = rw same (at_block-marks stock)
    by false other =
        rw other
        (KeepsMarks-on stock (with_awaited stock still) (not_awaited (with_awaited stock still)).state
        (with_awaited-marks stock still) (not_awaited-marks (with_awaited stock still)))

scanned_all-marks : (stock : Stock) → KeepsMarks stock (scanned_all stock).state
scanned_all-marks stock = by (any_waits (class_stock stock)) refl
  where
    by : (t : Bool) → any_waits (class_stock stock) ≡ t → KeepsMarks stock (scanned_all stock).state
    by true some = rw some (asks_from-marks stock 1)
    by false none = rw none (at_block-marks stock)

on_scan-marks : (stock : Stock) (i : ℕ) → KeepsMarks stock (on_scan stock i).state
on_scan-marks stock i = by (nat_lt (i + 1) (length (class_stock stock).own)) refl
  where
    by : (t : Bool) → nat_lt (i + 1) (length (class_stock stock).own) ≡ t → KeepsMarks stock (on_scan stock i).state
    by true more = rw more (KeepsMarks-marked stock (record stock { phase = Scan (i + 1) }) refl)
    by false last =
        let all = record stock { scanned = true } in
        rw last (KeepsMarks-on stock all (scanned_all all).state (KeepsMarks-marked stock all refl) (scanned_all-marks all))

-- ---- turns that see bits

MarksFrom-on : (stock middle new : Stock) (Seen : ℕ → ℕ → ℕ → ℕ → Type 0) → MarksFrom stock middle Seen
    → KeepsMarks middle new → MarksFrom stock new Seen
MarksFrom-on stock middle new Seen first second class region block j is =
    first class region block j (second class region block j is)

scan_seen : (stock : Stock) (i found : ℕ) → i < length (class_stock stock).own
    → MarksFrom stock (with_scanned stock i found) (IsSeen (Scan i) stock found)
scan_seen stock i found below class region block j =
    let list = (class_stock stock).own in
    let new = scanned_block stock.class (class_stock stock) (own_at stock i) found in
    class_replaced
    (λ c. IsMarked c.own region block j → IsMarked (blocks_of stock class) region block j ⊎ IsSeen (Scan i) stock found class region block j)
    stock.classes stock.class class (record (class_stock stock) { own = slice_set list i new })
    (λ same is.
    elim (cases_eq is.has.0 i) [
      | inl at ↦
          let here : new ≡ is.own =
          sym (get_or-set_same list i new is.own below)
          ∙ subst (λ k. get_or (slice_set list i new) k is.own ≡ is.own) at is.has.2 in
          let regions : (own_at stock i).region ≡ region = ap (λ (o : OwnBlock). o.region) here ∙ is.region_is in
          let blocks : (own_at stock i).block ≡ block = ap (λ (o : OwnBlock). o.block) here ∙ is.block_is in
          elim (scanned-mark stock.class (class_stock stock) (own_at stock i) found j (subst (λ o. HasMark o j) (sym here) is.mark)) [
            | inl old ↦
                inl
                (subst (λ k. IsMarked (blocks_of stock k) region block j) (sym same)
                (record {
                  own = own_at stock i;
                  has = (i, below, get_or_default list i (own_at stock i) no_block below);
                  region_is = regions;
                  block_is = blocks;
                  mark = old;
                }))
            | inr seen ↦ inr (same, regions, blocks, seen)
          ]
      | inr apart ↦
          inl
          (subst (λ k. IsMarked (blocks_of stock k) region block j) (sym same)
          (record {
            own = is.own;
            has = (
              is.has.0,
              omega (arith, is.has.1, length-set list i new),
              sym (get_or-set_other list i is.has.0 new is.own apart) ∙ is.has.2,
            );
            region_is = is.region_is;
            block_is = is.block_is;
            mark = is.mark;
          }))
    ])
    (λ is. inl is)

block_seen : (stock : Stock) (ripe waiting : ℕ) → MarksFrom stock (with_block stock ripe waiting)
    (λ class region block j. IsHere stock class region block × ((bit_at ripe j ≡ 1) ⊎ (bit_at waiting j ≡ 1)))
block_seen stock ripe waiting class region block j =
    let list = (class_stock stock).own in
    let new : OwnBlock = record { region = region_at stock; block = block_at stock; ripe = ripe; waiting = waiting } in
    class_replaced
    (λ c. IsMarked c.own region block j → IsMarked (blocks_of stock class) region block j
    ⊎ (IsHere stock class region block × ((bit_at ripe j ≡ 1) ⊎ (bit_at waiting j ≡ 1))))
    stock.classes stock.class class (record (class_stock stock) { own = list ++ new ∷ [] })
    (λ same is.
    elim (Contains-append_cases list (new ∷ []) is.own is.has) [
      | inl old ↦
          inl
          (subst (λ k. IsMarked (blocks_of stock k) region block j) (sym same)
          (record { own = is.own; has = old; region_is = is.region_is; block_is = is.block_is; mark = is.mark }))
      | inr last ↦
          let first : last.0 ≡ 0 = omega (arith, last.1) in
          let here : new ≡ is.own = subst (λ k. get_or (new ∷ []) k is.own ≡ is.own) first last.2 in
          inr (
            record {
              class_is = same;
              region_is = ap (λ (o : OwnBlock). o.region) here ∙ is.region_is;
              block_is = ap (λ (o : OwnBlock). o.block) here ∙ is.block_is;
            },
            subst (λ o. HasMark o j) (sym here) is.mark,
          )
    ])
    (λ is. inl is)

bitmap_seen : (stock : Stock) (found : ℕ)
    → MarksFrom stock (asks_from (with_awaited (with_block stock 0 (bit_and found (object_bits stock.class))) []) 1).state
    (IsSeen ReadBitmap stock found)
bitmap_seen stock found class region block j is =
    let waiting = bit_and found (object_bits stock.class) in
    let with_it = with_block stock 0 waiting in
    elim (block_seen stock 0 waiting class region block j (asks_with-marks with_it [] 1 class region block j is)) [
      | inl old ↦ inl old
      | inr new ↦
          inr (
            new.0,
            elim (new.1) [ inl ripe ↦ no_bit j ripe | inr waits ↦ both_set found (object_bits stock.class) j waits ],
          )
    ]

owns_seen : (stock : Stock) (unused : Bool)
    → MarksFrom stock (owns stock unused).state (λ class region block j. IsHere stock class region block × (unused ≡ true))
owns_seen stock true class region block j is =
    let with_it = with_block stock (object_bits stock.class) 0 in
    elim (block_seen stock (object_bits stock.class) 0 class region block j (chooses-marks with_it class region block j is)) [
      | inl old ↦ inl old
      | inr new ↦ inr (new.0, refl)
    ]
owns_seen stock false class region block j is =
    inl (KeepsMarks-marked stock (record stock { phase = ReadBitmap }) refl class region block j is)

spread_seen : (stock : Stock) (unused : Bool) (backup : ℕ)
    → MarksFrom stock (spreads_from stock unused backup).state
    (λ class region block j. IsHere stock class region block × (unused ≡ true))
spread_seen stock unused backup = by (nat_lt (backup + 1) (replica_count (view_of stock) (word_at_block stock))) refl
  where
    by : (t : Bool) → nat_lt (backup + 1) (replica_count (view_of stock) (word_at_block stock)) ≡ t
        → MarksFrom stock (spreads_from stock unused backup).state
        (λ class region block j. IsHere stock class region block × (unused ≡ true))
    by true more =
        rw more
        (λ class region block j is.
        inl (KeepsMarks-marked stock (record stock { phase = Spread unused backup }) refl class region block j is))
    by false last = rw last (owns_seen stock unused)

false_true : {A : Type 0} → false ≡ true → A
false_true is = absurd cc

-- a block that the client owns already is not unused
taken_over : (stock : Stock) → KeepsMarks stock (spreads_from stock false 0).state
taken_over stock class region block j is =
    elim (spread_seen stock false 0 class region block j is) [ inl old ↦ old | inr new ↦ false_true new.1 ]

on_block-marks : (stock : Stock) (found : ℕ) (block : Option BlockWord) → KeepsMarks stock (on_block stock found block).state
on_block-marks stock found None = next_block-marks stock
on_block-marks stock found (Some Unused) = KeepsMarks-marked stock (record stock { phase = Claim found }) refl
on_block-marks stock found (Some (Released class)) = by (class == stock.class) refl
  where
    by : (t : Bool) → (class == stock.class) ≡ t → KeepsMarks stock (on_block stock found (Some (Released class))).state
    by true same = rw same (KeepsMarks-marked stock (record stock { phase = Claim found }) refl)
    by false other = rw other (next_block-marks stock)
on_block-marks stock found (Some (Owned client class)) = by ((client == stock.client) && (class == stock.class)) refl
  where
    by : (t : Bool) → ((client == stock.client) && (class == stock.class)) ≡ t
        → KeepsMarks stock (on_block stock found (Some (Owned client class))).state
    by true own = rw own (taken_over stock)
    by false other = rw other (next_block-marks stock)

on_block_word-marks : (stock : Stock) (found : ℕ) → KeepsMarks stock (on_block_word stock found).state
on_block_word-marks stock found = by (is_own stock (region_at stock) (block_at stock)) refl
  where
    by : (t : Bool) → is_own stock (region_at stock) (block_at stock) ≡ t → KeepsMarks stock (on_block_word stock found).state
    by true own = rw own (next_block-marks stock)
    by false other = rw other (on_block-marks stock found (block_in found))

claim_seen : (stock : Stock) (word found : ℕ)
    → MarksFrom stock (turn_at (Claim word) stock (Word found)).state (IsSeen (Claim word) stock found)
claim_seen stock word found = by (found == word) refl
  where
    by : (t : Bool) → (found == word) ≡ t
        → MarksFrom stock (turn_at (Claim word) stock (Word found)).state (IsSeen (Claim word) stock found)
    by true swapped =
        rw swapped
        (λ class region block j is.
        elim (spread_seen stock (word == 0) 0 class region block j is) [
          | inl old ↦ inl old
          | inr new ↦ inr (new.0, eqb-true word 0 new.1, eqb-true found word swapped)
        ])
    by false lost = rw lost (λ class region block j is. inl (next_block-marks stock class region block j is))

-- ---- any turn whose verb was not refused

pub turn_seen : (stock : Stock) (phase : Phase) (found : ℕ) → IsAt phase stock
    → MarksFrom stock (turn_at phase stock (answer_of (verb_at phase stock) found)).state (IsSeen phase stock found)
turn_seen stock Rest found at = λ class region block j is. inl is
turn_seen stock AskFirst found at = λ class region block j is. inl (on_first-marks stock found class region block j is)
turn_seen stock (Scan i) found at =
    MarksFrom-on stock (with_scanned stock i found) (on_scan (with_scanned stock i found) i).state (IsSeen (Scan i) stock found)
    (scan_seen stock i found at) (on_scan-marks (with_scanned stock i found) i)
turn_seen stock (Ask client) found at = λ class region block j is.
    inl (asks_with-marks stock (noted (class_stock stock).awaited client found) (client + 1) class region block j is)
turn_seen stock ReadBlock found at = λ class region block j is. inl (on_block_word-marks stock found class region block j is)
turn_seen stock (Claim word) found at = claim_seen stock word found
turn_seen stock (Spread unused backup) found at = spread_seen stock unused (backup + 1)
turn_seen stock ReadBitmap found at = bitmap_seen stock found
turn_seen stock WriteHead found at = λ class region block j is.
    inl (begins-marks stock stock.mask stock.class class region block j is)

-- the next reserve is the reserve
pub taken-marks : (stock : Stock) (class next : ℕ) → KeepsMarks stock (taken stock class next)
taken-marks stock class next =
    let of_class = slice_index_or stock.classes class no_stock in
    KeepsMarks-class stock class (with_reserve class of_class next)
    (IsMarked-map (cleared_block class of_class) of_class.own (λ own. (refl, refl)) (cleared-mark class of_class))
