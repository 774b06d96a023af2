-- No object of a client's block is both ripe and waiting, and no block is twice among those that a client has gained.
use Rattle.std.proofs.Common.{◌≡◌, ℕ, ◌+◌, ◌*◌, ◌^◌, ◌<◌, ◌==◌, inl, inr, Bool, true, false, ◌&&◌, List, [], ◌∷◌, ◌++◌, length, map, get_or, Option, Some, None, refl, sym, ap, subst, ◌∙◌, arith, length-set, get_or-set_other, get_or-set_same}
use Rattle.std.specs.Prelude.{Contains, bit_and, not, nat_le, nat_lt, slice_index_or, slice_set}
use Rattle.std.specs.Int.{bit_at}
use Rattle.std.proofs.lemmas.Bool.{cases_eq, cases_lt}
use Rattle.std.proofs.Math.ListN.{get_or-append}
use Rattle.std.proofs.Math.Seq.{get_or-append_seam}
use Rattle.std.proofs.lemmas.List.{get_or-map, get_or_default, length-append, length-map}
use Rattle.std.proofs.lemmas.List.Elements.{Contains-append_cases}
use Rattle.block_alloc.specs.declared.BlockWord.{BlockWord}
use Rattle.block_alloc.specs.declared.BlockWord.TheVariants.{Unused, Owned, Released}
use Rattle.block_alloc.specs.BlockWord.{block_in}
use Rattle.machine.specs.Choosing.{IsAt, asked, asks_after, asks_from, at_block, begins, block_at, chooses, first_awaited, looks, next_block, no_block, not_awaited, on_block, on_block_word, on_first, on_scan, own_at, owns, region_at, ripens, scanned_all, spreads_from, taken, takes, turn_at, verb_at, with_awaited, with_block, with_scanned, word_at_block}
use Rattle.machine.specs.Places.{replica_count}
use Rattle.machine.specs.Stock.{AskFirst, Ask, Claim, ClassStock, OwnBlock, Phase, ReadBitmap, ReadBlock, Rest, Scan, Spread, Stock, WriteHead, any_waits, class_stock, cleared_block, first_free, is_own, new_bits, no_stock, object_bits, reserve_bit, ripened, ripened_block, scanned_block, view_of, with_class_stock, with_reserve, without}
use Rattle.reuse_epoch.specs.Awaited.{Awaited, begin_of, client_of, noted, still_awaited}
use Rattle.verb_words.specs.declared.verbs.Answer.TheVariants.{Word}
use Rattle.verb_words.specs.Verb.{answer_of}
use Rattle.machine.specs.declared.choosing.Took.{Took}
use Rattle.machine.specs.declared.choosing.Took.TheVariants as took
use Rattle.machine.specs.BitChange as bits
use Rattle.machine.specs.Choosing.{next, turn}
use Rattle.machine.specs.EpochRead.{IsView}
use Rattle.machine.specs.ObjectNames.{Object, block_of, number_of}
use Rattle.pointer_fields.specs.Pointer.{region_of}
use Rattle.region_view.specs.Placed.{Viewed}
use Rattle.reuse_grace.proofs.Soundness.{at_updated}
use Rattle.reuse_grace.specs.Stock.{updated}
use Rattle.verb_words.specs.Verb.{place_of}
use Rattle.verb_words.specs.Words.{word_at}
use Rattle.object_division.specs.Allowed.{IsAllowed, MayHappen}
use Rattle.object_division.specs.Client.{Active, Cleared, Clearing, Client, Given, Named, NotClearing, Releasing, Retired, Returning, Service, Taken, Under, Untaken, Use}
use Rattle.object_division.specs.Marks.{HasMark, IsClaiming, IsMarked, IsNew, IsRipe, blocks_of}
use Rattle.object_division.specs.Run.{Begin, Choose, Clear, ClearNext, End, Event, Name, Release, ReleaseNext, Renew, Retire, Return, ReturnNext, Seek, State, answered, cleared_next, clearing_after, clearing_of, happens, opening, released_next, renewed, returned_next, run, service_after, told}
use Rattle.object_division.proofs.BlockLemmas.{IsSound-happens, IsSound-opening, IsSound-run, first_stocks}
use Rattle.object_division.proofs.NewBlockLemmas.{AllClaimNew, ClaimsNew, IsNew-read, new-happens, new-opening}
use Rattle.object_division.proofs.Soundness.{AreNamed, IsSound, IsSoundClearing}
use Rattle.object_division.proofs.OwnLemmas.{AllHaveTheirOwn, ClearsOwn, IsGiven, own-opening, own-run}
use Rattle.std.proofs.lemmas.Nat.Bits.{bit_at-pow_same}
use Rattle.object_division.proofs.BitLemmas.{bit_at-without, bit_at-without_other, either, no_bit}
use Rattle.object_division.proofs.GiftLemmas.{class_replaced, reserve_bit-here}

-- ---- blocks in which what is ripe does not wait

abbrev pub SortedBlock : OwnBlock → Type 0
SortedBlock own = (j : ℕ) → bit_at own.ripe j ≡ 1 → bit_at own.waiting j ≡ 1 → ⊥

-- each block is sorted so, and is there once
pub record AreSorted (list : List OwnBlock) : Type 0 where
  pub sorted : (own : OwnBlock) → Contains list own → SortedBlock own
  pub once : (one other : ℕ) → one < length list → other < length list
      → (get_or list one no_block).region ≡ (get_or list other no_block).region
      → (get_or list one no_block).block ≡ (get_or list other no_block).block → one ≡ other

abbrev pub IsSorted : Stock → Type 0
IsSorted stock = (class : ℕ) → AreSorted (blocks_of stock class)

abbrev KeepsSorted : Stock → Stock → Type 0
KeepsSorted stock new = IsSorted stock → IsSorted new

KeepsSorted-marked : (stock new : Stock) → new.classes ≡ stock.classes → KeepsSorted stock new
KeepsSorted-marked stock new same all class =
    subst (λ (classes : List ClassStock). AreSorted (slice_index_or classes class no_stock).own) (sym same) (all class)

KeepsSorted-on : (stock middle new : Stock) → KeepsSorted stock middle → KeepsSorted middle new → KeepsSorted stock new
KeepsSorted-on stock middle new first second all = second (first all)

KeepsSorted-class : (stock : Stock) (class : ℕ) (of_class : ClassStock)
    → (AreSorted (blocks_of stock class) → AreSorted of_class.own)
    → KeepsSorted stock (record stock { classes = slice_set stock.classes class of_class })
KeepsSorted-class stock class of_class kept all other =
    class_replaced (λ c. AreSorted c.own) stock.classes class other of_class (λ same. kept (all class)) (all other)

AreSorted-map : (f : OwnBlock → OwnBlock) (list : List OwnBlock)
    → ((own : OwnBlock) → ((f own).region ≡ own.region) × ((f own).block ≡ own.block))
    → ((own : OwnBlock) → SortedBlock own → SortedBlock (f own)) → AreSorted list → AreSorted (map f list)
AreSorted-map f list same kept all =
    record {
      sorted = λ own has.
          let within : has.0 < length list = omega (arith, has.1, length-map list f) in
          let old = get_or list has.0 no_block in
          subst (λ o. SortedBlock o) (sym (get_or-map f list has.0 no_block own within) ∙ has.2)
          (kept old (all.sorted old (has.0, within, get_or_default list has.0 old no_block within)));
      once = λ one other below below' region block.
          let within : one < length list = omega (arith, below, length-map list f) in
          let within' : other < length list = omega (arith, below', length-map list f) in
          let at = get_or-map f list one no_block no_block within in
          let at' = get_or-map f list other no_block no_block within' in
          all.once one other within within'
          (sym (same (get_or list one no_block)).0
          ∙ (ap (λ (o : OwnBlock). o.region) (sym at) ∙ (region ∙ (ap (λ (o : OwnBlock). o.region) at' ∙ (same (get_or list other no_block)).0))))
          (sym (same (get_or list one no_block)).1
          ∙ (ap (λ (o : OwnBlock). o.block) (sym at) ∙ (block ∙ (ap (λ (o : OwnBlock). o.block) at' ∙ (same (get_or list other no_block)).1))));
    }

ripened-sorted : (own : OwnBlock) → SortedBlock own → SortedBlock (ripened_block own)
ripened-sorted own sorted j ripe waits = no_bit j waits

cleared_block-sorted : (class : ℕ) (of_class : ClassStock) (own : OwnBlock) → SortedBlock own
    → SortedBlock (cleared_block class of_class own)
cleared_block-sorted class of_class own sorted j ripe waits =
    sorted j (bit_at-without own.ripe (reserve_bit class of_class own) j ripe) waits

-- what is ripe already does not wait anew
scanned-sorted : (class : ℕ) (of_class : ClassStock) (own : OwnBlock) (found : ℕ) → SortedBlock own
    → SortedBlock (scanned_block class of_class own found)
scanned-sorted class of_class own found sorted j ripe waits =
    elim (either own.waiting (new_bits class of_class own found) j waits) [
      | inl old ↦ sorted j ripe old
      | inr new ↦
          let none : bit_at own.ripe j ≡ 0 =
          bit_at-without_other (bit_and found (object_bits class)) own.ripe j
          (bit_at-without (without (bit_and found (object_bits class)) own.ripe) own.waiting j
          (bit_at-without (without (without (bit_and found (object_bits class)) own.ripe) own.waiting)
          (reserve_bit class of_class own) j new)) in
          absurd (omega (arith, ripe, none))
    ]

AreSorted-put : (list : List OwnBlock) (i : ℕ) (new : OwnBlock) → i < length list
    → new.region ≡ (get_or list i no_block).region → new.block ≡ (get_or list i no_block).block
    → (SortedBlock (get_or list i no_block) → SortedBlock new) → AreSorted list → AreSorted (slice_set list i new)
AreSorted-put list i new below region_same block_same kept all =
    record {
      sorted = λ own has.
          elim (cases_eq has.0 i) [
            | inl at ↦
                let here : new ≡ own =
                sym (get_or-set_same list i new own below)
                ∙ subst (λ k. get_or (slice_set list i new) k own ≡ own) at has.2 in
                subst (λ o. SortedBlock o) here
                (kept (all.sorted (get_or list i no_block) (i, below, get_or_default list i (get_or list i no_block) no_block below)))
            | inr apart ↦
                all.sorted own
                (has.0, omega (arith, has.1, long), sym (get_or-set_other list i has.0 new own apart) ∙ has.2)
          ];
      once = λ one other within within' region block.
          all.once one other (omega (arith, within, long)) (omega (arith, within', long))
          (sym (regions one) ∙ (region ∙ regions other)) (sym (blocks one) ∙ (block ∙ blocks other));
    }
  where
    long : length (slice_set list i new) ≡ length list
    long = length-set list i new

    regions : (k : ℕ) → (get_or (slice_set list i new) k no_block).region ≡ (get_or list k no_block).region
    regions k =
        elim (cases_eq k i) [
          | inl at ↦ rw (at, get_or-set_same list i new no_block below) region_same
          | inr apart ↦ ap (λ (o : OwnBlock). o.region) (get_or-set_other list i k new no_block apart)
        ]

    blocks : (k : ℕ) → (get_or (slice_set list i new) k no_block).block ≡ (get_or list k no_block).block
    blocks k =
        elim (cases_eq k i) [
          | inl at ↦ rw (at, get_or-set_same list i new no_block below) block_same
          | inr apart ↦ ap (λ (o : OwnBlock). o.block) (get_or-set_other list i k new no_block apart)
        ]

AreSorted-pushed : (list : List OwnBlock) (new : OwnBlock)
    → ((own : OwnBlock) → Contains list own → own.region ≡ new.region → own.block ≡ new.block → ⊥) → SortedBlock new
    → AreSorted list → AreSorted (list ++ new ∷ [])
AreSorted-pushed list new apart here all =
    record {
      sorted = λ own has.
          elim (Contains-append_cases list (new ∷ []) own has) [
            | inl old ↦ all.sorted own old
            | inr last ↦
                let first : last.0 ≡ 0 = omega (arith, last.1) in
                subst (λ o. SortedBlock o) (subst (λ k. get_or (new ∷ []) k own ≡ own) first last.2) here
          ];
      once = λ one other within within' region block.
          elim (cases_lt one (length list)) [
            | inl below ↦
                elim (cases_lt other (length list)) [
                  | inl below' ↦
                      all.once one other below below'
                      (ap (λ (o : OwnBlock). o.region) (sym (old_at one below)) ∙ (region ∙ ap (λ (o : OwnBlock). o.region) (old_at other below')))
                      (ap (λ (o : OwnBlock). o.block) (sym (old_at one below)) ∙ (block ∙ ap (λ (o : OwnBlock). o.block) (old_at other below')))
                  | inr past' ↦
                      let last : other ≡ length list = omega (arith, within', long, past') in
                      absurd
                      (apart (get_or list one no_block) (held one below)
                      (ap (λ (o : OwnBlock). o.region) (sym (old_at one below)) ∙ (region ∙ ap (λ (o : OwnBlock). o.region) (new_at other last)))
                      (ap (λ (o : OwnBlock). o.block) (sym (old_at one below)) ∙ (block ∙ ap (λ (o : OwnBlock). o.block) (new_at other last))))
                ]
            | inr past ↦
                let last : one ≡ length list = omega (arith, within, long, past) in
                elim (cases_lt other (length list)) [
                  | inl below' ↦
                      absurd
                      (apart (get_or list other no_block) (held other below')
                      (ap (λ (o : OwnBlock). o.region) (sym (old_at other below')) ∙ (sym region ∙ ap (λ (o : OwnBlock). o.region) (new_at one last)))
                      (ap (λ (o : OwnBlock). o.block) (sym (old_at other below')) ∙ (sym block ∙ ap (λ (o : OwnBlock). o.block) (new_at one last))))
                  | inr past' ↦ omega (arith, last, within', long, past')
                ]
          ];
    }
  where
    long : length (list ++ new ∷ []) ≡ length list + 1
    long = length-append list (new ∷ [])

    held : (k : ℕ) → k < length list → Contains list (get_or list k no_block)
    held k below = (k, below, get_or_default list k (get_or list k no_block) no_block below)

    old_at : (k : ℕ) → k < length list → get_or (list ++ new ∷ []) k no_block ≡ get_or list k no_block
    old_at k below = get_or-append list (new ∷ []) no_block k below

    new_at : (k : ℕ) → k ≡ length list → get_or (list ++ new ∷ []) k no_block ≡ new
    new_at k last = ap (λ n. get_or (list ++ new ∷ []) n no_block) last ∙ get_or-append_seam list new [] no_block

-- ---- turns that gain no block

at_block-sorted : (stock : Stock) → KeepsSorted stock (at_block stock).state
at_block-sorted stock = by (nat_lt stock.position (stock.shape.regions * stock.shape.blocks)) refl
  where
    by : (t : Bool) → nat_lt stock.position (stock.shape.regions * stock.shape.blocks) ≡ t → KeepsSorted stock (at_block stock).state
    by true within = rw within (KeepsSorted-marked stock (record stock { phase = ReadBlock }) refl)
    by false last = rw last (KeepsSorted-marked stock (record stock { phase = Rest }) refl)

next_block-sorted : (stock : Stock) → KeepsSorted stock (next_block stock).state
next_block-sorted stock =
    let moved = record stock { position = stock.position + 1 } in
    KeepsSorted-on stock moved (next_block stock).state (KeepsSorted-marked stock moved refl) (at_block-sorted moved)

takes-sorted : (stock : Stock) (free : ℕ) → KeepsSorted stock (takes stock free).state
takes-sorted stock free = by (class_stock stock).reserve refl
  where
    by : (reserve : Option ℕ) → (class_stock stock).reserve ≡ reserve → KeepsSorted stock (takes stock free).state
    by (Some reserve) some = rw some (KeepsSorted-marked stock (record stock { phase = Rest }) refl)
    by None none =
        rw none
        (KeepsSorted-class stock stock.class (record (class_stock stock) { reserve = Some free }) (λ sorted. sorted))

looks-sorted : (stock : Stock) → KeepsSorted stock (looks stock).state
looks-sorted stock = by (nat_lt 0 (length (class_stock stock).awaited)) refl (not stock.scanned && nat_lt 0 (length (class_stock stock).own)) refl
  where
    by : (t : Bool) → nat_lt 0 (length (class_stock stock).awaited) ≡ t → (u : Bool)
        → (not stock.scanned && nat_lt 0 (length (class_stock stock).own)) ≡ u → KeepsSorted stock (looks stock).state
    by true some u scan = rw some (KeepsSorted-marked stock (record stock { phase = AskFirst }) refl)
    by false none true scan = rw (none, scan) (KeepsSorted-marked stock (record stock { phase = Scan 0 }) refl)
    by false none false done = rw (none, done) (at_block-sorted stock)

chooses-sorted : (stock : Stock) → KeepsSorted stock (chooses stock).state
chooses-sorted stock = by (first_free stock.class (class_stock stock)) refl
  where
    by : (free : Option ℕ) → first_free stock.class (class_stock stock) ≡ free → KeepsSorted stock (chooses stock).state
    by None none = rw none (looks-sorted stock)
    by (Some free) some = rw some (takes-sorted stock free)

begins-sorted : (stock : Stock) (mask class : ℕ) → KeepsSorted stock (begins stock mask class).state
begins-sorted stock mask class =
    let new = record stock { mask = mask; class = class; scanned = false; position = 0 } in
    KeepsSorted-on stock new (begins stock mask class).state (KeepsSorted-marked stock new refl) (chooses-sorted new)

ripens-sorted : (stock : Stock) → KeepsSorted stock (ripens stock).state
ripens-sorted stock =
    let ripe = with_class_stock stock (ripened (class_stock stock)) in
    KeepsSorted-on stock ripe (ripens stock).state
    (KeepsSorted-class stock stock.class (ripened (class_stock stock))
    (AreSorted-map ripened_block (class_stock stock).own (λ own. (refl, refl)) ripened-sorted))
    (chooses-sorted ripe)

asked-sorted : (stock : Stock) → KeepsSorted stock (asked stock).state
asked-sorted stock = by (length (class_stock stock).awaited == 0) refl
  where
    by : (t : Bool) → (length (class_stock stock).awaited == 0) ≡ t → KeepsSorted stock (asked stock).state
    by true none = rw none (ripens-sorted stock)
    by false some = rw some (at_block-sorted stock)

asks_after-sorted : (stock : Stock) (client : ℕ) → KeepsSorted stock (asks_after stock client).state
asks_after-sorted stock client = by (nat_le client stock.shape.clients) refl
  where
    by : (t : Bool) → nat_le client stock.shape.clients ≡ t → KeepsSorted stock (asks_after stock client).state
    by true within = rw within (KeepsSorted-marked stock (record stock { phase = Ask client }) refl)
    by false beyond = rw beyond (asked-sorted stock)

asks_from-sorted : (stock : Stock) (client : ℕ) → KeepsSorted stock (asks_from stock client).state
asks_from-sorted stock client = by (client == stock.client) refl
  where
    by : (t : Bool) → (client == stock.client) ≡ t → KeepsSorted stock (asks_from stock client).state
    by true own = rw own (asks_after-sorted stock (client + 1))
    by false other = rw other (asks_after-sorted stock client)

with_awaited-sorted : (stock : Stock) (awaited : List Awaited) → KeepsSorted stock (with_awaited stock awaited)
with_awaited-sorted stock awaited =
    KeepsSorted-class stock stock.class (record (class_stock stock) { awaited = awaited }) (λ sorted. sorted)

asks_with-sorted : (stock : Stock) (awaited : List Awaited) (client : ℕ)
    → KeepsSorted stock (asks_from (with_awaited stock awaited) client).state
asks_with-sorted stock awaited client =
    KeepsSorted-on stock (with_awaited stock awaited) (asks_from (with_awaited stock awaited) client).state
    (with_awaited-sorted stock awaited) (asks_from-sorted (with_awaited stock awaited) client)

not_awaited-sorted : (stock : Stock) → KeepsSorted stock (not_awaited stock).state
not_awaited-sorted stock = by (length (class_stock stock).awaited == 0) refl
  where
    by : (t : Bool) → (length (class_stock stock).awaited == 0) ≡ t → KeepsSorted stock (not_awaited stock).state
    by true none = rw none (ripens-sorted stock)
    by false some = rw some (KeepsSorted-marked stock (record stock { phase = AskFirst }) refl)

on_first-sorted : (stock : Stock) (found : ℕ) → KeepsSorted stock (on_first stock found).state
on_first-sorted stock found = by (found == begin_of (first_awaited stock)) refl
  where
    still : List Awaited
    still = still_awaited (class_stock stock).awaited (client_of (first_awaited stock)) found

    by : (t : Bool) → (found == begin_of (first_awaited stock)) ≡ t → KeepsSorted stock (on_first stock found).state
    by true same = rw same (at_block-sorted stock)
    by false other =
        rw other
        (KeepsSorted-on stock (with_awaited stock still) (not_awaited (with_awaited stock still)).state
        (with_awaited-sorted stock still) (not_awaited-sorted (with_awaited stock still)))

scanned_all-sorted : (stock : Stock) → KeepsSorted stock (scanned_all stock).state
scanned_all-sorted stock = by (any_waits (class_stock stock)) refl
  where
    by : (t : Bool) → any_waits (class_stock stock) ≡ t → KeepsSorted stock (scanned_all stock).state
    by true some = rw some (asks_from-sorted stock 1)
    by false none = rw none (at_block-sorted stock)

on_scan-sorted : (stock : Stock) (i : ℕ) → KeepsSorted stock (on_scan stock i).state
on_scan-sorted stock i = by (nat_lt (i + 1) (length (class_stock stock).own)) refl
  where
    by : (t : Bool) → nat_lt (i + 1) (length (class_stock stock).own) ≡ t → KeepsSorted stock (on_scan stock i).state
    by true more = rw more (KeepsSorted-marked stock (record stock { phase = Scan (i + 1) }) refl)
    by false last =
        let all = record stock { scanned = true } in
        rw last (KeepsSorted-on stock all (scanned_all all).state (KeepsSorted-marked stock all refl) (scanned_all-sorted all))

-- ---- turns that look at blocks or gain them

scans-sorted : (stock : Stock) (i found : ℕ) → i < length (class_stock stock).own
    → KeepsSorted stock (on_scan (with_scanned stock i found) i).state
scans-sorted stock i found below =
    let list = (class_stock stock).own in
    let new = scanned_block stock.class (class_stock stock) (own_at stock i) found in
    KeepsSorted-on stock (with_scanned stock i found) (on_scan (with_scanned stock i found) i).state
    (KeepsSorted-class stock stock.class (record (class_stock stock) { own = slice_set list i new })
    (AreSorted-put list i new below refl refl (scanned-sorted stock.class (class_stock stock) (own_at stock i) found)))
    (on_scan-sorted (with_scanned stock i found) i)

with_block-sorted : (stock : Stock) (ripe waiting : ℕ) → IsNew stock
    → ((j : ℕ) → bit_at ripe j ≡ 1 → bit_at waiting j ≡ 1 → ⊥) → KeepsSorted stock (with_block stock ripe waiting)
with_block-sorted stock ripe waiting new apart =
    let block : OwnBlock = record { region = region_at stock; block = block_at stock; ripe = ripe; waiting = waiting } in
    KeepsSorted-class stock stock.class
    (record (class_stock stock) { own = (class_stock stock).own ++ block ∷ [] })
    (AreSorted-pushed (class_stock stock).own block (λ own has. new stock.class own has) apart)

bitmap-sorted : (stock : Stock) (waiting : ℕ) → IsNew stock
    → KeepsSorted stock (asks_from (with_awaited (with_block stock 0 waiting) []) 1).state
bitmap-sorted stock waiting new =
    let block = with_block stock 0 waiting in
    KeepsSorted-on stock block (asks_from (with_awaited block []) 1).state
    (with_block-sorted stock 0 waiting new (λ j ripe waits. no_bit j ripe)) (asks_with-sorted block [] 1)

owns-sorted : (stock : Stock) (unused : Bool) → IsNew stock → KeepsSorted stock (owns stock unused).state
owns-sorted stock true new =
    let block = with_block stock (object_bits stock.class) 0 in
    KeepsSorted-on stock block (chooses block).state
    (with_block-sorted stock (object_bits stock.class) 0 new (λ j ripe waits. no_bit j waits)) (chooses-sorted block)
owns-sorted stock false new = KeepsSorted-marked stock (record stock { phase = ReadBitmap }) refl

spreads-sorted : (stock : Stock) (unused : Bool) (backup : ℕ) → IsNew stock
    → KeepsSorted stock (spreads_from stock unused backup).state
spreads-sorted stock unused backup new = by (nat_lt (backup + 1) (replica_count (view_of stock) (word_at_block stock))) refl
  where
    by : (t : Bool) → nat_lt (backup + 1) (replica_count (view_of stock) (word_at_block stock)) ≡ t
        → KeepsSorted stock (spreads_from stock unused backup).state
    by true more = rw more (KeepsSorted-marked stock (record stock { phase = Spread unused backup }) refl)
    by false last = rw last (owns-sorted stock unused new)

on_block-sorted : (stock : Stock) (found : ℕ) (block : Option BlockWord) → IsNew stock
    → KeepsSorted stock (on_block stock found block).state
on_block-sorted stock found None new = next_block-sorted stock
on_block-sorted stock found (Some Unused) new = KeepsSorted-marked stock (record stock { phase = Claim found }) refl
on_block-sorted stock found (Some (Released class)) new = by (class == stock.class) refl
  where
    by : (t : Bool) → (class == stock.class) ≡ t → KeepsSorted stock (on_block stock found (Some (Released class))).state
    by true same = rw same (KeepsSorted-marked stock (record stock { phase = Claim found }) refl)
    by false other = rw other (next_block-sorted stock)
on_block-sorted stock found (Some (Owned client class)) new = by ((client == stock.client) && (class == stock.class)) refl
  where
    by : (t : Bool) → ((client == stock.client) && (class == stock.class)) ≡ t
        → KeepsSorted stock (on_block stock found (Some (Owned client class))).state
    by true own = rw own (spreads-sorted stock false 0 new)
    by false other = rw other (next_block-sorted stock)

read-sorted : (stock : Stock) (found : ℕ) → KeepsSorted stock (on_block_word stock found).state
read-sorted stock found = by (is_own stock (region_at stock) (block_at stock)) refl
  where
    by : (t : Bool) → is_own stock (region_at stock) (block_at stock) ≡ t → KeepsSorted stock (on_block_word stock found).state
    by true own = rw own (next_block-sorted stock)
    by false other = rw other (on_block-sorted stock found (block_in found) (IsNew-read stock other))

claim-sorted : (stock : Stock) (word found : ℕ) → IsNew stock → KeepsSorted stock (turn_at (Claim word) stock (Word found)).state
claim-sorted stock word found new = by (found == word) refl
  where
    by : (t : Bool) → (found == word) ≡ t → KeepsSorted stock (turn_at (Claim word) stock (Word found)).state
    by true same = rw same (spreads-sorted stock (word == 0) 0 new)
    by false other = rw other (next_block-sorted stock)

-- a turn of a choosing whose verb was not refused
turn-sorted : (stock : Stock) (phase : Phase) (found : ℕ) → stock.phase ≡ phase → IsAt phase stock → ClaimsNew stock
    → KeepsSorted stock (turn_at phase stock (answer_of (verb_at phase stock) found)).state
unfolding ClaimsNew
turn-sorted stock Rest found same at new = λ sorted. sorted
turn-sorted stock AskFirst found same at new = on_first-sorted stock found
turn-sorted stock (Scan i) found same at new = scans-sorted stock i found at
turn-sorted stock (Ask client) found same at new =
    asks_with-sorted stock (noted (class_stock stock).awaited client found) (client + 1)
turn-sorted stock ReadBlock found same at new = read-sorted stock found
turn-sorted stock (Claim word) found same at new =
    claim-sorted stock word found (new (subst (λ p. IsClaiming p) (sym same) tt))
turn-sorted stock (Spread unused backup) found same at new =
    spreads-sorted stock unused (backup + 1) (new (subst (λ p. IsClaiming p) (sym same) tt))
turn-sorted stock ReadBitmap found same at new =
    bitmap-sorted stock (bit_and found (object_bits stock.class)) (new (subst (λ p. IsClaiming p) (sym same) tt))
turn-sorted stock WriteHead found same at new = begins-sorted stock stock.mask stock.class

taken-sorted : (stock : Stock) (class reserve : ℕ) → KeepsSorted stock (taken stock class reserve)
taken-sorted stock class reserve =
    let of_class = slice_index_or stock.classes class no_stock in
    KeepsSorted-class stock class (with_reserve class of_class reserve)
    (AreSorted-map (cleared_block class of_class) of_class.own (λ own. (refl, refl)) (cleared_block-sorted class of_class))

-- ---- any step

unfoldable pub AllSorted : (ℕ → Client) → Type 0
AllSorted clients = (number : ℕ) → IsSorted (clients number).stock

told-sorted : (client : Client) (stock : Stock) (answer : Took) → IsSorted stock → IsSorted (told client stock answer).stock
told-sorted client stock took.Going new = new
told-sorted client stock (took.Have object next_object) new = new
told-sorted client stock (took.NoSpace class awaited begin) new = new
told-sorted client stock (took.Refused node) new = new

updated_sorted : (clients : ℕ → Client) (number : ℕ) (client : Client) → AllSorted clients → IsSorted client.stock
    → AllSorted (updated clients number client)
unfolding AllSorted
updated_sorted clients number client all new other =
    at_updated (λ (c : Client). IsSorted c.stock) clients number client other (λ same. new) (λ apart. all other)

renewed-sorted : (client : Client) (clearing : Clearing) → IsSorted client.stock → IsSorted (renewed client clearing).stock
renewed-sorted client NotClearing new = new
renewed-sorted client (Under class given change) new = new
renewed-sorted client (Cleared class given) new = taken-sorted client.stock class given.next new

cleared-sorted : (state : State) (number : ℕ) (clearing : Clearing) → AllSorted state.clients
    → AllSorted (cleared_next state number clearing).clients
unfolding AllSorted
cleared-sorted state number NotClearing all = all
cleared-sorted state number (Cleared class given) all = all
cleared-sorted state number (Under class given change) all =
    let t = bits.turn change (answered state (bits.next change)) in
    updated_sorted state.clients number (record (state.clients number) { clearing = clearing_after class given t t.told }) all
    (all number)

returned-sorted : (state : State) (object : Object) (use_of : Use) → AllSorted state.clients
    → AllSorted (returned_next state object use_of).clients
returned-sorted state object Untaken all = all
returned-sorted state object (Taken client) all = all
returned-sorted state object (Named client namer) all = all
returned-sorted state object (Returning client namer change) all = all

released-sorted : (state : State) (number : ℕ) (service : Service) → AllSorted state.clients
    → AllSorted (released_next state number service).clients
unfolding AllSorted
released-sorted state number Active all = all
released-sorted state number Retired all = all
released-sorted state number (Releasing region block class replicas) all =
    updated_sorted state.clients number
    (record (state.clients number) { service = service_after state.view region block class replicas }) all (all number)

pub sorted-happens : (state : State) (event : Event) → MayHappen state event → IsSound state → AllClaimNew state.clients
    → AllSorted state.clients
    → AllSorted (happens state event).clients
unfolding AllSorted AllClaimNew
sorted-happens state (Begin client) may sound new all = all
sorted-happens state (End client) may sound new all = all
sorted-happens state (Choose number class) may sound new all =
    let client = state.clients number in
    let t = begins client.stock state.view.mask class in
    updated_sorted state.clients number (told client t.state t.told) all
    (told-sorted client t.state t.told
    (begins-sorted client.stock state.view.mask class (all number)))
sorted-happens state (Seek number) may sound new all =
    let client = state.clients number in
    let stock = client.stock in
    let is = (sound.clients number).choosing may.1 in
    let t = turn stock (answered state (next stock)) in
    updated_sorted state.clients number (told client t.state t.told) all
    (told-sorted client t.state t.told
    (turn-sorted stock stock.phase (word_at state.words (place_of (next stock))) refl is.phase (new number) (all number)))
sorted-happens state (Clear number class) may sound new all =
    let client = state.clients number in
    updated_sorted state.clients number (record client { clearing = clearing_of state.view class (client.given class) }) all (all number)
sorted-happens state (ClearNext number) may sound new all = cleared-sorted state number (state.clients number).clearing all
sorted-happens state (Renew number) may sound new all =
    let client = state.clients number in
    updated_sorted state.clients number (renewed client client.clearing) all (renewed-sorted client client.clearing (all number))
sorted-happens state (Name client object) may sound new all = all
sorted-happens state (Return client object look) may sound new all = all
sorted-happens state (ReturnNext client object) may sound new all = returned-sorted state object (state.uses object) all
sorted-happens state (Retire number) may sound new all =
    updated_sorted state.clients number (record (state.clients number) { service = Retired }) all (all number)
sorted-happens state (Release number region block class) may sound new all =
    let client = state.clients number in
    updated_sorted state.clients number
    (record client { service = Releasing region block class 0; released = (region, block) ∷ client.released }) all (all number)
sorted-happens state (ReleaseNext number) may sound new all = released-sorted state number (state.clients number).service all

pub sorted-run : (state : State) (events : List Event) → IsAllowed state events → IsSound state → AllClaimNew state.clients
    → AllSorted state.clients → AllSorted (run state events).clients
sorted-run state [] allowed sound new all = all
sorted-run state (event ∷ events) allowed sound new all =
    sorted-run (happens state event) events allowed.1 (IsSound-happens state event allowed.0 sound)
    (new-happens state event allowed.0 sound new) (sorted-happens state event allowed.0 sound new all)

pub sorted-opening : (view : Viewed) → AllSorted (opening view).clients
unfolding AllSorted
sorted-opening view number class =
    subst (λ (c : ClassStock). AreSorted c.own) (sym (first_stocks class view.shape number))
    (record {
      sorted = λ own has. absurd (omega (arith, has.1));
      once = λ one other within within' region block. absurd (omega (arith, within));
    })

-- ---- the theorem

sorted_client : (view : Viewed) (events : List Event) → IsView view → IsAllowed (opening view) events → (client : ℕ)
    → IsSorted ((run (opening view) events).clients client).stock
unfolding AllSorted
sorted_client view events is allowed client =
    sorted-run (opening view) events allowed (IsSound-opening view is) (new-opening view) (sorted-opening view) client

pub ripe_or_waits : (view : Viewed) (events : List Event) → IsView view → IsAllowed (opening view) events
    → (client class : ℕ) (own : OwnBlock)
    → Contains (blocks_of ((run (opening view) events).clients client).stock class) own
    → (j : ℕ) → bit_at own.ripe j ≡ 1 → bit_at own.waiting j ≡ 1 → ⊥
ripe_or_waits view events is allowed client class own has =
    (sorted_client view events is allowed client class).sorted own has

once_there : (list : List OwnBlock) → AreSorted list → (own other : OwnBlock) → Contains list own → Contains list other
    → own.region ≡ other.region → own.block ≡ other.block → own ≡ other
once_there list all own other has has' region block =
    sym at ∙ (ap (λ k. get_or list k no_block) same ∙ at')
  where
    at : get_or list has.0 no_block ≡ own
    at = get_or_default list has.0 no_block own has.1 ∙ has.2

    at' : get_or list has'.0 no_block ≡ other
    at' = get_or_default list has'.0 no_block other has'.1 ∙ has'.2

    same : has.0 ≡ has'.0
    same =
        all.once has.0 has'.0 has.1 has'.1
        (ap (λ (o : OwnBlock). o.region) at ∙ (region ∙ ap (λ (o : OwnBlock). o.region) (sym at')))
        (ap (λ (o : OwnBlock). o.block) at ∙ (block ∙ ap (λ (o : OwnBlock). o.block) (sym at')))

pub blocks_once : (view : Viewed) (events : List Event) → IsView view → IsAllowed (opening view) events
    → (client class : ℕ) (own other : OwnBlock)
    → Contains (blocks_of ((run (opening view) events).clients client).stock class) own
    → Contains (blocks_of ((run (opening view) events).clients client).stock class) other
    → own.region ≡ other.region → own.block ≡ other.block → own ≡ other
blocks_once view events is allowed client class =
    once_there (blocks_of ((run (opening view) events).clients client).stock class)
    (sorted_client view events is allowed client class)

-- the reserve, which is ripe, is marked no more once the next reserve is the reserve
cleared_unmarked : (class : ℕ) (of_class : ClassStock) (pointer : ℕ) → of_class.reserve ≡ Some pointer
    → IsRipe of_class.own class pointer → AreSorted of_class.own
    → IsMarked (map (cleared_block class of_class) of_class.own) (region_of pointer) (block_of pointer) (number_of pointer class) → ⊥
cleared_unmarked class of_class pointer reserve ripe all is = by (subst (λ o. HasMark o j) (sym new) is.mark)
  where
    j : ℕ
    j = number_of pointer class

    list : List OwnBlock
    list = of_class.own

    within : is.has.0 < length list
    within = omega (arith, is.has.1, length-map list (cleared_block class of_class))

    old : OwnBlock
    old = get_or list is.has.0 no_block

    has_old : Contains list old
    has_old = (is.has.0, within, get_or_default list is.has.0 old no_block within)

    new : cleared_block class of_class old ≡ is.own
    new = sym (get_or-map (cleared_block class of_class) list is.has.0 no_block is.own within) ∙ is.has.2

    region : region_of pointer ≡ old.region
    region = sym is.region_is ∙ sym (ap (λ (o : OwnBlock). o.region) new)

    block : block_of pointer ≡ old.block
    block = sym is.block_is ∙ sym (ap (λ (o : OwnBlock). o.block) new)

    same : ripe.own ≡ old
    same = once_there list all ripe.own old ripe.has has_old (sym ripe.region ∙ region) (sym ripe.block ∙ block)

    by : HasMark (cleared_block class of_class old) j → ⊥
    by (inl free) =
        let none : bit_at (2 ^ j) j ≡ 0 =
        subst (λ n. bit_at n j ≡ 0) (reserve_bit-here class of_class old pointer reserve region block)
        (bit_at-without_other old.ripe (reserve_bit class of_class old) j free) in
        omega (arith, none, bit_at-pow_same j)
    by (inr waits) = all.sorted old has_old j (subst (λ (o : OwnBlock). bit_at o.ripe j ≡ 1) same ripe.ripe) waits

-- an object that was cleared, once the next reserve is the reserve
pub taken_unmarked : (state : State) (client class : ℕ) (given : Given) → IsSound state → AllHaveTheirOwn state.clients
    → AllSorted state.clients → (state.clients client).clearing ≡ Cleared class given
    → IsMarked (blocks_of (taken (state.clients client).stock class given.next) class)
    (region_of given.object) (block_of given.object) (number_of given.object class) → ⊥
unfolding AllHaveTheirOwn AllSorted
taken_unmarked state client class given sound all sorted clears marked =
    cleared_unmarked class of_class given.object own.reserve
    ((all client).reserves class given.object own.reserve) (sorted client class)
    (subst (λ (c : ClassStock). IsMarked c.own (region_of given.object) (block_of given.object) (number_of given.object class))
    (get_or-set_same now.stock.classes class (with_reserve class of_class given.next) no_stock within) marked)
  where
    now : Client
    now = state.clients client

    of_class : ClassStock
    of_class = slice_index_or now.stock.classes class no_stock

    own : IsGiven of_class class given
    own = subst (λ c. ClearsOwn now.stock c) clears (all client).clearing

    named : AreNamed state.view.shape class given
    named = subst (λ c. IsSoundClearing state.view c) clears (sound.clients client).clearing

    within : class < length now.stock.classes
    within = omega (arith, named.below, (sound.clients client).stock.whole)

pub renewed_unmarked : (view : Viewed) (events : List Event) → IsView view → IsAllowed (opening view) events
    → (client class : ℕ) (given : Given) → ((run (opening view) events).clients client).clearing ≡ Cleared class given
    → IsMarked (blocks_of (taken ((run (opening view) events).clients client).stock class given.next) class)
    (region_of given.object) (block_of given.object) (number_of given.object class) → ⊥
renewed_unmarked view events is allowed client class given =
    taken_unmarked (run (opening view) events) client class given
    (IsSound-run (opening view) events allowed (IsSound-opening view is))
    (own-run (opening view) events allowed (IsSound-opening view is) (own-opening view))
    (sorted-run (opening view) events allowed (IsSound-opening view is) (new-opening view) (sorted-opening view))
