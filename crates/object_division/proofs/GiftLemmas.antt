-- The reserve of a class is ripe, and a choosing gives the reserve and another object that is ripe.
use Rattle.std.proofs.Common.{◌≡◌, ℕ, zero, suc, ◌+◌, ◌*◌, ◌/◌, ◌^◌, ◌<◌, ◌≤◌, ◌==◌, ◌⊎◌, inl, inr, Bool, true, false, ◌&&◌, if◌then◌else◌, List, [], ◌∷◌, ◌++◌, length, map, find, get_or, Option, Some, None, refl, sym, ap, subst, ◌∙◌, arith, length-set, get_or-set_other, get_or-set_same, eq-eqb, ne_eqb}
use Rattle.std.specs.Prelude.{All, Contains, bit_and, not, nat_le, nat_lt, option_map, slice_index_or, slice_set}
use Rattle.std.specs.Int.{bit_at, trailing_zeros, w64}
use Rattle.std.specs.Option.{option_map_or}
use Rattle.std.proofs.Math.Pow.{pow_mono}
use Rattle.std.proofs.lemmas.Bool.{cases_eq, cases_lt}
use Rattle.std.proofs.lemmas.Bool.Decides.{nat_tests}
use Rattle.std.proofs.lemmas.List.{get_or-map, get_or_default, length-map, set_past}
use Rattle.std.proofs.lemmas.List.Elements.{Contains-append_left, Contains-append_right}
use Rattle.std.proofs.lemmas.Nat.Bits.{bit_at-pow_other, bit_at-pow_same, bit_at-trailing_zeros, bit_at-zero}
use Rattle.block_alloc.specs.declared.BlockWord.{BlockWord}
use Rattle.block_alloc.specs.declared.BlockWord.TheVariants.{Unused, Owned, Released}
use Rattle.block_alloc.specs.BlockWord.{block_in}
use Rattle.machine.proofs.StockLemmas.{trailing_zeros-below, without-less}
use Rattle.machine.specs.declared.choosing.Took.{Took}
use Rattle.machine.specs.declared.choosing.Took.TheVariants.{Have, NoSpace}
use Rattle.machine.specs.Choosing.{IsAt, asked, asks_after, asks_from, at_block, begins, block_at, chooses, first_awaited, goes_to, looks, next_block, no_block, not_awaited, on_block, on_block_word, on_first, on_scan, own_at, owns, region_at, ripens, rests, scanned_all, spreads_from, takes, turn_at, verb_at, with_awaited, with_block, with_scanned, word_at_block}
use Rattle.machine.specs.ObjectNames.{block_of, number_of, pointer_to}
use Rattle.machine.specs.Places.{replica_count}
use Rattle.machine.specs.Stock.{AskFirst, Ask, Claim, ClassStock, IsOwn, OwnBlock, Phase, ReadBitmap, ReadBlock, Rest, Scan, Spread, Stock, WriteHead, any_waits, bit_of, class_stock, cleared_block, first_free, free_bits, has_free, is_in_block, is_own, lowest_free, no_stock, object_bits, reserve_bit, ripened, ripened_block, scanned_block, view_of, with_class_stock}
use Rattle.machine.specs.Turn.{Turn}
use Rattle.object_form.specs.Class.{units_of}
use Rattle.object_form.specs.declared.classes.TheConstants.{CLASSES}
use Rattle.pointer_fields.specs.Pointer.{region_of}
use Rattle.region_view.specs.Sizes.{IsWithinLimits, Sizes}
use Rattle.reuse_epoch.specs.Awaited.{Awaited, begin_of, client_of, noted, still_awaited}
use Rattle.verb_words.specs.declared.verbs.Answer.TheVariants.{Word}
use Rattle.verb_words.specs.Verb.{answer_of}
use Rattle.object_division.specs.Marks.{IsRipe}
use Rattle.object_division.proofs.BitLemmas.{bit_at-or_left, bit_at-without, bit_at-without_kept, bit_at-without_other}
use Rattle.object_division.proofs.GrownLemmas.{own_of}

-- the block is among these, with its ripe objects
pub record IsHeld (list : List OwnBlock) (own : OwnBlock) : Type 0 where
  pub new : OwnBlock
  pub has : Contains list new
  pub region : new.region ≡ own.region
  pub block : new.block ≡ own.block
  pub ripe : (j : ℕ) → bit_at own.ripe j ≡ 1 → bit_at new.ripe j ≡ 1

abbrev pub AreHeld : List OwnBlock → List OwnBlock → Type 0
AreHeld list old = (own : OwnBlock) → Contains old own → IsHeld list own

-- what was ripe is ripe still
pub IsRipe-held : (list old : List OwnBlock) (class pointer : ℕ) → AreHeld list old → IsRipe old class pointer
    → IsRipe list class pointer
IsRipe-held list old class pointer held is =
    let there = held is.own is.has in
    record {
      own = there.new;
      has = there.has;
      region = is.region ∙ sym there.region;
      block = is.block ∙ sym there.block;
      ripe = there.ripe (number_of pointer class) is.ripe;
    }

-- the blocks that a client had are still there, with their ripe objects
abbrev pub KeepsRipe : Stock → Stock → Type 0
KeepsRipe stock new = (class : ℕ) → AreHeld (own_of new class) (own_of stock class)

abbrev pub reserve_of : Stock → ℕ → Option ℕ
reserve_of stock class = (slice_index_or stock.classes class no_stock).reserve

-- the pointer is to a ripe object that was found in these blocks of the class
pub record IsFound (list : List OwnBlock) (class pointer : ℕ) : Type 0 where
  pub of_class : ClassStock
  pub own : of_class.own ≡ list
  pub found : first_free class of_class ≡ Some pointer

-- what is told to be had is the reserve, and an object that was found
abbrev pub Gives : Stock → Took → Type 0
Gives stock (Have object next) =
    (reserve_of stock stock.class ≡ Some object) × (first_free stock.class (class_stock stock) ≡ Some next)
Gives stock other = Unit {0}

-- a turn of a choosing: nothing is lost, and a reserve is the one that was, or an object that was found
pub record IsGift (stock : Stock) (turn : Turn Stock Took) : Type 0 where
  pub grows : KeepsRipe stock turn.state
  pub keeps : (class pointer : ℕ) → reserve_of stock class ≡ Some pointer → reserve_of turn.state class ≡ Some pointer
  pub reserves : (class pointer : ℕ) → reserve_of turn.state class ≡ Some pointer
      → (reserve_of stock class ≡ Some pointer)
      ⊎ ((class ≡ turn.state.class) × IsFound (own_of turn.state class) class pointer)
  pub gives : Gives turn.state turn.told

abbrev SameReserves : Stock → Stock → Type 0
SameReserves stock new = (class : ℕ) → reserve_of new class ≡ reserve_of stock class

AreHeld-same : (list : List OwnBlock) → AreHeld list list
AreHeld-same list own has = record { new = own; has = has; region = refl; block = refl; ripe = λ j is. is }

KeepsRipe-marked : (stock new : Stock) → new.classes ≡ stock.classes → KeepsRipe stock new
KeepsRipe-marked stock new same class =
    subst (λ (classes : List ClassStock). AreHeld (slice_index_or classes class no_stock).own (own_of stock class)) (sym same)
    (AreHeld-same (own_of stock class))

KeepsRipe-on : (stock middle new : Stock) → KeepsRipe stock middle → KeepsRipe middle new → KeepsRipe stock new
KeepsRipe-on stock middle new first second class own has =
    let one = first class own has in
    let two = second class one.new one.has in
    record {
      new = two.new;
      has = two.has;
      region = two.region ∙ one.region;
      block = two.block ∙ one.block;
      ripe = λ j is. two.ripe j (one.ripe j is);
    }

gift_on : (stock middle : Stock) (turn : Turn Stock Took) → KeepsRipe stock middle → SameReserves stock middle
    → IsGift middle turn → IsGift stock turn
gift_on stock middle turn first same gift =
    record {
      grows = KeepsRipe-on stock middle turn.state first gift.grows;
      keeps = λ class pointer is. gift.keeps class pointer (same class ∙ is);
      reserves = λ class pointer is.
          elim (gift.reserves class pointer is) [
            | inl old ↦ inl (sym (same class) ∙ old)
            | inr found ↦ inr found
          ];
      gives = gift.gives;
    }

-- the stock of one class is replaced
pub class_replaced : (P : ClassStock → Type 0) (classes : List ClassStock) (class other : ℕ) (of_class : ClassStock)
    → (other ≡ class → P of_class) → P (slice_index_or classes other no_stock)
    → P (slice_index_or (slice_set classes class of_class) other no_stock)
class_replaced P classes class other of_class here there =
    elim (cases_eq other class) [
      | inl same ↦
          elim (cases_lt class (length classes)) [
            | inl within ↦ rw (same, get_or-set_same classes class of_class no_stock within) (here same)
            | inr past ↦ rw (set_past classes class of_class past) there
          ]
      | inr apart ↦ rw (get_or-set_other classes class other of_class no_stock apart) there
    ]

KeepsRipe-class : (stock : Stock) (class : ℕ) (of_class : ClassStock)
    → AreHeld of_class.own (slice_index_or stock.classes class no_stock).own
    → KeepsRipe stock (record stock { classes = slice_set stock.classes class of_class })
KeepsRipe-class stock class of_class held other =
    class_replaced (λ c. AreHeld c.own (own_of stock other)) stock.classes class other of_class
    (λ same. subst (λ k. AreHeld of_class.own (own_of stock k)) (sym same) held)
    (AreHeld-same (own_of stock other))

SameReserves-class : (stock : Stock) (class : ℕ) (of_class : ClassStock)
    → of_class.reserve ≡ reserve_of stock class
    → SameReserves stock (record stock { classes = slice_set stock.classes class of_class })
SameReserves-class stock class of_class kept other =
    class_replaced (λ c. c.reserve ≡ reserve_of stock other) stock.classes class other of_class
    (λ same. subst (λ k. of_class.reserve ≡ reserve_of stock k) (sym same) kept) refl

-- a block of which only the bits change
changed_block : (f : OwnBlock → OwnBlock) (list : List OwnBlock) (own : OwnBlock) → Contains list own → Contains (map f list) (f own)
changed_block f list own has = (
  has.0,
  omega (arith, has.1, length-map list f),
  get_or-map f list has.0 own (f own) has.1 ∙ ap f has.2,
)

AreHeld-ripened : (list : List OwnBlock) → AreHeld (map ripened_block list) list
AreHeld-ripened list own has =
    record {
      new = ripened_block own;
      has = changed_block ripened_block list own has;
      region = refl;
      block = refl;
      ripe = bit_at-or_left own.ripe own.waiting;
    }

-- a block to which something was added that waits
AreHeld-put : (list : List OwnBlock) (i waiting : ℕ) → i < length list
    → AreHeld (slice_set list i (record (get_or list i no_block) { waiting = waiting })) list
AreHeld-put list i waiting below own has =
    let new = record (get_or list i no_block) { waiting = waiting } in
    elim (cases_eq has.0 i) [
      | inl at ↦
          let is : get_or list i no_block ≡ own =
          get_or_default list i no_block own below ∙ subst (λ k. get_or list k own ≡ own) at has.2 in
          record {
            new = new;
            has = (i, omega (arith, below, length-set list i new), get_or-set_same list i new new below);
            region = ap (λ (o : OwnBlock). o.region) is;
            block = ap (λ (o : OwnBlock). o.block) is;
            ripe = λ j one. subst (λ (o : OwnBlock). bit_at o.ripe j ≡ 1) (sym is) one;
          }
      | inr apart ↦
          record {
            new = own;
            has = (
              has.0,
              omega (arith, has.1, length-set list i new),
              get_or-set_other list i has.0 new own apart ∙ has.2,
            );
            region = refl;
            block = refl;
            ripe = λ j is. is;
          }
    ]

AreHeld-pushed : (list : List OwnBlock) (new : OwnBlock) → AreHeld (list ++ new ∷ []) list
AreHeld-pushed list new own has =
    record {
      new = own;
      has = Contains-append_left list (new ∷ []) own has;
      region = refl;
      block = refl;
      ripe = λ j is. is;
    }

-- ---- the ripe object that is found

-- the pointer to an object of a block of the pool is in that block, and has its number
pointer_to-lies : (sizes : Sizes) (class region block j : ℕ) → IsWithinLimits sizes → class < CLASSES → block < sizes.blocks
    → j < 64 / units_of class
    → (region_of (pointer_to region block class j) ≡ region) × (block_of (pointer_to region block class j) ≡ block)
    × (number_of (pointer_to region block class j) class ≡ j)
pointer_to-lies sizes zero region block j limits below inside under =
    (omega (arith, limits.blocks), omega (arith, limits.blocks), omega (arith, limits.blocks))
pointer_to-lies sizes (suc zero) region block j limits below inside under =
    (omega (arith, limits.blocks), omega (arith, limits.blocks), omega (arith, limits.blocks))
pointer_to-lies sizes (suc (suc zero)) region block j limits below inside under =
    (omega (arith, limits.blocks), omega (arith, limits.blocks), omega (arith, limits.blocks))
pointer_to-lies sizes (suc (suc (suc zero))) region block j limits below inside under =
    (omega (arith, limits.blocks), omega (arith, limits.blocks), omega (arith, limits.blocks))
pointer_to-lies sizes (suc (suc (suc (suc zero)))) region block j limits below inside under =
    (omega (arith, limits.blocks), omega (arith, limits.blocks), omega (arith, limits.blocks))
pointer_to-lies sizes (suc (suc (suc (suc (suc zero))))) region block j limits below inside under =
    (omega (arith, limits.blocks), omega (arith, limits.blocks), omega (arith, limits.blocks))
pointer_to-lies sizes (suc (suc (suc (suc (suc (suc class)))))) region block j limits below inside under = absurd (omega arith)

room : (class : ℕ) → class < CLASSES → 64 / units_of class ≤ 64
room zero below = omega arith
room (suc zero) below = omega arith
room (suc (suc zero)) below = omega arith
room (suc (suc (suc zero))) below = omega arith
room (suc (suc (suc (suc zero)))) below = omega arith
room (suc (suc (suc (suc (suc zero))))) below = omega arith
room (suc (suc (suc (suc (suc (suc class)))))) below = absurd (omega arith)

-- it is ripe in one of these blocks, and not the reserve there
record IsPicked (class : ℕ) (of_class : ClassStock) (pointer : ℕ) : Type 0 where
  pub own : OwnBlock
  pub has : Contains of_class.own own
  pub region : region_of pointer ≡ own.region
  pub block : block_of pointer ≡ own.block
  pub free : bit_at (free_bits class of_class own) (number_of pointer class) ≡ 1

lowest_free-picked : (sizes : Sizes) (class : ℕ) (of_class : ClassStock) (own : OwnBlock) → IsWithinLimits sizes → class < CLASSES
    → IsOwn sizes class own → Contains of_class.own own → has_free class of_class own ≡ true
    → IsPicked class of_class (lowest_free class of_class own)
lowest_free-picked sizes class of_class own limits below is has free =
    let bits = free_bits class of_class own in
    let some : 0 < bits = grind (arith, nat_tests) in
    let small : bits < 2 ^ (64 / units_of class) =
    without-less own.ripe (reserve_bit class of_class own) (2 ^ (64 / units_of class)) is.ripe in
    let within = room class below in
    let lies = pointer_to-lies sizes class own.region own.block (trailing_zeros w64 bits) limits below is.block
    (trailing_zeros-below bits (64 / units_of class) some small within) in
    let lowest = bit_at-trailing_zeros w64 bits some (let most = pow_mono within in omega (arith, most, small)) in
    record {
      own = own;
      has = has;
      region = lies.0;
      block = lies.1;
      free = subst (λ k. bit_at bits k ≡ 1) (sym lies.2) lowest.1;
    }

-- what is found in a list stands in it, and passes the test
Contains-find : (test : OwnBlock → Bool) (list : List OwnBlock) (own : OwnBlock) → find test list ≡ Some own
    → (test own ≡ true) × Contains list own
Contains-find test [] own found = absurd cc
Contains-find test (first ∷ rest) own found = by (test first) refl (Contains-find test rest own)
  where
    by : (t : Bool) → test first ≡ t → (find test rest ≡ Some own → (test own ≡ true) × Contains rest own)
        → (test own ≡ true) × Contains (first ∷ rest) own
    by true passes later =
        let R : Bool → Type 0 = λ b. (if b then Some first else find test rest) ≡ Some own in
        let here : Some first ≡ Some own = subst R passes found in
        let same : first ≡ own = cc in
        (subst (λ o. test o ≡ true) same passes, (0, omega arith, same))
    by false fails later =
        let R : Bool → Type 0 = λ b. (if b then Some first else find test rest) ≡ Some own in
        let there = later (subst R fails found) in
        (there.0, Contains-append_right (first ∷ []) rest own there.1)

first_free-picked : (sizes : Sizes) (class : ℕ) (of_class : ClassStock) (pointer : ℕ) → IsWithinLimits sizes → class < CLASSES
    → All (IsOwn sizes class) of_class.own → first_free class of_class ≡ Some pointer → IsPicked class of_class pointer
unfolding first_free
first_free-picked sizes class of_class pointer limits below is found = by (find (has_free class of_class) of_class.own) refl
  where
    by : (own : Option OwnBlock) → find (has_free class of_class) of_class.own ≡ own → IsPicked class of_class pointer
    by None none =
        let bad : None ≡ Some pointer = sym (ap (option_map (lowest_free class of_class)) none) ∙ found in absurd cc
    by (Some own) some =
        let here : Some (lowest_free class of_class own) ≡ Some pointer =
        sym (ap (option_map (lowest_free class of_class)) some) ∙ found in
        let same : lowest_free class of_class own ≡ pointer = cc in
        let both = Contains-find (has_free class of_class) of_class.own own some in
        let one : IsOwn sizes class own = subst (λ o. IsOwn sizes class o) both.1.2 (is both.1.0 own both.1.1) in
        subst (λ p. IsPicked class of_class p) same
        (lowest_free-picked sizes class of_class own limits below one both.1 both.0)

-- what is found is ripe
pub first_free-ripe : (sizes : Sizes) (class : ℕ) (of_class : ClassStock) (pointer : ℕ) → IsWithinLimits sizes → class < CLASSES
    → All (IsOwn sizes class) of_class.own → first_free class of_class ≡ Some pointer → IsRipe of_class.own class pointer
first_free-ripe sizes class of_class pointer limits below is found =
    let picked = first_free-picked sizes class of_class pointer limits below is found in
    record {
      own = picked.own;
      has = picked.has;
      region = picked.region;
      block = picked.block;
      ripe =
          bit_at-without picked.own.ripe (reserve_bit class of_class picked.own) (number_of pointer class) picked.free;
    }

-- two objects of a class of which one is of another block, or has another number there
abbrev pub AreApart : ℕ → ℕ → ℕ → Type 0
AreApart class one other =
    region_of one ≡ region_of other → block_of one ≡ block_of other → number_of one class ≡ number_of other class → ⊥

-- the reserve's bit in the block in which it lies
pub reserve_bit-here : (class : ℕ) (of_class : ClassStock) (own : OwnBlock) (pointer : ℕ) → of_class.reserve ≡ Some pointer
    → region_of pointer ≡ own.region → block_of pointer ≡ own.block
    → reserve_bit class of_class own ≡ 2 ^ number_of pointer class
reserve_bit-here class of_class own pointer is region block =
    let inside : is_in_block own pointer ≡ true =
    rw (eq-eqb (region_of pointer) own.region region, eq-eqb (block_of pointer) own.block block) refl in
    ap (λ r. option_map_or (bit_of class own) r 0) is ∙ ap (λ b. if b then 2 ^ number_of pointer class else 0) inside

-- and none in another block
reserve_bit-none : (class : ℕ) (of_class : ClassStock) (own : OwnBlock) (pointer : ℕ) → of_class.reserve ≡ Some pointer
    → is_in_block own pointer ≡ false → reserve_bit class of_class own ≡ 0
reserve_bit-none class of_class own pointer is outside =
    ap (λ r. option_map_or (bit_of class own) r 0) is ∙ ap (λ b. if b then 2 ^ number_of pointer class else 0) outside

-- what is found is not the reserve
pub first_free-apart : (sizes : Sizes) (class : ℕ) (of_class : ClassStock) (reserve pointer : ℕ) → IsWithinLimits sizes
    → class < CLASSES → All (IsOwn sizes class) of_class.own → of_class.reserve ≡ Some reserve
    → first_free class of_class ≡ Some pointer → AreApart class reserve pointer
first_free-apart sizes class of_class reserve pointer limits below is held found region block number =
    let picked = first_free-picked sizes class of_class pointer limits below is found in
    let here = reserve_bit-here class of_class picked.own reserve held (region ∙ picked.region) (block ∙ picked.block) in
    let none : bit_at (2 ^ number_of reserve class) (number_of pointer class) ≡ 0 =
    subst (λ n. bit_at n (number_of pointer class) ≡ 0) here
    (bit_at-without_other picked.own.ripe (reserve_bit class of_class picked.own) (number_of pointer class) picked.free) in
    let one = bit_at-pow_same (number_of reserve class) in
    let also : bit_at (2 ^ number_of reserve class) (number_of reserve class) ≡ 0 =
    subst (λ k. bit_at (2 ^ number_of reserve class) k ≡ 0) (sym number) none in
    absurd (omega (arith, one, also))

-- another object than the reserve is ripe still, once the reserve's bit is cleared
pub cleared-ripe : (class : ℕ) (of_class : ClassStock) (reserve pointer : ℕ) → of_class.reserve ≡ Some reserve
    → AreApart class reserve pointer → IsRipe of_class.own class pointer
    → IsRipe (map (cleared_block class of_class) of_class.own) class pointer
cleared-ripe class of_class reserve pointer held apart is =
    record {
      own = cleared_block class of_class own;
      has = changed_block (cleared_block class of_class) of_class.own own is.has;
      region = is.region;
      block = is.block;
      ripe = bit_at-without_kept own.ripe (reserve_bit class of_class own) j is.ripe none;
    }
  where
    own : OwnBlock
    own = is.own

    j : ℕ
    j = number_of pointer class

    outside : is_in_block own reserve ≡ false → bit_at (reserve_bit class of_class own) j ≡ 0
    outside at = ap (λ n. bit_at n j) (reserve_bit-none class of_class own reserve held at) ∙ bit_at-zero j

    inside : region_of reserve ≡ own.region → block_of reserve ≡ own.block → bit_at (reserve_bit class of_class own) j ≡ 0
    inside region block =
        ap (λ n. bit_at n j) (reserve_bit-here class of_class own reserve held region block)
        ∙ bit_at-pow_other (number_of reserve class) j
        (λ same. apart (region ∙ sym is.region) (block ∙ sym is.block) (sym same))

    none : bit_at (reserve_bit class of_class own) j ≡ 0
    none = elim (cases_eq (region_of reserve) own.region) [
      | inl region ↦
          elim (cases_eq (block_of reserve) own.block) [
            | inl block ↦ inside region block
            | inr other ↦
                outside
                (rw (eq-eqb (region_of reserve) own.region region, ne_eqb (block_of reserve) own.block other) refl)
          ]
      | inr other ↦ outside (rw (ne_eqb (region_of reserve) own.region other) refl)
    ]

-- ---- turns

marked : (stock : Stock) (turn : Turn Stock Took) → turn.state.classes ≡ stock.classes → Gives turn.state turn.told
    → IsGift stock turn
marked stock turn same gives =
    record {
      grows = KeepsRipe-marked stock turn.state same;
      keeps = λ class pointer is.
          subst (λ (classes : List ClassStock). (slice_index_or classes class no_stock).reserve ≡ Some pointer) (sym same) is;
      reserves = λ class pointer is.
          inl
          (subst (λ (classes : List ClassStock). (slice_index_or classes class no_stock).reserve ≡ Some pointer) same is);
      gives = gives;
    }

at_block-gift : (stock : Stock) → IsGift stock (at_block stock)
at_block-gift stock = by (nat_lt stock.position (stock.shape.regions * stock.shape.blocks)) refl
  where
    by : (t : Bool) → nat_lt stock.position (stock.shape.regions * stock.shape.blocks) ≡ t → IsGift stock (at_block stock)
    by true within = rw within (marked stock (goes_to stock ReadBlock) refl tt)
    by false last =
        rw last
        (marked stock
        (rests stock (NoSpace stock.class (client_of (first_awaited stock)) (begin_of (first_awaited stock)))) refl tt)

next_block-gift : (stock : Stock) → IsGift stock (next_block stock)
next_block-gift stock =
    let moved = record stock { position = stock.position + 1 } in
    gift_on stock moved (next_block stock) (KeepsRipe-marked stock moved refl) (λ class. refl) (at_block-gift moved)

some_is : {A : Type 0} (x y : A) → Some x ≡ Some y → x ≡ y
some_is x y same = cc

takes-gift : (stock : Stock) (free : ℕ) → first_free stock.class (class_stock stock) ≡ Some free → IsGift stock (takes stock free)
takes-gift stock free found = by (class_stock stock).reserve refl
  where
    with_free : ClassStock
    with_free = record (class_stock stock) { reserve = Some free }

    by : (reserve : Option ℕ) → (class_stock stock).reserve ≡ reserve → IsGift stock (takes stock free)
    by (Some reserve) some =
        rw some
        (marked stock (rests stock (Have reserve free)) refl
        (some, found))
    by None none =
        rw none
        (record {
          grows = KeepsRipe-class stock stock.class with_free (AreHeld-same (class_stock stock).own);
          keeps = λ class pointer.
              class_replaced (λ c. reserve_of stock class ≡ Some pointer → c.reserve ≡ Some pointer) stock.classes stock.class
              class with_free
              (λ same is.
              let bad : None ≡ Some pointer = sym none ∙ (ap (reserve_of stock) (sym same) ∙ is) in absurd cc)
              (λ is. is);
          reserves = λ class pointer.
              class_replaced
              (λ c. c.reserve ≡ Some pointer
              → (reserve_of stock class ≡ Some pointer) ⊎ ((class ≡ stock.class) × IsFound c.own class pointer))
              stock.classes stock.class class with_free
              (λ same is.
              let pointers : free ≡ pointer = some_is free pointer is in
              inr (
                same,
                record {
                  of_class = class_stock stock;
                  own = refl;
                  found =
                      subst (λ k. first_free k (class_stock stock) ≡ Some pointer) (sym same)
                      (subst (λ p. first_free stock.class (class_stock stock) ≡ Some p) pointers found);
                },
              ))
              (λ is. inl is);
          gives = tt;
        })

looks-gift : (stock : Stock) → IsGift stock (looks stock)
looks-gift stock = by (nat_lt 0 (length (class_stock stock).awaited)) refl (not stock.scanned && nat_lt 0 (length (class_stock stock).own)) refl
  where
    by : (t : Bool) → nat_lt 0 (length (class_stock stock).awaited) ≡ t → (u : Bool)
        → (not stock.scanned && nat_lt 0 (length (class_stock stock).own)) ≡ u → IsGift stock (looks stock)
    by true some u scan = rw some (marked stock (goes_to stock AskFirst) refl tt)
    by false none true scan = rw (none, scan) (marked stock (goes_to stock (Scan 0)) refl tt)
    by false none false done = rw (none, done) (at_block-gift stock)

chooses-gift : (stock : Stock) → IsGift stock (chooses stock)
chooses-gift stock = by (first_free stock.class (class_stock stock)) refl
  where
    by : (free : Option ℕ) → first_free stock.class (class_stock stock) ≡ free → IsGift stock (chooses stock)
    by None none = rw none (looks-gift stock)
    by (Some free) some = rw some (takes-gift stock free some)

pub begins-gift : (stock : Stock) (mask class : ℕ) → IsGift stock (begins stock mask class)
begins-gift stock mask class =
    let new = record stock { mask = mask; class = class; scanned = false; position = 0 } in
    gift_on stock new (begins stock mask class) (KeepsRipe-marked stock new refl) (λ k. refl) (chooses-gift new)

ripens-gift : (stock : Stock) → IsGift stock (ripens stock)
ripens-gift stock =
    let ripe = with_class_stock stock (ripened (class_stock stock)) in
    gift_on stock ripe (ripens stock)
    (KeepsRipe-class stock stock.class (ripened (class_stock stock))
    (AreHeld-ripened (class_stock stock).own))
    (SameReserves-class stock stock.class (ripened (class_stock stock)) refl) (chooses-gift ripe)

asked-gift : (stock : Stock) → IsGift stock (asked stock)
asked-gift stock = by (length (class_stock stock).awaited == 0) refl
  where
    by : (t : Bool) → (length (class_stock stock).awaited == 0) ≡ t → IsGift stock (asked stock)
    by true none = rw none (ripens-gift stock)
    by false some = rw some (at_block-gift stock)

asks_after-gift : (stock : Stock) (client : ℕ) → IsGift stock (asks_after stock client)
asks_after-gift stock client = by (nat_le client stock.shape.clients) refl
  where
    by : (t : Bool) → nat_le client stock.shape.clients ≡ t → IsGift stock (asks_after stock client)
    by true within = rw within (marked stock (goes_to stock (Ask client)) refl tt)
    by false beyond = rw beyond (asked-gift stock)

asks_from-gift : (stock : Stock) (client : ℕ) → IsGift stock (asks_from stock client)
asks_from-gift stock client = by (client == stock.client) refl
  where
    by : (t : Bool) → (client == stock.client) ≡ t → IsGift stock (asks_from stock client)
    by true own = rw own (asks_after-gift stock (client + 1))
    by false other = rw other (asks_after-gift stock client)

with_awaited-gift : (stock : Stock) (awaited : List Awaited) (turn : Turn Stock Took)
    → IsGift (with_awaited stock awaited) turn → IsGift stock turn
with_awaited-gift stock awaited turn gift =
    let of_class = record (class_stock stock) { awaited = awaited } in
    gift_on stock (with_awaited stock awaited) turn
    (KeepsRipe-class stock stock.class of_class (AreHeld-same (class_stock stock).own))
    (SameReserves-class stock stock.class of_class refl) gift

pub asks_with-gift : (stock : Stock) (awaited : List Awaited) (client : ℕ)
    → IsGift stock (asks_from (with_awaited stock awaited) client)
asks_with-gift stock awaited client =
    with_awaited-gift stock awaited (asks_from (with_awaited stock awaited) client)
    (asks_from-gift (with_awaited stock awaited) client)

not_awaited-gift : (stock : Stock) → IsGift stock (not_awaited stock)
not_awaited-gift stock = by (length (class_stock stock).awaited == 0) refl
  where
    by : (t : Bool) → (length (class_stock stock).awaited == 0) ≡ t → IsGift stock (not_awaited stock)
    by true none = rw none (ripens-gift stock)
    by false some = rw some (marked stock (goes_to stock AskFirst) refl tt)

pub on_first-gift : (stock : Stock) (found : ℕ) → IsGift stock (on_first stock found)
on_first-gift stock found = by (found == begin_of (first_awaited stock)) refl
  where
    still : List Awaited
    still = still_awaited (class_stock stock).awaited (client_of (first_awaited stock)) found

    by : (t : Bool) → (found == begin_of (first_awaited stock)) ≡ t → IsGift stock (on_first stock found)
    by true same = rw same (at_block-gift stock)
    by false other =
        rw other
        (with_awaited-gift stock still (not_awaited (with_awaited stock still)) (not_awaited-gift (with_awaited stock still)))

scanned_all-gift : (stock : Stock) → IsGift stock (scanned_all stock)
scanned_all-gift stock = by (any_waits (class_stock stock)) refl
  where
    by : (t : Bool) → any_waits (class_stock stock) ≡ t → IsGift stock (scanned_all stock)
    by true some = rw some (asks_from-gift stock 1)
    by false none = rw none (at_block-gift stock)

on_scan-gift : (stock : Stock) (i : ℕ) → IsGift stock (on_scan stock i)
on_scan-gift stock i = by (nat_lt (i + 1) (length (class_stock stock).own)) refl
  where
    by : (t : Bool) → nat_lt (i + 1) (length (class_stock stock).own) ≡ t → IsGift stock (on_scan stock i)
    by true more = rw more (marked stock (goes_to stock (Scan (i + 1))) refl tt)
    by false last =
        let all = record stock { scanned = true } in
        rw last
        (gift_on stock all (scanned_all all) (KeepsRipe-marked stock all refl) (λ class. refl) (scanned_all-gift all))

pub scans-gift : (stock : Stock) (i found : ℕ) → i < length (class_stock stock).own
    → IsGift stock (on_scan (with_scanned stock i found) i)
scans-gift stock i found below =
    let of_class = record (class_stock stock) {
      own = slice_set (class_stock stock).own i (scanned_block stock.class (class_stock stock) (own_at stock i) found);
    } in
    gift_on stock (with_scanned stock i found) (on_scan (with_scanned stock i found) i)
    (KeepsRipe-class stock stock.class of_class
    (AreHeld-put (class_stock stock).own i (scanned_block stock.class (class_stock stock) (own_at stock i) found).waiting below))
    (SameReserves-class stock stock.class of_class refl) (on_scan-gift (with_scanned stock i found) i)

with_block-gift : (stock : Stock) (ripe waiting : ℕ) (turn : Turn Stock Took) → IsGift (with_block stock ripe waiting) turn
    → IsGift stock turn
with_block-gift stock ripe waiting turn gift =
    let new : OwnBlock = record { region = region_at stock; block = block_at stock; ripe = ripe; waiting = waiting } in
    let of_class = record (class_stock stock) { own = (class_stock stock).own ++ new ∷ [] } in
    gift_on stock (with_block stock ripe waiting) turn
    (KeepsRipe-class stock stock.class of_class (AreHeld-pushed (class_stock stock).own new))
    (SameReserves-class stock stock.class of_class refl) gift

pub bitmap-gift : (stock : Stock) (waiting : ℕ)
    → IsGift stock (asks_from (with_awaited (with_block stock 0 waiting) []) 1)
bitmap-gift stock waiting =
    with_block-gift stock 0 waiting (asks_from (with_awaited (with_block stock 0 waiting) []) 1)
    (asks_with-gift (with_block stock 0 waiting) [] 1)

owns-gift : (stock : Stock) (unused : Bool) → IsGift stock (owns stock unused)
owns-gift stock true =
    with_block-gift stock (object_bits stock.class) 0 (chooses (with_block stock (object_bits stock.class) 0))
    (chooses-gift (with_block stock (object_bits stock.class) 0))
owns-gift stock false = marked stock (goes_to stock ReadBitmap) refl tt

pub spreads_from-gift : (stock : Stock) (unused : Bool) (backup : ℕ) → IsGift stock (spreads_from stock unused backup)
spreads_from-gift stock unused backup = by (nat_lt (backup + 1) (replica_count (view_of stock) (word_at_block stock))) refl
  where
    by : (t : Bool) → nat_lt (backup + 1) (replica_count (view_of stock) (word_at_block stock)) ≡ t
        → IsGift stock (spreads_from stock unused backup)
    by true more = rw more (marked stock (goes_to stock (Spread unused backup)) refl tt)
    by false last = rw last (owns-gift stock unused)

on_block-gift : (stock : Stock) (found : ℕ) (block : Option BlockWord) → IsGift stock (on_block stock found block)
on_block-gift stock found None = next_block-gift stock
on_block-gift stock found (Some Unused) = marked stock (goes_to stock (Claim found)) refl tt
on_block-gift stock found (Some (Released class)) = by (class == stock.class) refl
  where
    by : (t : Bool) → (class == stock.class) ≡ t → IsGift stock (on_block stock found (Some (Released class)))
    by true same = rw same (marked stock (goes_to stock (Claim found)) refl tt)
    by false other = rw other (next_block-gift stock)
on_block-gift stock found (Some (Owned client class)) = by ((client == stock.client) && (class == stock.class)) refl
  where
    by : (t : Bool) → ((client == stock.client) && (class == stock.class)) ≡ t
        → IsGift stock (on_block stock found (Some (Owned client class)))
    by true own = rw own (spreads_from-gift stock false 0)
    by false other = rw other (next_block-gift stock)

on_block_word-gift : (stock : Stock) (found : ℕ) → IsGift stock (on_block_word stock found)
on_block_word-gift stock found = by (is_own stock (region_at stock) (block_at stock)) refl
  where
    by : (t : Bool) → is_own stock (region_at stock) (block_at stock) ≡ t → IsGift stock (on_block_word stock found)
    by true own = rw own (next_block-gift stock)
    by false other = rw other (on_block-gift stock found (block_in found))

claim-gift : (stock : Stock) (word found : ℕ) → IsGift stock (turn_at (Claim word) stock (Word found))
claim-gift stock word found = by (found == word) refl
  where
    by : (t : Bool) → (found == word) ≡ t → IsGift stock (turn_at (Claim word) stock (Word found))
    by true swapped = rw swapped (spreads_from-gift stock (word == 0) 0)
    by false lost = rw lost (next_block-gift stock)

-- a turn of a choosing whose verb was not refused
pub sought-gift : (stock : Stock) (phase : Phase) (found : ℕ) → IsAt phase stock
    → IsGift stock (turn_at phase stock (answer_of (verb_at phase stock) found))
sought-gift stock Rest found at = marked stock (turn_at Rest stock (Word found)) refl tt
sought-gift stock AskFirst found at = on_first-gift stock found
sought-gift stock (Scan own) found at = scans-gift stock own found at
sought-gift stock (Ask client) found at = asks_with-gift stock (noted (class_stock stock).awaited client found) (client + 1)
sought-gift stock ReadBlock found at = on_block_word-gift stock found
sought-gift stock (Claim word) found at = claim-gift stock word found
sought-gift stock (Spread unused backup) found at = spreads_from-gift stock unused (backup + 1)
sought-gift stock ReadBitmap found at = bitmap-gift stock (bit_and found (object_bits stock.class))
sought-gift stock WriteHead found at = begins-gift stock stock.mask stock.class
