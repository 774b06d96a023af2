-- What changes of a client's stock keep.
use Rattle.std.proofs.Common.{◌≡◌, ◌≢◌, ℕ, zero, suc, ◌/◌, ◌^◌, ◌<◌, ◌≤◌, ◌==◌, if◌then◌else◌, ◌⊎◌, inl, inr, Bool, true, false, List, [], ◌∷◌, length, map, find, get_or, Option, Some, None, refl, sym, ap, subst, ◌∙◌, arith, pow_pos}
use Rattle.std.specs.Prelude.{All, bit_and, bit_or, option_map, slice_index_or, slice_set}
use Rattle.std.proofs.Math.Pow.{pow_mono}
use Rattle.std.specs.Int.{bit_at, trailing_zeros, w64}
use Rattle.std.proofs.lemmas.Nat.{and_le_r, or_lt}
use Rattle.std.proofs.lemmas.Nat.Bits.{bit_at-trailing_zeros, bit_at_above}
use Rattle.std.proofs.lemmas.Bool.{cases_lt}
use Rattle.std.proofs.lemmas.Bool.Decides.{eqb_tells, nat_tests}
use Rattle.std.proofs.lemmas.List.{get_or-set_other, get_or-set_same}
use Rattle.std.proofs.lemmas.List.Elements.{All-map}
use Rattle.machine.specs.ObjectNames.{names_object, pointer_to}
use Rattle.machine.specs.Stock.{ClassStock, IsClassStock, IsOwn, IsStock, OwnBlock, cleared_block, first_free, first_stock, free_bits, has_free, lowest_free, new_bits, no_stock, object_bits, reserve_bit, ripened, ripened_block, scanned_block, with_reserve, without}
use Rattle.machine.proofs.ObjectNamesLemmas.{IsNamed, names_object-if}
use Rattle.object_form.specs.Class.{units_of}
use Rattle.object_form.specs.declared.classes.TheConstants.{CLASSES}
use Rattle.region_view.specs.Sizes.{IsWithinLimits, Sizes}

-- The bits of a block.

pub without-less : (bits others limit : ℕ) → bits < limit → without bits others < limit
without-less bits others limit below = omega arith

pub bit_or-below : (a b k : ℕ) → a < 2 ^ k → b < 2 ^ k → bit_or a b < 2 ^ k
bit_or-below a b k below below' = or_lt k a b below below'

pub bit_and-below : (a b limit : ℕ) → b < limit → bit_and a b < limit
bit_and-below a b limit below = omega (arith, and_le_r a b)

pub object_bits-below : (class : ℕ) → object_bits class < 2 ^ (64 / units_of class)
object_bits-below class = omega (arith, pow_pos (64 / units_of class))

-- the lowest set bit of a number below a power of two is below its exponent
pub trailing_zeros-below : (bits k : ℕ) → 0 < bits → bits < 2 ^ k → k ≤ 64 → trailing_zeros w64 bits < k
trailing_zeros-below bits k some below within = by (cases_lt (trailing_zeros w64 bits) k)
  where
    lowest : (trailing_zeros w64 bits < 64) × (bit_at bits (trailing_zeros w64 bits) ≡ 1) × ((i : ℕ) → i < trailing_zeros w64 bits → bit_at bits i ≡ 0)
    lowest = bit_at-trailing_zeros w64 bits some (let most = pow_mono within in omega arith)

    by : (trailing_zeros w64 bits < k) ⊎ (k ≤ trailing_zeros w64 bits) → trailing_zeros w64 bits < k
    by (inl under) = under
    by (inr above) = let none = bit_at_above bits k (trailing_zeros w64 bits) below above in let one : bit_at bits (trailing_zeros w64 bits) ≡ 1 = lowest.1 in absurd (omega arith)

-- Blocks and classes.

pub some_same : {A : Type 0} {x y : A} → Some x ≡ Some y → x ≡ y
some_same same = cc

pointer_to-says : (sizes : Sizes) (class region block j : ℕ) → IsWithinLimits sizes → class < CLASSES → (1 ≤ region) × (region ≤ sizes.regions) → block < sizes.blocks → j < 64 / units_of class
    → IsNamed sizes class (pointer_to region block class j)
pointer_to-says sizes zero region block j limits below within inside under = record {
  below = omega (arith, within, limits.regions, limits.blocks);
  region = (omega (arith, within, limits.blocks), omega (arith, within, limits.blocks));
  first = omega (arith, limits.blocks);
  last = omega (arith, limits.blocks);
  whole = omega (arith, limits.blocks);
}
pointer_to-says sizes (suc zero) region block j limits below within inside under = record {
  below = omega (arith, within, limits.regions, limits.blocks);
  region = (omega (arith, within, limits.blocks), omega (arith, within, limits.blocks));
  first = omega (arith, limits.blocks);
  last = omega (arith, limits.blocks);
  whole = omega (arith, limits.blocks);
}
pointer_to-says sizes (suc (suc zero)) region block j limits below within inside under = record {
  below = omega (arith, within, limits.regions, limits.blocks);
  region = (omega (arith, within, limits.blocks), omega (arith, within, limits.blocks));
  first = omega (arith, limits.blocks);
  last = omega (arith, limits.blocks);
  whole = omega (arith, limits.blocks);
}
pointer_to-says sizes (suc (suc (suc zero))) region block j limits below within inside under = record {
  below = omega (arith, within, limits.regions, limits.blocks);
  region = (omega (arith, within, limits.blocks), omega (arith, within, limits.blocks));
  first = omega (arith, limits.blocks);
  last = omega (arith, limits.blocks);
  whole = omega (arith, limits.blocks);
}
pointer_to-says sizes (suc (suc (suc (suc zero)))) region block j limits below within inside under = record {
  below = omega (arith, within, limits.regions, limits.blocks);
  region = (omega (arith, within, limits.blocks), omega (arith, within, limits.blocks));
  first = omega (arith, limits.blocks);
  last = omega (arith, limits.blocks);
  whole = omega (arith, limits.blocks);
}
pointer_to-says sizes (suc (suc (suc (suc (suc zero))))) region block j limits below within inside under = record {
  below = omega (arith, within, limits.regions, limits.blocks);
  region = (omega (arith, within, limits.blocks), omega (arith, within, limits.blocks));
  first = omega (arith, limits.blocks);
  last = omega (arith, limits.blocks);
  whole = omega (arith, limits.blocks);
}
pointer_to-says sizes (suc (suc (suc (suc (suc (suc class)))))) region block j limits below within inside under = absurd (omega arith)

-- an object of a block of the pool is named by its pointer
pub pointer_to-named : (sizes : Sizes) (class region block j : ℕ) → IsWithinLimits sizes → class < CLASSES → (1 ≤ region) × (region ≤ sizes.regions) → block < sizes.blocks → j < 64 / units_of class
    → names_object sizes class (pointer_to region block class j) ≡ true
pointer_to-named sizes class region block j limits below within inside under =
    names_object-if sizes class (pointer_to region block class j) (pointer_to-says sizes class region block j limits below within inside under)

-- what is found in a list passes the test, and has what all of the list have
pub find-All : {A : Type 0} (P : A → Type 0) (test : A → Bool) (xs : List A) (x : A) → All P xs → find test xs ≡ Some x → (test x ≡ true) × P x
find-All P test [] x all found = absurd cc
find-All P test (y ∷ ys) x all found = by (test y) refl (find-All P test ys x (λ k d under. all (suc k) d (omega arith)))
  where
    by : (t : Bool) → test y ≡ t → (find test ys ≡ Some x → (test x ≡ true) × P x) → (test x ≡ true) × P x
    by true passes rest =
        let R : Bool → Type 0 = λ b. (if b then Some y else find test ys) ≡ Some x in
        let here : Some y ≡ Some x = subst R passes found in
        let same : y ≡ x = some_same here in
        (subst (λ z. test z ≡ true) same passes, subst P same (all 0 y (omega arith)))
    by false fails rest = let R : Bool → Type 0 = λ b. (if b then Some y else find test ys) ≡ Some x in rest (subst R fails found)

half : (class : ℕ) → class < CLASSES → 64 / units_of class ≤ 64
half zero below = omega arith
half (suc zero) below = omega arith
half (suc (suc zero)) below = omega arith
half (suc (suc (suc zero))) below = omega arith
half (suc (suc (suc (suc zero)))) below = omega arith
half (suc (suc (suc (suc (suc zero))))) below = omega arith
half (suc (suc (suc (suc (suc (suc n)))))) below = absurd (omega arith)

lowest_free-named : (sizes : Sizes) (class : ℕ) (of_class : ClassStock) (own : OwnBlock) → IsWithinLimits sizes → class < CLASSES → IsOwn sizes class own → has_free class of_class own ≡ true
    → names_object sizes class (lowest_free class of_class own) ≡ true
lowest_free-named sizes class of_class own limits below is free =
    let bits = free_bits class of_class own in
    let some : 0 < bits = grind (arith, nat_tests) in
    pointer_to-named sizes class own.region own.block (trailing_zeros w64 bits) limits below is.region is.block
    (trailing_zeros-below bits (64 / units_of class) some (without-less own.ripe (reserve_bit class of_class own) (2 ^ (64 / units_of class)) is.ripe) (half class below))

-- the ripe object that is found is an object of the class
pub first_free-named : (sizes : Sizes) (class : ℕ) (of_class : ClassStock) (pointer : ℕ) → IsWithinLimits sizes → class < CLASSES → IsClassStock sizes class of_class
    → first_free class of_class ≡ Some pointer → names_object sizes class pointer ≡ true
unfolding first_free
first_free-named sizes class of_class pointer limits below is found = by (find (has_free class of_class) of_class.own) refl
  where
    by : (own : Option OwnBlock) → find (has_free class of_class) of_class.own ≡ own → names_object sizes class pointer ≡ true
    by None none = let bad : None ≡ Some pointer = sym (ap (option_map (lowest_free class of_class)) none) ∙ found in absurd cc
    by (Some own) some =
        let here : Some (lowest_free class of_class own) ≡ Some pointer = sym (ap (option_map (lowest_free class of_class)) some) ∙ found in
        let both = find-All (IsOwn sizes class) (has_free class of_class) of_class.own own is.own some in
        subst (λ p. names_object sizes class p ≡ true) (some_same here) (lowest_free-named sizes class of_class own limits below both.1 both.0)

-- The stock of a class.

pub no_stock-is : (sizes : Sizes) (class : ℕ) → IsClassStock sizes class no_stock
no_stock-is sizes class = record { own = λ k d under. absurd (omega arith); reserve = λ pointer is. absurd cc; awaited = λ k d under. absurd (omega arith) }

-- each own block is changed, and stays one
own-map : (sizes : Sizes) (class : ℕ) (f : OwnBlock → OwnBlock) (own : List OwnBlock) → ((one : OwnBlock) → IsOwn sizes class one → IsOwn sizes class (f one)) → All (IsOwn sizes class) own
    → All (IsOwn sizes class) (map f own)
own-map sizes class f own keeps all = All-map (IsOwn sizes class) f own (λ k d under. keeps (get_or own k d) (all k d under))

pub ripened-is : (sizes : Sizes) (class : ℕ) (of_class : ClassStock) → IsClassStock sizes class of_class → IsClassStock sizes class (ripened of_class)
ripened-is sizes class of_class is = record {
  own = own-map sizes class ripened_block of_class.own
      (λ one own. record {
        region = own.region;
        block = own.block;
        ripe = bit_or-below one.ripe one.waiting (64 / units_of class) own.ripe own.waiting;
        waiting = pow_pos (64 / units_of class);
      }) is.own;
  reserve = is.reserve;
  awaited = is.awaited;
}

pub with_reserve-is : (sizes : Sizes) (class next : ℕ) (of_class : ClassStock) → IsClassStock sizes class of_class → names_object sizes class next ≡ true → IsClassStock sizes class (with_reserve class of_class next)
with_reserve-is sizes class next of_class is named = record {
  own = own-map sizes class (cleared_block class of_class) of_class.own
      (λ one own. record {
        region = own.region;
        block = own.block;
        ripe = without-less one.ripe (reserve_bit class of_class one) (2 ^ (64 / units_of class)) own.ripe;
        waiting = own.waiting;
      }) is.own;
  reserve = λ pointer same. subst (λ p. names_object sizes class p ≡ true) (some_same same) named;
  awaited = is.awaited;
}

pub scanned_block-is : (sizes : Sizes) (class found : ℕ) (of_class : ClassStock) (own : OwnBlock) → IsOwn sizes class own → IsOwn sizes class (scanned_block class of_class own found)
scanned_block-is sizes class found of_class own is =
    let limit = 2 ^ (64 / units_of class) in
    let some = bit_and-below found (object_bits class) limit (object_bits-below class) in
    record {
      region = is.region;
      block = is.block;
      ripe = is.ripe;
      waiting = bit_or-below own.waiting (new_bits class of_class own found) (64 / units_of class) is.waiting
          (without-less _ _ limit (without-less _ _ limit (without-less _ _ limit some)));
    }

-- The whole stock.

pub first_stock-is : (sizes : Sizes) (client : ℕ) → IsStock sizes client (first_stock client sizes)
first_stock-is sizes client = record { owner = refl; shape = refl; whole = refl; classes = classes }
  where
    classes : (class : ℕ) → class < CLASSES → IsClassStock sizes class (slice_index_or (first_stock client sizes).classes class no_stock)
    classes zero below = no_stock-is sizes zero
    classes (suc zero) below = no_stock-is sizes (suc zero)
    classes (suc (suc zero)) below = no_stock-is sizes (suc (suc zero))
    classes (suc (suc (suc zero))) below = no_stock-is sizes (suc (suc (suc zero)))
    classes (suc (suc (suc (suc zero)))) below = no_stock-is sizes (suc (suc (suc (suc zero))))
    classes (suc (suc (suc (suc (suc zero))))) below = no_stock-is sizes (suc (suc (suc (suc (suc zero)))))
    classes (suc (suc (suc (suc (suc (suc class)))))) below = absurd (omega arith)

-- the stock of one class is replaced
pub with_class-is : (sizes : Sizes) (client class : ℕ) (of_class : ClassStock) (classes : List ClassStock) → length classes ≡ CLASSES → class < CLASSES
    → ((other : ℕ) → other < CLASSES → IsClassStock sizes other (slice_index_or classes other no_stock)) → IsClassStock sizes class of_class
    → (other : ℕ) → other < CLASSES → IsClassStock sizes other (slice_index_or (slice_set classes class of_class) other no_stock)
with_class-is sizes client class of_class classes whole below all is other under = by (eqb_tells other class)
  where
    by : (((other == class) ≡ true) × (other ≡ class)) ⊎ (((other == class) ≡ false) × (other ≢ class)) → IsClassStock sizes other (slice_index_or (slice_set classes class of_class) other no_stock)
    by (inl (test, same)) = let P : ℕ → Type 0 = λ n. IsClassStock sizes n (slice_index_or (slice_set classes class of_class) n no_stock) in
        subst P (sym same) (rw (get_or-set_same classes class of_class no_stock (omega (arith, whole))) is)
    by (inr (test, differ)) = rw (get_or-set_other classes class other of_class no_stock differ) (all other under)
