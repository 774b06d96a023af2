-- What a new choosing tells at once.
use Rattle.std.proofs.Common.{◌≡◌, ℕ, ◌*◌, ◌<◌, ◌⊎◌, inl, inr, Bool, true, false, ◌&&◌, length, Option, Some, None, refl, sym, ap, subst, ◌∙◌, arith}
use Rattle.std.specs.Prelude.{◌↔◌, not, nat_lt}
use Rattle.std.proofs.Math.Nat.{mul-le-mul_right}
use Rattle.std.proofs.lemmas.Bool.{lt-ltb}
use Rattle.machine.specs.Choosing.{at_block, begins, chooses, looks}
use Rattle.machine.specs.declared.choosing.Took.{Took}
use Rattle.machine.specs.declared.choosing.Took.TheVariants.{Going, Have}
use Rattle.machine.specs.Stock.{Stock, class_stock, first_free}
use Rattle.machine.specs.Turn.{Turn}
use Rattle.object_alloc.specs.Causes.{HasObjects}
use Rattle.object_alloc.specs.Choosers.{stock_of, turn_of}
use Rattle.object_alloc.specs.declared.choosers.Chooser.{Chooser}
use Rattle.region_view.specs.Sizes.{IsWithinLimits}

some_block : (stock : Stock) → IsWithinLimits stock.shape → 0 < stock.shape.regions * stock.shape.blocks
some_block stock limits =
    let more = mul-le-mul_right {m = 1} {n = stock.shape.regions} stock.shape.blocks limits.regions.0 in
    let blocks = limits.blocks.0 in
    omega arith

-- a choosing that has read no block yet goes on, where no object is ripe
looks-goes : (stock : Stock) → IsWithinLimits stock.shape → stock.position ≡ 0 → (looks stock).told ≡ Going
looks-goes stock limits first = by (nat_lt 0 (length (class_stock stock).awaited)) refl (not stock.scanned && nat_lt 0 (length (class_stock stock).own)) refl
  where
    block : (at_block stock).told ≡ Going
    block = let within : nat_lt stock.position (stock.shape.regions * stock.shape.blocks) ≡ true = rw first (lt-ltb _ _ (some_block stock limits)) in rw within refl

    by : (t : Bool) → nat_lt 0 (length (class_stock stock).awaited) ≡ t → (u : Bool) → (not stock.scanned && nat_lt 0 (length (class_stock stock).own)) ≡ u → (looks stock).told ≡ Going
    by true some u scan = rw some refl
    by false none true scan = rw (none, scan) refl
    by false none false done = rw (none, done) block

have_both : (one other object next : ℕ) → Have one other ≡ Have object next → (one ≡ object) × (other ≡ next)
have_both one other object next same = (cc, cc)

same_some : (one other : ℕ) → Some one ≡ Some other → one ≡ other
same_some one other same = cc

-- a choosing takes an object at once exactly where the class has a reserve and a ripe object beside it, and else goes on
chooses-have : (stock : Stock) (object next : ℕ) → IsWithinLimits stock.shape → stock.position ≡ 0 → ((chooses stock).told ≡ Have object next) ↔ HasObjects stock object next
chooses-have stock object next limits first = by (first_free stock.class (class_stock stock)) refl (class_stock stock).reserve refl
  where
    by : (free : Option ℕ) → first_free stock.class (class_stock stock) ≡ free → (reserve : Option ℕ) → (class_stock stock).reserve ≡ reserve → ((chooses stock).told ≡ Have object next) ↔ HasObjects stock object next
    by None none reserve is =
        let goes : (chooses stock).told ≡ Going = rw none (looks-goes stock limits first) in
        (λ told. absurd (let bad : Going ≡ Have object next = sym goes ∙ told in cc), λ has. absurd (let bad : None ≡ Some next = sym none ∙ has.next_is in cc))
    by (Some free) some None none =
        let goes : (chooses stock).told ≡ Going = rw (some, none) refl in
        (λ told. absurd (let bad : Going ≡ Have object next = sym goes ∙ told in cc), λ has. absurd (let bad : None ≡ Some object = sym none ∙ has.reserve_is in cc))
    by (Some free) some (Some reserve) is =
        let took : (chooses stock).told ≡ Have reserve free = rw (some, is) refl in (
          λ told. let both = have_both reserve free object next (sym took ∙ told) in record { reserve_is = is ∙ ap Some both.0; next_is = some ∙ ap Some both.1 },
          λ has. took ∙ λ i. Have (same_some reserve object (sym is ∙ has.reserve_is) i) (same_some free next (sym some ∙ has.next_is) i),
        )

chooses-else : (stock : Stock) → IsWithinLimits stock.shape → stock.position ≡ 0 → ((chooses stock).told ≡ Going) ⊎ ((object : ℕ) × (next : ℕ) × ((chooses stock).told ≡ Have object next))
chooses-else stock limits first = by (first_free stock.class (class_stock stock)) refl (class_stock stock).reserve refl
  where
    by : (free : Option ℕ) → first_free stock.class (class_stock stock) ≡ free → (reserve : Option ℕ) → (class_stock stock).reserve ≡ reserve
        → ((chooses stock).told ≡ Going) ⊎ ((object : ℕ) × (next : ℕ) × ((chooses stock).told ≡ Have object next))
    by None none reserve is = inl (rw none (looks-goes stock limits first))
    by (Some free) some None none = inl (rw (some, none) refl)
    by (Some free) some (Some reserve) is = inr (reserve, free, rw (some, is) refl)

-- the stock as a new choosing of a class finds it
abbrev fresh : Stock → ℕ → ℕ → Stock
fresh stock mask class = record stock { mask = mask; class = class; scanned = false; position = 0 }

pub begun-have : (before after : Chooser) (now : Stock) (told : Took) (mask class object next : ℕ) → IsWithinLimits before.shape → stock_of before ≡ now → turn_of after told ≡ begins (stock_of before) mask class
    → (told ≡ Have object next) ↔ HasObjects (record now { class = class }) object next
begun-have before after now told mask class object next limits same is =
    let both = chooses-have (fresh (stock_of before) mask class) object next limits refl in
    let result = ap (λ (t : Turn Stock Took). t.told) is in
    let here : (told ≡ Have object next) ↔ HasObjects (record (stock_of before) { class = class }) object next = (
      λ has. let found = both.0 (sym result ∙ has) in record { reserve_is = found.reserve_is; next_is = found.next_is },
      λ has. result ∙ both.1 (record { reserve_is = has.reserve_is; next_is = has.next_is }),
    ) in
    subst (λ (s : Stock). (told ≡ Have object next) ↔ HasObjects (record s { class = class }) object next) same here

pub begun-else : (before after : Chooser) (told : Took) (mask class : ℕ) → IsWithinLimits before.shape → turn_of after told ≡ begins (stock_of before) mask class → (told ≡ Going) ⊎ ((object : ℕ) × (next : ℕ) × (told ≡ Have object next))
begun-else before after told mask class limits is =
    subst (λ t. (t ≡ Going) ⊎ ((object : ℕ) × (next : ℕ) × (t ≡ Have object next))) (sym (ap (λ (t : Turn Stock Took). t.told) is)) (chooses-else (fresh (stock_of before) mask class) limits refl)
