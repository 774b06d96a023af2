-- Regions follow one another.
use Rattle.std.proofs.Common.{◌≡◌, ℕ, zero, suc, ◌+◌, ◌-◌, ◌*◌, ◌<◌, ◌≤◌, ◌==◌, ◌⊎◌, inl, inr, false, refl, ap, ◌∙◌, arith}
use Rattle.std.proofs.lemmas.Bool.{cases_lt}
use Rattle.std.proofs.lemmas.Bool.Decides.{nat_tests}
use Rattle.std.proofs.lemmas.Nat.{rows}
use Rattle.region_view.specs.Layout.{NodeWord, Slot, Shadow, BlockWord, Bitmap, UnitWord, HasWord, offset_of, position_of, region_of_word}
use Rattle.region_view.specs.Sizes.{IsWithinLimits, Sizes, node_words, region_words}
use Rattle.region_view.specs.Placed.{region_size, region_start}

is_not_index : (region : ℕ) → (suc region == 0) ≡ false
is_not_index region = grind (arith, nat_tests)

region_start-data : (sizes : Sizes) (region : ℕ) → region_start sizes (suc region) ≡ 48 * sizes.groups + region * region_words sizes
region_start-data sizes region =
    let before : suc region - 1 ≡ region = omega arith in
    rw (is_not_index region, before) refl

region_size-data : (sizes : Sizes) (region : ℕ) → region_size sizes (suc region) ≡ region_words sizes
region_size-data sizes region = rw (is_not_index region) refl

next_row : (l h size : ℕ) → l < h → l * size + size ≤ h * size
next_row l h size below = grind (arith, rows)

pub regions_apart : (sizes : Sizes) (lower higher : ℕ) → lower < higher → region_start sizes lower + region_size sizes lower ≤ region_start sizes higher
regions_apart sizes lower zero below = absurd (omega arith)
regions_apart sizes zero (suc higher) below = rw (region_start-data sizes higher) (omega arith)
regions_apart sizes (suc lower) (suc higher) below =
    let fits = next_row lower higher (region_words sizes) (omega arith) in
    rw (region_start-data sizes lower, region_size-data sizes lower, region_start-data sizes higher) (omega arith)

region_size-of_data : (sizes : Sizes) (region : ℕ) → 1 ≤ region → region_size sizes region ≡ region_words sizes
region_size-of_data sizes zero some = absurd (omega arith)
region_size-of_data sizes (suc region) some = region_size-data sizes region

regions_inside : (sizes : Sizes) (region : ℕ) → region ≤ sizes.regions → region_start sizes region + region_size sizes region ≤ node_words sizes
regions_inside sizes zero within = omega arith
regions_inside sizes (suc region) within =
    let fits = next_row region sizes.regions (region_words sizes) (omega arith) in
    rw (region_start-data sizes region, region_size-data sizes region) (omega arith)

-- what lies in one region lies nowhere in another
pub same_place : (sizes : Sizes) (one other first second : ℕ) → first < region_size sizes one → second < region_size sizes other
    → region_start sizes one + first ≡ region_start sizes other + second → (one ≡ other) × (first ≡ second)
same_place sizes one other first second within within' same = by_order (cases_lt one other) (cases_lt other one)
  where
    by_order : (one < other) ⊎ (other ≤ one) → (other < one) ⊎ (one ≤ other) → (one ≡ other) × (first ≡ second)
    by_order (inl below) above = let apart = regions_apart sizes one other below in absurd (omega arith)
    by_order (inr up) (inl above) = let apart = regions_apart sizes other one above in absurd (omega arith)
    by_order (inr up) (inr down) =
        let region : one ≡ other = omega arith in
        let start = ap (region_start sizes) region in
        (region, omega arith)

pub offset_of-inside : (sizes : Sizes) (word : NodeWord) → IsWithinLimits sizes → HasWord sizes word → offset_of sizes word < region_size sizes (region_of_word word)
offset_of-inside sizes (Slot slot) limits has = omega arith
offset_of-inside sizes (Shadow slot) limits has = omega arith
offset_of-inside sizes (BlockWord region block) limits has = let few = limits.blocks in rw (region_size-of_data sizes region has.0) (omega arith)
offset_of-inside sizes (Bitmap region block) limits has = let few = limits.blocks in rw (region_size-of_data sizes region has.0) (omega arith)
offset_of-inside sizes (UnitWord region unit word) limits has = rw (region_size-of_data sizes region has.0) (omega arith)

region_of_word-exists : (sizes : Sizes) (word : NodeWord) → HasWord sizes word → region_of_word word ≤ sizes.regions
region_of_word-exists sizes (Slot slot) has = omega arith
region_of_word-exists sizes (Shadow slot) has = omega arith
region_of_word-exists sizes (BlockWord region block) has = has.1
region_of_word-exists sizes (Bitmap region block) has = has.1
region_of_word-exists sizes (UnitWord region unit word) has = has.1

pub position_of-inside : (sizes : Sizes) (word : NodeWord) → IsWithinLimits sizes → HasWord sizes word → position_of sizes word < node_words sizes
position_of-inside sizes word limits has =
    let inside = offset_of-inside sizes word limits has in
    let region = regions_inside sizes (region_of_word word) (region_of_word-exists sizes word has) in
    omega arith

same_word : (sizes : Sizes) (one other : NodeWord) → IsWithinLimits sizes → HasWord sizes one → HasWord sizes other
    → region_of_word one ≡ region_of_word other → offset_of sizes one ≡ offset_of sizes other → one ≡ other
same_word sizes (Slot a) (Slot b) limits has has' region offset = ap Slot offset
same_word sizes (Slot a) (Shadow b) limits has has' region offset = absurd (omega arith)
same_word sizes (Slot a) (BlockWord r b) limits has has' region offset = absurd (omega arith)
same_word sizes (Slot a) (Bitmap r b) limits has has' region offset = absurd (omega arith)
same_word sizes (Slot a) (UnitWord r u w) limits has has' region offset = absurd (omega arith)
same_word sizes (Shadow a) (Slot b) limits has has' region offset = absurd (omega arith)
same_word sizes (Shadow a) (Shadow b) limits has has' region offset = ap Shadow (omega arith)
same_word sizes (Shadow a) (BlockWord r b) limits has has' region offset = absurd (omega arith)
same_word sizes (Shadow a) (Bitmap r b) limits has has' region offset = absurd (omega arith)
same_word sizes (Shadow a) (UnitWord r u w) limits has has' region offset = absurd (omega arith)
same_word sizes (BlockWord r b) (Slot a) limits has has' region offset = absurd (omega arith)
same_word sizes (BlockWord r b) (Shadow a) limits has has' region offset = absurd (omega arith)
same_word sizes (BlockWord r b) (BlockWord r' b') limits has has' region offset = ap (λ n. BlockWord n b) region ∙ ap (λ n. BlockWord r' n) offset
same_word sizes (BlockWord r b) (Bitmap r' b') limits has has' region offset = let few = limits.blocks in absurd (omega arith)
same_word sizes (BlockWord r b) (UnitWord r' u w) limits has has' region offset = let few = limits.blocks in absurd (omega arith)
same_word sizes (Bitmap r b) (Slot a) limits has has' region offset = absurd (omega arith)
same_word sizes (Bitmap r b) (Shadow a) limits has has' region offset = absurd (omega arith)
same_word sizes (Bitmap r b) (BlockWord r' b') limits has has' region offset = let few = limits.blocks in absurd (omega arith)
same_word sizes (Bitmap r b) (Bitmap r' b') limits has has' region offset = let block : b ≡ b' = omega arith in ap (λ n. Bitmap n b) region ∙ ap (λ n. Bitmap r' n) block
same_word sizes (Bitmap r b) (UnitWord r' u w) limits has has' region offset = let few = limits.blocks in absurd (omega arith)
same_word sizes (UnitWord r u w) (Slot a) limits has has' region offset = absurd (omega arith)
same_word sizes (UnitWord r u w) (Shadow a) limits has has' region offset = absurd (omega arith)
same_word sizes (UnitWord r u w) (BlockWord r' b) limits has has' region offset = let few = limits.blocks in absurd (omega arith)
same_word sizes (UnitWord r u w) (Bitmap r' b) limits has has' region offset = let few = limits.blocks in absurd (omega arith)
same_word sizes (UnitWord r u w) (UnitWord r' u' w') limits has has' region offset =
    let unit : u ≡ u' = omega arith in
    let word : w ≡ w' = omega arith in
    ap (λ n. UnitWord n u w) region ∙ ap (λ n. UnitWord r' n w) unit ∙ ap (λ n. UnitWord r' u' n) word

pub position_of-apart : (sizes : Sizes) (one other : NodeWord) → IsWithinLimits sizes → HasWord sizes one → HasWord sizes other → position_of sizes one ≡ position_of sizes other → one ≡ other
position_of-apart sizes one other limits has has' same =
    let place = same_place sizes (region_of_word one) (region_of_word other) (offset_of sizes one) (offset_of sizes other) (offset_of-inside sizes one limits has) (offset_of-inside sizes other limits has') same in
    same_word sizes one other limits has has' place.0 place.1
