-- The places of words on their replicas lie in the pool.
use Rattle.std.proofs.Common.{◌≡◌, ℕ, zero, suc, ◌+◌, ◌*◌, ◌%◌, ◌<◌, ◌≤◌, inl, inr, Bool, true, false, ◌||◌, List, [], ◌∷◌, length, map, filter, get_or, refl, sym, ap, subst, ◌∙◌, zero-add, arith, length-append}
use Rattle.std.specs.Prelude.{All}
use Rattle.std.specs.List.{list_any, range_with_len}
use Rattle.std.proofs.Math.Nat.{mod-lt}
use Rattle.std.proofs.lemmas.List.{length-map}
use Rattle.std.proofs.lemmas.List.Elements.{All-append, All-filter, All-from_get_or, All-get_or, All-map}
use Rattle.std.proofs.lemmas.List.FromFn.{get_or-range_with_len, length-range_with_len}
use Rattle.std.proofs.lemmas.Bool.{false≢true}
use Rattle.std.proofs.lemmas.List.Sums.{AllPass-from_list_all}
use Rattle.machine.specs.EpochRead.{IsView, leaves_none_bare}
use Rattle.machine.specs.Places.{Home, IsInPool, backup_count, control, homes_of, place_at, primary_last, primary_place, replica_count, slot_backup, slot_homes_of, slot_primary, with_shadow, written_place}
use Rattle.region_view.proofs.ControlLemmas.{control_position-inside}
use Rattle.region_view.proofs.LayoutLemmas.{position_of-inside}
use Rattle.region_view.specs.Control.{ControlWord, HasControlWord}
use Rattle.region_view.specs.Layout.{HasWord, NodeWord, Slot, region_of_word}
use Rattle.region_view.specs.Placed.{Viewed, in_mask, placed_node, placed_nodes, replicas_of}
use Rattle.region_view.specs.Sizes.{IsWithinLimits, Sizes}

-- a memory node of the pool
pub record IsNode (sizes : Sizes) (node : ℕ) : Type 0 where
  pub least : 1 ≤ node
  pub most : node ≤ sizes.nodes

-- a word on a memory node of the pool
pub record IsHome (sizes : Sizes) (home : Home) : Type 0 where
  pub node : IsNode sizes home.0
  pub word : HasWord sizes home.1

placed_node-is : (sizes : Sizes) (region i : ℕ) → IsWithinLimits sizes → IsNode sizes (placed_node sizes region i)
placed_node-is sizes region i limits =
    let below : (region + i) % sizes.nodes < sizes.nodes = mod-lt (region + i) (omega (arith, limits.nodes)) in
    record { least = omega arith; most = omega arith }

-- the replicas of a region are memory nodes of the pool
pub replicas_of-nodes : (view : Viewed) (region : ℕ) → IsWithinLimits view.shape → All (IsNode view.shape) (replicas_of view region)
replicas_of-nodes view region limits =
    All-filter (in_mask view.mask) (IsNode view.shape) (placed_nodes view.shape region)
    (All-map (IsNode view.shape) (placed_node view.shape region) (range_with_len 0 view.shape.replicas)
    (All-from_get_or (λ i. IsNode view.shape (placed_node view.shape region i)) (range_with_len 0 view.shape.replicas) 0
    (λ i below. placed_node-is view.shape region (get_or (range_with_len 0 view.shape.replicas) i 0) limits)))

homes_on : (sizes : Sizes) (word : NodeWord) (nodes : List ℕ) → HasWord sizes word → All (IsNode sizes) nodes → All (IsHome sizes) (map (λ node. (node, word)) nodes)
homes_on sizes word nodes has are =
    All-map (IsHome sizes) (λ node. (node, word)) nodes
    (All-from_get_or (λ node. IsHome sizes (node, word)) nodes 0
    (λ i below. record { node = All-get_or (IsNode sizes) nodes i 0 below are; word = has }))

pub homes_of-are : (view : Viewed) (word : NodeWord) → IsWithinLimits view.shape → HasWord view.shape word → All (IsHome view.shape) (homes_of view word)
homes_of-are view word limits has = homes_on view.shape word (replicas_of view (region_of_word word)) has (replicas_of-nodes view (region_of_word word) limits)

slot_homes_are : (sizes : Sizes) (slot : ℕ) (nodes : List ℕ) → slot < 24 * sizes.groups → All (IsNode sizes) nodes → All (IsHome sizes) (with_shadow slot nodes)
slot_homes_are sizes slot [] below are = λ k d under. absurd (omega arith)
slot_homes_are sizes slot (node ∷ []) below are = two
  where
    two : (k : ℕ) (d : Home) → k < 2 → IsHome sizes (get_or (with_shadow slot (node ∷ [])) k d)
    two zero d under = record { node = are 0 0 (omega arith); word = below }
    two (suc zero) d under = record { node = are 0 0 (omega arith); word = below }
    two (suc (suc k)) d under = absurd (omega arith)
slot_homes_are sizes slot (node ∷ other ∷ nodes) below are = homes_on sizes (Slot slot) (node ∷ other ∷ nodes) below are

pub slot_homes_of-are : (view : Viewed) (slot : ℕ) → IsWithinLimits view.shape → slot < 24 * view.shape.groups → All (IsHome view.shape) (slot_homes_of view slot)
slot_homes_of-are view slot limits below = slot_homes_are view.shape slot (replicas_of view 0) below (replicas_of-nodes view 0 limits)

pub place_at-inside : (sizes : Sizes) (homes : List Home) (i : ℕ) → IsWithinLimits sizes → All (IsHome sizes) homes → i < length homes → IsInPool sizes (place_at sizes homes i)
place_at-inside sizes homes i limits are below =
    let home = are i (0, Slot 0) below in
    inr (home.node.least, home.node.most, position_of-inside sizes _ limits home.word)

pub control-inside : (sizes : Sizes) (word : ControlWord) → HasControlWord word → IsInPool sizes (control word)
control-inside sizes word has = inl (refl, control_position-inside word has)

-- some node of a list is in the mask, so the filter keeps one
some_kept : (test : ℕ → Bool) (nodes : List ℕ) → list_any test nodes ≡ true → 0 < length (filter test nodes)
some_kept test [] any = absurd (false≢true any)
some_kept test (node ∷ nodes) any = by (test node) refl (some_kept test nodes)
  where
    by : (t : Bool) → test node ≡ t → (list_any test nodes ≡ true → 0 < length (filter test nodes)) → 0 < length (filter test (node ∷ nodes))
    by true is rest = rw is (omega arith)
    by false is rest = rw is (rest (let P : Bool → Type 0 = λ b. (b || list_any test nodes) ≡ true in subst P is any))

-- each region has a replica
pub replicas_of-some : (view : Viewed) (region : ℕ) → IsView view → region ≤ view.shape.regions → 0 < length (replicas_of view region)
unfolding leaves_none_bare
replicas_of-some view region is within =
    let test : ℕ → Bool = λ r. list_any (in_mask view.mask) (placed_nodes view.shape r) in
    let numbers : List ℕ = range_with_len 0 (view.shape.regions + 1) in
    let long : length numbers ≡ view.shape.regions + 1 = length-range_with_len 0 (view.shape.regions + 1) in
    let all = AllPass-from_list_all test numbers is.covers in
    let one : test (get_or numbers region 0) ≡ true = all region 0 (omega arith) in
    let here : get_or numbers region 0 ≡ region = get_or-range_with_len 0 (view.shape.regions + 1) region 0 (omega arith) ∙ zero-add region in
    some_kept (in_mask view.mask) (placed_nodes view.shape region) (let P : ℕ → Type 0 = λ r. test r ≡ true in subst P here one)

pub replica_count-is : (view : Viewed) (word : NodeWord) → replica_count view word ≡ length (replicas_of view (region_of_word word))
replica_count-is view word = length-map (replicas_of view (region_of_word word)) (λ node. (node, word))

pub replica_count-some : (view : Viewed) (word : NodeWord) → IsView view → region_of_word word ≤ view.shape.regions → 0 < replica_count view word
replica_count-some view word is within = let some = replicas_of-some view (region_of_word word) is within in omega (arith, replica_count-is view word)

-- words of one region have as many replicas
pub replica_count-same : (view : Viewed) (one other : NodeWord) → region_of_word one ≡ region_of_word other → replica_count view one ≡ replica_count view other
replica_count-same view one other same = replica_count-is view one ∙ ap (λ r. length (replicas_of view r)) same ∙ sym (replica_count-is view other)

pub length-primary_last : (homes : List Home) → length (primary_last homes) ≡ length homes
length-primary_last [] = refl
length-primary_last (home ∷ homes) = omega (arith, length-append homes (home ∷ []))

pub primary_last-are : (sizes : Sizes) (homes : List Home) → All (IsHome sizes) homes → All (IsHome sizes) (primary_last homes)
primary_last-are sizes [] are = are
primary_last-are sizes (home ∷ homes) are =
    All-append (IsHome sizes) homes (home ∷ [])
    (λ k d below. are (suc k) d (omega arith))
    (λ k d below. let first : k ≡ 0 = omega arith in rw first (are 0 d (omega arith)))

pub primary_place-inside : (view : Viewed) (word : NodeWord) → IsView view → HasWord view.shape word → region_of_word word ≤ view.shape.regions → IsInPool view.shape (primary_place view word)
primary_place-inside view word is has within =
    place_at-inside view.shape (homes_of view word) 0 is.limits (homes_of-are view word is.limits has) (replica_count-some view word is within)

pub written_place-inside : (view : Viewed) (word : NodeWord) (i : ℕ) → IsView view → HasWord view.shape word → i < replica_count view word → IsInPool view.shape (written_place view word i)
written_place-inside view word i is has below =
    place_at-inside view.shape (primary_last (homes_of view word)) i is.limits (primary_last-are view.shape (homes_of view word) (homes_of-are view word is.limits has))
    (omega (arith, length-primary_last (homes_of view word)))

with_shadow-more : (slot : ℕ) (nodes : List ℕ) → 0 < length nodes → 2 ≤ length (with_shadow slot nodes)
with_shadow-more slot [] some = absurd (omega arith)
with_shadow-more slot (node ∷ []) some = omega arith
with_shadow-more slot (node ∷ other ∷ nodes) some = omega (arith, length-map {B = Home} (node ∷ other ∷ nodes) (λ n. (n, Slot slot)))

-- a slot has a backup
pub slot_homes_of-more : (view : Viewed) (slot : ℕ) → IsView view → 2 ≤ length (slot_homes_of view slot)
slot_homes_of-more view slot is = with_shadow-more slot (replicas_of view 0) (replicas_of-some view 0 is (omega arith))

pub backup_count-some : (view : Viewed) (slot : ℕ) → IsView view → 0 < backup_count view slot
backup_count-some view slot is = omega (arith, slot_homes_of-more view slot is)

pub slot_primary-inside : (view : Viewed) (slot : ℕ) → IsView view → slot < 24 * view.shape.groups → IsInPool view.shape (slot_primary view slot)
slot_primary-inside view slot is below =
    place_at-inside view.shape (slot_homes_of view slot) 0 is.limits (slot_homes_of-are view slot is.limits below) (omega (arith, slot_homes_of-more view slot is))

pub slot_backup-inside : (view : Viewed) (slot backup : ℕ) → IsView view → slot < 24 * view.shape.groups → backup < backup_count view slot → IsInPool view.shape (slot_backup view slot backup)
slot_backup-inside view slot backup is below under =
    place_at-inside view.shape (slot_homes_of view slot) (backup + 1) is.limits (slot_homes_of-are view slot is.limits below) (omega arith)
