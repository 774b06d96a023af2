-- The order of points, and calls that are sorted by it.
use Rattle.std.proofs.Common.{◌≡◌, ◌+◌, ◌==◌, length, get_or, arith, Bool, true, false, cond, if◌then◌else◌, List, [], ◌∷◌, ◌++◌, map, reverse, refl, sym, ap, ◌∙◌}
use Rattle.std.proofs.lemmas.Cmp.{nat_cmp_total, on_total, then_total}
use Rattle.std.proofs.lemmas.List.{append-nil, get_or-map, length-map, reverse-append}
use Rattle.std.proofs.lemmas.List.Elements.{filter-append}
use Rattle.std.proofs.lemmas.List.Sorted.{ranks_by}
use Rattle.std.specs.Borrow.{Bor}
use Rattle.std.specs.Cmp.{IsStrictWeakOrder, IsTotalOrder}
use Rattle.std.specs.List.{AllByRecursion, filter}
use Rattle.std.specs.List.Sorted.{IsSortedBy, IsStableBy, ties}
use Rattle.std.specs.Ordering.{is_lt, nat_cmp, ordering_then}
use Rattle.std.specs.Prelude.{◌&&◌, ◌||◌, nat_lt}
use Rattle.std.specs.declared.cmp.Ordering.{Ordering}
use Rattle.std.specs.declared.cmp.Ordering.TheVariants.{Less, Equal, Greater}
use Rattle.machine_world.specs.Ledger.{is_before}
use Rattle.machine_world.specs.World.{Point}
use Rattle.map_model.specs.declared.entries.Entry.{Entry}
use Rattle.verb_history.proofs.OrderLemmas.{Rises, all_weaker, filter-map, filter_no, filter_none, filter_yes, no_tie, not_below_itself, rises_from_sorted, same_sorted}
use Rattle.verb_history.specs.Points.{in_order, inserted}
use Rattle.verb_history.specs.declared.points.Placed.{Placed}

-- ---- points

abbrev pub point_cmp : Point → Point → Ordering
point_cmp a b = ordering_then (nat_cmp a.event b.event) (ordering_then (nat_cmp a.slot b.slot) (nat_cmp a.rank b.rank))

abbrev pub by_point : Placed → Placed → Ordering
by_point a b = point_cmp a.at b.at

by_point-total : IsTotalOrder by_point
by_point-total = then_total (on_total (λ (p : Placed). p.at.event) nat_cmp_total) (then_total (on_total (λ (p : Placed). p.at.slot) nat_cmp_total) (on_total (λ (p : Placed). p.at.rank) nat_cmp_total))

-- what tests of two numbers, below and equal, come to
abbrev ranked_by : Bool → Bool → Ordering
ranked_by below same = cond below Less (cond same Equal Greater)

lt-then : (below same : Bool) (rest : Ordering) → is_lt (ordering_then (ranked_by below same) rest) ≡ (below || (same && is_lt rest))
lt-then true same rest = refl
lt-then false true rest = refl
lt-then false false rest = refl

lt-last : (below same : Bool) → is_lt (ranked_by below same) ≡ below
lt-last true same = refl
lt-last false true = refl
lt-last false false = refl

is_before-cmp : (a b : Point) → is_before a b ≡ is_lt (point_cmp a b)
is_before-cmp a b =
    let rank = lt-last (nat_lt a.rank b.rank) (a.rank == b.rank) in
    let slot = lt-then (nat_lt a.slot b.slot) (a.slot == b.slot) (nat_cmp a.rank b.rank) in
    let event = lt-then (nat_lt a.event b.event) (a.event == b.event) (ordering_then (nat_cmp a.slot b.slot) (nat_cmp a.rank b.rank)) in
    sym (event ∙ ap (λ rest. nat_lt a.event b.event || ((a.event == b.event) && rest)) (slot ∙ ap (λ rest. nat_lt a.slot b.slot || ((a.slot == b.slot) && rest)) rank))

-- whether a call stands before another, by their points alone
abbrev pub sooner : Placed → Placed → Bool
sooner one other = is_lt (by_point one other)

sooner-order : IsStrictWeakOrder sooner
sooner-order = ranks_by by_point-total (λ one. one)

abbrev with : Placed → Placed → Bool
with = ties sooner

-- ---- calls are inserted

all-inserted : (P : Placed → Type 0) (one : Placed) (others : List Placed) → P one → AllByRecursion P others → AllByRecursion P (inserted one others)
all-inserted P one [] p all = (p, tt)
all-inserted P one (other ∷ others) p all = by (is_before one.at other.at) (all-inserted P one others p all.1)
  where
    by : (t : Bool) → AllByRecursion P (inserted one others) → AllByRecursion P (if t then one ∷ other ∷ others else other ∷ inserted one others)
    by true rest = (p, all)
    by false rest = (all.0, rest)

rises-inserted : (one : Placed) (others : List Placed) → Rises sooner others → Rises sooner (inserted one others)
rises-inserted one [] rises = (tt, tt)
rises-inserted one (other ∷ others) rises = by (is_before one.at other.at) refl (rises-inserted one others rises.1)
  where
    by : (t : Bool) → is_before one.at other.at ≡ t → Rises sooner (inserted one others) → Rises sooner (if t then one ∷ other ∷ others else other ∷ inserted one others)
    by true is rest =
        let after : sooner other one ≡ false = sooner-order.one_way one other (sym (is_before-cmp one.at other.at) ∙ is) in
        ((after, all_weaker (λ x up. sooner-order.chain x other one up after) others rises.0), rises)
    by false is rest =
        (all-inserted (λ x. sooner x other ≡ false) one others (sym (is_before-cmp one.at other.at) ∙ is) rises.0, rest)

rises-in_order : (placed : List Placed) → Rises sooner (in_order placed)
rises-in_order [] = tt
rises-in_order (one ∷ others) = rises-inserted one (in_order others) (rises-in_order others)

-- one more ahead of both
ahead : (t : Bool) (other : Placed) (xs ys zs : List Placed) → xs ≡ ys ++ zs → cond t (other ∷ xs) xs ≡ cond t (other ∷ ys) ys ++ zs
ahead true other xs ys zs is = ap (λ rest. other ∷ rest) is
ahead false other xs ys zs is = is

-- a call goes before those that it is sooner than, of which none stands at its point
ahead-inserted : (x one other : Placed) (others : List Placed) → AllByRecursion (λ y. sooner y other ≡ false) others → sooner one other ≡ true
    → filter (with x) (one ∷ other ∷ others) ≡ filter (with x) (other ∷ others) ++ filter (with x) (one ∷ [])
ahead-inserted x one other others up below = by (with x one) refl
  where
    by : (t : Bool) → with x one ≡ t → filter (with x) (one ∷ other ∷ others) ≡ filter (with x) (other ∷ others) ++ filter (with x) (one ∷ [])
    by true is =
        let none = filter_none (with x) (other ∷ others) (all_weaker (λ y at. no_tie sooner sooner-order x one other y is below at) (other ∷ others) (not_below_itself sooner sooner-order other, up)) in
        filter_yes (with x) one (other ∷ others) is ∙ ap (λ rest. one ∷ rest) none
        ∙ sym (ap (λ rest. rest ++ filter (with x) (one ∷ [])) none ∙ filter_yes (with x) one [] is)
    by false is =
        filter_no (with x) one (other ∷ others) is ∙ sym (append-nil (filter (with x) (other ∷ others)))
        ∙ ap (λ rest. filter (with x) (other ∷ others) ++ rest) (sym (filter_no (with x) one [] is))

-- a call that is inserted stands behind those at its point
filter-inserted : (x one : Placed) (others : List Placed) → Rises sooner others → filter (with x) (inserted one others) ≡ filter (with x) others ++ filter (with x) (one ∷ [])
filter-inserted x one [] rises = refl
filter-inserted x one (other ∷ others) rises = by (is_before one.at other.at) refl (filter-inserted x one others rises.1)
  where
    by : (t : Bool) → is_before one.at other.at ≡ t → filter (with x) (inserted one others) ≡ filter (with x) others ++ filter (with x) (one ∷ [])
        → filter (with x) (if t then one ∷ other ∷ others else other ∷ inserted one others) ≡ filter (with x) (other ∷ others) ++ filter (with x) (one ∷ [])
    by true is rest = ahead-inserted x one other others rises.0 (sym (is_before-cmp one.at other.at) ∙ is)
    by false is rest = ahead (with x other) other (filter (with x) (inserted one others)) (filter (with x) others) (filter (with x) (one ∷ [])) rest

-- the calls at one point stand in the order, and the last entered comes first
filter-in_order : (x : Placed) (placed : List Placed) → filter (with x) (in_order placed) ≡ filter (with x) (reverse placed)
filter-in_order x [] = refl
filter-in_order x (one ∷ others) =
    filter-inserted x one (in_order others) (rises-in_order others)
    ∙ ap (λ rest. rest ++ filter (with x) (one ∷ [])) (filter-in_order x others)
    ∙ sym (filter-append (with x) (reverse others) (one ∷ []))
    ∙ ap (filter (with x)) (sym (reverse-append (one ∷ []) others))

-- ---- lists of borrowed calls

pub map-twice : {A B C : Type 0} (g : B → C) (f : A → B) (xs : List A) → map g (map f xs) ≡ map (λ x. g (f x)) xs
map-twice g f [] = refl
map-twice g f (x ∷ xs) = ap (λ rest. g (f x) ∷ rest) (map-twice g f xs)

abbrev pub lent : Bor Placed → Placed
lent one = one.now

sorted-map : {X Y : Type 0} (f : X → Y) (lt : Y → Y → Bool) (xs : List X) → IsSortedBy (λ x y. lt (f x) (f y)) xs → IsSortedBy lt (map f xs)
sorted-map f lt [] up = λ k d low within. absurd (omega arith)
sorted-map f lt (x ∷ xs) up = λ k d low within.
    let long : length (map f (x ∷ xs)) ≡ length (x ∷ xs) = length-map (x ∷ xs) f in
    let later = get_or-map f (x ∷ xs) (k + 1) x d (omega arith) in
    let earlier = get_or-map f (x ∷ xs) k x d (omega arith) in
    ap (λ y. lt y (get_or (map f (x ∷ xs)) k d)) later ∙ ap (λ y. lt (f (get_or (x ∷ xs) (k + 1) x)) y) earlier ∙ up k x low (omega arith)

-- what a stable sort leaves of the borrowed calls, the last entered first
pub sorted_is : (placed : List Placed) (refs order : List (Bor Placed)) → map lent refs ≡ reverse placed → IsSortedBy (λ x y. sooner x.now y.now) order
    → IsStableBy (λ x y. sooner x.now y.now) refs order → map lent order ≡ in_order placed
sorted_is placed refs order same sorted stable =
    same_sorted sooner sooner-order (map lent order) (in_order placed) (rises_from_sorted sooner sooner-order (map lent order) (sorted-map lent sooner order sorted)) (rises-in_order placed) alike
  where
    alike : (x : Placed) → filter (with x) (in_order placed) ≡ filter (with x) (map lent order)
    alike x =
        filter-in_order x placed ∙ ap (filter (with x)) (sym same) ∙ filter-map lent (with x) refs
        ∙ ap (map lent) (sym (stable (record { ref_ptr = (0, 0); now = x }))) ∙ sym (filter-map lent (with x) order)

-- the entries of calls in order
pub listed : (placed : List Placed) (order slice : List (Bor Placed)) (list : List Entry) → map lent order ≡ in_order placed → slice ≡ order
    → list ≡ map (λ one. one.now.entry) slice → list ≡ map (λ one. one.entry) (in_order placed)
listed placed order slice list ordered same is =
    is ∙ ap (map (λ one. one.now.entry)) same ∙ sym (map-twice (λ (one : Placed). one.entry) lent order) ∙ ap (map (λ one. one.entry)) ordered
