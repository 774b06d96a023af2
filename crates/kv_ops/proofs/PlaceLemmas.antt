-- The places that the program remembers are those of the machine.
use Rattle.std.proofs.Common.{◌≡◌, ◌≢◌, ℕ, zero, suc, ◌<◌, ◌≤◌, Bool, true, false, All, List, [], ◌∷◌, ◌++◌, drop, filter, get_or, length, not, remove, set, take, refl, sym, ap, subst, ◌∙◌, arith}
use Rattle.std.proofs.lemmas.Bool.{both_ways, not-true}
use Rattle.std.proofs.lemmas.List.{drop-map, get_or-map, get_or-set_other, get_or-set_same, get_or_append_left, get_or_push, length-map, length-set, length_push, map-append, map-set, map_push, take-map, take_all, drop_all, append-nil}
use Rattle.std.proofs.lemmas.List.Edits.{length-remove}
use Rattle.std.proofs.lemmas.List.Elements.{All-append, All-cons, All-drop, All-head, All-tail, All-take, All-weaker, filter_passes}
use Rattle.std.proofs.lemmas.Slice.Eq.{bytes_eq-Decides}
use Rattle.arrayvec.specs.ArrayVec.{ArrayVec}
use Rattle.kv_ops.specs.Places.{AreDistinct, HasFirstAt, HasNone, IsHeld, IsOrder, hashes_of, pair_of, pairs_in, pairs_of, picked}
use Rattle.machine.specs.Remembered.{Pair, is_of, place_for, with_place}
use Rattle.slot_order.specs.Fnv.{fnv1a}

-- a place within as many
abbrev IsBelow : ℕ → ℕ → Type 0
IsBelow count at = at < count

-- a pair is of another key
abbrev IsOther : List ℕ → Pair → Type 0
IsOther key pair = not (is_of key pair) ≡ true

-- the first pair of the key is in the rest where it is not the first of all
later : (pair : Pair) (pairs : List Pair) (rank : ℕ) (key : List ℕ) → HasFirstAt (pair ∷ pairs) (suc rank) key → HasFirstAt pairs rank key
later pair pairs rank key first = record { within = omega (arith, first.within); own = first.own; others = All-tail (IsOther key) pair (take rank pairs) first.others }

-- the place of the first pair of the key
pub place_for-first : (pairs : List Pair) (rank : ℕ) (key : List ℕ) → HasFirstAt pairs rank key → place_for pairs key ≡ (get_or pairs rank ([], 0)).1
place_for-first [] rank key first = absurd (omega (arith, first.within))
place_for-first (pair ∷ pairs) zero key first = rw first.own refl
place_for-first (pair ∷ pairs) (suc rank) key first =
    rw (not-true _ (All-head (IsOther key) pair (take rank pairs) first.others)) (place_for-first pairs rank key (later pair pairs rank key first))

-- the place where no pair is of the key
pub place_for-none : (pairs : List Pair) (key : List ℕ) → HasNone pairs key → place_for pairs key ≡ 0
place_for-none [] key none = refl
place_for-none (pair ∷ pairs) key none = rw (not-true _ (All-head (IsOther key) pair pairs none)) (place_for-none pairs key (All-tail (IsOther key) pair pairs none))

-- pairs of other keys are kept
filter-none : (pairs : List Pair) (key : List ℕ) → HasNone pairs key → filter (λ pair. not (is_of key pair)) pairs ≡ pairs
filter-none [] key none = refl
filter-none (pair ∷ pairs) key none = rw (All-head (IsOther key) pair pairs none) (ap (λ l. pair ∷ l) (filter-none pairs key (All-tail (IsOther key) pair pairs none)))

-- the first pair of the key is its only one
filter-first : (pairs : List Pair) (rank : ℕ) (key : List ℕ) → HasFirstAt pairs rank key → AreDistinct pairs → filter (λ pair. not (is_of key pair)) pairs ≡ remove pairs rank
filter-first [] rank key first distinct = absurd (omega (arith, first.within))
filter-first (pair ∷ pairs) zero key first distinct =
    let same : pair.0 ≡ key = (bytes_eq-Decides pair.0 key).0 first.own in
    rw first.own (filter-none pairs key (subst (λ k. HasNone pairs k) same distinct.0))
filter-first (pair ∷ pairs) (suc rank) key first distinct =
    rw (All-head (IsOther key) pair (take rank pairs) first.others) (ap (λ l. pair ∷ l) (filter-first pairs rank key (later pair pairs rank key first) distinct.1))

pub HasNone-remove_first : (pairs : List Pair) (rank : ℕ) (key : List ℕ) → HasFirstAt pairs rank key → AreDistinct pairs → HasNone (remove pairs rank) key
HasNone-remove_first pairs rank key first distinct = subst (λ l. HasNone l key) (filter-first pairs rank key first distinct) (filter_passes (λ pair. not (is_of key pair)) pairs)

pub HasNone-remove : (pairs : List Pair) (rank : ℕ) (key : List ℕ) → HasNone pairs key → HasNone (remove pairs rank) key
HasNone-remove pairs rank key none =
    All-append (IsOther key) (take rank pairs) (drop (suc rank) pairs) (All-take (IsOther key) rank pairs none) (All-drop (IsOther key) (suc rank) pairs none)

-- what is remembered where there is room, where a pair of the key is, and where there is no room
pub with_place-add : (pairs : List Pair) (key : List ℕ) (place : ℕ) → length pairs < 16 → HasNone pairs key → with_place pairs key place ≡ (key, place) ∷ pairs
with_place-add pairs key place room none = rw (filter-none pairs key none, take_all 15 pairs (omega (arith, room))) refl

pub with_place-renew : (pairs : List Pair) (rank : ℕ) (key : List ℕ) (place : ℕ) → length pairs ≤ 16 → HasFirstAt pairs rank key → AreDistinct pairs → with_place pairs key place ≡ (key, place) ∷ remove pairs rank
with_place-renew pairs rank key place few first distinct =
    rw (filter-first pairs rank key first distinct, take_all 15 (remove pairs rank) (omega (arith, few, first.within, length-remove pairs rank first.within))) refl

pub with_place-full : (pairs : List Pair) (key : List ℕ) (place : ℕ) → length pairs ≡ 16 → HasNone pairs key → with_place pairs key place ≡ (key, place) ∷ remove pairs 15
with_place-full pairs key place full none = rw (filter-none pairs key none, drop_all 16 pairs (omega (arith, full)), append-nil (take 15 pairs)) refl

AreDistinct-remove : (pairs : List Pair) (rank : ℕ) → AreDistinct pairs → AreDistinct (remove pairs rank)
AreDistinct-remove [] zero distinct = tt
AreDistinct-remove [] (suc rank) distinct = tt
AreDistinct-remove (pair ∷ pairs) zero distinct = distinct.1
AreDistinct-remove (pair ∷ pairs) (suc rank) distinct = (HasNone-remove pairs rank pair.0 distinct.0, AreDistinct-remove pairs rank distinct.1)

picked-remove : (pairs : List Pair) (order : List ℕ) (rank : ℕ) → picked pairs (remove order rank) ≡ remove (picked pairs order) rank
picked-remove pairs order rank =
    let at : ℕ → Pair = λ at. get_or pairs at ([], 0) in
    map-append at (take rank order) (drop (suc rank) order)
    ∙ (λ i. sym (take-map at rank order) i ++ sym (drop-map at (suc rank) order) i)

-- lists that have the same pairs at the places
picked-same : (pairs now : List Pair) (order : List ℕ) → All (λ at. get_or now at ([], 0) ≡ get_or pairs at ([], 0)) order → picked now order ≡ picked pairs order
picked-same pairs now [] same = refl
picked-same pairs now (at ∷ order) same =
    let here = All-head (λ place. get_or now place ([], 0) ≡ get_or pairs place ([], 0)) at order same in
    let rest = picked-same pairs now order (All-tail (λ place. get_or now place ([], 0) ≡ get_or pairs place ([], 0)) at order same) in
    λ i. here i ∷ rest i

-- none of the pairs picked is of the key of the pair at a place: none is the one at that place
elsewhere : (pairs : List Pair) (order : List ℕ) (at : ℕ) → HasNone (picked pairs order) (get_or pairs at ([], 0)).0 → All (λ other. other ≢ at) order
elsewhere pairs [] at none = λ k d within. absurd (omega (arith, within))
elsewhere pairs (other ∷ order) at none =
    let key = (get_or pairs at ([], 0)).0 in
    All-cons (λ o. o ≢ at) other order
    (λ same. both_ways (is_of key (get_or pairs other ([], 0)))
    (not-true _ (All-head (IsOther key) (get_or pairs other ([], 0)) (picked pairs order) none))
    ((bytes_eq-Decides (get_or pairs other ([], 0)).0 key).1 (ap (λ o. (get_or pairs o ([], 0)).0) same)))
    (elsewhere pairs order at (All-tail (IsOther key) (get_or pairs other ([], 0)) (picked pairs order) none))

-- the other places of the order are not that of this rank
others_elsewhere : (pairs : List Pair) (order : List ℕ) (rank : ℕ) → rank < length order → AreDistinct (picked pairs order) → All (λ other. other ≢ get_or order rank 0) (remove order rank)
others_elsewhere pairs [] rank within distinct = absurd (omega (arith, within))
others_elsewhere pairs (at ∷ order) zero within distinct = elsewhere pairs order at distinct.0
others_elsewhere pairs (at ∷ order) (suc rank) within distinct =
    let below : rank < length order = omega (arith, within) in
    let key = (get_or pairs at ([], 0)).0 in
    let that = get_or order rank 0 in
    let of_other : IsOther key (get_or pairs that ([], 0)) =
    subst (IsOther key) (get_or-map (λ place. get_or pairs place ([], 0)) order rank 0 ([], 0) below) (distinct.0 rank ([], 0) (omega (arith, below, length-map order (λ (place : ℕ). get_or pairs place ([], 0))))) in
    All-cons (λ other. other ≢ that) at (remove order rank)
    (λ same. both_ways (is_of key (get_or pairs that ([], 0)))
    (not-true _ of_other)
    ((bytes_eq-Decides (get_or pairs that ([], 0)).0 key).1 (ap (λ o. (get_or pairs o ([], 0)).0) (sym same))))
    (others_elsewhere pairs order rank below distinct.1)

-- a pair whose key has another hash is of another key
pub is_of-other_hash : (key : List ℕ) (pair : Pair) → fnv1a pair.0 ≢ fnv1a key → is_of key pair ≡ false
is_of-other_hash key pair apart = by (is_of key pair) refl
  where
    by : (same : Bool) → is_of key pair ≡ same → is_of key pair ≡ false
    by true is = absurd (apart (ap fnv1a ((bytes_eq-Decides pair.0 key).0 is)))
    by false is = is

-- the hash of a pair that is put behind the others, and of one that is put over another
pub hashes_of-add : (pairs : List (ArrayVec ℕ × ℕ)) (hashes : List ℕ) (pair : ArrayVec ℕ × ℕ) (hash : ℕ) → hashes ≡ hashes_of (pairs_of pairs) → hash ≡ fnv1a pair.0.items → hashes ++ hash ∷ [] ≡ hashes_of (pairs_of (pairs ++ pair ∷ []))
hashes_of-add pairs hashes pair hash held is =
    (λ i. held i ++ is i ∷ []) ∙ sym (map_push (λ (other : Pair). fnv1a other.0) (pairs_of pairs) (pair_of pair)) ∙ ap hashes_of (sym (map_push pair_of pairs pair))

pub hashes_of-renew : (pairs : List (ArrayVec ℕ × ℕ)) (hashes : List ℕ) (at : ℕ) (pair : ArrayVec ℕ × ℕ) (hash : ℕ) → hashes ≡ hashes_of (pairs_of pairs) → hash ≡ fnv1a pair.0.items → set hashes at hash ≡ hashes_of (pairs_of (set pairs at pair))
hashes_of-renew pairs hashes at pair hash held is =
    (λ i. set (held i) at (is i)) ∙ sym (map-set (λ (other : Pair). fnv1a other.0) (pairs_of pairs) at (pair_of pair)) ∙ ap hashes_of (sym (map-set pair_of pairs at pair))

-- the hash of the pair of a rank
pub get_or-hashes : (pairs : List (ArrayVec ℕ × ℕ)) (hashes order : List ℕ) (rank : ℕ) → IsHeld pairs hashes order → rank < length order → get_or hashes (get_or order rank 0) 0 ≡ fnv1a (get_or (pairs_in pairs order) rank ([], 0)).0
get_or-hashes pairs hashes order rank held within =
    let at = get_or order rank 0 in
    let inside : at < length (pairs_of pairs) = omega (arith, held.ordered.within rank 0 within, length-map pairs pair_of) in
    ap (λ l. get_or l at 0) held.hashed
    ∙ get_or-map (λ (other : Pair). fnv1a other.0) (pairs_of pairs) at ([], 0) 0 inside
    ∙ ap (λ (pair : Pair). fnv1a pair.0) (sym (get_or-map (λ place. get_or (pairs_of pairs) place ([], 0)) order rank 0 ([], 0) within))

-- the pair of a rank
pub get_or-pairs_in : (pairs : List (ArrayVec ℕ × ℕ)) (order : List ℕ) (rank : ℕ) (d : ArrayVec ℕ × ℕ) → IsOrder pairs order → rank < length order → get_or (pairs_in pairs order) rank ([], 0) ≡ pair_of (get_or pairs (get_or order rank 0) d)
get_or-pairs_in pairs order rank d held within =
    get_or-map (λ at. get_or (pairs_of pairs) at ([], 0)) order rank 0 ([], 0) within ∙ get_or-map pair_of pairs (get_or order rank 0) d ([], 0) (held.within rank 0 within)

-- as many pairs as are stored
pub length-pairs_in : (pairs : List (ArrayVec ℕ × ℕ)) (order : List ℕ) → IsOrder pairs order → length (pairs_in pairs order) ≡ length pairs
length-pairs_in pairs order held = length-map order (λ (at : ℕ). get_or (pairs_of pairs) at ([], 0)) ∙ held.each

pub length-value : (pairs : List (ArrayVec ℕ × ℕ)) (order : List ℕ) (value : List Pair) → IsOrder pairs order → pairs_in pairs order ≡ value → length value ≡ length pairs
length-value pairs order value held is = ap length (sym is) ∙ length-pairs_in pairs order held

-- a pair at the end of the storage, and its place at the front of the order
pub pairs_in-add : (pairs : List (ArrayVec ℕ × ℕ)) (order : List ℕ) (pair : ArrayVec ℕ × ℕ) → IsOrder pairs order → pairs_in (pairs ++ pair ∷ []) (length pairs ∷ order) ≡ pair_of pair ∷ pairs_in pairs order
pairs_in-add pairs order pair held =
    let long = length-map pairs pair_of in
    let here : get_or (pairs_of pairs ++ pair_of pair ∷ []) (length pairs) ([], 0) ≡ pair_of pair = get_or_push (pairs_of pairs) (pair_of pair) ([], 0) (length pairs) long in
    let rest = picked-same (pairs_of pairs) (pairs_of pairs ++ pair_of pair ∷ []) order
    (All-weaker (IsBelow (length pairs)) (λ at. get_or (pairs_of pairs ++ pair_of pair ∷ []) at ([], 0) ≡ get_or (pairs_of pairs) at ([], 0))
    (λ at within. get_or_append_left (pairs_of pairs) (pair_of pair ∷ []) ([], 0) at (omega (arith, long, within))) order held.within) in
    ap (λ l. picked l (length pairs ∷ order)) (map_push pair_of pairs pair) ∙ (λ i. here i ∷ rest i)

pub IsOrder-add : (pairs : List (ArrayVec ℕ × ℕ)) (order : List ℕ) (pair : ArrayVec ℕ × ℕ) → IsOrder pairs order → length pairs < 16 → HasNone (pairs_in pairs order) pair.0.items → IsOrder (pairs ++ pair ∷ []) (length pairs ∷ order)
IsOrder-add pairs order pair held room none =
    let longer = length_push pairs pair in
    record {
      within = All-cons (IsBelow (length (pairs ++ pair ∷ []))) (length pairs) order (omega (arith, longer))
          (All-weaker (IsBelow (length pairs)) (IsBelow (length (pairs ++ pair ∷ []))) (λ at within. omega (arith, longer, within)) order held.within);
      each = omega (arith, longer, held.each);
      few = omega (arith, longer, room);
      distinct = subst AreDistinct (sym (pairs_in-add pairs order pair held)) (none, held.distinct);
    }

-- a pair written over that of a rank, whose place comes to the front of the order
pub pairs_in-renew : (pairs : List (ArrayVec ℕ × ℕ)) (order : List ℕ) (rank : ℕ) (pair : ArrayVec ℕ × ℕ) → IsOrder pairs order → rank < length order
    → pairs_in (set pairs (get_or order rank 0) pair) (get_or order rank 0 ∷ remove order rank) ≡ pair_of pair ∷ remove (pairs_in pairs order) rank
pairs_in-renew pairs order rank pair held within =
    let at = get_or order rank 0 in
    let now = set (pairs_of pairs) at (pair_of pair) in
    let inside : at < length pairs = held.within rank 0 within in
    let here : get_or now at ([], 0) ≡ pair_of pair = get_or-set_same (pairs_of pairs) at (pair_of pair) ([], 0) (omega (arith, inside, length-map pairs pair_of)) in
    let rest = picked-same (pairs_of pairs) now (remove order rank)
    (All-weaker (λ other. other ≢ at) (λ other. get_or now other ([], 0) ≡ get_or (pairs_of pairs) other ([], 0))
    (λ other apart. get_or-set_other (pairs_of pairs) at other (pair_of pair) ([], 0) apart) (remove order rank) (others_elsewhere (pairs_of pairs) order rank within held.distinct))
    ∙ picked-remove (pairs_of pairs) order rank in
    ap (λ l. picked l (at ∷ remove order rank)) (map-set pair_of pairs at pair) ∙ (λ i. here i ∷ rest i)

pub IsOrder-renew : (pairs : List (ArrayVec ℕ × ℕ)) (order : List ℕ) (rank : ℕ) (pair : ArrayVec ℕ × ℕ) → IsOrder pairs order → rank < length order
    → HasNone (remove (pairs_in pairs order) rank) pair.0.items → IsOrder (set pairs (get_or order rank 0) pair) (get_or order rank 0 ∷ remove order rank)
IsOrder-renew pairs order rank pair held within none =
    let at = get_or order rank 0 in
    let same = length-set pairs at pair in
    let still : All (IsBelow (length (set pairs at pair))) order = All-weaker (IsBelow (length pairs)) (IsBelow (length (set pairs at pair))) (λ place inside. omega (arith, same, inside)) order held.within in
    record {
      within = All-cons (IsBelow (length (set pairs at pair))) at (remove order rank) (still rank 0 within)
          (All-append (IsBelow (length (set pairs at pair))) (take rank order) (drop (suc rank) order) (All-take (IsBelow (length (set pairs at pair))) rank order still) (All-drop (IsBelow (length (set pairs at pair))) (suc rank) order still));
      each = omega (arith, same, held.each, length-remove order rank within);
      few = omega (arith, same, held.few);
      distinct = subst AreDistinct (sym (pairs_in-renew pairs order rank pair held within)) (none, AreDistinct-remove (pairs_in pairs order) rank held.distinct);
    }
