-- The places of an object's words on its replicas.
use Rattle.std.proofs.Common.{◌≡◌, ℕ, suc, ◌+◌, ◌*◌, ◌^◌, ◌<◌, ◌≤◌, Bool, true, false, List, [], ◌∷◌, ◌++◌, length, map, get_or, refl, sym, ap, subst, ◌∙◌, arith, if◌then◌else◌}
use Rattle.std.specs.Prelude.{nat_lt}
use Rattle.std.proofs.Math.ListN.{get_or-append}
use Rattle.std.proofs.Math.Seq.{get_or-append_seam}
use Rattle.std.proofs.lemmas.Bool.Decides.{nat_tests}
use Rattle.std.proofs.lemmas.Nat.{mul-le}
use Rattle.std.proofs.lemmas.List.{get_or-map, length-map}
use Rattle.kv_write.specs.Courses.{Course, IsCourse, course_of, written_as}
use Rattle.machine.specs.EpochRead.{IsView}
use Rattle.machine.specs.Places.{Home, IsInPool, homes_of, object_word, pair_of, place_of_home, primary_last, replica_count, written_place}
use Rattle.machine.proofs.PlacePairLemmas.{homes_of-places, replicas_of-few}
use Rattle.machine.proofs.PlacesLemmas.{replica_count-is, replica_count-same, replica_count-some, written_place-inside}
use Rattle.pointer_fields.specs.Pointer.{region_of, unit_of}
use Rattle.region_view.proofs.LayoutLemmas.{position_of-inside}
use Rattle.region_view.specs.Layout.{HasWord, NodeWord, Slot, offset_of, position_of}
use Rattle.region_view.specs.Placed.{Viewed, replicas_of}
use Rattle.region_view.specs.Places.{word_places_of}
use Rattle.region_view.specs.Sizes.{IsWithinLimits, Sizes, node_words}

-- ---- in which turn a replica is written

primary_last-at : (homes : List Home) (turn : ℕ) → turn < length homes → get_or (primary_last homes) turn (0, Slot 0) ≡ get_or homes (written_as turn (length homes)) (0, Slot 0)
primary_last-at [] turn within = absurd (omega arith)
primary_last-at (primary ∷ backups) turn within = by (nat_lt (turn + 1) (length (primary ∷ backups))) refl
  where
    by : (t : Bool) → nat_lt (turn + 1) (length (primary ∷ backups)) ≡ t → get_or (backups ++ primary ∷ []) turn (0, Slot 0) ≡ get_or (primary ∷ backups) (if t then turn + 1 else 0) (0, Slot 0)
    by true is =
        let under : turn < length backups = grind (arith, nat_tests) in
        let next : turn + 1 ≡ suc turn = omega arith in
        get_or-append backups (primary ∷ []) (0, Slot 0) turn under ∙ sym (ap (λ n. get_or (primary ∷ backups) n (0, Slot 0)) next)
    by false is =
        let last : turn ≡ length backups = grind (arith, nat_tests) in
        ap (λ n. get_or (backups ++ primary ∷ []) n (0, Slot 0)) last ∙ get_or-append_seam backups primary [] (0, Slot 0)

written_as-below : (turn count : ℕ) → turn < count → written_as turn count < count
written_as-below turn count within = by (nat_lt (turn + 1) count) refl
  where
    by : (t : Bool) → nat_lt (turn + 1) count ≡ t → (if t then turn + 1 else 0) < count
    by true is = grind (arith, nat_tests)
    by false is = omega arith

-- ---- the places at hand

-- the node of a replica, with the word there
home-at : (view : Viewed) (word : NodeWord) (pointer j : ℕ) → j < length (replicas_of view (region_of pointer)) → (i : ℕ) → word ≡ object_word pointer i
    → get_or (homes_of view word) j (0, Slot 0) ≡ (get_or (replicas_of view (region_of pointer)) j 0, word)
home-at view word pointer j within i is = rw is (get_or-map (λ node. (node, object_word pointer i)) (replicas_of view (region_of pointer)) j 0 (0, Slot 0) within)

-- the object's word on the replica that is written in turn
written_place-at : (view : Viewed) (pointer word turn : ℕ) → turn < replica_count view (object_word pointer 0)
    → written_place view (object_word pointer word) turn
    ≡ place_of_home view.shape (get_or (replicas_of view (region_of pointer)) (written_as turn (replica_count view (object_word pointer 0))) 0, object_word pointer word)
written_place-at view pointer word turn within =
    let nodes : List ℕ = replicas_of view (region_of pointer) in
    let one : replica_count view (object_word pointer word) ≡ length nodes = replica_count-is view (object_word pointer word) in
    let first : replica_count view (object_word pointer 0) ≡ length nodes = replica_count-is view (object_word pointer 0) in
    let same : replica_count view (object_word pointer word) ≡ replica_count view (object_word pointer 0) = one ∙ sym first in
    let at = primary_last-at (homes_of view (object_word pointer word)) turn (omega arith) in
    let below = written_as-below turn (replica_count view (object_word pointer 0)) within in
    let here = home-at view (object_word pointer word) pointer (written_as turn (replica_count view (object_word pointer 0))) (omega arith) word refl in
    let there : get_or (primary_last (homes_of view (object_word pointer word))) turn (0, Slot 0) ≡ (get_or nodes (written_as turn (replica_count view (object_word pointer 0))) 0, object_word pointer word)
    = at ∙ ap (λ n. get_or (homes_of view (object_word pointer word)) (written_as turn n) (0, Slot 0)) same ∙ here in
    ap (place_of_home view.shape) there

-- a place at hand is that of the object's first word
first_place-at : (course : Course) (places : List (ℕ × ℕ)) (j : ℕ) → IsCourse course places → j < length places
    → get_or places j (0, 0) ≡ (get_or (replicas_of course.view (region_of course.pointer)) j 0, position_of course.view.shape (object_word course.pointer 0))
first_place-at course places j is within =
    let first = object_word course.pointer 0 in
    let long : j < length (replicas_of course.view (region_of course.pointer)) = omega (arith, replica_count-is course.view first, is.long) in
    ap (λ l. get_or l j (0, 0)) is.places_are
    ∙ get_or-map (pair_of course.view.shape) (homes_of course.view first) j (0, Slot 0) (0, 0) (omega (arith, is.long))
    ∙ ap (pair_of course.view.shape) (home-at course.view first course.pointer j long 0 refl)

-- a word of the object lies so far behind the first
position_of-word : (sizes : Sizes) (pointer word : ℕ) → position_of sizes (object_word pointer word) ≡ position_of sizes (object_word pointer 0) + word
position_of-word sizes pointer word = omega arith

pub low_place : (course : Course) (places items : List (ℕ × ℕ)) (j : ℕ) → IsCourse course places → items ≡ places → j ≡ written_as course.replica (length places) → (get_or items j (0, 0)).1 < 2 ^ 22
low_place course places items j is same turn =
    let below : j < length places = omega (arith, turn, written_as-below course.replica (length places) is.replica) in
    let at : (get_or items j (0, 0)).1 ≡ position_of course.view.shape (object_word course.pointer 0) = ap (λ (p : ℕ × ℕ). p.1) (ap (λ l. get_or l j (0, 0)) same ∙ first_place-at course places j is below) in
    let low = is.low in
    omega arith

pub held_place : (course now : Course) (places items : List (ℕ × ℕ)) (word j : ℕ) → IsCourse course places → course ≡ now → items ≡ places → j ≡ written_as course.replica (length places)
    → record { node = (get_or items j (0, 0)).0; at = (get_or items j (0, 0)).1 + word } ≡ written_place now.view (object_word now.pointer word) now.replica
held_place course now places items word j is held same turn =
    let sizes = course.view.shape in
    let nodes : List ℕ = replicas_of course.view (region_of course.pointer) in
    let count = replica_count course.view (object_word course.pointer 0) in
    let first_at = position_of sizes (object_word course.pointer 0) in
    let below : j < length places = omega (arith, turn, written_as-below course.replica (length places) is.replica) in
    let within : course.replica < count = omega (arith, is.replica, is.long) in
    let which : get_or nodes j 0 ≡ get_or nodes (written_as course.replica count) 0 = ap (λ n. get_or nodes n 0) (turn ∙ ap (written_as course.replica) is.long) in
    let at_hand : record { node = (get_or items j (0, 0)).0; at = (get_or items j (0, 0)).1 + word } ≡ record { node = get_or nodes j 0; at = first_at + word } = ap (λ (p : ℕ × ℕ). record { node = p.0; at = p.1 + word }) (ap (λ l. get_or l j (0, 0)) same ∙ first_place-at course places j is below) in
    let node : record { node = get_or nodes j 0; at = first_at + word } ≡ record { node = get_or nodes (written_as course.replica count) 0; at = first_at + word } = ap (λ (n : ℕ). record { node = n; at = first_at + word }) which in
    let at : record { node = get_or nodes (written_as course.replica count) 0; at = first_at + word } ≡ record { node = get_or nodes (written_as course.replica count) 0; at = position_of sizes (object_word course.pointer word) } = ap (λ (a : ℕ). record { node = get_or nodes (written_as course.replica count) 0; at = a }) (sym (position_of-word sizes course.pointer word)) in
    at_hand ∙ node ∙ at
    ∙ sym (written_place-at course.view course.pointer word course.replica within)
    ∙ ap (λ (c : Course). written_place c.view (object_word c.pointer word) c.replica) held

-- so it is in the pool
pub held_place-inside : (course now : Course) (places items : List (ℕ × ℕ)) (word j : ℕ) → IsCourse course places → course ≡ now → items ≡ places → j ≡ written_as course.replica (length places)
    → HasWord now.view.shape (object_word now.pointer word)
    → IsInPool now.view.shape (record { node = (get_or items j (0, 0)).0; at = (get_or items j (0, 0)).1 + word })
held_place-inside course now places items word j is held same turn has =
    let here : IsCourse now places = subst (λ (c : Course). IsCourse c places) held is in
    let as_many = replica_count-same now.view (object_word now.pointer word) (object_word now.pointer 0) refl in
    subst (IsInPool now.view.shape) (sym (held_place course now places items word j is held same turn))
    (written_place-inside now.view (object_word now.pointer word) now.replica here.is_view has (omega (arith, here.replica, here.long)))

-- ---- a course begins

node_words-low : (sizes : Sizes) → IsWithinLimits sizes → node_words sizes < 2 ^ 22
node_words-low sizes limits =
    let regions = limits.regions.1 in
    let groups = limits.groups.1 in
    let blocks = limits.blocks.1 in
    let most : sizes.regions * (128 + 512 * sizes.blocks) ≤ 63 * 32896 = mul-le sizes.regions (128 + 512 * sizes.blocks) 63 32896 regions (omega arith) in
    omega arith

pub begun : (view : Viewed) (pointer : ℕ) (places : List (ℕ × ℕ)) → IsView view → HasWord view.shape (object_word pointer 0) → places ≡ word_places_of view (region_of pointer) (8 * unit_of pointer)
    → IsCourse (course_of view pointer) places
begun view pointer places is has are =
    let word = object_word pointer 0 in
    let offset : 8 * unit_of pointer ≡ offset_of view.shape word = omega arith in
    let same : places ≡ map (pair_of view.shape) (homes_of view word) = are ∙ ap (word_places_of view (region_of pointer)) offset ∙ sym (homes_of-places view word) in
    let long : length places ≡ replica_count view word = ap length same ∙ length-map (homes_of view word) (pair_of view.shape) in
    record {
      is_view = is;
      places_are = same;
      long = long;
      few = omega (arith, long, replica_count-is view word, replicas_of-few view (region_of pointer) is.limits);
      low = omega (arith, position_of-inside view.shape word is.limits has, node_words-low view.shape is.limits);
      replica = omega (arith, long, replica_count-some view word is has.1);
    }
