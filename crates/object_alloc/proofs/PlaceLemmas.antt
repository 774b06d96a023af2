-- The places of a block's words.
use Rattle.std.proofs.Common.{◌≡◌, ℕ, suc, ◌+◌, ◌<◌, ◌≤◌, Bool, true, false, List, [], ◌∷◌, ◌++◌, length, map, get_or, refl, sym, ap, ◌∙◌, arith, if◌then◌else◌}
use Rattle.std.specs.Prelude.{nat_lt}
use Rattle.std.proofs.lemmas.Bool.Decides.{nat_tests}
use Rattle.std.proofs.lemmas.List.{get_or_append_left, get_or-map, length-map}
use Rattle.std.proofs.Math.Seq.{get_or-append_seam}
use Rattle.machine.specs.Places.{Home, homes_of, pair_of, place_at, place_of_home, primary_last, replica_count, written_place}
use Rattle.machine.proofs.PlacePairLemmas.{homes_of-places, replicas_of-few}
use Rattle.machine.proofs.PlacesLemmas.{replica_count-is, replica_count-some}
use Rattle.machine.proofs.ViewLemmas.{IsView-of}
use Rattle.object_alloc.specs.Parts.{word_of, written_replica}
use Rattle.object_alloc.specs.declared.places.Part.{Part}
use Rattle.object_alloc.specs.declared.places.Part.TheVariants as part
use Rattle.region_view.specs.Layout.{NodeWord, Slot, region_of_word}
use Rattle.region_view.specs.Placed.{LeavesNoneBare, Viewed}
use Rattle.region_view.specs.Places.{word_places_of}
use Rattle.region_view.specs.Sizes.{IsWithinLimits, Sizes}

pub owner_pairs : (view : Viewed) (region block : ℕ) → word_places_of view region block ≡ map (pair_of view.shape) (homes_of view (word_of part.Owner region block))
owner_pairs view region block = sym (homes_of-places view (word_of part.Owner region block))

pub bitmap_pairs : (view : Viewed) (region block : ℕ) → word_places_of view region (64 + block) ≡ map (pair_of view.shape) (homes_of view (word_of part.Bitmap region block))
bitmap_pairs view region block = sym (homes_of-places view (word_of part.Bitmap region block))

-- a place of a word, read from the pairs
pub pair-place : (sizes : Sizes) (homes : List Home) (i : ℕ) (pairs : List (ℕ × ℕ)) → pairs ≡ map (pair_of sizes) homes → i < length homes
    → record { node = (get_or pairs i (0, 0)).0; at = (get_or pairs i (0, 0)).1 } ≡ place_at sizes homes i
pair-place sizes homes i pairs are below =
    let one : get_or pairs i (0, 0) ≡ pair_of sizes (get_or homes i (0, Slot 0)) = ap (λ l. get_or l i (0, 0)) are ∙ get_or-map (pair_of sizes) homes i (0, Slot 0) (0, 0) below in
    ap (λ (pair : ℕ × ℕ). record { node = pair.0; at = pair.1 }) one

pub replica_count_few : (view : Viewed) (word : NodeWord) → IsWithinLimits view.shape → replica_count view word ≤ 5
replica_count_few view word limits = let few = replicas_of-few view (region_of_word word) limits in omega (arith, replica_count-is view word)

-- the i-th place at which a word is written is the place of a replica
written_home : (homes : List Home) (i : ℕ) (d : Home) → i < length homes → get_or homes (written_replica i (length homes)) d ≡ get_or (primary_last homes) i d
written_home [] i d below = absurd (omega arith)
written_home (primary ∷ backups) i d below = by (nat_lt (i + 1) (length (primary ∷ backups))) refl
  where
    by : (t : Bool) → nat_lt (i + 1) (length (primary ∷ backups)) ≡ t → get_or (primary ∷ backups) (if t then i + 1 else 0) d ≡ get_or (backups ++ primary ∷ []) i d
    by true more = let under : i < length backups = grind (arith, nat_tests) in
        let more_by_one : i + 1 ≡ suc i = omega arith in
        ap (λ n. get_or (primary ∷ backups) n d) more_by_one ∙ sym (get_or_append_left backups (primary ∷ []) d i under)
    by false last =
        let same : i ≡ length backups = grind (arith, nat_tests) in
        sym (rw same (get_or-append_seam backups primary [] d))

pub pair_written : (view : Viewed) (word : NodeWord) (i replica : ℕ) (pairs : List (ℕ × ℕ)) → pairs ≡ map (pair_of view.shape) (homes_of view word) → i < replica_count view word
    → replica ≡ written_replica i (length pairs)
    → record { node = (get_or pairs replica (0, 0)).0; at = (get_or pairs replica (0, 0)).1 } ≡ written_place view word i
pair_written view word i replica pairs are below is =
    let long : length pairs ≡ length (homes_of view word) = ap length are ∙ length-map (homes_of view word) (pair_of view.shape) in
    let here : replica ≡ written_replica i (length (homes_of view word)) = is ∙ ap (written_replica i) long in
    let under : replica < length (homes_of view word) = grind (arith, nat_tests) in
    pair-place view.shape (homes_of view word) replica pairs are under
    ∙ ap (place_of_home view.shape) (ap (λ r. get_or (homes_of view word) r (0, Slot 0)) here ∙ written_home (homes_of view word) i (0, Slot 0) below)

-- under a view each word of a block has a replica
pub some_replica : (view : Viewed) (part : Part) (region block : ℕ) → IsWithinLimits view.shape → LeavesNoneBare view.shape view.mask → region ≤ view.shape.regions → 0 < replica_count view (word_of part region block)
some_replica view part.Owner region block limits full within = replica_count-some view (word_of part.Owner region block) (IsView-of view limits full) within
some_replica view part.Bitmap region block limits full within = replica_count-some view (word_of part.Bitmap region block) (IsView-of view limits full) within
