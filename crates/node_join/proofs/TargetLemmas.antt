-- The places of a word that is copied.
use Rattle.std.proofs.Common.{◌≡◌, ℕ, ◌+◌, ◌<◌, ◌≤◌, List, length, ap, arith}
use Rattle.std.proofs.lemmas.List.{length-map}
use Rattle.machine.proofs.PlacesLemmas.{replicas_of-some}
use Rattle.machine.specs.EpochRead.{IsView}
use Rattle.region_view.specs.Placed.{Viewed, region_start, replicas_of}
use Rattle.region_view.specs.Places.{word_places_of}

-- a word has a place
pub places-some : (view : Viewed) (region offset : ℕ) (items : List (ℕ × ℕ)) → IsView view → region ≤ view.shape.regions → items ≡ word_places_of view region offset → 0 < length items
places-some view region offset items is within are =
    let at : ℕ = region_start view.shape region + offset in
    omega (arith, ap length are, length-map {B = ℕ × ℕ} (replicas_of view region) (λ node. (node, at)), replicas_of-some view region is within)
