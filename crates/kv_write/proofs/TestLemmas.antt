-- The places of nodes that have as many words as one another, and the first object of a pool.
use Rattle.std.proofs.Common.{◌≡◌, ℕ, ◌<◌, true, List, [], length, map, replicate, get_or, refl, ap, sym, ◌∙◌, arith}
use Rattle.std.proofs.lemmas.List.{get_or-map, get_or-replicate, length-map, length-replicate}
use Rattle.kv_write.specs.Writes.{IsObjectPointer}
use Rattle.machine.specs.ObjectNames.{names_object}
use Rattle.machine.proofs.ObjectNamesLemmas.{names_object-if}
use Rattle.object_form.specs.Class.{class_in}
use Rattle.region_view.specs.Sizes.{Sizes}
use Rattle.verb_words.specs.declared.verbs.Place.{Place}
use Rattle.verb_words.specs.Words.{HasPlace}

pub square_has_place : (words : List (List ℕ)) (place : Place) (nodes size : ℕ) → map length words ≡ replicate nodes size → place.node < nodes → place.at < size → HasPlace words place
square_has_place words place nodes size square on below =
    let few = ap length square in
    let long : place.node < length words = omega (arith, length-map words length, length-replicate nodes size) in
    let here = sym (get_or-map length words place.node [] 0 long) ∙ ap (λ l. get_or l place.node 0) square ∙ get_or-replicate nodes place.node size 0 on in
    record { node = long; at = omega arith }

first_named : (sizes : Sizes) → sizes.regions ≡ 1 → sizes.blocks ≡ 1 → names_object sizes 0 0x100010 ≡ true
first_named sizes regions blocks =
    names_object-if sizes 0 0x100010 (record { below = omega arith; region = (omega arith, omega arith); first = omega arith; last = omega arith; whole = refl })

pub first_object : (sizes : Sizes) → sizes.regions ≡ 1 → sizes.blocks ≡ 1 → IsObjectPointer sizes 0x100010
first_object sizes regions blocks = (0, record { class = omega arith; named = first_named sizes regions blocks })

-- it has room for a key of 9 bytes and a value of 3
pub first_takes : (sizes : Sizes) → sizes.regions ≡ 1 → sizes.blocks ≡ 1 → names_object sizes (class_in 9 3) 0x100010 ≡ true
unfolding class_in
first_takes sizes regions blocks = first_named sizes regions blocks
