-- The places of nodes that have as many words as one another.
use Rattle.std.proofs.Common.{◌≡◌, ℕ, ◌<◌, List, [], length, map, replicate, get_or, ap, sym, ◌∙◌, arith}
use Rattle.std.proofs.lemmas.List.{get_or-map, get_or-replicate, length-map, length-replicate}
use Rattle.verb_words.specs.declared.verbs.Place.{Place}
use Rattle.verb_words.specs.Words.{HasPlace}

pub square_has_place : (words : List (List ℕ)) (place : Place) (nodes size : ℕ) → map length words ≡ replicate nodes size → place.node < nodes → place.at < size → HasPlace words place
square_has_place words place nodes size square on below =
    let few = ap length square in
    let long : place.node < length words = omega (arith, length-map words length, length-replicate nodes size) in
    let here = sym (get_or-map length words place.node [] 0 long) ∙ ap (λ l. get_or l place.node 0) square ∙ get_or-replicate nodes place.node size 0 on in
    record { node = long; at = omega arith }
