-- What an insertion into the tree and a removal from it make of the map that it holds.
use Rattle.std.proofs.Common.{◌≡◌, ℕ, Bool, true, false, List, Option, Some, None, Bor, refl, ◌∙◌, ap, ap₂, cond, not, is_none, is_some, nat_cmp, bytes_eq}
use Rattle.std.specs.Cmp.Lexicographic.{slice_cmp}
use Rattle.std.specs.Option.{option_map, option_copied}
use Rattle.std.specs.BTreeMap.{BTreeMap, UpdatesBy, get_by}
use Rattle.std.proofs.lemmas.Map.Text.{btree_map_updates_str}
use Rattle.map_model.specs.Held.{map_held}
use Rattle.map_model.specs.Map.{with_key, without_key}

abbrev Held : Type 0
Held = BTreeMap (Bor (List ℕ)) (Bor (List ℕ))

now-cond : (test : Bool) (w found : Option (Bor (List ℕ))) → option_map (λ (v : Bor (List ℕ)). v.now) (cond test w found) ≡ cond test (option_map (λ (v : Bor (List ℕ)). v.now) w) (option_map (λ (v : Bor (List ℕ)). v.now) found)
now-cond true w found = refl
now-cond false w found = refl

changed : (bytes : List ℕ) (m n : Held) (w : Option (Bor (List ℕ))) → UpdatesBy (λ x y. slice_cmp nat_cmp x.now y.now) (λ k. slice_cmp nat_cmp bytes k.now) m n w → (other : List ℕ) → map_held n other ≡ cond (bytes_eq bytes other) (option_map (λ (v : Bor (List ℕ)). v.now) w) (map_held m other)
changed bytes m n w updates other = ap (option_map (λ (v : Bor (List ℕ)). v.now)) (btree_map_updates_str bytes m n w updates other) ∙ now-cond (bytes_eq bytes other) w _

-- an insertion puts the value at the key
pub map_held-insert : (key value : Bor (List ℕ)) (m n : Held) (bytes value' : List ℕ) → UpdatesBy (λ x y. slice_cmp nat_cmp x.now y.now) (λ k. slice_cmp nat_cmp key.now k.now) m n (Some value) → key.now ≡ bytes → value.now ≡ value' → map_held n ≡ with_key (map_held m) bytes value'
map_held-insert key value m n bytes value' updates at is = (λ i other. changed key.now m n (Some value) updates other i) ∙ ap₂ (with_key (map_held m)) at is

-- a removal leaves nothing at the key
pub map_held-remove : (key : Bor (List ℕ)) (m n : Held) (bytes : List ℕ) → UpdatesBy (λ x y. slice_cmp nat_cmp x.now y.now) (λ k. slice_cmp nat_cmp key.now k.now) m n None → key.now ≡ bytes → map_held n ≡ without_key (map_held m) bytes
map_held-remove key m n bytes updates at = (λ i other. changed key.now m n None updates other i) ∙ ap (without_key (map_held m)) at

absent : (found : Option (Bor (Bor (List ℕ)))) (none : Bool) → is_some found ≡ not none → none ≡ is_none (option_map (λ (v : Bor (List ℕ)). v.now) (option_copied found))
absent None true h = refl
absent None false h = cc
absent (Some there) true h = cc
absent (Some there) false h = refl

-- a look-up finds nothing where the map has nothing
pub is_none-get : (found : Option (Bor (Bor (List ℕ)))) (none : Bool) (m : Held) (bytes key : List ℕ) → is_some found ≡ not none → option_copied found ≡ get_by (λ k. slice_cmp nat_cmp bytes k.now) m → bytes ≡ key → none ≡ is_none (map_held m key)
is_none-get found none m bytes key is value at = absent found none is ∙ ap (λ o. is_none (option_map (λ (v : Bor (List ℕ)). v.now) o)) value ∙ ap (λ b. is_none (map_held m b)) at
