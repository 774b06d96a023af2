-- The map that a tree of borrowed keys and values holds.
use Rattle.std.specs.Prelude.{ℕ, List, option_map}
use Rattle.std.specs.Borrow.{Bor}
use Rattle.std.specs.BTreeMap.{BTreeMap, get_by}
use Rattle.std.specs.Cmp.Lexicographic.{slice_cmp}
use Rattle.std.specs.Ordering.{nat_cmp}
use Rattle.map_model.specs.declared.held_map.HeldMap.{HeldMap}
use Rattle.map_model.specs.Map.{Map}

-- what is held at the keys with these bytes
abbrev pub map_held : BTreeMap (Bor (List ℕ)) (Bor (List ℕ)) → Map
map_held held = λ key. option_map (λ value. value.now) (get_by (λ other. slice_cmp nat_cmp key other.now) held)

-- the map that a value of the type holds
abbrev pub map_of : HeldMap → Map
map_of held = map_held held.values
