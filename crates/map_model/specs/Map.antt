-- A map as an object that takes one call at a time: the map after each call, and the replies that it may give.
use Rattle.std.specs.Prelude.{ℕ, Bool, true, false, ◌&&◌, List, [], ◌∷◌, Option, Some, None, is_none, bytes_eq, if◌then◌else◌}
use Rattle.std.specs.Option.{option_map_or}
use Rattle.map_model.specs.declared.calls.Call.{Call}
use Rattle.map_model.specs.declared.calls.Call.TheVariants.{Get, Put, Delete}
use Rattle.map_model.specs.declared.calls.Reply.{Reply}
use Rattle.map_model.specs.declared.calls.Reply.TheVariants.{Done, Value, Absent, Full, NoSpace}
use Rattle.map_model.specs.declared.entries.Entry.{Entry}

-- what a map has at each key
abbrev pub Map : Type 0
Map = List ℕ → Option (List ℕ)

abbrev pub empty_map : Map
empty_map key = None

-- the map with this value at the key
abbrev pub with_key : Map → List ℕ → List ℕ → Map
with_key map key value = λ other. if bytes_eq key other then Some value else map other

-- the map with nothing at the key
abbrev pub without_key : Map → List ℕ → Map
without_key map key = λ other. if bytes_eq key other then None else map other

-- the map after the call with this reply: a put or a delete that is done took effect, and else nothing changes
abbrev pub after : Map → Call → Reply → Map
after map (Put key value) Done = with_key map key value
after map (Delete key) Done = without_key map key
after map call reply = map

-- whether the map has this value at the key
abbrev pub has_value : Map → List ℕ → List ℕ → Bool
has_value map key value = option_map_or (λ there. bytes_eq there value) (map key) false

-- whether the reply is the map's reply to the call: a get tells what is there, a put is done or finds no room or no
-- memory, and a delete is done or finds no memory
abbrev pub may_reply : Map → Call → Reply → Bool
may_reply map (Get key) (Value value) = has_value map key value
may_reply map (Get key) Absent = is_none (map key)
may_reply map (Put key value) Done = true
may_reply map (Put key value) Full = true
may_reply map (Put key value) (NoSpace class client begin) = true
may_reply map (Delete key) Done = true
may_reply map (Delete key) (NoSpace class client begin) = true
may_reply map call reply = false

-- the reply of a map that never wants room
abbrev pub reply_of : Map → Call → Reply
reply_of map (Get key) = option_map_or Value (map key) Absent
reply_of map (Put key value) = Done
reply_of map (Delete key) = Done

-- whether each entry, from the first to the last, has a reply of the map that the entries before it left
abbrev pub is_legal_from : Map → List Entry → Bool
is_legal_from map [] = true
is_legal_from map (e ∷ es) = may_reply map e.call e.reply && is_legal_from (after map e.call e.reply) es

-- the same of a map that starts empty
abbrev pub is_legal : List Entry → Bool
is_legal entries = is_legal_from empty_map entries

-- the map after the entries
abbrev pub map_after : Map → List Entry → Map
map_after map [] = map
map_after map (e ∷ es) = map_after (after map e.call e.reply) es
