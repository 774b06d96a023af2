-- Which entries leave a value at their key: each is looked at after those that come after it.
use Rattle.std.specs.Prelude.{ℕ, ◌+◌, Bool, true, false, ◌&&◌, if◌then◌else◌, List, [], ◌∷◌, is_none}
use Rattle.machine_world.specs.Calls.{key_of}
use Rattle.map_model.specs.Map.{Map, empty_map, with_key}
use Rattle.map_model.specs.declared.calls.Call.{Call}
use Rattle.map_model.specs.declared.calls.Call.TheVariants.{Put, Delete}
use Rattle.map_model.specs.declared.calls.Reply.{Reply}
use Rattle.map_model.specs.declared.calls.Reply.TheVariants.{Done}
use Rattle.map_model.specs.declared.entries.Entry.{Entry}

-- a put that took effect
abbrev pub is_put : Call → Reply → Bool
is_put (Put key value) Done = true
is_put call reply = false

-- the keys of a map, and that of a put or a delete that took effect
abbrev pub with_decided : Call → Reply → Map → Map
with_decided (Put key value) Done decided = with_key decided key value
with_decided (Delete key) Done decided = with_key decided key key
with_decided call reply decided = decided

-- a map with something at the key of each put and delete that took effect
abbrev pub decided_by : List Entry → Map
decided_by [] = empty_map
decided_by (entry ∷ entries) = with_decided entry.call entry.reply (decided_by entries)

-- a put that took effect, and of whose key nothing was decided later
abbrev pub leaves_value : Map → Call → Reply → Bool
leaves_value decided call reply = is_put call reply && is_none (decided (key_of call))

-- how many entries leave a value at their key
abbrev pub values_left : List Entry → ℕ
values_left [] = 0
values_left (entry ∷ entries) = (if leaves_value (decided_by entries) entry.call entry.reply then 1 else 0) + values_left entries
