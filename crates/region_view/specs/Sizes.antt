-- The sizes of a pool and their limits.
use Rattle.std.specs.Prelude.{ℕ, ◌+◌, ◌*◌, ◌≤◌, Bool, ◌&&◌, nat_le, if◌then◌else◌, Result, Ok, Err}
use Rattle.region_view.specs.declared.shapes.Field.TheVariants as field
use Rattle.region_view.specs.declared.shapes.BadShape.{BadShape}

-- how many memory nodes, replicas of a region, data regions, blocks of a data region, bucket groups, clients, and calls of a client
pub record Sizes : Type 0 where
  pub nodes : ℕ
  pub replicas : ℕ
  pub regions : ℕ
  pub blocks : ℕ
  pub groups : ℕ
  pub clients : ℕ
  pub calls : ℕ

pub record IsWithinLimits (sizes : Sizes) : Type 0 where
  pub nodes : (1 ≤ sizes.nodes) × (sizes.nodes ≤ 8)
  pub replicas : (1 ≤ sizes.replicas) × (sizes.replicas ≤ 5)
  pub placed : sizes.replicas ≤ sizes.nodes
  pub regions : (1 ≤ sizes.regions) × (sizes.regions ≤ 63)
  pub blocks : (1 ≤ sizes.blocks) × (sizes.blocks ≤ 64)
  pub groups : (1 ≤ sizes.groups) × (sizes.groups ≤ 256)
  pub clients : (1 ≤ sizes.clients) × (sizes.clients ≤ 64)
  pub calls : (1 ≤ sizes.calls) × (sizes.calls ≤ 16777215)

-- whether a size is 1 to this limit
abbrev pub is_size : ℕ → ℕ → Bool
is_size limit size = nat_le 1 size && nat_le size limit

-- the sizes, or the first of them that is out of its limits
abbrev pub checked : Sizes → Result Sizes BadShape
checked sizes =
    if is_size 8 sizes.nodes then
    (if is_size 5 sizes.replicas && nat_le sizes.replicas sizes.nodes then
    (if is_size 63 sizes.regions then
    (if is_size 64 sizes.blocks then
    (if is_size 256 sizes.groups then
    (if is_size 64 sizes.clients then
    (if is_size 16777215 sizes.calls then Ok sizes
    else Err (record { field = field.Calls }))
    else Err (record { field = field.Clients }))
    else Err (record { field = field.Groups }))
    else Err (record { field = field.Blocks }))
    else Err (record { field = field.Regions }))
    else Err (record { field = field.Replicas }))
    else Err (record { field = field.Nodes })

-- how many words a data region has: 128 of its blocks, and 512 in the units of each block
abbrev pub region_words : Sizes → ℕ
region_words sizes = 128 + 512 * sizes.blocks

-- how many words a memory node has: a slot and a shadow for each of 24 slots of a group, and the data regions
abbrev pub node_words : Sizes → ℕ
node_words sizes = 48 * sizes.groups + sizes.regions * region_words sizes

-- how many words all nodes have, the control node's 1,040 included
abbrev pub all_words : Sizes → ℕ
all_words sizes = 1040 + sizes.nodes * node_words sizes
