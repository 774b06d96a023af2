-- Where regions are placed, and which of their replicas a mask leaves.
use Rattle.std.specs.Prelude.{◌≡◌, ℕ, ◌+◌, ◌-◌, ◌*◌, ◌/◌, ◌%◌, ◌^◌, ◌<◌, ◌≤◌, Bool, true, false, ◌==◌, if◌then◌else◌, List, map, filter}
use Rattle.std.specs.List.{range_with_len}
use Rattle.region_view.specs.Sizes.{Sizes, region_words}

-- a view: the sizes of the pool, and the mask of the nodes that are in it
pub record Viewed : Type 0 where
  pub shape : Sizes
  pub mask : ℕ

-- whether a mask has the node: bit i - 1 is for node i
abbrev pub in_mask : ℕ → ℕ → Bool
in_mask mask node = mask / 2 ^ (node - 1) % 2 == 1

-- the i-th node, counted from 0, that a region is placed on
abbrev pub placed_node : Sizes → ℕ → ℕ → ℕ
placed_node sizes region i = (region + i) % sizes.nodes + 1

-- the nodes that a region is placed on, in this order
abbrev pub placed_nodes : Sizes → ℕ → List ℕ
placed_nodes sizes region = map (placed_node sizes region) (range_with_len 0 sizes.replicas)

-- the replicas of a region under a mask: the first is the primary, the others are its backups
abbrev pub replicas_of : Viewed → ℕ → List ℕ
replicas_of view region = filter (in_mask view.mask) (placed_nodes view.shape region)

-- some replica of the region is in the mask
abbrev pub HasReplica : Sizes → ℕ → ℕ → Type 0
HasReplica sizes mask region = (i : ℕ) × (i < sizes.replicas) × (in_mask mask (placed_node sizes region i) ≡ true)

-- none is
abbrev pub IsBare : Sizes → ℕ → ℕ → Type 0
IsBare sizes mask region = (i : ℕ) → i < sizes.replicas → in_mask mask (placed_node sizes region i) ≡ false

-- each region, the index region 0 among them, has a replica in the mask
abbrev pub LeavesNoneBare : Sizes → ℕ → Type 0
LeavesNoneBare sizes mask = (region : ℕ) → region ≤ sizes.regions → HasReplica sizes mask region

-- where a region begins on each of its nodes: the index region, then the data regions
abbrev pub region_start : Sizes → ℕ → ℕ
region_start sizes region = if region == 0 then 0 else 48 * sizes.groups + (region - 1) * region_words sizes

-- how many words a region has on each of its nodes
abbrev pub region_size : Sizes → ℕ → ℕ
region_size sizes region = if region == 0 then 48 * sizes.groups else region_words sizes
