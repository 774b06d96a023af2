-- What the epoch word lets a client do.
use Rattle.std.specs.Prelude.{◌≡◌, ℕ, ◌+◌, Bool, true, if◌then◌else◌, Option, Some, None}
use Rattle.std.specs.List.{list_all, list_any, range_with_len}
use Rattle.std.specs.Option.{option_and_then}
use Rattle.region_view.specs.declared.epochs.Epoch.{Epoch}
use Rattle.region_view.specs.Epoch.{epoch_in}
use Rattle.region_view.specs.Placed.{Viewed, in_mask, placed_nodes}
use Rattle.region_view.specs.Sizes.{IsWithinLimits, Sizes}

-- whether each region has a replica in the mask
unfoldable pub leaves_none_bare : Sizes → ℕ → Bool
leaves_none_bare sizes mask = list_all (λ region. list_any (in_mask mask) (placed_nodes sizes region)) (range_with_len 0 (sizes.regions + 1))

-- the mask of an open epoch
abbrev pub mask_of : Sizes → Epoch → Option ℕ
mask_of sizes epoch = if epoch.sealed then None else (if leaves_none_bare sizes epoch.mask then Some epoch.mask else None)

-- the mask that an epoch word opens. A word that is sealed opens none, nor does one that says no epoch or leaves a region bare
unfoldable pub open_mask : Sizes → ℕ → Option ℕ
open_mask sizes word = option_and_then (mask_of sizes) (epoch_in word)

-- a view that a client may hold
pub record IsView (view : Viewed) : Type 0 where
  pub limits : IsWithinLimits view.shape
  pub covers : leaves_none_bare view.shape view.mask ≡ true
