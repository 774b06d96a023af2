-- The pool that all simulations run on.
use Rattle.region_view.specs.Sizes.{Sizes}

-- three nodes with three replicas of four data regions of 16 blocks each, 16 bucket groups, 64 clients, and 16,777,215 calls
-- of a client
abbrev pub run_sizes : Sizes
run_sizes = record { nodes = 3; replicas = 3; regions = 4; blocks = 16; groups = 16; clients = 64; calls = 16777215 }
