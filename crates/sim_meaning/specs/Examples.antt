-- Simulations with few calls, and their summaries.
use Rattle.std.specs.Prelude.{ℕ, List, codes}
use Rattle.region_view.specs.Sizes.{Sizes}
use Rattle.sim_meaning.specs.declared.numbers.Numbers.{Numbers}

-- one client makes one call, a delete of a key that has no value
abbrev pub one_delete : Numbers
one_delete = record { seed = 1; clients = 1; calls = 1; stops = 0; losses = 0 }

abbrev pub one_delete_text : List ℕ
one_delete_text =
    codes "sim 1 1 1 0 0\nreturned 1\nopen 0\nverbs 4\nblocks unused 64 owned 0 awaiting 0 released 0\nobjects stock 0 present 0 held 0\nkeys 0\nend\n"

-- two clients put a value each; the first one stops within its put, and is recovered
abbrev pub a_stopped_put : Numbers
a_stopped_put = record { seed = 9; clients = 2; calls = 1; stops = 1; losses = 0 }

abbrev pub a_stopped_put_text : List ℕ
a_stopped_put_text =
    codes "sim 9 2 1 1 0\nreturned 1\nopen 1\nverbs 169\nblocks unused 63 owned 1 awaiting 0 released 0\nobjects stock 62 present 2 held 0\nkeys 2\nend\n"

abbrev pub three_small_nodes : Sizes
three_small_nodes = record { nodes = 3; replicas = 3; regions = 1; blocks = 1; groups = 1; clients = 2; calls = 16777215 }

-- two clients make two calls each; the first one stops in its second call, and two of the nodes are lost
abbrev pub a_stop_and_two_losses : Numbers
a_stop_and_two_losses = record { seed = 4; clients = 2; calls = 2; stops = 1; losses = 2 }

abbrev pub a_stop_and_two_losses_text : List ℕ
a_stop_and_two_losses_text =
    codes "sim 4 2 2 1 2\nreturned 3\nopen 1\nverbs 2170\nblocks unused 0 owned 1 awaiting 0 released 0\nobjects stock 62 present 2 held 0\nkeys 2\nend\n"
