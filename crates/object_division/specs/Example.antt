-- The first choosing of a client of a small pool, by which it gains the only block.
use Rattle.std.specs.Prelude.{List, [], ◌∷◌, false}
use Rattle.machine.specs.ObjectNames.{Object}
use Rattle.region_view.specs.Placed.{Viewed}
use Rattle.object_division.specs.Run.{Event, Begin, End, Choose, Seek, Clear, ClearNext, Renew, Name, Return, ReturnNext, Retire, Release, ReleaseNext}

-- two nodes, each with a replica of the one data region, and two clients
abbrev pub two_nodes : Viewed
two_nodes = record {
  shape = record { nodes = 2; replicas = 2; regions = 1; blocks = 1; groups = 1; clients = 2; calls = 10 };
  mask = 3;
}

-- the block's word is read, claimed, and written to the backup; the head word of the first reserve is written
abbrev pub gains : List Event
gains = Begin 1 ∷ Choose 1 0 ∷ Seek 1 ∷ Seek 1 ∷ Seek 1 ∷ Seek 1 ∷ []

-- the bit of the first reserve is cleared on the backup and on the primary, and the object after it is the reserve
abbrev pub takes : List Event
takes = Clear 1 0 ∷ ClearNext 1 ∷ ClearNext 1 ∷ Renew 1 ∷ []

abbrev pub first_object : Object
first_object = record { pointer = 0x100010; class = 0 }

-- the object is given back; the client ends its call and retires, and its block is released
abbrev pub gives_back : List Event
gives_back = Name 1 first_object ∷ Return 1 first_object false ∷ ReturnNext 1 first_object ∷ ReturnNext 1 first_object ∷ End 1 ∷ []

abbrev pub retires : List Event
retires = Retire 1 ∷ Release 1 1 0 0 ∷ ReleaseNext 1 ∷ ReleaseNext 1 ∷ []
