-- The entries so far are those of the calls so far.
use Rattle.std.proofs.Common.{◌≡◌, map, take}
use Rattle.machine_world.specs.Ledger.{entry_of}
use Rattle.verb_history.specs.Points.{entered_of}
use Rattle.world_core.proofs.worlds.World.marked.Given as goal

abbrev pub invariant-loop-one : goal.invariant-loop-one
invariant-loop-one l = l.list.items ≡ map (λ one. entry_of l.self (entered_of one.now)) (take l.one-index l.order)
