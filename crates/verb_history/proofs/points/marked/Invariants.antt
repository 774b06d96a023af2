-- Those so far are marked.
use Rattle.std.proofs.Common.{take}
use Rattle.std.specs.List.{AllZip}
use Rattle.verb_history.specs.Points.{IsMarked, entered_of}
use Rattle.verb_history.proofs.points.marked.Given as goal

abbrev pub invariant-loop-one : goal.invariant-loop-one
invariant-loop-one g l = AllZip (λ one entry. IsMarked (λ client number answer. g.F.Fn.post l.returned (client, (number, tt)) answer) (entered_of one.now) entry) (take l.one-index l.order) l.list.items
