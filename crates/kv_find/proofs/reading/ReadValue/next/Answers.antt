use Rattle.std.proofs.Common.{◌/◌, length, ap, arith}
use Rattle.machine.specs.ValueRead.{ValueRead}
use Rattle.kv_find.proofs.ReadingLemmas.{held_next-inside}
use Rattle.kv_find.proofs.reading.ReadValue.next.Goals as goal

pub returns-clause-inside : goal.returns-clause-inside
returns-clause-inside c =
    let words = ap (λ (r : ValueRead). length r.words) c.self.view_is in
    held_next-inside _ c.args.self.now c.self.inside.bytes.items c.self.inside.first (c.len.result / 8) c.self.invariant c.self.view_is c.requires (omega (arith, words, c.len.ensures.value, c.self.invariant.long))
