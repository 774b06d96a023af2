use Rattle.std.proofs.Common.{◌-◌, ◌^◌, arith}
use Rattle.std.proofs.Math.Pow.{pow-lt}
use Rattle.machine.proofs.StockLemmas.{bit_or-below}
use Rattle.world_ledger.proofs.ClientLemmas.{added_bit}
use Rattle.world_ledger.proofs.clients.with_bit.Goals as goal

pub overflow_add-result : goal.overflow_add-result
overflow_add-result c =
    let below = bit_or-below c.args.bits (2 ^ (c.args.client - 1)) 64 c.ranges.bits.fits (pow-lt {j = 64} (omega (arith, c.requires.least, c.requires.most))) in
    omega (arith, added_bit c.args.bits (c.args.client - 1) c.requires.clear, below, c.bit_of.ensures)
