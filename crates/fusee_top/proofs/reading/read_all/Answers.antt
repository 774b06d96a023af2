use Rattle.std.proofs.Common.{◌≡◌, ◌<◌, ◌++◌, take, arith}
use Rattle.std.proofs.lemmas.Grind.{common_steps}
use Rattle.outside.proofs.AppendedLemmas.{consumes_keeps, consumes_then}
use Rattle.outside.proofs.FaultsLemmas.{steady_then}
use Rattle.fusee_top.proofs.reading.read_all.Goals as goal

pub returns-then-is_err-clause-steady : goal.returns-then-is_err-clause-steady
returns-then-is_err-clause-steady g c = steady_then _ _ _ c.loop.invariant.steady c.in-Got.ensures.steady

pub returns-then-len-gt-LIMIT-clause-input : goal.returns-then-len-gt-LIMIT-clause-input
returns-then-len-gt-LIMIT-clause-input g c =
    let more : c.extend_from_slice.new.self.items ≡ c.loop.input.items ++ take c.in-Got.count c.read.new.into = grind (arith, common_steps, c.in-Got.ensures.count) in
    record {
      given = c.extend_from_slice.new.self.items;
      read = rw more (consumes_then _ _ _ _ _ c.loop.invariant.taken c.in-Got.ensures.bytes);
      over = grind (arith, common_steps);
    }

pub returns-then-len-gt-LIMIT-clause-steady : goal.returns-then-len-gt-LIMIT-clause-steady
returns-then-len-gt-LIMIT-clause-steady g c = steady_then _ _ _ c.loop.invariant.steady c.in-Got.ensures.steady

pub returns-in-End-clause-input : goal.returns-in-End-clause-input
returns-in-End-clause-input g c =
    rw c.of_vec.ensures (record {
      read = consumes_keeps _ _ _ _ c.loop.invariant.taken c.in-End.ensures.bytes.2;
      at_end = c.in-End.ensures.bytes.1;
      within = grind (arith, common_steps);
    })

pub returns-in-End-clause-steady : goal.returns-in-End-clause-steady
returns-in-End-clause-steady g c = steady_then _ _ _ c.loop.invariant.steady c.in-End.ensures.steady

pub returns-in-Failed-clause-steady : goal.returns-in-Failed-clause-steady
returns-in-Failed-clause-steady g c = steady_then _ _ _ c.loop.invariant.steady c.in-Failed.ensures.steady

pub loop-preserved : goal.loop-preserved
loop-preserved g c =
    let more : c.extend_from_slice.new.self.items ≡ c.loop.input.items ++ take c.in-Got.count c.read.new.into = grind (arith, common_steps, c.in-Got.ensures.count) in
    let some : 0 < c.in-Got.count = c.in-Got.ensures.count.1 (grind (arith, common_steps)) in
    record {
      taken = rw more (consumes_then _ _ _ _ _ c.loop.invariant.taken c.in-Got.ensures.bytes);
      room = omega arith;
      turns = grind (arith, common_steps);
      later = omega (arith, c.loop.invariant.later, c.in-Got.ensures.later);
      steady = steady_then _ _ _ c.loop.invariant.steady c.in-Got.ensures.steady;
    }
