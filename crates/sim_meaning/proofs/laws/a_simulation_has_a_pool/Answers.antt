use Rattle.std.proofs.Common.{arith}
use Rattle.sim_meaning.proofs.laws.a_simulation_has_a_pool.Goals as goal

pub returns : goal.returns
returns c = λ numbers some few. record {
  nodes = (omega arith, omega arith);
  replicas = (omega arith, omega arith);
  placed = omega arith;
  regions = (omega arith, omega arith);
  blocks = (omega arith, omega arith);
  groups = (omega arith, omega arith);
  clients = (some, few);
  calls = (omega arith, omega arith);
}
