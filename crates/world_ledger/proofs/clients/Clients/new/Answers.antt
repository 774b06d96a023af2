use Rattle.std.proofs.Common.{reverse, subst, sym}
use Rattle.world_ledger.proofs.ClientLemmas.{no_clients}
use Rattle.world_ledger.specs.Clients.{AreClients}
use Rattle.world_ledger.proofs.clients.Clients.new.Goals as goal

pub invariant_of-result : goal.invariant_of-result
invariant_of-result c = subst (λ items. AreClients 0 (reverse items)) (sym c.new.ensures) no_clients
