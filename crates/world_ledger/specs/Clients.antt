-- Numbers of clients, the one that came last first.
use Rattle.std.specs.Prelude.{◌≡◌, ℕ, ◌≤◌, All, List, ◌==◌}
use Rattle.std.specs.List.{IsDistinct}
use Rattle.machine_world.specs.Events.{client_bits}

-- numbers of clients, none of them twice, with a bit for each
pub record AreClients (bits : ℕ) (clients : List ℕ) : Type 0 where
  pub numbers : All (λ client. (1 ≤ client) × (client ≤ 64)) clients
  pub distinct : IsDistinct (λ one other. one == other) clients
  pub counted : bits ≡ client_bits clients
