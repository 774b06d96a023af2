use Rattle.std.proofs.Common.{inl, inr, ap, reverse, sym, ◌∙◌}
use Rattle.machine_world.specs.World.{is_among}
use Rattle.world_ledger.proofs.ClientLemmas.{bit_tells, not_among}
use Rattle.world_ledger.proofs.clients.Clients.has.Goals as goal

pub returns-then-client-lt1 : goal.returns-then-client-lt1
returns-then-client-lt1 c =
    sym (ap (is_among c.args.client) (sym c.self.view_is) ∙ not_among c.self.inside.bits c.args.client (reverse c.self.inside.order.items) c.self.invariant (inl c.if-client-lt1.true))

pub returns-then-client-gt64 : goal.returns-then-client-gt64
returns-then-client-gt64 c =
    sym (ap (is_among c.args.client) (sym c.self.view_is) ∙ not_among c.self.inside.bits c.args.client (reverse c.self.inside.order.items) c.self.invariant (inr c.if-client-gt64.true))

pub returns : goal.returns
returns c =
    bit_tells c.self.inside.bits c.args.client (reverse c.self.inside.order.items) c.self.invariant c.if-client-lt1.false
    ∙ ap (is_among c.args.client) c.self.view_is
