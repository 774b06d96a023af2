use Rattle.std.proofs.Common.{◌≡◌, ◌+◌, ◌-◌, ◌^◌, [], ◌∷◌, ap, arith, reverse, subst, sym, ◌∙◌}
use Rattle.std.proofs.lemmas.List.{length-reverse, reverse-append}
use Rattle.machine_world.specs.World.{is_among}
use Rattle.world_ledger.proofs.ClientLemmas.{bit_clear, few_clients, with_client-are}
use Rattle.world_ledger.specs.Clients.{AreClients}
use Rattle.world_ledger.proofs.clients.Clients.add.Goals as goal

pub with_bit-self-inside-requires-clause-clear : goal.with_bit-self-inside-requires-clause-clear
with_bit-self-inside-requires-clause-clear c =
    let none = ap (is_among c.args.client) c.self.view_is ∙ sym c.has.ensures ∙ c.if-not-has.true in
    bit_clear c.self.inside.bits c.args.client (reverse c.self.inside.order.items) c.self.invariant c.requires.least none

pub push-requires : goal.push-requires
push-requires c =
    let none = ap (is_among c.args.client) c.self.view_is ∙ sym c.has.ensures ∙ c.if-not-has.true in
    let few = few_clients c.self.inside.bits c.args.client (reverse c.self.inside.order.items) c.requires.least c.requires.most none c.self.invariant in
    (omega arith, omega (arith, few, length-reverse c.self.inside.order.items))

pub invariant_of-self : goal.invariant_of-self
invariant_of-self c =
    let none = ap (is_among c.args.client) c.self.view_is ∙ sym c.has.ensures ∙ c.if-not-has.true in
    let clients = reverse c.self.inside.order.items in
    let are = with_client-are c.self.inside.bits c.args.client clients c.requires.least c.requires.most none c.self.invariant in
    let order : reverse c.push.new.self.items ≡ c.args.client ∷ clients = ap reverse c.push.ensures.items ∙ reverse-append c.self.inside.order.items (c.args.client ∷ []) in
    subst (λ bits. AreClients bits (reverse c.push.new.self.items)) (sym c.with_bit-self-inside.ensures)
    (subst (AreClients (c.self.inside.bits + 2 ^ (c.args.client - 1))) (sym order) are)
