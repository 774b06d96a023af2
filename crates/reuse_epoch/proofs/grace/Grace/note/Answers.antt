use Rattle.std.proofs.Common.{◌<◌, List, All, sym, subst, arith}
use Rattle.reuse_epoch.specs.Awaited.{Awaited, client_of}
use Rattle.reuse_epoch.proofs.AwaitedLemmas.{length-lt}
use Rattle.reuse_epoch.proofs.grace.Grace.note.Goals as goal

pub push-requires : goal.push-requires
push-requires c =
    let last = subst (λ (list : List Awaited). All (λ one. client_of one < c.args.client) list) (sym c.self.view_is) c.requires.last in
    let fewer = length-lt c.self.inside.awaited.items c.args.client c.self.invariant c.requires.client.0 last in
    (omega arith, omega (arith, fewer, c.requires.client.1))
