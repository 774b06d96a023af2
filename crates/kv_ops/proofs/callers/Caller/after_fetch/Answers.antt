use Rattle.std.proofs.Common.{sym, ap, ◌∙◌, length, arith}
use Rattle.kv_ops.specs.Callers.{client_of}
use Rattle.kv_ops.specs.Stages.{stage_of}
use Rattle.kv_ops.proofs.StageLemmas.{bytes-fit, not-ok}
use Rattle.kv_ops.proofs.callers.Caller.after_fetch.Goals as goal

pub prove-unreachable-requires : goal.prove-unreachable-requires
prove-unreachable-requires c =
    let short = bytes-fit (client_of c.args.self.now) c.in-Some.reading c.after.new.self c.args.answer c.requires.held (λ i. stage_of (c.requires.fetch i) (c.in-Some.is i) c.args.self.now.body) c.after.ensures.state in
    let empty = ap length c.clear.ensures in
    let long = ap length c.bytes.ensures in
    not-ok c.try_extend_from_slice-pushed.result (c.try_extend_from_slice-pushed.ensures.variant.1 (omega (arith, short, empty, long))) (sym c.is_ok.ensures.value ∙ c.if-prove.true)
