use Rattle.std.proofs.Common.{rules}
use Rattle.machine.proofs.ViewLemmas.{IsView-of}
use Rattle.kv_write.proofs.ResolveLemmas.{walking-held}
use Rattle.kv_write.proofs.resolutions.walking_back.Goals as goal

pub invariant_of-result : goal.invariant_of-result
invariant_of-result c = rw c.key_bytes.ensures (walking-held c.args.view c.args.slot c.args.expect c.args.fresh c.args.version c.args.key.now c.args.object (IsView-of c.args.view (search rules) (search rules)) c.requires.slot c.requires.key c.requires.object)
