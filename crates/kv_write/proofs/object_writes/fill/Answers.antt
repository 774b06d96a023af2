use Rattle.std.proofs.Common.{rules}
use Rattle.kv_write.proofs.WriteLemmas.{content-room}
use Rattle.kv_write.proofs.object_writes.fill.Goals as goal

pub padded-requires-2 : goal.padded-requires-2
padded-requires-2 c = content-room c.push-3.new.self.items _ c.args.key.now c.args.value.now (search rules) c.padded.ensures c.requires.key c.requires.value
