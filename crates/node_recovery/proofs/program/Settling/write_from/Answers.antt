use Rattle.node_recovery.proofs.StateLemmas.{writes-last, writes-more}
use Rattle.node_recovery.proofs.program.Settling.write_from.Goals as goal

pub returns-then-target-len-clause-state : goal.returns-then-target-len-clause-state
returns-then-target-len-clause-state c = writes-more _ c.args.self.now _ _ c.args.word c.args.target c.len.result c.self.invariant c.self.view_is c.requires c.len.ensures.value c.if-target-len.true

pub returns-else-target-len-clause-state : goal.returns-else-target-len-clause-state
returns-else-target-len-clause-state c = writes-last _ c.args.self.now _ _ _ c.args.word c.args.target c.len.result c.self.invariant c.self.view_is c.requires c.len.ensures.value c.if-target-len.false c.next_word.ensures.state
