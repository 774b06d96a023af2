use Rattle.lease_core.proofs.GrammarLemmas.{lines_from_read, read_from_lines}
use Rattle.lease_core.proofs.laws.a_text_is_read_by_the_table.Goals as goal

pub returns : goal.returns
returns c = λ lines events. (lines_from_read 1 lines events, read_from_lines 1 lines events)
