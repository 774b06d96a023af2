use Rattle.verb_words.specs.Words.{words_on}
use Rattle.script_run.proofs.DumpLemmas.{words-between}
use Rattle.script_run.proofs.printing.stored_from.Goals as goal

pub returns-clause-rest : goal.returns-clause-rest
returns-clause-rest c =
    words-between c.args.node c.args.from c.stored_from.result (words_on c.args.nodes.now c.args.node) c.stored_from.ensures.least c.stored_from.ensures.most c.stored_from.ensures.zeros
