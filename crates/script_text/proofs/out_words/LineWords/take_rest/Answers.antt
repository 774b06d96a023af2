use Rattle.std.proofs.Common.{ap}
use Rattle.text_lines.specs.Words.{words_of}
use Rattle.script_text.specs.OutputPlace.{AnyWords, past}
use Rattle.script_text.proofs.out_words.LineWords.take_rest.Goals as goal

pub returns-clause-past : goal.returns-clause-past
unfolding words_of
returns-clause-past c = ap (past AnyWords) c.self.view_is
