use Rattle.text_lines.proofs.BoundLemmas.{bytes_in-words_of}
use Rattle.text_lines.proofs.laws.words_are_within_their_line.Goals as goal

pub returns : goal.returns
returns c = λ line. bytes_in-words_of line
