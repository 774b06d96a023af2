use Rattle.text_lines.proofs.BoundLemmas.{bytes_in-lines_of, length-lines_of}
use Rattle.text_lines.proofs.laws.lines_are_within_their_text.Goals as goal

pub returns-clause-bytes : goal.returns-clause-bytes
returns-clause-bytes c = λ text. bytes_in-lines_of text

pub returns-clause-count : goal.returns-clause-count
returns-clause-count c = λ text. length-lines_of text
