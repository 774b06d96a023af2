use Rattle.script_text.proofs.ShapeLemmas.{means_read, read_means}
use Rattle.script_text.proofs.output_laws.texts_are_read_by_their_meaning.Goals as goal

pub returns-clause-read : goal.returns-clause-read
returns-clause-read c = means_read

pub returns-clause-meant : goal.returns-clause-meant
returns-clause-meant c = read_means
