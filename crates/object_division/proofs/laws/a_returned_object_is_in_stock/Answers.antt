use Rattle.object_division.proofs.ExampleLemmas.{is_in_stock-gives_back, uses-gives_back}
use Rattle.object_division.proofs.laws.a_returned_object_is_in_stock.Goals as goal

pub returns-clause-untaken : goal.returns-clause-untaken
returns-clause-untaken c = uses-gives_back

pub returns-clause-set : goal.returns-clause-set
returns-clause-set c = is_in_stock-gives_back
