use Rattle.object_division.proofs.OwnLemmas.{taken_owned, taken_unreserved}
use Rattle.object_division.proofs.laws.clients_take_objects_of_their_own.Goals as goal

pub returns-clause-owned : goal.returns-clause-owned
returns-clause-owned c = taken_owned

pub returns-clause-unreserved : goal.returns-clause-unreserved
returns-clause-unreserved c = taken_unreserved
