use Rattle.object_division.proofs.UnderWayLemmas.{straight-goes, straight_begun, straight_is, straight_primary, under_way-goes, under_way-right}
use Rattle.object_division.proofs.laws.changes_under_way_go_on.Goals as goal

pub returns-clause-right : goal.returns-clause-right
returns-clause-right c = under_way-right

pub returns-clause-goes : goal.returns-clause-goes
returns-clause-goes c = under_way-goes

pub returns-clause-is : goal.returns-clause-is
returns-clause-is c = straight_is

pub returns-clause-straight : goal.returns-clause-straight
returns-clause-straight c = straight-goes

pub returns-clause-begun : goal.returns-clause-begun
returns-clause-begun c = straight_begun

pub returns-clause-primary : goal.returns-clause-primary
returns-clause-primary c = straight_primary
