use Rattle.machine_world.proofs.ClaimLemmas.{crossed-firsts, crossed-met, crossed-rests, crossed-right, crossed-unfinished, crossed-won}
use Rattle.machine_world.proofs.laws.what_is_said_of_the_crossed_puts.Goals as goal

pub returns-clause-firsts : goal.returns-clause-firsts
returns-clause-firsts c = crossed-firsts

pub returns-clause-met : goal.returns-clause-met
returns-clause-met c = crossed-met

pub returns-clause-unfinished : goal.returns-clause-unfinished
returns-clause-unfinished c = crossed-unfinished

pub returns-clause-rests : goal.returns-clause-rests
returns-clause-rests c = crossed-rests

pub returns-clause-right : goal.returns-clause-right
returns-clause-right c = crossed-right

pub returns-clause-won : goal.returns-clause-won
returns-clause-won c = crossed-won
