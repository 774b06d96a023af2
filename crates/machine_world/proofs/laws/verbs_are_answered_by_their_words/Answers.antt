use Rattle.machine_world.proofs.AnswerLemmas.{verb-answered, verb-counted, verb-refused}
use Rattle.machine_world.proofs.laws.verbs_are_answered_by_their_words.Goals as goal

pub returns-clause-answered : goal.returns-clause-answered
returns-clause-answered c = verb-answered

pub returns-clause-refused : goal.returns-clause-refused
returns-clause-refused c = verb-refused

pub returns-clause-counted : goal.returns-clause-counted
returns-clause-counted c = verb-counted
