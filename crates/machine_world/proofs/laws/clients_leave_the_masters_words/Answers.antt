use Rattle.machine_world.proofs.AnswerLemmas.{acts-lost, acts-masters_words}
use Rattle.machine_world.proofs.laws.clients_leave_the_masters_words.Goals as goal

pub returns-clause-words : goal.returns-clause-words
returns-clause-words c = acts-masters_words

pub returns-clause-lost : goal.returns-clause-lost
returns-clause-lost c = acts-lost
