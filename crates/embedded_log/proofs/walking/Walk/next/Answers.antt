use Rattle.std.proofs.Common.{rules}
use Rattle.verb_words.specs.declared.verbs.Verb.TheVariants.{Read}
use Rattle.embedded_log.proofs.StateLemmas.{due-inside}
use Rattle.embedded_log.proofs.walking.Walk.next.Goals as goal

pub returns-in-AtObject-clause-inside : goal.returns-in-AtObject-clause-inside
returns-in-AtObject-clause-inside c = due-inside _ c.args.self.now (Read c.link_place.result) c.self.invariant c.self.view_is (search rules)
