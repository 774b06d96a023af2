use Rattle.std.proofs.Common.{rules}
use Rattle.verb_words.specs.declared.verbs.Verb.TheVariants.{Read}
use Rattle.kv_write.proofs.ResolveLemmas.{due-inside}
use Rattle.kv_write.proofs.resolutions.Resolve.next.Goals as goal

pub returns-in-AtSlot-clause-inside : goal.returns-in-AtSlot-clause-inside
returns-in-AtSlot-clause-inside c = due-inside _ c.args.self.now (Read (record { node = c.index_primary.result; at = c.self.inside.slot })) c.self.invariant c.self.view_is (search rules)

pub returns-in-AtVersion-clause-inside : goal.returns-in-AtVersion-clause-inside
returns-in-AtVersion-clause-inside c = due-inside _ c.args.self.now (Read c.word_place.result) c.self.invariant c.self.view_is (search rules)

pub returns-in-AtExpected-clause-inside : goal.returns-in-AtExpected-clause-inside
returns-in-AtExpected-clause-inside c = due-inside _ c.args.self.now (Read c.word_place-in-AtExpected.result) c.self.invariant c.self.view_is (search rules)
