use Rattle.std.proofs.Common.{ap, rules}
use Rattle.verb_words.specs.declared.verbs.Verb.TheVariants.{Read, Write}
use Rattle.node_recovery.proofs.StateLemmas.{due-inside, target-due}
use Rattle.node_recovery.specs.Settlings.{phase_of}
use Rattle.node_recovery.proofs.program.Settling.next.Goals as goal

pub returns-in-ReadWord-clause-inside : goal.returns-in-ReadWord-clause-inside
returns-in-ReadWord-clause-inside c = due-inside _ c.args.self.now _ _ (Read c.place_of_pair.result) c.self.invariant c.self.view_is (search rules)

pub returns-in-WriteWord-clause-verb : goal.returns-in-WriteWord-clause-verb
returns-in-WriteWord-clause-verb c =
    target-due _ c.args.self.now _ _ c.deref.result.now c.in-WriteWord.word c.in-WriteWord.target c.place_of_pair-in-WriteWord.result c.self.invariant c.self.view_is (ap phase_of c.in-WriteWord.is) c.deref.ensures.0 c.place_of_pair-in-WriteWord.ensures

pub returns-in-WriteWord-clause-inside : goal.returns-in-WriteWord-clause-inside
returns-in-WriteWord-clause-inside c =
    due-inside _ c.args.self.now _ _ (Write c.place_of_pair-in-WriteWord.result c.in-WriteWord.word) c.self.invariant c.self.view_is
    (target-due _ c.args.self.now _ _ c.deref.result.now c.in-WriteWord.word c.in-WriteWord.target c.place_of_pair-in-WriteWord.result c.self.invariant c.self.view_is (ap phase_of c.in-WriteWord.is) c.deref.ensures.0 c.place_of_pair-in-WriteWord.ensures)
