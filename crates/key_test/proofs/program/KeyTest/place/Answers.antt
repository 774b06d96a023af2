use Rattle.key_test.proofs.StateLemmas.{held_place-inside}
use Rattle.key_test.proofs.program.KeyTest.place.Goals as goal

pub returns-clause-inside : goal.returns-clause-inside
returns-clause-inside c = held_place-inside _ c.args.self.now c.self.inside.first c.self.inside.first_word c.args.i c.self.invariant c.self.view_is c.requires
