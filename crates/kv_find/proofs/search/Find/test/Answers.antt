use Rattle.kv_find.proofs.StateLemmas.{begun_test-held, candidate-held}
use Rattle.kv_find.proofs.search.Find.test.Goals as goal

pub begin-requires : goal.begin-requires
begin-requires c = record {
  object = candidate-held _ c.args.self.now c.args.word c.candidate_in.result c.in-Some.object _ c.self.view_is c.candidate_in.ensures c.in-Some.is c.object.view_is;
}

pub invariant_of-self : goal.invariant_of-self
invariant_of-self c =
    begun_test-held _ c.args.self.now c.args.word c.candidate_in.result c.in-Some.object _ c.self.inside.finger c.self.inside.primary c.begin.new.self c.self.invariant c.self.view_is
    c.candidate_in.ensures c.in-Some.is c.object.view_is c.begin.ensures
