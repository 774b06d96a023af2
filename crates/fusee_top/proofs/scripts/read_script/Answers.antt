use Rattle.std.proofs.Common.{arith}
use Rattle.std.proofs.lemmas.Result.{IfOk-weaker}
use Rattle.fusee_top.proofs.ReadLemmas.{IsScript-parsed}
use Rattle.fusee_top.proofs.scripts.read_script.Goals as goal

pub returns-clause-read : goal.returns-clause-read
returns-clause-read c = IsScript-parsed c.parse.result c.args.text.now c.parse.ensures.parsed

pub returns-clause-within : goal.returns-clause-within
returns-clause-within c = IfOk-weaker c.parse.result _ _ (λ script sound. sound.within) c.parse.ensures.sound

pub returns-clause-few : goal.returns-clause-few
returns-clause-few c = IfOk-weaker c.parse.result _ _ (λ script sound. let few = sound.few in omega arith) c.parse.ensures.sound
