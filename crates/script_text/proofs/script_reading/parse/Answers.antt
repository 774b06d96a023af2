use Rattle.script_text.proofs.ScriptReadLemmas.{IsParsed-given, IsSound-parsed}
use Rattle.script_text.proofs.script_reading.parse.Goals as goal

pub returns-clause-parsed : goal.returns-clause-parsed
returns-clause-parsed c = IsParsed-given c.read.result c.args.text.now c.read.ensures

pub returns-clause-sound : goal.returns-clause-sound
returns-clause-sound c = IsSound-parsed c.read.result c.args.text.now (IsParsed-given c.read.result c.args.text.now c.read.ensures)
