use Rattle.std.proofs.Common.{◌≡◌, ◌+◌, ◌-◌, ◌<◌, ◌≤◌, None}
use Rattle.machine_world.specs.Refusals.{refusal}
use Rattle.outside.specs.Faults.{IsSteady}
use Rattle.script_meaning.specs.Lines.{takes}
use Rattle.script_run.specs.Turns.{event_of}
use Rattle.script_text.specs.OutputText.{text_of}
use Rattle.script_run.proofs.LeftLemmas.{Left}
use Rattle.script_run.proofs.verbs.take.Given as goal

abbrev pub invariant-loop-taken : goal.invariant-loop-taken
invariant-loop-taken g l = record {
  left : Left (g.K.Sink.held l.fn.sink) (g.K.Sink.held l.sink)
      (text_of (takes l.shows (event_of l.taker) 0 l.most l.fn.world).lines)
      (text_of (takes l.shows (event_of l.taker) l.taken (l.most - l.taken) l.world).lines);
  world : (takes l.shows (event_of l.taker) 0 l.most l.fn.world).world ≡ (takes l.shows (event_of l.taker) l.taken (l.most - l.taken) l.world).world;
  lawful : l.taken < l.most → refusal l.world (event_of l.taker) ≡ None;
  events : l.world.events ≤ l.fn.world.events + l.taken;
  later : g.K.Sink.faults l.fn.sink ≤ g.K.Sink.faults l.sink;
  steady : IsSteady g.K.Sink.cannot_fail g.K.Sink.faults l.fn.sink l.sink;
}
