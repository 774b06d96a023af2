-- The moments of a trace, as the map's model has them.
use Rattle.map_model.specs.Trace as trace
use Rattle.verb_history.specs.declared.moments.Moment.{Moment}
use Rattle.verb_history.specs.declared.moments.Moment.TheVariants as moment

abbrev pub moment_of : Moment → trace.Moment
moment_of (moment.Invoked client number call) = trace.Invoked client number call
moment_of (moment.Returned client number reply) = trace.Returned client number reply
moment_of (moment.Stopped client) = trace.Stopped client
