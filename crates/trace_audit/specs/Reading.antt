-- What is read from the lines: the calls of their trace, or the first line that does not fit.
use Rattle.std.specs.Prelude.{List}
use Rattle.script_text.specs.declared.out_lines.OutLine.{OutLine}
use Rattle.trace_audit.specs.declared.reading.Reading.{Reading}
use Rattle.trace_audit.specs.declared.reading.Reading.TheVariants as reading
use Rattle.trace_audit.specs.Fits.{Fits, IsFirstUnfit}
use Rattle.trace_audit.specs.Told.{trace_of}
use Rattle.trace_audit.specs.Traced.{IsTold}

abbrev pub IsReading : List OutLine → Reading → Type 0
IsReading lines (reading.Calls calls) = Fits lines × IsTold (trace_of lines) calls
IsReading lines (reading.Unfit number) = IsFirstUnfit lines number
