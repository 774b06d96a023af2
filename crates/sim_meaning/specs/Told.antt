-- What a line that is not printed would tell the driver.
use Rattle.std.specs.Prelude.{Bool, true, false}
use Rattle.script_text.specs.declared.out_lines.OutLine.{OutLine}
use Rattle.script_text.specs.declared.out_lines.OutLine.TheVariants.{Opened}

-- that a settling has opened a view
abbrev pub tells_opening : OutLine → Bool
tells_opening (Opened word) = true
tells_opening line = false
