-- What reading a line answers.
use Rattle.std.specs.Prelude.{◌≡◌, Result, Ok, Err}
use Rattle.script_text.specs.declared.faults.BadKind.{BadKind}
use Rattle.script_text.specs.declared.line_faults.LineFault.{LineFault}
use Rattle.script_text.specs.declared.line_faults.LineFault.TheVariants.{Bad, NoMemory}

-- what was meant, or the kind of its fault; want of memory says nothing
abbrev pub IsRead : {T : Type 0} → Result T LineFault → Result T BadKind → Type 0
IsRead (Ok value) meant = meant ≡ Ok value
IsRead (Err (Bad kind)) meant = meant ≡ Err kind
IsRead (Err NoMemory) meant = Unit {0}

-- the kind of the fault of what is not meant
abbrev pub IsKind : {T : Type 0} → BadKind → Result T BadKind → Type 0
IsKind kind meant = meant ≡ Err kind
