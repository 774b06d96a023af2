-- The lines that are written in place of a run, and the statuses.
use Rattle.std.specs.Prelude.{ℕ, List, ◌++◌, codes, Result, Ok, Err}
use Rattle.std.specs.Fmt.{decimal}
use Rattle.script_text.specs.declared.faults.BadKind.{BadKind}
use Rattle.script_text.specs.declared.faults.BadKind.TheVariants as kind
use Rattle.fusee_top.specs.declared.notices.Notice.{Notice}
use Rattle.fusee_top.specs.declared.notices.Notice.TheVariants as notice
use Rattle.script_run.specs.declared.writing.Unwritten.{Unwritten}
use Rattle.script_run.specs.declared.writing.Unwritten.TheVariants.{Fault, NoMemory}

abbrev pub kind_name : BadKind → List ℕ
kind_name kind.Byte = codes "Byte"
kind_name kind.NoShape = codes "NoShape"
kind_name kind.Word = codes "Word"
kind_name kind.Count = codes "Count"
kind_name kind.Number = codes "Number"
kind_name kind.Hex = codes "Hex"
kind_name kind.Shape = codes "Shape"
kind_name kind.Block = codes "Block"

abbrev pub bad_line_text : ℕ → BadKind → List ℕ
bad_line_text number kind = codes "bad line " ++ decimal number ++ codes " " ++ kind_name kind ++ codes "\n"

-- the line with its line feed
abbrev pub notice_text : Notice → List ℕ
notice_text notice.Usage = codes "usage\n"
notice_text notice.ReadFault = codes "read fault\n"
notice_text (notice.TooLarge count) = codes "too large " ++ decimal count ++ codes "\n"
notice_text (notice.BadLine number kind) = bad_line_text number kind

abbrev pub notice_status : Notice → ℕ
notice_status notice.Usage = 2
notice_status notice.ReadFault = 4
notice_status (notice.TooLarge count) = 7
notice_status (notice.BadLine number kind) = 3

-- the status where the writing of a text stopped, and else the text's own
abbrev pub ended : {T : Type 0} → Result T Unwritten → ℕ → ℕ
ended (Ok value) status = status
ended (Err Fault) status = 5
ended (Err NoMemory) status = 6
