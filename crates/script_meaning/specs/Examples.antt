-- Worked scripts, and what they print.
use Rattle.std.specs.Prelude.{ℕ, true, false, List, [], ◌∷◌, Some}
use Rattle.script_text.specs.declared.out_lines.NotYetText.TheVariants as not_yet
use Rattle.script_text.specs.declared.out_lines.OutLine.{OutLine}
use Rattle.script_text.specs.declared.out_lines.OutLine.TheVariants as out
use Rattle.script_text.specs.declared.out_lines.RefusalText.TheVariants as refusal
use Rattle.script_text.specs.declared.out_lines.ReplyText.TheVariants as reply
use Rattle.script_text.specs.declared.scripts.CallText.TheVariants as call
use Rattle.region_view.specs.Sizes.{Sizes}
use Rattle.script_text.specs.declared.scripts.Line.{Line}
use Rattle.script_text.specs.declared.scripts.Line.TheVariants as line

-- the key `a`, and the values `1` and `2`
abbrev pub a : List ℕ
a = 97 ∷ []

abbrev pub one : List ℕ
one = 49 ∷ []

abbrev pub two : List ℕ
two = 50 ∷ []

abbrev pub smallest : Sizes
smallest = record { nodes = 1; replicas = 1; regions = 1; blocks = 1; groups = 1; clients = 1; calls = 10 }

-- the first put of a small pool, its verbs shown, and what was put
abbrev pub first_script : List Line
first_script = line.Register ∷ line.Verbs true ∷ line.Put 1 a one ∷ line.Verbs false ∷ line.Get 1 a ∷ line.Count ∷ []

abbrev pub first_output : List OutLine
first_output =
    out.Client 1
    ∷ out.Called 1 1 (call.Put a one)
    ∷ out.VerbWrite (Some 1) 0 16 1 false
    ∷ out.VerbRead (Some 1) 0 0 (Some 65537)
    ∷ out.VerbRead (Some 1) 1 48 (Some 0)
    ∷ out.VerbSwap (Some 1) 1 48 0 72057594037928192 (Some 0)
    ∷ out.VerbWrite (Some 1) 0 18 1048592 false
    ∷ out.VerbAdd (Some 1) 1 112 18446744073709551615 (Some 18446744073709551615)
    ∷ out.VerbWrite (Some 1) 1 177 4295032833 false
    ∷ out.VerbWrite (Some 1) 1 178 0 false
    ∷ out.VerbWrite (Some 1) 1 179 0 false
    ∷ out.VerbWrite (Some 1) 1 180 97 false
    ∷ out.VerbWrite (Some 1) 1 181 49 false
    ∷ out.VerbWrite (Some 1) 1 176 4503599896854545 false
    ∷ out.VerbRead (Some 1) 1 0 (Some 0)
    ∷ out.VerbWrite (Some 1) 1 179 0 false
    ∷ out.VerbWrite (Some 1) 1 178 1 false
    ∷ out.VerbSwap (Some 1) 1 24 0 12610360431615148048 (Some 0)
    ∷ out.VerbSwap (Some 1) 1 0 0 12610360431615148048 (Some 0)
    ∷ out.VerbWrite (Some 1) 0 16 2 false
    ∷ out.Ended 1 1 reply.Done
    ∷ out.Called 1 2 (call.Get a)
    ∷ out.Ended 1 2 (reply.Value one)
    ∷ out.Blocks 0 1 0 0
    ∷ out.Objects 63 1 0
    ∷ out.History 2
    ∷ out.Entry 1 1 (call.Put a one) reply.Done false
    ∷ out.Entry 1 2 (call.Get a) (reply.Value one) false
    ∷ out.End
    ∷ []

abbrev pub three_nodes : ℕ → Sizes
three_nodes clients = record { nodes = 3; replicas = 3; regions = 1; blocks = 2; groups = 1; clients = clients; calls = 10 }

-- a client that stops before its last swap, another one that waits for it, and the recovery
abbrev pub stopped_script : List Line
stopped_script =
    line.Register ∷ line.Register
    ∷ line.Call 1 (call.Put a one) ∷ line.Step 1 36 ∷ line.Stop 1
    ∷ line.Put 2 a two ∷ line.Recover 1 ∷ line.Go 2 ∷ line.Get 2 a ∷ line.Count ∷ line.Go 1
    ∷ []

abbrev pub stopped_output : List OutLine
stopped_output =
    out.Client 1 ∷ out.Client 2
    ∷ out.Called 1 1 (call.Put a one) ∷ out.Took (Some 1) 36 ∷ out.Stopped 1
    ∷ out.Called 2 1 (call.Put a two) ∷ out.NotYet (Some 2) (not_yet.Unchanged 0 0)
    ∷ out.Recovered 1
    ∷ out.Ended 2 1 reply.Done
    ∷ out.Called 2 2 (call.Get a) ∷ out.Ended 2 2 (reply.Value one)
    ∷ out.Blocks 0 1 0 1 ∷ out.Objects 127 1 0
    ∷ out.Refused (refusal.Stopped 1)
    ∷ out.History 3
    ∷ out.Entry 2 1 (call.Put a two) reply.Done false
    ∷ out.Entry 1 1 (call.Put a one) reply.Done true
    ∷ out.Entry 2 2 (call.Get a) (reply.Value one) false
    ∷ out.End
    ∷ []
