-- What the lines of an output tell: the trace of the calls, and the list of the last history.
use Rattle.std.specs.Prelude.{not, List, [], ◌∷◌, ◌++◌, flat_map}
use Rattle.map_model.specs.declared.calls.Call.{Call}
use Rattle.map_model.specs.declared.calls.Call.TheVariants as asks
use Rattle.map_model.specs.declared.calls.Reply.{Reply}
use Rattle.map_model.specs.declared.calls.Reply.TheVariants as answers
use Rattle.map_model.specs.declared.entries.Entry.{Entry}
use Rattle.map_model.specs.Trace.{Moment, Invoked, Returned, Stopped}
use Rattle.script_text.specs.declared.scripts.CallText.{CallText}
use Rattle.script_text.specs.declared.scripts.CallText.TheVariants as call
use Rattle.script_text.specs.declared.out_lines.ReplyText.{ReplyText}
use Rattle.script_text.specs.declared.out_lines.ReplyText.TheVariants as reply
use Rattle.script_text.specs.declared.out_lines.OutLine.{OutLine}
use Rattle.script_text.specs.declared.out_lines.OutLine.TheVariants as line

-- the call that a line names
abbrev pub call_of : CallText → Call
call_of (call.Put key value) = asks.Put key value
call_of (call.Get key) = asks.Get key
call_of (call.Delete key) = asks.Delete key

-- the reply that a line names
abbrev pub reply_of : ReplyText → Reply
reply_of reply.Done = answers.Done
reply_of (reply.Value value) = answers.Value value
reply_of reply.Absent = answers.Absent
reply_of reply.Full = answers.Full
reply_of (reply.NoSpace class client begin) = answers.NoSpace class client begin

-- the moment of a `called`, an `ended` or a `stopped` line
abbrev pub moments_of : OutLine → List Moment
moments_of (line.Called client number call) = Invoked client number (call_of call) ∷ []
moments_of (line.Ended client number reply) = Returned client number (reply_of reply) ∷ []
moments_of (line.Stopped client) = Stopped client ∷ []
moments_of out = []

-- the moments of the lines, in their order
abbrev pub trace_of : List OutLine → List Moment
trace_of lines = flat_map moments_of lines

-- the list after one more line: a `history` line begins it anew, and an `h` line adds its entry
abbrev pub list_after : List Entry → OutLine → List Entry
list_after entries (line.History count) = []
list_after entries (line.Entry client number call reply unreturned) =
    entries ++ record { client = client; number = number; call = call_of call; reply = reply_of reply; returned = not unreturned } ∷ []
list_after entries out = entries

-- the list after some lines
abbrev pub list_from : List Entry → List OutLine → List Entry
list_from entries [] = entries
list_from entries (out ∷ lines) = list_from (list_after entries out) lines

-- the entries of the last history
abbrev pub history_of : List OutLine → List Entry
history_of lines = list_from [] lines
