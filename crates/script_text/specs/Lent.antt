-- The calls and the replies of which the bytes are lent.
use Rattle.script_text.specs.declared.lent.LentCall.{LentCall}
use Rattle.script_text.specs.declared.lent.LentCall.TheVariants as lent_call
use Rattle.script_text.specs.declared.lent.LentReply.{LentReply}
use Rattle.script_text.specs.declared.lent.LentReply.TheVariants as lent_reply
use Rattle.script_text.specs.declared.out_lines.ReplyText.{ReplyText}
use Rattle.script_text.specs.declared.out_lines.ReplyText.TheVariants.{Done, Value, Absent, Full, NoSpace}
use Rattle.script_text.specs.declared.scripts.CallText.{CallText}
use Rattle.script_text.specs.declared.scripts.CallText.TheVariants.{Put, Get, Delete}

-- the call that a lent call is
abbrev pub call_lent : LentCall → CallText
call_lent (lent_call.Put key value) = Put key.now value.now
call_lent (lent_call.Get key) = Get key.now
call_lent (lent_call.Delete key) = Delete key.now

-- the reply that a lent reply is
abbrev pub reply_lent : LentReply → ReplyText
reply_lent lent_reply.Done = Done
reply_lent (lent_reply.Value value) = Value value.now
reply_lent lent_reply.Absent = Absent
reply_lent lent_reply.Full = Full
reply_lent (lent_reply.NoSpace class client begin) = NoSpace class client begin
