-- An entry of the list as an entry of a history.
use Rattle.map_model.specs.declared.entries.Entry.{Entry}
use Rattle.trace_audit.specs.declared.listing.Listed.{Listed}
use Rattle.trace_audit.specs.Told.{call_of, reply_of}

abbrev pub entry_of : Listed → Entry
entry_of listed = record { client = listed.client; number = listed.number; call = call_of listed.call.now; reply = reply_of listed.reply.now; returned = listed.returned }
