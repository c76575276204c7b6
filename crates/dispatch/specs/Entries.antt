-- The call that a record asks for (01, "Trace program"). An open and a malformed record ask for none; a release stands in for them.
use Rattle.std.specs.Prelude.{Bool, true, false}
use Rattle.rules.specs.Names.{Instant, Nanotime, Reason}
use Rattle.rules.specs.Calls.{Call, bind_call, release_call, peer_call, application_call, send_call, terminate_call, retransmit_call, reject_call, end_call, timeout_call}
use Rattle.trace.specs.declared.records.Entry.{Entry}
use Rattle.trace.specs.declared.records.Entry.TheVariants as entry

abbrev pub is_call : Entry → Bool
is_call (entry.Open i l r g) = false
is_call (entry.Bind l r n) = true
is_call entry.Release = true
is_call entry.Application = true
is_call (entry.Peer m) = true
is_call entry.Send = true
is_call (entry.Terminate k) = true
is_call (entry.Retransmit n) = true
is_call (entry.Reject k) = true
is_call entry.End = true
is_call entry.Timeout = true
is_call entry.Malformed = false

abbrev pub call_of : Entry → Instant → Nanotime → Reason → Call
call_of (entry.Open i l r g) now stamp text = release_call
call_of (entry.Bind l r n) now stamp text = bind_call now stamp l r n
call_of entry.Release now stamp text = release_call
call_of entry.Application now stamp text = application_call now stamp
call_of (entry.Peer m) now stamp text = peer_call now stamp m text
call_of entry.Send now stamp text = send_call now
call_of (entry.Terminate k) now stamp text = terminate_call now k text
call_of (entry.Retransmit n) now stamp text = retransmit_call now n
call_of (entry.Reject k) now stamp text = reject_call k text
call_of entry.End now stamp text = end_call
call_of entry.Timeout now stamp text = timeout_call now stamp
call_of entry.Malformed now stamp text = release_call
