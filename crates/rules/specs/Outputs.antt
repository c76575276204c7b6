-- How an output is made: said with no reason, with a numbered one, or with the bytes of a host or peer.
use Rattle.std.specs.Prelude.{ℕ}
use Rattle.types.specs.Reasons.{no_text}
use Rattle.rules.specs.Names.{Output, Said, Reason, SessionMessage, Event}
use Rattle.rules.specs.Names.said

abbrev pub output : Said → ℕ → Reason → Output
output x n t = record { said = x; reason = n; text = t }

abbrev pub send : SessionMessage → Output
send m = output (said.Send m) 0 no_text

-- reason n
abbrev pub send_with : SessionMessage → ℕ → Output
send_with m n = output (said.Send m) n no_text

abbrev pub send_quoting : SessionMessage → Reason → Output
send_quoting m t = output (said.Send m) 0 t

abbrev pub event : Event → Output
event e = output (said.Event e) 0 no_text

-- reason n
abbrev pub event_with : Event → ℕ → Output
event_with e n = output (said.Event e) n no_text

abbrev pub event_quoting : Event → Reason → Output
event_quoting e t = output (said.Event e) 0 t

abbrev pub close_transport : Output
close_transport = output said.CloseTransport 0 no_text
