-- What a function over a lent queue hands back, with the queue that it leaves: the result of the by-value form.
use Rattle.std.specs.Prelude.{Option}
use Rattle.rules.specs.Names.{Output}
use Rattle.queue.specs.declared.Outputs.{Outputs}
use Rattle.queue.specs.declared.Polled.{Polled}
use Rattle.calls.specs.declared.Called.{Called}
use Rattle.lent.specs.declared.Handed.{Handed}

abbrev pub called : Handed → Outputs → Called
called r q = record { session = r.session; link = r.link; queue = q; answer = r.answer }

abbrev pub polled : Option Output → Outputs → Polled
polled r q = record { queue = q; output = r }
