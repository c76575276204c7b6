-- Nothing is queued.
use mathlib.Core.Path.{sym}
use Rattle.rules.specs.Names.bound
use Rattle.queue.specs.View.{queue_of}
use Rattle.queue.proofs.Laws.{queued-none}
use Rattle.session.specs.View.{view}
use Rattle.session.proofs.Session.reply.Goals as goal

pub returns : goal.returns
returns c = record { session = c.requires.session; queue = c.requires.queue; is = λ i. record { session = view c.args.self; binding = c.args.binding; queue = sym (queued-none (queue_of c.args.queue)) i; bound = bound.Stay; answer = c.args.answer } }
