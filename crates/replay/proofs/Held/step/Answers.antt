-- What an ordinary record stores is what its call leaves.
use native.Mathlib.Omega.{arith}
use Rattle.replay.specs.declared.ordinary.Quick.TheVariants as quick
use Rattle.replay.proofs.Found.{live_below, sent-below, found-as}
use Rattle.replay.proofs.Steps.{live-steps, same-steps, sent-steps, linked}
use Rattle.replay.proofs.Held.step.Goals as goal

pub overflow_add-self : goal.overflow_add-self
overflow_add-self c = let h = c.args.self.now in let low = live_below _ _ _ _ _ (found-as c.quick_of.result c.in-Some.quick (quick.Live c.in-Live.seq) c.args.«record» h.session h.link h.queue c.in-Some.is c.in-Live.is c.quick_of.ensures) in omega (arith, low)

pub overflow_add-self-in-Sent : goal.overflow_add-self-in-Sent
overflow_add-self-in-Sent c = let h = c.args.self.now in let low = sent-below _ _ _ _ _ (found-as c.quick_of.result c.in-Some.quick (quick.Sent c.in-Sent.seq) c.args.«record» h.session h.link h.queue c.in-Some.is c.in-Sent.is c.quick_of.ensures) in omega (arith, low)

pub returns-in-Live : goal.returns-in-Live
returns-in-Live c =
    let h = c.args.self.now in
    linked c.heard-self.ensures (live-steps c.args.«record» h.session h.link h.queue c.in-Live.seq (found-as c.quick_of.result c.in-Some.quick (quick.Live c.in-Live.seq) c.args.«record» h.session h.link h.queue c.in-Some.is c.in-Live.is c.quick_of.ensures))

pub returns-in-Same : goal.returns-in-Same
returns-in-Same c =
    let h = c.args.self.now in
    linked c.heard-self-in-Same.ensures (same-steps c.args.«record» h.session h.link h.queue (found-as c.quick_of.result c.in-Some.quick (quick.Same) c.args.«record» h.session h.link h.queue c.in-Some.is c.in-Same.is c.quick_of.ensures))

pub returns-in-Sent : goal.returns-in-Sent
returns-in-Sent c =
    let h = c.args.self.now in
    linked c.kept_alive-self.ensures (sent-steps c.args.«record» h.session h.link h.queue c.in-Sent.seq (found-as c.quick_of.result c.in-Some.quick (quick.Sent c.in-Sent.seq) c.args.«record» h.session h.link h.queue c.in-Some.is c.in-Sent.is c.quick_of.ensures))
