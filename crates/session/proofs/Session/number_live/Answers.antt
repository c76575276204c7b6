-- Awaiting a Sequence, no number and the last number are violations; else the number is the expected one.
use Rattle.std.specs.Prelude.{if◌then◌else◌, Option}
use borrow.Author.Tests.{eq-eqb, ne_eqb}
use mathlib.Core.Path.{ap}
use mathlib.Core.Bool.{Bool, false}
use Rattle.rules.specs.Names.{SeqNum}
use Rattle.rules.specs.State.{answering, with_start}
use Rattle.rules.specs.Ending.{violation}
use Rattle.rules.specs.Numbering.{discard, numbered_as, number_live}
use Rattle.session.specs.View.{view}
use Rattle.session.proofs.Session.number_live.Goals as goal

pub returns-then-self : goal.returns-then-self
unfolding number_live
returns-then-self c = rw (ap (λ (t : Bool). if t then answering discard (violation 10 (view c.args.self) c.args.binding) else numbered_as (view c.args.self).inbound_next (with_start false (view c.args.self)) c.args.binding) c.if-self.true) c.discard_violation.ensures

pub returns-in_default : goal.returns-in_default
unfolding number_live
returns-in_default c = rw (ap (λ (t : Bool). if t then answering discard (violation 10 (view c.args.self) c.args.binding) else numbered_as (view c.args.self).inbound_next (with_start false (view c.args.self)) c.args.binding) c.if-self.false, ap (λ (n : Option SeqNum). numbered_as n (with_start false (view c.args.self)) c.args.binding) c.in_default.is) c.discard_violation-in_default.ensures

pub returns-then-seq : goal.returns-then-seq
unfolding number_live
returns-then-seq c = rw (ap (λ (t : Bool). if t then answering discard (violation 10 (view c.args.self) c.args.binding) else numbered_as (view c.args.self).inbound_next (with_start false (view c.args.self)) c.args.binding) c.if-self.false, ap (λ (n : Option SeqNum). numbered_as n (with_start false (view c.args.self)) c.args.binding) c.in-Some.is, eq-eqb _ _ c.if-seq.true) c.discard_violation-then-seq.ensures

pub returns : goal.returns
unfolding number_live
returns c = rw (ap (λ (t : Bool). if t then answering discard (violation 10 (view c.args.self) c.args.binding) else numbered_as (view c.args.self).inbound_next (with_start false (view c.args.self)) c.args.binding) c.if-self.false, ap (λ (n : Option SeqNum). numbered_as n (with_start false (view c.args.self)) c.args.binding) c.in-Some.is, ne_eqb _ _ c.if-seq.false) c.reply.ensures
