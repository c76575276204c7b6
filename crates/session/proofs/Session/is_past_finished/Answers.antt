-- Only an end that is there can be passed.
use Rattle.std.specs.Prelude.{Option}
use mathlib.Core.Path.{ap, sym, ◌∙◌}
use Rattle.rules.specs.Names.{SeqNum, PeerFinished}
use Rattle.rules.specs.Numbering.{past_end, past_finished}
use Rattle.session.proofs.Session.is_past_finished.Goals as goal

pub returns-in_default : goal.returns-in_default
returns-in_default c = ap (λ (f : Option PeerFinished). past_finished f c.args.next.0) (sym c.in_default.is)

pub returns-in_default-end : goal.returns-in_default-end
returns-in_default-end c = ap (λ (n : Option SeqNum). past_end n c.args.next.0) (sym c.in_default-end.is) ∙ ap (λ (f : Option PeerFinished). past_finished f c.args.next.0) (sym c.in-Some.is)

pub returns : goal.returns
returns c = ap (λ (n : Option SeqNum). past_end n c.args.next.0) (sym c.in-Some-end.is) ∙ ap (λ (f : Option PeerFinished). past_finished f c.args.next.0) (sym c.in-Some.is)
