-- A Sequence goes before the number unless the receiver can number it by itself.
use Rattle.std.specs.Prelude.{if◌then◌else◌}
use mathlib.Core.Path.{ap, sym}
use mathlib.Core.List.{[], ◌∷◌}
use mathlib.Core.Bool.{Bool}
use Rattle.types.specs.States.{with_in_sequence}
use Rattle.rules.specs.Names.message
use Rattle.rules.specs.State.{saying}
use Rattle.rules.specs.Outputs.{send}
use Rattle.rules.specs.Numbering.{allocate_outbound}
use Rattle.session.proofs.Laws.{said}
use Rattle.session.proofs.Session.allocate_outbound.Goals as goal

pub returns-then-numbered : goal.returns-then-numbered
unfolding allocate_outbound
returns-then-numbered c = rw (ap (λ (t : Bool). if t then [] else send (message.Sequence (record { next_seq_no = c.args.self.outbound_next })) ∷ []) c.if-numbered.true, ap (λ (t : Bool). with_in_sequence t c.args.binding) (sym c.if-numbered.true)) c.stay.ensures

pub returns : goal.returns
unfolding allocate_outbound saying
returns c = rw (ap (λ (t : Bool). if t then [] else send (message.Sequence (record { next_seq_no = c.args.self.outbound_next })) ∷ []) c.if-numbered.false) (said _ _ _ _ _ c.send-sent.ensures.is c.stay-2.ensures)
