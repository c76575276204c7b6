-- Each part is the new one.
use Rattle.std.specs.Prelude.{None}
use mathlib.Core.Bool.{false}
use Rattle.rules.specs.State.{sess}
use Rattle.rules.specs.Binding.{first_number, new_session}
use Rattle.session.proofs.Session.new.Goals as goal

pub returns : goal.returns
unfolding new_session
returns c =
    record {
      wf = record { gaps = c.new-gaps.ensures.wf; pending = c.requires };
      is = λ i. sess c.args.id c.args.local_flow c.args.remote_flow c.args.config first_number (c.first_of-first.ensures i) (c.is_sequenced-pending.ensures i) (c.new-gaps.ensures.is i) None None false None None false;
    }
