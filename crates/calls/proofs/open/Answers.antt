-- A configuration in its range allows few enough gaps.
use Rattle.session.proofs.Laws.{is_true}
use Rattle.calls.proofs.Laws.{config-pending}
use Rattle.calls.proofs.open.Goals as goal

pub new-requires : goal.new-requires
new-requires c = config-pending c.args.config (is_true c.config_fits.ensures c.if-not-config_fits.false)
