-- Gaps that pass the record check have their rings in order.
use Rattle.rings.proofs.GapLaws.{sound-wf}
use Rattle.session.proofs.Laws.{is_true}
use Rattle.replay.proofs.missing.missing_in.Goals as goal

pub sum_of-requires : goal.sum_of-requires
sum_of-requires c = (sound-wf c.args.gaps (is_true c.sound.ensures c.if-not-sound.false)).missing
