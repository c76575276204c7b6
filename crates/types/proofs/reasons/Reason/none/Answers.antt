-- The bytes are written out as `no_text` has them.
use Rattle.std.proofs.Common.{refl}
use Rattle.types.specs.Reasons.{no_text}
use Rattle.types.proofs.reasons.Reason.none.Goals as goal

pub returns : goal.returns
unfolding no_text
returns c = refl
