-- Refused as the tests say; else the step.
use Rattle.calls.proofs.Laws.{answer-refused, answer-step}
use Rattle.calls.proofs.on_application.Goals as goal

pub returns-in-Err : goal.returns-in-Err
returns-in-Err c = answer-refused _ _ (c.in-Err.ensures.is _) c.refused.ensures

pub returns : goal.returns
returns c = answer-step _ _ c.in-Ok.ensures.ready _ (c.in-Ok.ensures.is _) c.answered.ensures c.on_application.ensures
