-- Refused as the tests say, then as the Rust does; else the step.
use Rattle.calls.proofs.Laws.{answer-refused, answer-local}
use Rattle.calls.proofs.send_application.Goals as goal

pub returns-in-Err : goal.returns-in-Err
returns-in-Err c = answer-refused _ _ (c.in-Err.ensures.is _) c.refused.ensures

pub returns : goal.returns
returns c = answer-local _ _ c.in-Ok.ensures.ready _ _ (c.in-Ok.ensures.is _) c.answered.ensures c.send_application.ensures
