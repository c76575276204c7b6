-- Refused as the tests say, then as the Rust does, with the reason that stood; else the step, with the reason that is given.
use Rattle.session.specs.View.{view}
use Rattle.calls.proofs.Laws.{answer-refused, answer-set, answer-kept, terminated-answers}
use Rattle.calls.proofs.terminate.Goals as goal

pub returns-in-Err : goal.returns-in-Err
returns-in-Err c = answer-refused _ _ (c.in-Err.ensures.is _) c.refused.ensures

pub returns-in-Ok-answer : goal.returns-in-Ok-answer
returns-in-Ok-answer c = answer-set _ _ c.in-Ok.ensures.ready _ _ _ _ (c.in-Ok.ensures.is _) c.in-Ok-answer.is c.answered.ensures c.terminate-step.ensures

pub returns-in-Err-answer : goal.returns-in-Err-answer
returns-in-Err-answer c = answer-kept _ _ c.in-Ok.ensures.ready _ _ _ _ (c.in-Ok.ensures.is _) (terminated-answers c.args.now c.args.code c.args.text (view c.args.session) _) c.in-Err-answer.is c.answered-in-Err-answer.ensures c.terminate-step.ensures
