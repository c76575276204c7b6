-- What a call answers: a verdict, or the refusal.
use Rattle.std.specs.Prelude.{Bool, Result}
use Rattle.std.specs.Result.{is_err}
use Rattle.types.specs.declared.answers.Verdict.{Verdict}
use Rattle.types.specs.declared.answers.Refusal.{Refusal}

abbrev pub Answer : Type 0
Answer = Result Verdict Refusal

abbrev pub is_refused : Answer → Bool
is_refused a = is_err a
