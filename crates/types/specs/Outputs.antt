-- An output, and a line of a step: the same with its bytes left to be filled in.
use Rattle.std.specs.Prelude.{ℕ}
use Rattle.types.specs.declared.output.Said.{Said}
use Rattle.types.specs.declared.output.Output.{Output}
use Rattle.types.specs.declared.output.Line.{Line}
use Rattle.types.specs.declared.output.Quote.{Quote}
use Rattle.types.specs.declared.output.Quote.TheVariants as quote
use Rattle.types.specs.declared.reasons.Reason.{Reason}
use Rattle.types.specs.Reasons.{no_text}

-- equal to `output` of rules, specs/Outputs.antt
abbrev pub output : Said → ℕ → Reason → Output
output x n t = record { said = x; reason = n; text = t }

abbrev pub line : Said → ℕ → Quote → Line
line x n t = record { said = x; reason = n; quote = t }

-- the bytes that a line quotes, of those kept beside the binding and those given with the call
abbrev pub text_of : Reason → Reason → Quote → Reason
text_of kept given quote.None = no_text
text_of kept given quote.Kept = kept
text_of kept given quote.Given = given

abbrev pub output_of : Reason → Reason → Line → Output
output_of kept given l = output l.said l.reason (text_of kept given l.quote)
