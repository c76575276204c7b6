-- Reasons: 01 numbers the texts of the source from 1 in source order, equal texts once; the bytes of hosts and peers stay bytes.
use Rattle.std.specs.Prelude.{ℕ, Bool, leb, replicate}
use Rattle.types.specs.declared.reasons.Reason.{Reason}

-- the longest reason in bytes: the one place that names it
abbrev pub max_reason_len : ℕ
max_reason_len = 64

-- zero bytes
unfoldable pub no_text : Reason
no_text = record { bytes = replicate max_reason_len 0; len = 0 }

-- a reason that its room holds
abbrev pub reason_fits : Reason → Bool
reason_fits r = leb r.len max_reason_len
