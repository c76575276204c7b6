-- What every rule is written with: a choice, the largest number, and a sum that may not fit.
use Rattle.std.specs.Prelude.{ℕ, Bool, ◌&&◌, eqb, leb, if◌then◌else◌, Option, Some, None}
use Rattle.types.specs.declared.ids.SessionId.{SessionId}
use Rattle.types.specs.declared.ids.Instant.{Instant}

-- 2^64-1: all ones
abbrev pub all_ones : ℕ
all_ones = 18446744073709551615

-- two ids are one session's
abbrev pub same_id : SessionId → SessionId → Bool
same_id a b = eqb a.0 b.0 && eqb a.1 b.1

-- the instant n, unless it is past 2^64-1: then there is no deadline (01, "Built, and not built")
unfoldable pub deadline_at : ℕ → Option Instant
deadline_at n = if leb n all_ones then Some (record { 0 = n }) else None
