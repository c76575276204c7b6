-- What the trace program prints, byte for byte (01, "Trace program").
use Rattle.std.specs.Prelude.{ℕ, zero, suc, ◌+◌, ◌/◌, ◌%◌, ◌≤◌, ◌≡◌, List, [], ◌∷◌, ◌++◌, take, length, ltb, if◌then◌else◌, Option, Some, None}
use Rattle.rules.specs.Names.{SeqNum, SessionStatus, Answer}
use Rattle.rules.specs.Names.status
use Rattle.rules.specs.Answers.{Told, ok, accept, replay, discard, sent, batch, refused, told}
use Rattle.trace.specs.Ascii.{ascii}
use Rattle.trace.specs.declared.text.Text.{Text}

-- a number in decimal, in at most k digits
unfoldable pub digits : ℕ → ℕ → List ℕ
digits zero n = []
digits (suc k) n = if ltb n 10 then (48 + n) ∷ [] else digits k (n / 10) ++ ((48 + n % 10) ∷ [])

-- 2^64-1 has 20 of them
abbrev pub most_digits : ℕ
most_digits = 20

abbrev pub decimal : ℕ → List ℕ
decimal n = digits most_digits n

-- each number after a colon
abbrev pub colons : List ℕ → List ℕ
colons [] = []
colons (n ∷ l) = ascii ":" ++ (decimal n ++ colons l)

-- "Answers: `ok`, `accept` or `accept:n`, `replay:n`, `discard`, `sent` or `sent:n`, `batch:from:count`, `refused:n`"
abbrev pub answer_text : Told → List ℕ
answer_text ok = ascii "ok"
answer_text (accept l) = ascii "accept" ++ colons l
answer_text (replay l) = ascii "replay" ++ colons l
answer_text discard = ascii "discard"
answer_text (sent l) = ascii "sent" ++ colons l
answer_text (batch from count) = ascii "batch" ++ colons (from ∷ count ∷ [])
answer_text (refused n l) = ascii "refused" ++ colons (n ∷ [])

-- "status after (`unbound`, `established`, `terminating`, `closing`)"
abbrev pub status_text : SessionStatus → List ℕ
status_text status.Unbound = ascii "unbound"
status_text status.Established = ascii "established"
status_text status.Terminating = ascii "terminating"
status_text status.Closing = ascii "closing"

-- "expected number or `-`"
abbrev pub expected_text : Option SeqNum → List ℕ
expected_text None = ascii "-"
expected_text (Some n) = decimal n.0

-- the fields of a line, with a space between two of them
abbrev pub spaced : List ℕ → List (List ℕ) → List ℕ
spaced w [] = w ++ ascii "\n"
spaced w (v ∷ l) = w ++ (ascii " " ++ spaced v l)

-- "A line holds index (from 0), answer, status after, expected number or `-`, number of gaps, outputs of this record."
unfoldable pub line_text : ℕ → Answer → SessionStatus → Option SeqNum → ℕ → ℕ → List ℕ
line_text index a s expected gaps outputs =
    spaced (decimal index) (answer_text (told a) ∷ status_text s ∷ expected_text expected ∷ decimal gaps ∷ decimal outputs ∷ [])

-- "Empty input prints the first and last line."
abbrev pub first_text : List ℕ
first_text = ascii "fixp-trace 1\n"

abbrev pub end_text : ℕ → List ℕ
end_text missing = ascii "end missing " ++ (decimal missing ++ ascii "\n")

-- "prints `stop` and its index in place of that last line"
abbrev pub stop_text : ℕ → List ℕ
stop_text index = ascii "stop " ++ (decimal index ++ ascii "\n")

-- ---- a line as it is put together
-- six numbers, `batch::`, the longest status, five spaces and the line's end
abbrev pub max_line : ℕ
max_line = 144

-- the first `at` bytes of a buffer stand as before, with t behind them up to r: at most `most` bytes
pub record Adds (before : List ℕ) (at : ℕ) (t : List ℕ) (most : ℕ) (after : List ℕ) (r : ℕ) : Type 0 where
  pub is : take r after ≡ take at before ++ t
  pub room : r ≤ at + most

-- the same of a buffer that is kept with the number of bytes written: it stays that buffer, and as long
pub record Writes (before : Text) (t : List ℕ) (most : ℕ) (after : Text) : Type 0 where
  pub same : after.out.ghost_name ≡ before.out.ghost_name
  pub long : length after.out.now ≡ length before.out.now
  pub adds : Adds before.out.now before.len t most after.out.now after.len
