-- What the trace program prints: the rule book's calls over the records of its input, a line for each (01, "Trace program").
use Rattle.std.specs.Prelude.{ℕ, zero, suc, ◌+◌, ◌≤◌, ◌≡◌, Bool, true, false, List, [], ◌∷◌, ◌++◌, length, take, drop, leb, ltb, if◌then◌else◌, None, Ok, Err}
use Rattle.types.specs.States.{link_status}
use Rattle.rules.specs.Names.status
use Rattle.rules.specs.Names.verdict
use Rattle.rules.specs.Queries.{next_inbound_seq}
use Rattle.rules.specs.Local.{Refused, passes, refuses}
use Rattle.rules.specs.Calls.{World, world, Call, Ran, call, opening, opened}
use Rattle.trace.specs.Format.{decode}
use Rattle.trace.specs.Places.{size_at}
use Rattle.trace.specs.Text.{line_text, first_text, end_text, stop_text}
use Rattle.trace.specs.declared.records.Record.{Record}
use Rattle.trace.specs.declared.records.Entry.{Entry}
use Rattle.trace.specs.declared.records.Entry.TheVariants as entry
use Rattle.dispatch.specs.Entries.{call_of, is_call}
use Rattle.replay.specs.Missing.{missing_figure}

-- "The program reads up to 65,536 bytes"
abbrev pub max_input : ℕ
max_input = 65536

-- room for every line of the longest input
abbrev pub max_output : ℕ
max_output = 524288

-- ---- the records
-- at most k records from a place on, one behind the other; bytes that are no record are a malformed one
unfoldable pub records_from : ℕ → List ℕ → ℕ → List Record
records_from zero s at = []
records_from (suc k) s at = if ltb at (length s) then decode (take (size_at s at) (drop at s)) ∷ records_from k s (at + size_at s at) else []

abbrev pub records : List ℕ → List Record
records s = records_from (length s) s 0

-- "A malformed record, any later open": the run stops there
abbrev pub goes_on : Entry → Bool
goes_on e = is_call e

abbrev pub asks : Record → Call
asks r = call_of r.entry r.now r.stamp r.reason

-- ---- the lines
-- "empties the queue after each record"
abbrev pub emptied : World → World
emptied w = world w.session w.link (record { outs = []; closing = w.queue.closing })

-- "index (from 0), answer, status after, expected number or `-`, number of gaps, outputs of this record"
abbrev pub line_after : ℕ → Ran → List ℕ
line_after index r =
    line_text index r.answer (link_status r.world.link.binding) (next_inbound_seq r.world.session) (length r.world.session.gaps.missing) (length r.world.queue.outs)

-- the records behind an open, and the last line or the `stop` in its place
unfoldable pub lines_from : ℕ → World → List Record → List ℕ
lines_from index w [] = end_text (missing_figure w.session.gaps.missing)
lines_from index w (r ∷ l) =
    if goes_on r.entry then line_after index (call (asks r) w) ++ lines_from (index + 1) (emptied (call (asks r) w).world) l
    else stop_text index

-- "A refused open [...] leaves no session": any record behind it stops the run
abbrev pub lines_without : List Record → List ℕ
lines_without [] = end_text 0
lines_without (r ∷ l) = stop_text 1

-- "A refused open prints `refused:2 unbound - 0 0`"
abbrev pub lines_opened : Refused → World → List Record → List ℕ
lines_opened passes w l = line_after 0 (record { world = w; answer = Ok verdict.Done }) ++ lines_from 1 w l
lines_opened (refuses x) w l = line_text 0 (Err x) status.Unbound None 0 0 ++ lines_without l

-- "a record with no session": the first is an open
abbrev pub lines_open : Entry → List Record → List ℕ
lines_open (entry.Open i l r g) rest = lines_opened (opening g) (opened i l r g) rest
lines_open (entry.Bind l r n) rest = stop_text 0
lines_open entry.Release rest = stop_text 0
lines_open entry.Application rest = stop_text 0
lines_open (entry.Peer m) rest = stop_text 0
lines_open entry.Send rest = stop_text 0
lines_open (entry.Terminate k) rest = stop_text 0
lines_open (entry.Retransmit n) rest = stop_text 0
lines_open (entry.Reject k) rest = stop_text 0
lines_open entry.End rest = stop_text 0
lines_open entry.Timeout rest = stop_text 0
lines_open entry.Malformed rest = stop_text 0

-- "Empty input prints the first and last line."
abbrev pub lines_of : List Record → List ℕ
lines_of [] = end_text 0
lines_of (r ∷ l) = lines_open r.entry l

-- "an input too long prints only `stop 0`"
abbrev pub trace_text : List ℕ → List ℕ
trace_text s = if leb (length s) max_input then first_text ++ lines_of (records s) else stop_text 0

-- ---- a buffer
-- the first `at` bytes stand as before, with t behind them up to r
pub record Prints (before : List ℕ) (at : ℕ) (t : List ℕ) (after : List ℕ) (r : ℕ) : Type 0 where
  pub is : take r after ≡ take at before ++ t
  pub inside : r ≤ length after

-- the whole text, or nothing in a buffer too short, which stays as it is
abbrev pub Whole : Bool → List ℕ → List ℕ → List ℕ → ℕ → Type 0
Whole true s before after r = take r after ≡ trace_text s
Whole false s before after r = (after ≡ before) × (r ≡ 0)

pub record TraceIs (fits : Bool) (s before after : List ℕ) (r : ℕ) : Type 0 where
  pub is : Whole fits s before after r
  pub inside : r ≤ length after
