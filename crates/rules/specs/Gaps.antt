-- 01, "Gaps": the list of gaps and the list of overflow runs.
use Rattle.std.specs.Prelude.{ℕ, ◌+◌, Bool, true, false, List, [], ◌∷◌, ◌++◌, length, ltb, leb, eqb, if◌then◌else◌, Option, Some, None}
use Rattle.rules.specs.Names.{SeqNum, Gap}
use Rattle.rules.specs.Lists.{rest, front_of, back_of, set_back, drop_below}
use Rattle.rules.specs.State.{Lists}

-- "the gap list 65, the list of overflow runs 256"
abbrev pub max_gaps : ℕ
max_gaps = 65

abbrev pub max_runs : ℕ
max_runs = 256

abbrev pub gap_of : SeqNum → SeqNum → Gap
gap_of from end = record { from = from; end = end }

abbrev pub lists : List Gap → List Gap → Lists
lists m r = record { missing = m; overflow_received = r }

-- the lists, and whether the gap was kept
pub record Kept : Type 0 where
  pub gaps : Lists
  pub ok : Bool

abbrev pub kept : Lists → Bool → Kept
kept g t = record { gaps = g; ok = t }

abbrev pub appended : SeqNum → SeqNum → Lists → Lists
appended from end g = lists (g.missing ++ (gap_of from end ∷ [])) g.overflow_received

-- "below max_pending_gaps, it is appended"
unfoldable pub append_gap : ℕ → SeqNum → SeqNum → Lists → Kept
append_gap max from end g = if leb max (length g.missing) then kept g false else kept (appended from end g) true

abbrev pub record_at : Option Gap → ℕ → SeqNum → SeqNum → Lists → Kept
record_at None max from end g = append_gap max from end g
record_at (Some last) max from end g =
    if eqb last.end.0 from.0 then kept (lists (set_back g.missing (gap_of last.from end)) g.overflow_received) true else
    append_gap max from end g

-- "A gap touching the last one extends it. Else, below max_pending_gaps, it is appended."
unfoldable pub record_gap : ℕ → SeqNum → SeqNum → Lists → Kept
record_gap max from end g = record_at (back_of g.missing) max from end g

unfoldable pub later_of : SeqNum → SeqNum → SeqNum
later_of a b = if ltb a.0 b.0 then b else a

-- the last gap reaches to end
unfoldable pub widen : Gap → SeqNum → Lists → Lists
widen last end g = lists (set_back g.missing (gap_of last.from (later_of last.end end))) g.overflow_received

-- "joined to it with the numbers received between kept as an overflow run"; "A 257th run is refused"
abbrev pub hold_at : Option Gap → SeqNum → SeqNum → Lists → Kept
hold_at None from end g = kept (appended from end g) true
hold_at (Some last) from end g =
    if leb from.0 last.end.0 then kept (widen last end g) true else
    (if leb max_runs (length g.overflow_received) then kept g false else
    kept (widen last end (lists g.missing (g.overflow_received ++ (gap_of last.end from ∷ [])))) true)

-- "Else it is held: appended as one more, or, if one more is already there, joined to it"
unfoldable pub hold_refused_gap : ℕ → SeqNum → SeqNum → Lists → Kept
hold_refused_gap max from end g =
    if leb (length g.missing) max then kept (appended from end g) true else
    hold_at (back_of g.missing) from end g

-- the lists, and whether the number is in an overflow run
pub record Seen : Type 0 where
  pub gaps : Lists
  pub duplicate : Bool

abbrev pub starts_by : Option Gap → ℕ → Bool
starts_by None n = false
starts_by (Some run) n = leb run.from.0 n

-- "a number in an overflow run is discarded"; the runs wholly below it are dropped
unfoldable pub received_in_overflow : SeqNum → Lists → Seen
received_in_overflow seq g =
    record {
      gaps = lists g.missing (drop_below seq.0 g.overflow_received);
      duplicate = starts_by (front_of (drop_below seq.0 g.overflow_received)) seq.0;
    }

-- with the last gap all runs go
abbrev pub runs_with : List Gap → List Gap → List Gap
runs_with [] runs = []
runs_with (g ∷ l) runs = runs

unfoldable pub drop_first : Lists → Lists
drop_first g = lists (rest g.missing) (runs_with (rest g.missing) g.overflow_received)

abbrev pub consume_at : Option Gap → ℕ → Lists → Lists
consume_at None count g = g
consume_at (Some first) count g =
    if ltb (first.from.0 + count) first.end.0 then lists (gap_of (record { 0 = first.from.0 + count }) first.end ∷ rest g.missing) g.overflow_received else
    drop_first g

-- the first count numbers of the first gap are recovered or abandoned
unfoldable pub consume_missing : ℕ → Lists → Lists
consume_missing count g = if eqb count 0 then g else consume_at (front_of g.missing) count g
