-- The rules of Gaps by their cases: what each answers, given the tests that lead there.
use Rattle.std.specs.Prelude.{Some, None}
use Prim.Native.Nat.{ℕ, ◌+◌, ◌<◌, ◌≤◌}
use mathlib.Core.Path.{◌≡◌}
use mathlib.Core.List.{[], ◌∷◌, ◌++◌}
use mathlib.Core.Bool.{true, false}
use borrow.Author.Tests.{lt-ltb, le-ltb, le-leb, lt-leb, eq-eqb, ne_eqb}
use lib.ListN.{length}
use Rattle.rules.specs.Names.{SeqNum, Gap}
use Rattle.rules.specs.Lists.{rest, front_of, back_of, set_back}
use Rattle.rules.specs.State.{Lists}
use Rattle.rules.specs.Gaps.{max_runs, gap_of, lists, kept, appended, append_gap, record_gap, widen, hold_refused_gap, drop_first, consume_missing}

module _ (max : ℕ) (from end : SeqNum) (l : Lists) where
  pub append-full : max ≤ length l.missing → append_gap max from end l ≡ kept l false
  unfolding append_gap
  append-full h = rw (le-leb max (length l.missing) h)

  pub append-room : length l.missing < max → append_gap max from end l ≡ kept (appended from end l) true
  unfolding append_gap
  append-room h = rw (lt-leb max (length l.missing) h)

  -- the first gap
  pub record-first : back_of l.missing ≡ None → record_gap max from end l ≡ append_gap max from end l
  unfolding record_gap
  record-first e = rw e

  pub record_apart : (last : Gap) → back_of l.missing ≡ Some last → (last.end.0 ≡ from.0 → ⊥) → record_gap max from end l ≡ append_gap max from end l
  unfolding record_gap
  record_apart last e n = rw (e, ne_eqb last.end.0 from.0 n)

  pub record-touching : (last : Gap) → back_of l.missing ≡ Some last → last.end.0 ≡ from.0 → record_gap max from end l ≡ kept (lists (set_back l.missing (gap_of last.from end)) l.overflow_received) true
  unfolding record_gap
  record-touching last e n = rw (e, eq-eqb last.end.0 from.0 n)

  -- a refused gap takes the place above max
  pub hold-first : length l.missing ≤ max → hold_refused_gap max from end l ≡ kept (appended from end l) true
  unfolding hold_refused_gap
  hold-first h = rw (le-leb (length l.missing) max h)

  -- or is joined to the gap there
  module _ (last : Gap) (above : max < length l.missing) (e : back_of l.missing ≡ Some last) where
    pub hold-touching : from.0 ≤ last.end.0 → hold_refused_gap max from end l ≡ kept (widen last end l) true
    unfolding hold_refused_gap
    hold-touching h = rw (lt-leb (length l.missing) max above, e, le-leb from.0 last.end.0 h)

    pub hold-full : last.end.0 < from.0 → max_runs ≤ length l.overflow_received → hold_refused_gap max from end l ≡ kept l false
    unfolding hold_refused_gap
    hold-full h k = rw (lt-leb (length l.missing) max above, e, lt-leb from.0 last.end.0 h, le-leb max_runs (length l.overflow_received) k)

    pub hold-run : last.end.0 < from.0 → length l.overflow_received < max_runs → hold_refused_gap max from end l ≡ kept (widen last end (lists l.missing (l.overflow_received ++ (gap_of last.end from ∷ [])))) true
    unfolding hold_refused_gap
    hold-run h k = rw (lt-leb (length l.missing) max above, e, lt-leb from.0 last.end.0 h, lt-leb max_runs (length l.overflow_received) k)

module _ (count : ℕ) (l : Lists) where
  pub consume-zero : count ≡ 0 → consume_missing count l ≡ l
  unfolding consume_missing
  consume-zero h = rw (eq-eqb count 0 h)

  pub consume-none : (count ≡ 0 → ⊥) → front_of l.missing ≡ None → consume_missing count l ≡ l
  unfolding consume_missing
  consume-none h e = rw (ne_eqb count 0 h, e)

  -- of the gap first
  module _ (first : Gap) (some : count ≡ 0 → ⊥) (e : front_of l.missing ≡ Some first) where
    pub consume-whole : first.end.0 ≤ first.from.0 + count → consume_missing count l ≡ drop_first l
    unfolding consume_missing
    consume-whole h = rw (ne_eqb count 0 some, e, le-ltb (first.from.0 + count) first.end.0 h)

    pub consume-part : first.from.0 + count < first.end.0 → consume_missing count l ≡ lists (gap_of (record { 0 = first.from.0 + count }) first.end ∷ rest l.missing) l.overflow_received
    unfolding consume_missing
    consume-part h = rw (ne_eqb count 0 some, e, lt-ltb (first.from.0 + count) first.end.0 h)
