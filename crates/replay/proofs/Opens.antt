-- Laws of a trace's beginning: its first record is an open, which is refused or begins the run.
use Rattle.std.specs.Prelude.{if◌then◌else◌, None}
use Prim.Native.Nat.{ℕ, ◌+◌, ◌-◌, ◌<◌, ◌≤◌}
use mathlib.Core.Path.{◌≡◌, refl, ap, sym, ◌∙◌}
use mathlib.Core.Bool.{true, false, false≢true, true≢false}
use mathlib.Core.List.{List, ◌++◌, append_assoc}
use native.Mathlib.Omega.{arith}
use native.Mathlib.Decide.{dec_lt}
use borrow.Author.Tests.{lt-ltb, le-ltb}
use lib.ListN.{length, take, drop}
use lib.Dec.{ltb}
use Rattle.types.specs.States.{link_status}
use Rattle.rules.specs.Names.{SessionId, FlowType, FixpConfig}
use Rattle.rules.specs.Names.status
use Rattle.rules.specs.Queries.{next_inbound_seq}
use Rattle.rules.specs.Local.{Refused, passes, refuses}
use Rattle.rules.specs.Calls.{Ran, opening, opened}
use Rattle.session.specs.View.{view}
use Rattle.calls.specs.View.{world_of, Done, opened_as}
use Rattle.types.specs.Answers.{is_refused}
use Rattle.calls.specs.declared.Called.{Called}
use Rattle.trace.specs.Format.{decode}
use Rattle.trace.specs.Places.{size_at}
use Rattle.trace.specs.Text.{line_text, stop_text, end_text}
use Rattle.trace.specs.declared.records.Record.{Record}
use Rattle.trace.specs.declared.records.Entry.{Entry}
use Rattle.trace.specs.declared.records.Entry.TheVariants as entry
use Rattle.replay.specs.Run.{records_from, records, lines_from, lines_without, lines_opened, lines_open, lines_of}
use Rattle.replay.proofs.Runs.{records-next, records-none}

pub not-open : (e : Entry) (rest : List Record) → ((i : SessionId) (l r : FlowType) (g : FixpConfig) → ¬ (e ≡ entry.Open i l r g)) → lines_open e rest ≡ stop_text 0
not-open (entry.Open i l r g) rest h = absurd (h i l r g refl)
not-open (entry.Bind l r n) rest h = refl
not-open entry.Release rest h = refl
not-open entry.Application rest h = refl
not-open (entry.Peer m) rest h = refl
not-open entry.Send rest h = refl
not-open (entry.Terminate k) rest h = refl
not-open (entry.Retransmit n) rest h = refl
not-open (entry.Reject k) rest h = refl
not-open entry.End rest h = refl
not-open entry.Timeout rest h = refl
not-open entry.Malformed rest h = refl

-- the lines of a trace by its first record
pub first-lines : (s : List ℕ) (r : Record) (len : ℕ) → 0 < length s → r ≡ decode (take (size_at s 0) (drop 0 s)) → len ≡ size_at s 0 → lines_open r.entry (records_from (length s - 1) s len) ≡ lines_of (records s)
first-lines s r len h e l =
    let k : len ≡ 0 + size_at s 0 = l ∙ omega arith in
    (λ i. lines_open (e i).entry (records_from (length s - 1) s (k i)))
    ∙ ap lines_of (sym (records-next (length s) s 0 h (omega arith)))

-- behind a refused open: by whether anything is left
pub lines-without : (s : List ℕ) (start : ℕ) → 0 < start → lines_without (records_from (length s - 1) s start) ≡ (if ltb start (length s) then stop_text 1 else end_text 0)
lines-without s start h = go (dec_lt start (length s))
  where
    go : Dec (start < length s) → lines_without (records_from (length s - 1) s start) ≡ (if ltb start (length s) then stop_text 1 else end_text 0)
    go (yes k) = rw (lt-ltb start (length s) k, records-next (length s - 1) s start k (omega arith))
    go (no k) =
        let m : length s ≤ start = omega arith in
        rw (le-ltb start (length s) m, records-none (length s - 1) s start m)

-- the open's line, and what stands behind it: refused, and not
pub open-refused : {i : SessionId} {l r : FlowType} {g : FixpConfig} (x : Entry) → x ≡ entry.Open i l r g → (d : Called) (rest : List Record) → Done d (opened_as (opening g) (opened i l r) g) → is_refused d.answer ≡ true → line_text 0 d.answer status.Unbound None 0 0 ++ lines_without rest ≡ lines_open x rest
open-refused {i} {l} {r} {g} x e d rest h y = go (opening g) h ∙ ap (λ (u : Entry). lines_open u rest) (sym e)
  where
    go : (f : Refused) → Done d (opened_as f (opened i l r) g) → line_text 0 d.answer status.Unbound None 0 0 ++ lines_without rest ≡ lines_opened f (opened i l r g) rest
    go passes h = absurd (true≢false (sym y ∙ ap (λ (x : Ran). is_refused x.answer) h.is))
    go (refuses x) h = ap (λ (x : Ran). line_text 0 x.answer status.Unbound None 0 0 ++ lines_without rest) h.is

pub open-passed : {i : SessionId} {l r : FlowType} {g : FixpConfig} (x : Entry) → x ≡ entry.Open i l r g → (d : Called) (rest : List Record) → Done d (opened_as (opening g) (opened i l r) g) → is_refused d.answer ≡ false → line_text 0 d.answer (link_status d.link.binding) (next_inbound_seq (view d.session)) (length (view d.session).gaps.missing) 0 ++ lines_from 1 (world_of d.session d.link d.queue) rest ≡ lines_open x rest
open-passed {i} {l} {r} {g} x e d rest h n = go (opening g) h ∙ ap (λ (u : Entry). lines_open u rest) (sym e)
  where
    go : (f : Refused) → Done d (opened_as f (opened i l r) g) → line_text 0 d.answer (link_status d.link.binding) (next_inbound_seq (view d.session)) (length (view d.session).gaps.missing) 0 ++ lines_from 1 (world_of d.session d.link d.queue) rest ≡ lines_opened f (opened i l r g) rest
    go passes h = ap (λ (x : Ran). line_text 0 x.answer (link_status x.world.link.binding) (next_inbound_seq x.world.session) (length x.world.session.gaps.missing) 0 ++ lines_from 1 x.world rest) h.is
    go (refuses x) h = absurd (false≢true (sym n ∙ ap (λ (x : Ran). is_refused x.answer) h.is))

-- ---- one text behind another
pub prints-then : (a b c t u v : List ℕ) (i j k : ℕ) → take j b ≡ take i a ++ t → take k c ≡ take j b ++ u → t ++ u ≡ v → take k c ≡ take i a ++ v
prints-then a b c t u v i j k p q e = q ∙ ap (λ (x : List ℕ). x ++ u) p ∙ append_assoc (take i a) t u ∙ ap (λ (x : List ℕ). take i a ++ x) e
