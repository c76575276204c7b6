-- The first record is an open, or the run stops there; its line comes first, and then what stands behind it.
use Rattle.std.specs.Prelude.{None, Some, if◌then◌else◌}
use Prim.Native.Nat.{ℕ, ◌-◌}
use mathlib.Core.Path.{◌≡◌, ap, sym, ◌∙◌}
use mathlib.Core.List.{List, ◌++◌}
use native.Mathlib.Omega.{arith}
use lib.ListN.{length, take}
use lib.Dec.{ltb}
use Rattle.rules.specs.Names.status
use Rattle.session.proofs.Laws.{is_true, is_false}
use Rattle.trace.specs.Format.{decode}
use Rattle.trace.specs.Text.{line_text, stop_text, end_text}
use Rattle.trace.specs.declared.records.Record.{Record}
use Rattle.calls.specs.View.{world_of}
use Rattle.replay.specs.Run.{records_from, lines_from, lines_of}
use Rattle.replay.proofs.Runs.{at-start, open-framed, records-none}
use Rattle.replay.proofs.Opens.{not-open, first-lines, lines-without, open-refused, open-passed, prints-then}
use Rattle.replay.proofs.run_from_open.Goals as goal

pub returns-in_default : goal.returns-in_default
returns-in_default c =
    let n = at-start c.new-records.result.bytes c.new-records.result.at c.args.s None c.next_record.new.self.at c.new-records.ensures.0 c.new-records.ensures.1 c.in_default.ensures.next in
    record {
      is = c.end_line.ensures.is ∙ ap (λ (x : List Record). take c.args.first c.args.out.now ++ lines_of x) (sym (records-none (length c.args.s.now) c.args.s.now 0 n.0));
      inside = omega (arith, c.end_line.ensures.room, c.end_line.auto.out, c.requires);
    }

pub returns-in_default-entry : goal.returns-in_default-entry
returns-in_default-entry c =
    let n = at-start c.new-records.result.bytes c.new-records.result.at c.args.s (Some c.in-Some.bytes) c.next_record.new.self.at c.new-records.ensures.0 c.new-records.ensures.1 c.in-Some.ensures.next in
    let s = c.args.s.now in
    let e = c.read_record.result.entry in
    record {
      is =
          c.stop_line.ensures.is
          ∙ ap (λ (x : List ℕ). take c.args.first c.args.out.now ++ x)
          (sym (not-open e (records_from (length s - 1) s (length c.in-Some.bytes.now)) c.in_default-entry.not-Open)
          ∙ first-lines s c.read_record.result (length c.in-Some.bytes.now) n.0 (c.read_record.ensures ∙ ap decode n.1.part.bytes) n.1.size);
      inside = omega (arith, c.stop_line.ensures.room, c.stop_line.auto.out, c.requires);
    }

pub returns-then-is_err : goal.returns-then-is_err
returns-then-is_err c =
    let n = at-start c.new-records.result.bytes c.new-records.result.at c.args.s (Some c.in-Some.bytes) c.next_record.new.self.at c.new-records.ensures.0 c.new-records.ensures.1 c.in-Some.ensures.next in
    let s = c.args.s.now in
    let at = length c.in-Some.bytes.now in
    let rest = records_from (length s - 1) s at in
    let long = open-framed _ _ _ _ _ (ap (λ (x : Record). x.entry) (sym c.read_record.ensures) ∙ c.in-Open.is) in
    let here : ◌≡◌ {A = ℕ} c.next_record.new.self.at at = n.2 ∙ omega arith in
    let same : c.next_record.new.self.bytes ≡ c.args.s = c.next_record.ensures.bytes_kept ∙ c.new-records.ensures.0 in
    record {
      is =
          prints-then c.args.out.now c.record_line-next.new.out c.run_refused.new.out _ _ _ c.args.first c.record_line-next.result c.run_refused.result c.record_line-next.ensures.is c.run_refused.ensures.is
          ((λ i. line_text 0 c.open-opened.result.answer status.Unbound None 0 0 ++ (if ltb (here i) (length (same i).now) then stop_text 1 else end_text 0))
          ∙ ap (λ (x : List ℕ). line_text 0 c.open-opened.result.answer status.Unbound None 0 0 ++ x) (sym (lines-without s at (omega (arith, long))))
          ∙ open-refused c.read_record.result.entry c.in-Open.is c.open-opened.result rest c.open-opened.ensures (is_true c.is_err.ensures.value c.if-is_err.true)
          ∙ first-lines s c.read_record.result at n.0 (c.read_record.ensures ∙ ap decode n.1.part.bytes) n.1.size);
      inside = omega (arith, c.run_refused.ensures.room, c.run_refused.auto.out, c.record_line-next.ensures.room, c.record_line-next.auto.out, c.requires);
    }

pub run-requires-clause-behind_an_open : goal.run-requires-clause-behind_an_open
run-requires-clause-behind_an_open c =
    let n = at-start c.new-records.result.bytes c.new-records.result.at c.args.s (Some c.in-Some.bytes) c.next_record.new.self.at c.new-records.ensures.0 c.new-records.ensures.1 c.in-Some.ensures.next in
    let long = open-framed _ _ _ _ _ (ap (λ (x : Record). x.entry) (sym c.read_record.ensures) ∙ c.in-Open.is) in
    omega (arith, long, n.2)

pub returns : goal.returns
returns c =
    let n = at-start c.new-records.result.bytes c.new-records.result.at c.args.s (Some c.in-Some.bytes) c.next_record.new.self.at c.new-records.ensures.0 c.new-records.ensures.1 c.in-Some.ensures.next in
    let s = c.args.s.now in
    let at = length c.in-Some.bytes.now in
    let rest = records_from (length s - 1) s at in
    let o = c.open-opened.result in
    let here : ◌≡◌ {A = ℕ} c.next_record.new.self.at at = n.2 ∙ omega arith in
    let same : c.next_record.new.self.bytes ≡ c.args.s = c.next_record.ensures.bytes_kept ∙ c.new-records.ensures.0 in
    let printed = c.run.ensures.is ∙ (λ i. take c.line_of-next.result c.line_of-next.new.out ++ lines_from 1 (world_of o.session o.link o.queue) (records_from (length (same i).now - 1) (same i).now (here i))) in
    record {
      is =
          prints-then c.args.out.now c.line_of-next.new.out c.run.new.out _ _ _ c.args.first c.line_of-next.result c.run.result c.line_of-next.ensures.is printed
          (open-passed c.read_record.result.entry c.in-Open.is o rest c.open-opened.ensures (is_false c.is_err.ensures.value c.if-is_err.false)
          ∙ first-lines s c.read_record.result at n.0 (c.read_record.ensures ∙ ap decode n.1.part.bytes) n.1.size);
      inside = c.run.ensures.inside;
    }
