-- What was printed and what the records from here on print are the goal: each record adds its line and leaves what its call leaves.
use Rattle.std.specs.Prelude.{Some, None}
use Prim.Native.Nat.{◌-◌}
use lib.ListN.{length}
use mathlib.Core.Path.{refl, ap, ◌∙◌}
use native.Mathlib.Omega.{arith}
use Rattle.session.proofs.Laws.{is_true, is_false}
use Rattle.trace.specs.Format.{decode}
use Rattle.trace.specs.declared.records.Record.{Record}
use Rattle.replay.specs.Run.{goes_on}
use Rattle.replay.proofs.Runs.{next-of, runs_on, runs-stop, runs-end, goes-on-framed, sound-missing}
use Rattle.replay.proofs.run.Goals as goal

pub loop-bytes-init : goal.loop-bytes-init
loop-bytes-init c =
    let q = c.requires in
    (refl, record { inside = q.in_bounds; steps = omega (arith, q.behind_an_open); wrote_in = omega (arith, q.first_lines); same = refl; session_wf = q.in_order.0; queue_wf = q.in_order.1; left = length c.args.records.bytes.now - 1; enough = omega (arith, q.behind_an_open); said = refl })

pub returns-then-not-is_call : goal.returns-then-not-is_call
returns-then-not-is_call c =
    let n = next-of c.args.records.bytes c.loop-bytes.records.bytes c.loop-bytes.records.at (Some c.in-Some.bytes) c.next_record.new.self.at c.loop-bytes.invariant.0 c.in-Some.ensures.next in
    let i = c.loop-bytes.invariant.1 in
    record {
      is = runs-stop _ _ _ _ _ _ _ _ _ _ i n.0 c.read_record-record.result (c.read_record-record.ensures ∙ ap decode n.1.part.bytes) (is_false c.is_call.ensures c.if-not-is_call.true) c.stop_line.new.out c.stop_line.result c.stop_line.ensures.is;
      inside = omega (arith, c.stop_line.ensures.room, c.stop_line.auto.out, i.same, i.wrote_in, i.steps, n.0, c.requires);
    }

pub stop_line-requires : goal.stop_line-requires
stop_line-requires c = let i = c.loop-bytes.invariant.1 in let n = next-of c.args.records.bytes c.loop-bytes.records.bytes c.loop-bytes.records.at (Some c.in-Some.bytes) c.next_record.new.self.at c.loop-bytes.invariant.0 c.in-Some.ensures.next in omega (arith, i.same, i.wrote_in, i.steps, n.0, c.requires)

pub line_of-wrote-requires : goal.line_of-wrote-requires
line_of-wrote-requires c = let i = c.loop-bytes.invariant.1 in let n = next-of c.args.records.bytes c.loop-bytes.records.bytes c.loop-bytes.records.at (Some c.in-Some.bytes) c.next_record.new.self.at c.loop-bytes.invariant.0 c.in-Some.ensures.next in omega (arith, i.same, i.wrote_in, i.steps, n.0, c.requires)

pub overflow_add-index : goal.overflow_add-index
overflow_add-index c = let i = c.loop-bytes.invariant.1 in let n = next-of c.args.records.bytes c.loop-bytes.records.bytes c.loop-bytes.records.at (Some c.in-Some.bytes) c.next_record.new.self.at c.loop-bytes.invariant.0 c.in-Some.ensures.next in omega (arith, i.steps, n.0, c.requires.input_len)

pub loop-bytes-smaller : goal.loop-bytes-smaller
loop-bytes-smaller c =
    let n = next-of c.args.records.bytes c.loop-bytes.records.bytes c.loop-bytes.records.at (Some c.in-Some.bytes) c.next_record.new.self.at c.loop-bytes.invariant.0 c.in-Some.ensures.next in
    let long = goes-on-framed _ (is_true (c.is_call.ensures ∙ ap (λ (x : Record). goes_on x.entry) c.read_record-record.ensures) c.if-not-is_call.false) in
    omega (arith, long, n.0, n.1.inside, n.2)

pub loop-bytes-preserved : goal.loop-bytes-preserved
loop-bytes-preserved c =
    let n = next-of c.args.records.bytes c.loop-bytes.records.bytes c.loop-bytes.records.at (Some c.in-Some.bytes) c.next_record.new.self.at c.loop-bytes.invariant.0 c.in-Some.ensures.next in
    let i = c.loop-bytes.invariant.1 in
    let r = c.read_record-record.result in
    let h = c.step-told.new.self in
    let long = goes-on-framed _ (is_true (c.is_call.ensures ∙ ap (λ (x : Record). goes_on x.entry) c.read_record-record.ensures) c.if-not-is_call.false) in (
      c.next_record.ensures.bytes_kept ∙ c.loop-bytes.invariant.0,
      rw n.2 (runs_on _ _ _ _ _ _ _ _ _ _ i n.0 r (c.read_record-record.ensures ∙ ap decode n.1.part.bytes) (is_true c.is_call.ensures c.if-not-is_call.false) h.session h.link h.queue c.step-told.result.answer c.step-told.result.outputs c.step-told.ensures c.line_of-wrote.new.out c.line_of-wrote.result c.line_of-wrote.ensures c.line_of-wrote.auto.out _ n.1.size long n.1.inside),
    )

pub end_line-requires : goal.end_line-requires
end_line-requires c = let i = c.loop-bytes.invariant.1 in omega (arith, i.same, i.wrote_in, i.steps, i.inside, c.requires)

pub returns : goal.returns
returns c =
    let i = c.loop-bytes.invariant.1 in
    let n = next-of c.args.records.bytes c.loop-bytes.records.bytes c.loop-bytes.records.at None c.next_record.new.self.at c.loop-bytes.invariant.0 c.in_default.ensures.next in
    record {
      is = runs-end _ _ _ _ _ _ _ _ _ _ i n.0 c.end_line.new.out c.end_line.result c.missing_in.result (c.missing_in.ensures ∙ sound-missing c.loop-bytes.held.session i.session_wf) c.end_line.ensures.is;
      inside = omega (arith, c.end_line.ensures.room, c.end_line.auto.out, i.same, i.wrote_in, i.steps, i.inside, c.requires);
    }
