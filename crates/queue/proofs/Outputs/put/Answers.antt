-- Nothing to say, or no place for it: the queue as it was. Else each turn puts one more line behind what is there.
use borrow.Author.Rules.{rules}
use borrow.Author.Tests.{eq-eqb, ne_eqb}
use native.Mathlib.Omega.{arith}
use Prim.Native.Nat.{ℕ, ◌+◌, ◌<◌}
use mathlib.Core.Path.{◌≡◌, refl, sym, ap, ◌∙◌}
use mathlib.Core.Bool.{true, false≢true}
use mathlib.Core.List.{[], ◌∷◌, ◌++◌}
use lib.ListN.{length, length-append, get_or, take}
use Rattle.std.proofs.lemmas.List.{length-take-le, get_or-take}
use Rattle.types.specs.Outputs.{output_of}
use Rattle.rules.specs.Names.{Output}
use Rattle.rules.specs.State.{Queue, queued}
use Rattle.rules.specs.Calls.{room_for_call}
use Rattle.rings.specs.Ring.{ring_list}
use Rattle.rings.proofs.Laws.{long_of}
use Rattle.queue.specs.Added.{no_line, lines_of, said_in}
use Rattle.queue.specs.View.{queue_of, outs_of, takes}
use Rattle.queue.proofs.Laws.{outs-length, queued-append, queued-none, said-none, get_d_any, first_more, taken-room}
use Rattle.queue.proofs.Outputs.put.Invariants.{first_of}
use Rattle.queue.proofs.Outputs.put.Goals as goal

pub returns-then-added-eq0 : goal.returns-then-added-eq0
returns-then-added-eq0 c =
    let q = c.args.self in
    let a = c.args.added in
    let e : a.count ≡ 0 = c.if-added-eq0.true in
    record {
      answer = rw (eq-eqb _ _ e);
      nothing = λ _. refl;
      refused = λ _. refl;
      taken = λ t. record { wf = (taken-room q a.count t).wf; is = sym (queued-none (queue_of q)) ∙ ap (queued (queue_of q)) (sym (said-none _ _ a e)) };
    }

pub loop-line-init : goal.loop-line-init
unfolding ring_list
loop-line-init c =
    let q = c.args.self in
    let r = taken-room q c.args.added.count (sym c.takes.ensures ∙ c.if-not-takes.false) in
    record { room = r; turn = omega arith; count = omega arith; wf = r.wf; is = sym (queued-none (queue_of q)) }

pub push-self-requires-clause-outs_wf : goal.push-self-requires-clause-outs_wf
push-self-requires-clause-outs_wf c = c.loop-line.invariant.wf

pub push-self-requires-clause-self_len_bound : goal.push-self-requires-clause-self_len_bound
push-self-requires-clause-self_len_bound c =
    let l = c.loop-line.invariant in
    let len : length c.args.added.lines ≡ room_for_call = search (rules, long_of) in
    let few : length (take c.args.added.count c.args.added.lines) ≡ c.args.added.count = length-take-le c.args.added.count c.args.added.lines (rw len l.room.few) in
    rw (outs-length c.loop-line.self) (omega (arith, l.count, l.room.fits, few, c.loop-line-test.true))

pub loop-line-preserved : goal.loop-line-preserved
unfolding queued
loop-line-preserved c =
    let x = c.args in
    let a = c.args.added in
    let l = c.loop-line in
    let at = l.line-index in
    let len : length a.lines ≡ room_for_call = search (rules, long_of) in
    let many : length (take a.count a.lines) ≡ a.count = length-take-le a.count a.lines (rw len l.invariant.room.few) in
    let lt : at < a.count = omega (arith, many, c.loop-line-test.true) in
    let few : at < room_for_call = omega (arith, lt, l.invariant.room.few) in
    let in_lines : at < length a.lines = rw len few in
    let out : c.output.result ≡ output_of x.kept x.given (get_or a.lines at no_line) =
    c.output.ensures ∙ ap (output_of x.kept x.given) (get_or-take a.count a.lines at _ lt ∙ get_d_any a.lines at _ no_line in_lines) in
    let more : queue_of c.push-self.result ≡ queued (queue_of l.self) (c.output.result ∷ []) = c.push-self.ensures.is in
    let longer : length (outs_of c.push-self.result) ≡ length (outs_of l.self) + 1 = ap (λ (q : Queue). length q.outs) more ∙ length-append (outs_of l.self) (c.output.result ∷ []) in
    record {
      room = l.invariant.room;
      turn = omega (arith, lt);
      count = omega (arith, longer, outs-length c.push-self.result, outs-length l.self, l.invariant.count);
      wf = c.push-self.ensures.wf;
      is =
          more
          ∙ ap (λ (q : Queue). queued q (c.output.result ∷ [])) l.invariant.is
          ∙ queued-append (queue_of x.self) (first_of x.kept x.given a at) (c.output.result ∷ [])
          ∙ ap (queued (queue_of x.self)) (ap (λ (o : Output). first_of x.kept x.given a at ++ (o ∷ [])) out ∙ sym (first_more x.kept x.given a at few));
    }

pub returns : goal.returns
unfolding said_in lines_of
returns c =
    let a = c.args.added in
    let l = c.loop-line.invariant in
    let t : takes c.args.self a.count ≡ true = sym c.takes.ensures ∙ c.if-not-takes.false in
    let len : length a.lines ≡ room_for_call = search (rules, long_of) in
    let many : length (take a.count a.lines) ≡ a.count = length-take-le a.count a.lines (rw len l.room.few) in
    let all : c.loop-line.line-index ≡ a.count = omega (arith, many, l.turn, c.loop-line-test.false) in
    record {
      answer = rw (ne_eqb _ _ c.if-added-eq0.false, t);
      nothing = λ z. absurd (c.if-added-eq0.false z);
      refused = λ u. absurd (false≢true (sym u ∙ t));
      taken = λ _. record { wf = l.wf; is = l.is ∙ ap (λ (n : ℕ). queued (queue_of c.args.self) (first_of c.args.kept c.args.given a n)) all };
    }
