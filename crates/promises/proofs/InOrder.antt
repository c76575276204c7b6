-- A record whose rings are in order is answered as the rule book answers the world that it stands for, whatever that world is, and stays in order.
use Rattle.std.specs.Prelude.{Ok}
use mathlib.Core.Path.{◌≡◌, refl, ap, sym, subst, ◌∙◌}
use mathlib.Core.Bool.{Bool, true, false, false≢true}
use Rattle.rules.specs.Names.{Link}
use Rattle.rules.specs.Names.verdict
use Rattle.rules.specs.Names.refusal
use Rattle.rules.specs.Local.{Refused, passes, refuses}
use Rattle.rules.specs.Calls.{Call, bind_call, release_call, peer_call, application_call, send_call, terminate_call, retransmit_call, reject_call, end_call, timeout_call, World, wrong, does, ran_if, call, sound}
use Rattle.queue.specs.View.{OutsWf}
use Rattle.queue.specs.declared.Outputs.{Outputs}
use Rattle.session.specs.View.{SessWf}
use Rattle.session.specs.declared.Session.{Session}
use Rattle.calls.specs.View.{world_of, good_record, view_called, AnsweredBy, Answered, of_good}
use Rattle.calls.specs.declared.Called.{Called}
use Rattle.promises.proofs.Alike.{outcome, answered-is, good-is-the-rule}
use Rattle.promises.proofs.Useless.{done-is-good}

-- refusal 1 comes before the others, in every call
bad-first : (c : Call) (w : World) → sound w ≡ false → wrong c w ≡ refuses refusal.BadRecord
bad-first (bind_call now stamp l r next) w e = rw e
bad-first release_call w e = rw e
bad-first (peer_call now stamp m text) w e = rw e
bad-first (application_call now stamp) w e = rw e
bad-first (send_call now) w e = rw e
bad-first (terminate_call now k text) w e = rw e
bad-first (retransmit_call now n) w e = rw e
bad-first (reject_call k text) w e = rw e
bad-first end_call w e = rw e
bad-first (timeout_call now stamp) w e = rw e

module _ (s : Session) (l : Link) (q : Outputs) (sw : SessWf s) (qw : OutsWf q) where
  sound-good : sound (world_of s l q) ≡ true → good_record s l q ≡ true
  sound-good e =
      let r : Called = record { session = s; link = l; queue = q; answer = Ok verdict.Done } in
      done-is-good r (view_called r) (record { session = sw; queue = qw; is = refl }) e

  bad-unsound : good_record s l q ≡ false → sound (world_of s l q) ≡ false
  bad-unsound e = go (sound (world_of s l q)) refl
    where
      go : (t : Bool) → sound (world_of s l q) ≡ t → sound (world_of s l q) ≡ false
      go false h = h
      go true h = absurd (false≢true (sym e ∙ sound-good h))

  pub in-order-is-the-rule : (c : Call) (r : Called) → Answered c r s l q → view_called r ≡ call c (world_of s l q)
  unfolding call
  in-order-is-the-rule c r a = go (good_record s l q) refl
    where
      go : (t : Bool) → good_record s l q ≡ t → view_called r ≡ call c (world_of s l q)
      go true g = good-is-the-rule c r s l q g a
      go false g =
          answered-is c r s l q a
          ∙ ap (λ (t : Bool). outcome t c (world_of s l q)) g
          ∙ sym (ap (λ (f : Refused). ran_if f (does c (world_of s l q)) (world_of s l q)) (bad-first c (world_of s l q) (bad-unsound g)))

  pub in-order-after : (c : Call) (r : Called) → Answered c r s l q → SessWf r.session × OutsWf r.queue
  in-order-after c r a = go (of_good (good_record s l q) (wrong c (world_of s l q))) a
    where
      go : (f : Refused) → AnsweredBy f r (does c (world_of s l q)) s l q → SessWf r.session × OutsWf r.queue
      go passes d = (d.session, d.queue)
      go (refuses x) d = (subst SessWf (sym d.session) sw, subst OutsWf (sym d.queue) qw)
