-- What steps that keep the invariant of a session report, and one step after another.
use Rattle.std.specs.Prelude.{◌≡◌, refl, List, [], ◌∷◌, ◌++◌, Bool, true, false, ◌&&◌, ℕ, if◌then◌else◌, Option}
use Rattle.std.proofs.Common.{sym, ap, ◌∙◌, append_assoc}
use Rattle.types.specs.States.{is_stay}
use Rattle.rules.specs.Names.{SeqNum, Output, Bound, Gap, Replay}
use Rattle.rules.specs.Names.bound
use Rattle.rules.specs.State.{Sess, Did, did, saying, and_then}
use Rattle.rules.specs.Numbering.{is_peer_finished}
use Rattle.loss.specs.Seen.{Taking, rejected_by, reported}
use Rattle.loss.proofs.Count.{no}
use Rattle.loss.specs.Good.{Good, OnStay, Keeps}

-- ---- what a step keeps
pub reported-app : (l m : List Output) → reported (l ++ m) ≡ reported l ++ reported m
reported-app [] m = refl
reported-app (o ∷ l) m = ap (λ (x : List Gap). rejected_by o.said ++ x) (reported-app l m) ∙ sym (append_assoc (rejected_by o.said) (reported l) (reported m))

pub reported-nils : (l m : List Output) → reported l ≡ [] → reported m ≡ [] → reported (l ++ m) ≡ []
reported-nils l m p q = reported-app l m ∙ (λ i. p i ++ q i)

pub and_left : (a b : Bool) → a && b ≡ true → a ≡ true
and_left true b e = refl
and_left false b e = no (sym e)

pub and_right : (a b : Bool) → a && b ≡ true → b ≡ true
and_right true b e = e
and_right false b e = no (sym e)

module _ (log : List Taking) (rej : List Gap) (first : Option SeqNum → ℕ) (Q : Option SeqNum → Option Replay → Bool → Type 0) where
  pub saying-keeps : (l : List Output) (d : Did) → reported l ≡ [] → Keeps log rej first Q d → Keeps log rej first Q (saying l d)
  unfolding saying
  saying-keeps l d e k = record { good = k.good; silent = reported-nils l d.outs e k.silent; plain = k.plain; holds = k.holds }

  -- one step after another
  pub and_then-keeps : (Q' : Option SeqNum → Option Replay → Bool → Type 0) (d : Did) (k : Sess → _ → Did) → Keeps log rej first Q' d →
      (Good d.session (first d.session.inbound_next) log rej → Q' d.session.inbound_next d.session.replay (is_peer_finished d.session.peer_finished) → Keeps log rej first Q (k d.session d.binding)) →
      Keeps log rej first Q (and_then d k)
  unfolding and_then
  and_then-keeps Q' d k h f = go d.bound h.holds
    where
      go : (u : Bound) → OnStay u (Q' d.session.inbound_next d.session.replay (is_peer_finished d.session.peer_finished)) →
          Keeps log rej first Q (if is_stay u then saying d.outs (k d.session d.binding) else did d.session d.binding d.outs u d.answer)
      go bound.Stay q = saying-keeps d.outs (k d.session d.binding) h.silent (f h.good q)
      go bound.Unbind q = record { good = h.good; silent = h.silent; plain = h.plain; holds = tt }
