-- Laws of the plain records that no function needs for its proof: a release tells a good record, and a line's number is the plain one.
use Rattle.std.specs.Prelude.{Option, None, Some}
use mathlib.Core.Path.{◌≡◌, refl, ap, sym, subst, ◌∙◌}
use mathlib.Core.Bool.{Bool, true, false, not}
use Rattle.types.specs.Answers.{is_refused}
use Rattle.rules.specs.Names.{SeqNum, Link}
use Rattle.rules.specs.Names.refusal
use Rattle.rules.specs.Local.{Refused, passes}
use Rattle.rules.specs.Calls.{release_call, wrong, does, Ran}
use Rattle.rules.specs.Answers.{numbers}
use Rattle.queue.specs.declared.Outputs.{Outputs}
use Rattle.session.specs.declared.Session.{Session}
use Rattle.calls.specs.View.{world_of, good_record, AnsweredBy, Answered}
use Rattle.calls.specs.declared.Called.{Called}
use Rattle.calls.proofs.Laws.{of-good, of-bad}
use Rattle.library.specs.Parts.{seq_out}
use Rattle.library.specs.Answers.{number_of}

-- the number that a line prints is the plain one
pub number-of : (n : Option SeqNum) → number_of (numbers n) ≡ seq_out n
number-of (Some n) = refl
number-of None = refl

-- 1: a release is refused exactly where the record is bad
pub released-good : (r : Called) (s : Session) (l : Link) (q : Outputs) (t : Bool) → Answered release_call r s l q → is_refused r.answer ≡ t → not t ≡ good_record s l q
released-good r s l q t a e = go (good_record s l q) refl
  where
    go : (g : Bool) → good_record s l q ≡ g → not t ≡ good_record s l q
    go true g =
        let d = subst (λ (f : Refused). AnsweredBy f r (does release_call (world_of s l q)) s l q) (of-good s l q g refusal.BadRecord passes) a in
        ap not (sym e ∙ ap (λ (x : Ran). is_refused x.answer) d.is) ∙ sym g
    go false g =
        let d = subst (λ (f : Refused). AnsweredBy f r (does release_call (world_of s l q)) s l q) (of-bad s l q (wrong release_call (world_of s l q)) g) a in
        ap not (sym e ∙ ap is_refused d.answer) ∙ sym g
