-- The digits that are left fall.
use Rattle.trace.proofs.text.+push_digits.Given as goal

abbrev pub decreases-push_digits : goal.decreases-push_digits
decreases-push_digits l = l.k
