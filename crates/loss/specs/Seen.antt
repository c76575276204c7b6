-- What is seen of a call: whether it was heard, what it accepted, and which rejections its outputs report.
use Rattle.std.specs.Prelude.{ℕ, ◌+◌, Bool, true, false, not, List, [], ◌∷◌, ◌++◌, length, drop, Option, Some, None, Ok, Err}
use Rattle.types.specs.States.{is_closing}
use Rattle.rules.specs.Names.{SeqNum, Output, Said, Event, Binding, Gap, Answer}
use Rattle.rules.specs.Names.said
use Rattle.rules.specs.Names.event as ev
use Rattle.rules.specs.Names.delivery
use Rattle.rules.specs.Names.verdict
use Rattle.rules.specs.State.{Queue}
use Rattle.rules.specs.Gaps.{gap_of}
use Rattle.rules.specs.Local.{Refused, passes, refuses}
use Rattle.rules.specs.Calls.{World, Call, wrong}

abbrev pub ignores : Option Binding → Bool
ignores None = false
ignores (Some b) = is_closing b.state

-- "a refused or ignored call counts as a message that did not arrive"
abbrev pub heard : Refused → Option Binding → Bool
heard passes b = not (ignores b)
heard (refuses r) b = false

unfoldable pub arrives : Call → World → Bool
arrives c w = heard (wrong c w) w.link.binding

-- bound, and not closing
abbrev pub is_open : Option Binding → Bool
is_open None = false
is_open (Some b) = not (is_closing b.state)

-- the range that an output reports as rejected
abbrev pub rejected_in : Event → List Gap
rejected_in (ev.Refused m) = []
rejected_in (ev.SequenceGap n k) = []
rejected_in ev.RecoveryComplete = []
rejected_in (ev.RetransmitRequested n k) = []
rejected_in (ev.RetransmitRejected n k code) = gap_of n (record { 0 = n.0 + k }) ∷ []
rejected_in (ev.RetransmitTimedOut n k) = []
rejected_in (ev.NotApplied n k) = []
rejected_in (ev.Applied n k) = []
rejected_in (ev.Terminated code by) = []
rejected_in ev.KeepaliveLapsed = []
rejected_in ev.ProtocolViolation = []
rejected_in (ev.PeerFinishedSending n) = []
rejected_in (ev.Ignored m) = []

abbrev pub rejected_by : Said → List Gap
rejected_by (said.Send m) = []
rejected_by (said.SendApplication n m) = []
rejected_by said.CloseTransport = []
rejected_by (said.Event e) = rejected_in e

abbrev pub reported : List Output → List Gap
reported [] = []
reported (o ∷ l) = rejected_by o.said ++ reported l

-- the outputs that a call added
unfoldable pub added : Queue → Queue → List Output
added before after = drop (length before.outs) after.outs

abbrev pub number : Option SeqNum → ℕ
number None = 0
number (Some n) = n.0

-- an accepted message: the number that the peer gave it, and the one that the session took it for
pub record Taking : Type 0 where
  pub gave : ℕ
  pub took : ℕ

-- what was accepted, by the answer; gave is the number that the peer gave the message
abbrev pub noted : Answer → ℕ → List Taking → List Taking
noted (Ok verdict.Done) gave l = l
noted (Ok (verdict.Delivered delivery.Discard)) gave l = l
noted (Ok (verdict.Delivered (delivery.Accept n again))) gave l = record { gave = gave; took = number n } ∷ l
noted (Ok (verdict.Sent n)) gave l = l
noted (Ok (verdict.Batch b)) gave l = l
noted (Err r) gave l = l

-- "The session's first number is the expected one when the start stops being pending": as it stands, where a message that is accepted
-- settles the start
abbrev pub first_after : Bool → Bool → ℕ → ℕ → ℕ
first_after true pending expected first = first
first_after false true expected first = expected
first_after false false expected first = first
