-- 01's numbers and values for each case of an answer.
use Rattle.std.specs.Prelude.{ℕ, Bool, true, false, List, [], ◌∷◌, Option, Some, None, Ok, Err}
use Rattle.rules.specs.Names.{SeqNum, SessionStatus, Operation, Refusal, Answer}
use Rattle.rules.specs.Names.status
use Rattle.rules.specs.Names.operation
use Rattle.rules.specs.Names.refusal
use Rattle.rules.specs.Names.delivery
use Rattle.rules.specs.Names.verdict

-- `unbound`, `established`, `terminating`, `closing`
abbrev pub status_number : SessionStatus → ℕ
status_number status.Unbound = 0
status_number status.Established = 1
status_number status.Terminating = 2
status_number status.Closing = 3

-- the trace record of the call
abbrev pub operation_number : Operation → ℕ
operation_number operation.SendApplication = 64
operation_number operation.Terminate = 65
operation_number operation.Retransmit = 66
operation_number operation.RejectRetransmitRequest = 67
operation_number operation.EndRetransmission = 68

-- the table of refusal numbers
abbrev pub refusal_number : Refusal → ℕ
refusal_number refusal.BadRecord = 1
refusal_number refusal.BadConfig = 2
refusal_number refusal.NotBound = 3
refusal_number refusal.AlreadyBound = 4
refusal_number refusal.BadMessage = 5
refusal_number refusal.ZeroCount = 6
refusal_number refusal.OutputFull = 7
refusal_number (refusal.InvalidState o t) = 8
refusal_number refusal.FinishedReceivingSent = 9
refusal_number refusal.FlowCarriesNoApplicationMessages = 10
refusal_number refusal.SequenceExhausted = 11
refusal_number refusal.NoRetransmissionInProgress = 12
refusal_number (refusal.RetransmissionOverrun n k) = 13
refusal_number (refusal.ReasonTooLong n k) = 14

-- what a refusal carries: 8 operation and status, 13 both counts, 14 both lengths
abbrev pub refusal_values : Refusal → List ℕ
refusal_values refusal.BadRecord = []
refusal_values refusal.BadConfig = []
refusal_values refusal.NotBound = []
refusal_values refusal.AlreadyBound = []
refusal_values refusal.BadMessage = []
refusal_values refusal.ZeroCount = []
refusal_values refusal.OutputFull = []
refusal_values (refusal.InvalidState o t) = operation_number o ∷ status_number t ∷ []
refusal_values refusal.FinishedReceivingSent = []
refusal_values refusal.FlowCarriesNoApplicationMessages = []
refusal_values refusal.SequenceExhausted = []
refusal_values refusal.NoRetransmissionInProgress = []
refusal_values (refusal.RetransmissionOverrun n k) = n ∷ k ∷ []
refusal_values (refusal.ReasonTooLong n k) = n ∷ k ∷ []

-- "Answers: `ok`, `accept` or `accept:n`, `replay:n`, `discard`, `sent` or `sent:n`, `batch:from:count`, `refused:n`": 1 to 7
pub data Told : Type 0 where
  ok : Told
  accept : List ℕ → Told
  replay : List ℕ → Told
  discard : Told
  sent : List ℕ → Told
  batch : ℕ → ℕ → Told
  refused : ℕ → List ℕ → Told

-- a number, if there is one
abbrev pub numbers : Option SeqNum → List ℕ
numbers None = []
numbers (Some n) = n.0 ∷ []

abbrev pub accepted : Bool → List ℕ → Told
accepted true l = replay l
accepted false l = accept l

abbrev pub told : Answer → Told
told (Ok verdict.Done) = ok
told (Ok (verdict.Delivered delivery.Discard)) = discard
told (Ok (verdict.Delivered (delivery.Accept n r))) = accepted r (numbers n)
told (Ok (verdict.Sent n)) = sent (numbers n)
told (Ok (verdict.Batch b)) = batch b.from.0 b.count
told (Err r) = refused (refusal_number r) (refusal_values r)
