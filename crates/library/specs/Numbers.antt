-- The enum that a number stands for. A number outside its list stands for the list's last: `is_clean` says which are in their lists.
use Rattle.std.specs.Prelude.{ℕ, Bool, ◌&&◌, ◌||◌, leb, eqb}
use Rattle.std.specs.Result.{result_unwrap_or}
use Rattle.types.specs.Codes.{flow_of, policy_of, termination_of, rejection_of, by_of, name_of_number}
use Rattle.rules.specs.Names.{FlowType, TerminationCode, RetransmitRejectCode, RetransmitStallPolicy, TerminatedBy, MessageName}
use Rattle.rules.specs.Names.flow
use Rattle.rules.specs.Names.code
use Rattle.rules.specs.Names.rejection
use Rattle.rules.specs.Names.policy
use Rattle.rules.specs.Names.by
use Rattle.rules.specs.Names.name

-- "1 to 4", "1 to 3": whether a code is in its list
abbrev pub is_listed : ℕ → ℕ → Bool
is_listed n last = leb 1 n && leb n last

abbrev pub flow_in : ℕ → FlowType
flow_in n = result_unwrap_or (flow_of n) flow.None

abbrev pub policy_in : ℕ → RetransmitStallPolicy
policy_in n = result_unwrap_or (policy_of n) policy.EventOnly

abbrev pub termination_in : ℕ → TerminationCode
termination_in n = result_unwrap_or (termination_of n) code.ReRequestInProgress

abbrev pub rejection_in : ℕ → RetransmitRejectCode
rejection_in n = result_unwrap_or (rejection_of n) rejection.RequestLimitExceeded

abbrev pub by_in : ℕ → TerminatedBy
by_in n = result_unwrap_or (by_of n) by.Peer

abbrev pub name_in : ℕ → MessageName
name_in n = result_unwrap_or (name_of_number n) name.ApplicationMessage

abbrev pub is_name_number : ℕ → Bool
is_name_number n = eqb n 4 || (leb 32 n && leb n 44)
