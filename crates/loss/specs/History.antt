-- Histories of the calls, with a truthful peer and a link that loses: what happens, what it leaves, and what is allowed to happen.
use Rattle.std.specs.Prelude.{ℕ, zero, suc, ◌+◌, ◌≡◌, Bool, true, false, not, ◌&&◌, List, [], ◌∷◌, ◌++◌, eqb, if◌then◌else◌, Option, Some, None}
use Rattle.types.specs.Base.{all_ones, same_id}
use Rattle.rules.specs.Names.{SessionId, SeqNum, FlowType, FixpConfig, PeerMessage, Gap}
use Rattle.rules.specs.Names.flow
use Rattle.rules.specs.Names.peer
use Rattle.rules.specs.State.{Queue}
use Rattle.rules.specs.Peer.{is_accept}
use Rattle.rules.specs.Local.{Refused, passes, refuses}
use Rattle.rules.specs.Calls.{World, world, Call, bind_call, release_call, peer_call, application_call, send_call, terminate_call, retransmit_call, reject_call, end_call, timeout_call, Ran, call, opened, reading, polled, transport_closed}
use Rattle.loss.specs.Seen.{Taking, arrives, is_open, reported, added, number, noted, first_after}

-- ---- what is kept beside the session
-- what is left of a batch: the number of its next message, and how many are to come
pub record Batch : Type 0 where
  pub next : ℕ
  pub left : ℕ

abbrev pub no_batch : Batch
no_batch = record { next = 0; left = 0 }

-- the peer: the number that it gives next; whether that number has arrived, and nothing was lost since; the batch that it is sending
pub record Truth : Type 0 where
  pub next : ℕ
  pub told : Bool
  pub batch : Batch

abbrev pub truth : ℕ → Bool → Batch → Truth
truth n t b = record { next = n; told = t; batch = b }

-- a session with its first number, the accepted messages (newest first), the ranges that RetransmitRejected outputs named, and its peer
pub record History : Type 0 where
  pub world : World
  pub first : ℕ
  pub accepted : List Taking
  pub rejected : List Gap
  pub peer : Truth

-- a new session with a Recoverable peer that numbers from 1
abbrev pub fresh : SessionId → FlowType → FixpConfig → History
fresh id local config = record { world = opened id local flow.Recoverable config; first = 1; accepted = []; rejected = []; peer = truth 1 false no_batch }

-- ---- what happens
pub data Happening : Type 0 where
  -- a call, refused or not
  calls : Call → Happening
  -- the host takes an output; it reports the transport closed
  polls : Happening
  closes : Happening
  -- the link drops a live message; it drops what is left of a batch
  drops_live : Happening
  drops_tail : Happening

-- what a call is to the peer and the link
pub data Kind : Type 0 where
  -- an application message, an Applied or a NotApplied, live or within a batch
  message : Kind
  -- a Sequence, or a Context of this session below 2^64-1
  announces : ℕ → Kind
  -- a Retransmission: the header of a batch, its number and count; whether it is right the session finds out
  heads : ℕ → ℕ → Kind
  -- any other message of the peer; none of them need be true, not even a FinishedSending
  other : Kind
  -- a binding opens, with the peer's next number, or without: then that has yet to arrive
  opens : Option SeqNum → Kind
  -- any other call of ours, a timeout too
  ours : Kind

abbrev pub kind_of_message : SessionId → PeerMessage → Kind
kind_of_message id peer.Topic = other
kind_of_message id (peer.Sequence m) = announces m.next_seq_no.0
kind_of_message id (peer.Context m) = if same_id m.session_id id && not (eqb m.next_seq_no.0 all_ones) then announces m.next_seq_no.0 else other
kind_of_message id peer.UnsequencedHeartbeat = other
kind_of_message id (peer.RetransmitRequest m) = other
kind_of_message id (peer.Retransmission m) = heads m.next_seq_no.0 m.count
kind_of_message id (peer.RetransmitReject m) = other
kind_of_message id (peer.Terminate m) = other
kind_of_message id (peer.FinishedSending m) = other
kind_of_message id peer.FinishedReceiving = other
kind_of_message id (peer.Applied m) = message
kind_of_message id (peer.NotApplied m) = message
kind_of_message id peer.MessageTemplate = other

abbrev pub kind_of : SessionId → Call → Kind
kind_of id (bind_call now stamp l r next) = opens next
kind_of id release_call = ours
kind_of id (peer_call now stamp m text) = kind_of_message id m
kind_of id (application_call now stamp) = message
kind_of id (send_call now) = ours
kind_of id (terminate_call now code text) = ours
kind_of id (retransmit_call now count) = ours
kind_of id (reject_call code text) = ours
kind_of id end_call = ours
kind_of id (timeout_call now stamp) = ours

-- ---- the peer and the link
-- the number of the message that arrives: the batch's next, or, with no batch under way, that of a live one
abbrev pub given_as : ℕ → Truth → ℕ
given_as zero p = p.next
given_as (suc k) p = p.batch.next

-- a live message that does not arrive is lost, and one of a batch loses the batch's tail with it
abbrev pub sent_as : ℕ → Bool → Truth → Truth
sent_as zero arrived p = truth (p.next + 1) arrived no_batch
sent_as (suc k) true p = truth p.next p.told (record { next = p.batch.next + 1; left = k })
sent_as (suc k) false p = truth p.next p.told no_batch

abbrev pub is_number : Option SeqNum → Bool
is_number None = false
is_number (Some n) = true

-- "sends a batch as header, then exactly its messages in order with nothing between": whatever else arrives, the batch is over.
-- "announces its next number before anything live": a header, too, takes back what was told
abbrev pub after : Kind → Bool → Truth → Truth
after message arrived p = sent_as p.batch.left arrived p
after (announces n) true p = truth p.next true no_batch
after (announces n) false p = truth p.next p.told no_batch
after (heads n k) true p = truth p.next false (record { next = n; left = k })
after (heads n k) false p = truth p.next p.told no_batch
after other arrived p = truth p.next p.told no_batch
after (opens n) true p = truth p.next (is_number n) no_batch
after (opens n) false p = p
after ours arrived p = p

-- "lets none outlive its binding"; "each binding opens with that number"
abbrev pub within : Bool → Truth → Truth
within true p = p
within false p = truth p.next false no_batch

-- ---- what each happening leaves
unfoldable pub ran : Kind → Bool → Ran → History → History
ran kind arrived r h =
    record {
      world = r.world;
      first = first_after (is_accept r.answer) h.world.session.start_pending (number r.world.session.inbound_next) h.first;
      accepted = noted r.answer (given_as h.peer.batch.left h.peer) h.accepted;
      rejected = reported (added h.world.queue r.world.queue) ++ h.rejected;
      peer = within (is_open r.world.link.binding) (after kind arrived h.peer);
    }

abbrev pub with_peer : Truth → History → History
with_peer p h = record { world = h.world; first = h.first; accepted = h.accepted; rejected = h.rejected; peer = p }

abbrev pub with_queue : Refused → Queue → History → History
with_queue passes q h = record { world = world h.world.session h.world.link q; first = h.first; accepted = h.accepted; rejected = h.rejected; peer = h.peer }
with_queue (refuses r) q h = h

unfoldable pub step : History → Happening → History
step h (calls c) = ran (kind_of h.world.session.id c) (arrives c h.world) (call c h.world) h
step h polls = with_queue (reading h.world) (polled h.world.queue) h
step h closes = with_queue (reading h.world) (transport_closed h.world.queue) h
step h drops_live = with_peer (truth (h.peer.next + 1) false h.peer.batch) h
step h drops_tail = with_peer (truth h.peer.next h.peer.told no_batch) h

unfoldable pub run : History → List Happening → History
run h [] = h
run h (x ∷ xs) = run (step h x) xs

-- ---- what is allowed
-- "provided the peer's true next number arrives before the next live message"
abbrev pub MayArrive : ℕ → Bool → Type 0
MayArrive zero told = told ≡ true
MayArrive (suc k) told = Unit {0}

abbrev pub OpensTrue : Option SeqNum → ℕ → Type 0
OpensTrue None next = Unit {0}
OpensTrue (Some n) next = n.0 ≡ next

-- the two things asked of what arrives: a message that is not of a batch follows its number, and an announced number is the true one
abbrev pub Truthful : Kind → Truth → Type 0
Truthful message p = MayArrive p.batch.left p.told
Truthful (announces n) p = n ≡ p.next
Truthful (heads n k) p = Unit {0}
Truthful other p = Unit {0}
Truthful (opens n) p = OpensTrue n p.next
Truthful ours p = Unit {0}

unfoldable pub Allowed : History → Happening → Type 0
Allowed h (calls c) = arrives c h.world ≡ true → Truthful (kind_of h.world.session.id c) h.peer
Allowed h polls = Unit {0}
Allowed h closes = Unit {0}
Allowed h drops_live = Unit {0}
Allowed h drops_tail = Unit {0}

unfoldable pub Obeys : History → List Happening → Type 0
Obeys h [] = Unit {0}
Obeys h (x ∷ xs) = Allowed h x × Obeys (step h x) xs
