-- Histories that compute: one that meets every assumption and has everything in it, and one for each assumption that breaks without it.
use Rattle.std.specs.Prelude.{◌≡◌, List, [], ◌∷◌, Bool, true, not, ◌&&◌, ◌||◌, ℕ, zero, suc, eqb, Option, Some, None}
use Rattle.types.specs.Reasons.{no_text}
use Rattle.rules.specs.Names.{SeqNum, Nanotime, Instant, SessionId, FixpConfig, PeerMessage, Gap}
use Rattle.rules.specs.Names.flow
use Rattle.rules.specs.Names.rejection
use Rattle.rules.specs.Names.policy
use Rattle.rules.specs.Names.peer
use Rattle.rules.specs.Gaps.{gap_of}
use Rattle.rules.specs.Calls.{World, Call, bind_call, release_call, peer_call, application_call, call, opened}
use Rattle.loss.specs.Seen.{Taking, arrives, noted}
use Rattle.loss.specs.History.{Truth, History, Happening, calls, polls, closes, drops_live, drops_tail, Kind, message, announces, heads, other, opens, ours, kind_of, step}

-- ---- a test of what is allowed
abbrev pub may_arrive : ℕ → Bool → Bool
may_arrive zero told = told
may_arrive (suc k) told = true

abbrev pub opens_true : Option SeqNum → ℕ → Bool
opens_true None next = true
opens_true (Some n) next = eqb n.0 next

abbrev pub truthful : Kind → Truth → Bool
truthful message p = may_arrive p.batch.left p.told
truthful (announces n) p = eqb n p.next
truthful (heads n k) p = true
truthful other p = true
truthful (opens n) p = opens_true n p.next
truthful ours p = true

unfoldable pub allowed : History → Happening → Bool
allowed h (calls c) = not (arrives c h.world) || truthful (kind_of h.world.session.id c) h.peer
allowed h polls = true
allowed h closes = true
allowed h drops_live = true
allowed h drops_tail = true

unfoldable pub obeys : History → List Happening → Bool
obeys h [] = true
obeys h (x ∷ xs) = allowed h x && obeys (step h x) xs

-- ---- 01's example configuration, everything at instant 0 and stamp 7
abbrev pub at : Instant
at = record { 0 = 0 }

abbrev pub seven : Nanotime
seven = record { 0 = 7 }

abbrev pub num : ℕ → SeqNum
num n = record { 0 = n }

abbrev pub self : SessionId
self = record { 0 = 1; 1 = 1 }

abbrev pub small : FixpConfig
small =
    record {
      max_gap_len = 100;
      max_retransmit_count = 10;
      max_pending_gaps = 2;
      retransmit_timeout = 1000;
      peer_silence_grace = None;
      retransmit_stall_policy = policy.ReRequestAfterBatch;
    }

abbrev pub binds : ℕ → Call
binds n = bind_call at seven 1000 1000 (Some (num n))

abbrev pub says : PeerMessage → Call
says m = peer_call at seven m no_text

abbrev pub sequence : ℕ → Call
sequence n = says (peer.Sequence (record { next_seq_no = num n }))

abbrev pub header : ℕ → ℕ → Call
header n k = says (peer.Retransmission (record { session_id = self; request_timestamp = seven; next_seq_no = num n; count = k }))

abbrev rejects : Call
rejects = says (peer.RetransmitReject (record { session_id = self; request_timestamp = seven; code = rejection.OutOfRange }))

abbrev pub arrives_one : Call
arrives_one = application_call at seven

-- the host takes six outputs
abbrev pub drained : List Happening → List Happening
drained l = polls ∷ polls ∷ polls ∷ polls ∷ polls ∷ polls ∷ l

-- 2, 4 and 6 are lost: the third gap is held. 8 is lost, and the held gap is widened over 7, which arrived. After the reconnect 2, 4
-- and 6 are replayed, 7 is a duplicate, the tail of that batch is lost, the rest is rejected, and 9 arrives live.
abbrev pub eventful : List Happening
eventful =
    calls (binds 1) ∷ calls arrives_one ∷ drops_live ∷ calls (sequence 3) ∷ calls arrives_one ∷ drops_live ∷ calls (sequence 5) ∷ calls arrives_one ∷ drops_live ∷ calls (sequence 7) ∷
    drained (calls (binds 7) ∷ calls arrives_one ∷ drops_live ∷ calls release_call ∷ calls (binds 9) ∷
    drained (calls (binds 9) ∷ calls (header 2 1) ∷ calls arrives_one ∷ calls (header 4 1) ∷ calls arrives_one ∷ calls (header 6 3) ∷ calls arrives_one ∷ calls arrives_one ∷ drops_tail ∷
    drained (calls rejects ∷ calls (sequence 9) ∷ calls arrives_one ∷ [])))

abbrev pub range : ℕ → ℕ → Gap
range a b = gap_of (num a) (num b)

abbrev pub right : ℕ → Taking
right n = record { gave = n; took = n }

-- ---- what each assumption is for
-- a call, and the number that the peer gave its message (0 if it is none)
pub record Given : Type 0 where
  pub does : Call
  pub number : ℕ

abbrev given : Call → ℕ → Given
given c n = record { does = c; number = n }

abbrev quietly : Call → Given
quietly c = record { does = c; number = 0 }

-- what is accepted when calls arrive as they are, whatever peer and link were to do
unfoldable pub taken : World → List Given → List Taking → List Taking
taken w [] log = log
taken w (x ∷ xs) log = taken (call x.does w).world xs (noted (call x.does w).answer x.number log)

abbrev wrongly : ℕ → ℕ → Taking
wrongly gave took = record { gave = gave; took = took }

-- a new session with a Recoverable peer
abbrev new : World
new = opened self flow.Recoverable flow.Recoverable small

-- 1 accepted, 2 and 3 lost, 4 announced: 2 and 3 are asked for
abbrev two_missing : List Given → List Given
two_missing l = quietly (binds 1) ∷ given arrives_one 1 ∷ quietly (sequence 4) ∷ l

abbrev context : ℕ → Call
context n = says (peer.Context (record { session_id = self; next_seq_no = num n }))

-- a reason of 65 bytes
abbrev overlong : Call
overlong = peer_call at seven (peer.Applied (record { from_seq_no = num 1; count = 1 })) (record { bytes = []; len = 65 })

pub record Needed : Type 0 where
  -- "announces its next number before anything live": 2 is lost, 3 arrives
  pub told_after_loss : taken new (quietly (binds 1) ∷ given arrives_one 1 ∷ given arrives_one 3 ∷ []) [] ≡ wrongly 3 2 ∷ right 1 ∷ []
  -- the same, with a Context of 2^64-1 before 3: "a Context below 2^64-1"
  pub told_by_context : taken new (quietly (binds 1) ∷ given arrives_one 1 ∷ quietly (context 18446744073709551615) ∷ given arrives_one 3 ∷ []) [] ≡ wrongly 3 2 ∷ right 1 ∷ []
  -- the true number: 5 is announced, 2 arrives
  pub told_truly : taken new (quietly (binds 1) ∷ given arrives_one 1 ∷ quietly (sequence 5) ∷ given arrives_one 2 ∷ []) [] ≡ wrongly 2 5 ∷ right 1 ∷ []
  -- "each binding opens with that number": 2 is lost, and 3 arrives in a binding that opened without it
  pub told_by_binding : taken new (quietly (binds 1) ∷ given arrives_one 1 ∷ quietly release_call ∷ quietly (bind_call at seven 1000 1000 None) ∷ given arrives_one 3 ∷ []) [] ≡ wrongly 3 2 ∷ right 1 ∷ []
  -- a live message behind a batch whose tail was lost, with no number before it
  pub told_after_batch : taken new (two_missing (quietly (header 2 2) ∷ given arrives_one 2 ∷ given arrives_one 4 ∷ [])) [] ≡ wrongly 4 3 ∷ right 2 ∷ right 1 ∷ []
  -- "loses only its tail": 2 is lost out of the batch, 3 arrives
  pub only_its_tail : taken new (two_missing (quietly (header 2 2) ∷ given arrives_one 3 ∷ [])) [] ≡ wrongly 3 2 ∷ right 1 ∷ []
  -- "or all of it, header included": the header is lost, 2 arrives
  pub with_its_header : taken new (two_missing (given arrives_one 2 ∷ [])) [] ≡ wrongly 2 4 ∷ right 1 ∷ []
  -- "in order": 3 before 2
  pub in_order : taken new (two_missing (quietly (header 2 2) ∷ given arrives_one 3 ∷ given arrives_one 2 ∷ [])) [] ≡ wrongly 2 3 ∷ wrongly 3 2 ∷ right 1 ∷ []
  -- "with nothing between": a live 4 within the batch
  pub nothing_between : taken new (two_missing (quietly (header 2 2) ∷ given arrives_one 4 ∷ [])) [] ≡ wrongly 4 2 ∷ right 1 ∷ []
  -- the same: a Sequence cuts the batch, and it goes on
  pub nothing_after_cut : taken new (two_missing (quietly (header 2 2) ∷ given arrives_one 2 ∷ quietly (sequence 4) ∷ given arrives_one 3 ∷ [])) [] ≡ wrongly 3 4 ∷ right 2 ∷ right 1 ∷ []
  -- "lets none outlive its binding": 3 arrives after a reconnect
  pub within_its_binding : taken new (two_missing (quietly (header 2 2) ∷ given arrives_one 2 ∷ quietly release_call ∷ quietly (binds 4) ∷ given arrives_one 3 ∷ [])) [] ≡ wrongly 3 4 ∷ right 2 ∷ right 1 ∷ []
  -- "the link neither repeats": 1 arrives twice
  pub no_repeat : taken new (quietly (binds 1) ∷ given arrives_one 1 ∷ given arrives_one 1 ∷ []) [] ≡ wrongly 1 2 ∷ right 1 ∷ []
  -- "nor reorders": 2 before 1
  pub no_reorder : taken new (quietly (binds 1) ∷ given arrives_one 2 ∷ given arrives_one 1 ∷ []) [] ≡ wrongly 1 2 ∷ wrongly 2 1 ∷ []
  -- "a refused [...] call counts as a message that did not arrive": 1 is refused for its reason, 2 follows with no number before it
  pub refused_is_lost : taken new (quietly (binds 1) ∷ given overlong 1 ∷ given arrives_one 2 ∷ []) [] ≡ wrongly 2 1 ∷ []
  -- "a Recoverable peer": of an Idempotent one 1 and 2 are skipped, neither accepted nor rejected nor in a gap
  pub recoverable :
      let s = (call (sequence 3) (call (binds 1) (opened self flow.Recoverable flow.Idempotent small)).world).world.session in
      (s.inbound_next ≡ Some (num 3)) × (s.gaps.missing ≡ [])
