-- What it means that a record is an ordinary one: the rule book's step for it, and that no refusal comes before.
use Rattle.std.specs.Prelude.{◌<◌, ◌≡◌, true, Option, Some, None}
use Rattle.types.specs.Base.{all_ones}
use Rattle.types.specs.States.{with_received, with_keepalive}
use Rattle.rules.specs.Names.{SeqNum, Instant, Binding, Link, PeerMessage}
use Rattle.rules.specs.Names.peer
use Rattle.rules.specs.State.{Sess}
use Rattle.fast.specs.Quick.{ready_record, Live, Same, Sending}
use Rattle.types.specs.Reasons.{reason_fits}
use Rattle.queue.specs.declared.Outputs.{Outputs}
use Rattle.session.specs.View.{view}
use Rattle.session.specs.declared.Session.{Session}
use Rattle.trace.specs.declared.records.Record.{Record}
use Rattle.trace.specs.declared.records.Entry.TheVariants as entry
use Rattle.replay.specs.declared.ordinary.Quick.{Quick}
use Rattle.replay.specs.declared.ordinary.Quick.TheVariants as quick

-- a live message takes the number n, below the last one
pub record LiveAs (n : SeqNum) (s : Sess) (b : Binding) : Type 0 where
  pub below : n.0 < all_ones
  pub does : Live (Some n) s b

-- a message is sent under the number n, below the last one
pub record SentAs (n : SeqNum) (s : Sess) (b : Binding) : Type 0 where
  pub below : n.0 < all_ones
  pub number : n ≡ s.outbound_next
  pub does : Sending s b

-- the message is a Sequence of the expected number
pub record SameAs (m : PeerMessage) (s : Sess) (b : Binding) : Type 0 where
  pub next : SeqNum
  pub is : m ≡ peer.Sequence (record { next_seq_no = next })
  pub does : Same true next s b

-- by what was found of an application message, of a message of the peer, and of a send
abbrev pub LiveIf : Option Quick → Sess → Binding → Type 0
LiveIf (Some (quick.Live n)) s b = LiveAs n s b
LiveIf (Some quick.Same) s b = ⊥
LiveIf (Some (quick.Sent n)) s b = ⊥
LiveIf None s b = Unit {0}

abbrev pub SameIf : Option Quick → PeerMessage → Sess → Binding → Type 0
SameIf (Some (quick.Live n)) m s b = ⊥
SameIf (Some quick.Same) m s b = SameAs m s b
SameIf (Some (quick.Sent n)) m s b = ⊥
SameIf None m s b = Unit {0}

abbrev pub SentIf : Option Quick → Sess → Binding → Type 0
SentIf (Some (quick.Live n)) s b = ⊥
SentIf (Some quick.Same) s b = ⊥
SentIf (Some (quick.Sent n)) s b = SentAs n s b
SentIf None s b = Unit {0}

-- the record is bound and good, its queue is empty, and the message's reason fits: refusals 1, 3, 5 and 7 do not come
pub record Standing (r : Record) (s : Session) (l : Link) (q : Outputs) (P : Binding → Type 0) : Type 0 where
  pub binding : Binding
  pub bound : l.binding ≡ Some binding
  pub ready : ready_record s l.reason q ≡ true
  pub fits : reason_fits r.reason ≡ true
  pub does : P binding

pub record SequenceIn (r : Record) (s : Sess) (b : Binding) : Type 0 where
  pub message : PeerMessage
  pub entered : r.entry ≡ entry.Peer message
  pub same : SameAs message s b

-- what an ordinary record is
abbrev pub QuickAs : Quick → Record → Session → Link → Outputs → Type 0
QuickAs (quick.Live n) r s l q = (r.entry ≡ entry.Application) × Standing r s l q (LiveAs n (view s))
QuickAs quick.Same r s l q = Standing r s l q (SequenceIn r (view s))
QuickAs (quick.Sent n) r s l q = (r.entry ≡ entry.Send) × Standing r s l q (SentAs n (view s))

abbrev pub QuickIs : Option Quick → Record → Session → Link → Outputs → Type 0
QuickIs None r s l q = Unit {0}
QuickIs (Some x) r s l q = QuickAs x r s l q

-- ---- what an ordinary record leaves of the binding
abbrev pub binding_then : (Binding → Binding) → Option Binding → Option Binding
binding_then f None = None
binding_then f (Some b) = Some (f b)

abbrev pub link_then : (Binding → Binding) → Link → Link
link_then f l = record { binding = binding_then f l.binding; reason = l.reason }

-- the peer has just sent something
abbrev pub link_heard : Instant → Link → Link
link_heard now l = link_then (with_received now) l

-- this side has just sent
abbrev pub link_kept_alive : Instant → Link → Link
link_kept_alive now l = link_then (with_keepalive now) l
