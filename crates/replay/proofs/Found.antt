-- What was found of an entry is what the record is, where the record is bound and good.
use Rattle.std.specs.Prelude.{Option, Some, None}
use Prim.Native.Nat.{◌<◌}
use mathlib.Core.Path.{◌≡◌, ap, subst, ◌∙◌}
use mathlib.Core.Bool.{true}
use Rattle.types.specs.Base.{all_ones}
use Rattle.rules.specs.Names.{SeqNum, Binding, Link, PeerMessage}
use Rattle.types.specs.Reasons.{reason_fits}
use Rattle.fast.specs.Quick.{ready_record}
use Rattle.queue.specs.declared.Outputs.{Outputs}
use Rattle.session.specs.View.{view}
use Rattle.session.specs.declared.Session.{Session}
use Rattle.trace.specs.declared.records.Record.{Record}
use Rattle.trace.specs.declared.records.Entry.TheVariants as entry
use Rattle.replay.specs.Ordinary.{LiveIf, SameIf, SentIf, QuickIs, QuickAs}
use Rattle.replay.specs.declared.ordinary.Quick.{Quick}
use Rattle.replay.specs.declared.ordinary.Quick.TheVariants as quick

module _ (r : Record) (s : Session) (l : Link) (q : Outputs) (b : Binding) (bound : l.binding ≡ Some b) (ready : ready_record s l.reason q ≡ true) (fits : reason_fits r.reason ≡ true) where
  pub found-live : (x : Option Quick) → r.entry ≡ entry.Application → LiveIf x (view s) b → QuickIs x r s l q
  found-live (Some (quick.Live n)) e h = (e, record { binding = b; bound = bound; ready = ready; fits = fits; does = h })
  found-live (Some quick.Same) e h = absurd h
  found-live (Some (quick.Sent n)) e h = absurd h
  found-live None e h = tt

  pub found-same : (x : Option Quick) (m : PeerMessage) → r.entry ≡ entry.Peer m → SameIf x m (view s) b → QuickIs x r s l q
  found-same (Some (quick.Live n)) m e h = absurd h
  found-same (Some quick.Same) m e h = record { binding = b; bound = bound; ready = ready; fits = fits; does = record { message = m; entered = e; same = h } }
  found-same (Some (quick.Sent n)) m e h = absurd h
  found-same None m e h = tt

  pub found-sent : (x : Option Quick) → r.entry ≡ entry.Send → SentIf x (view s) b → QuickIs x r s l q
  found-sent (Some (quick.Live n)) e h = absurd h
  found-sent (Some quick.Same) e h = absurd h
  found-sent (Some (quick.Sent n)) e h = (e, record { binding = b; bound = bound; ready = ready; fits = fits; does = h })
  found-sent None e h = tt

-- the number is below the last one
pub live_below : (n : SeqNum) (r : Record) (s : Session) (l : Link) (q : Outputs) → QuickAs (quick.Live n) r s l q → n.0 < all_ones
live_below n r s l q h = h.1.does.below

pub sent-below : (n : SeqNum) (r : Record) (s : Session) (l : Link) (q : Outputs) → QuickAs (quick.Sent n) r s l q → n.0 < all_ones
sent-below n r s l q h = h.1.does.below

-- what was found, once it is taken apart
pub found-as : (f : Option Quick) (x y : Quick) (r : Record) (s : Session) (l : Link) (q : Outputs) → f ≡ Some x → x ≡ y → QuickIs f r s l q → QuickAs y r s l q
found-as f x y r s l q e d h = subst (λ (z : Option Quick). QuickIs z r s l q) (e ∙ ap (λ (z : Quick). Some z) d) h
