-- Histories that compute: one that meets every assumption and has everything in it, and one for each assumption that breaks without it.
use Rattle.std.specs.Prelude.{◌≡◌, refl, List, [], ◌∷◌, Bool, true, false, not, ◌||◌, ℕ, zero, suc, Option, Some, None}
use Rattle.std.proofs.Common.{sym, arith, eqb-true}
use Rattle.types.specs.Base.{deadline_at}
use Rattle.types.specs.Reasons.{no_text}
use Rattle.rules.specs.Names.{SeqNum}
use Rattle.rules.specs.Names.flow
use Rattle.rules.specs.State.{queued, saying, answering, and_then}
use Rattle.rules.specs.Gaps.{append_gap, record_gap, later_of, widen, hold_refused_gap, received_in_overflow, drop_first, consume_missing}
use Rattle.rules.specs.Ending.{release_binding_state, fail, violation}
use Rattle.rules.specs.Asking.{fewer, ask, request_missing, maybe_finish_receiving, recovered, complete_outstanding, in_range, on_retransmission, on_retransmit_reject}
use Rattle.rules.specs.Numbering.{allocate_outbound, send_not_applied, gap_reported, gap_held, gap_recorded, on_gap, stop_replay, announced, on_next_seq, replay_after, count_delivered, complete_if, replayed_counted, on_replayed, number_live, on_live, on_application}
use Rattle.rules.specs.Binding.{new_session, resume, on_established, bind}
use Rattle.rules.specs.Peer.{on_context, on_peer}
use Rattle.rules.specs.Calls.{config_fits, sound, call}
use Rattle.loss.specs.Seen.{arrives, added}
use Rattle.loss.specs.History.{Truth, History, fresh, Happening, calls, polls, closes, drops_live, drops_tail, Kind, message, announces, heads, other, opens, ours, kind_of, ran, step, run, MayArrive, OpensTrue, Truthful, Allowed, Obeys}
use Rattle.loss.specs.Claim.{NotRenumbered}
use Rattle.loss.proofs.Count.{no}
use Rattle.loss.proofs.Good.{and_left, and_right}
use Rattle.loss.proofs.Theorem.{loss-cannot-renumber}
use Rattle.loss.specs.Cases.{may_arrive, opens_true, truthful, allowed, obeys, num, self, small, eventful, range, right, taken, Needed}

-- ---- a test of what is allowed
may-arrive : (k : ℕ) (told : Bool) → may_arrive k told ≡ true → MayArrive k told
may-arrive zero told e = e
may-arrive (suc k) told e = tt

opens-true : (n : Option SeqNum) (next : ℕ) → opens_true n next ≡ true → OpensTrue n next
opens-true None next e = tt
opens-true (Some n) next e = eqb-true n.0 next e

truthful-is : (kind : Kind) (p : Truth) → truthful kind p ≡ true → Truthful kind p
truthful-is message p e = may-arrive p.batch.left p.told e
truthful-is (announces n) p e = eqb-true n p.next e
truthful-is (heads n k) p e = tt
truthful-is other p e = tt
truthful-is (opens n) p e = opens-true n p.next e
truthful-is ours p e = tt

unless_not : (a b : Bool) → not a || b ≡ true → a ≡ true → b ≡ true
unless_not true b e u = e
unless_not false b e u = no (sym u)

allowed-is : (h : History) (x : Happening) → allowed h x ≡ true → Allowed h x
unfolding allowed Allowed
allowed-is h (calls c) e = λ u. truthful-is (kind_of h.world.session.id c) h.peer (unless_not (arrives c h.world) _ e u)
allowed-is h polls e = tt
allowed-is h closes e = tt
allowed-is h drops_live e = tt
allowed-is h drops_tail e = tt

obeys-is : (h : History) (xs : List Happening) → obeys h xs ≡ true → Obeys h xs
unfolding obeys Obeys
obeys-is h [] e = tt
obeys-is h (x ∷ xs) e = (allowed-is h x (and_left (allowed h x) (obeys (step h x) xs) e), obeys-is (step h x) xs (and_right (allowed h x) (obeys (step h x) xs) e))

-- ---- 01's example configuration, everything at instant 0 and stamp 7
-- the hypotheses of the theorem can be met
eventful-obeys : obeys (fresh self flow.Recoverable small) eventful ≡ true
unfolding obeys allowed arrives added ran step call sound config_fits queued saying answering and_then no_text deadline_at append_gap record_gap later_of widen hold_refused_gap received_in_overflow drop_first consume_missing release_binding_state fail violation fewer ask request_missing maybe_finish_receiving recovered complete_outstanding in_range on_retransmission on_retransmit_reject gap_held gap_recorded on_gap stop_replay announced on_next_seq replay_after count_delivered complete_if replayed_counted on_replayed number_live on_live on_application new_session resume on_established bind on_peer
eventful-obeys = refl

-- everything is accepted, but 8: its range was rejected
pub eventful-leaves :
    let h = run (fresh self flow.Recoverable small) eventful in
    (h.first ≡ 1)
    × (h.accepted ≡ right 9 ∷ right 6 ∷ right 4 ∷ right 2 ∷ right 7 ∷ right 5 ∷ right 3 ∷ right 1 ∷ [])
    × (h.rejected ≡ range 6 9 ∷ [])
    × (h.world.session.inbound_next ≡ Some (num 10))
    × (h.world.session.gaps.missing ≡ [])
unfolding run arrives added ran step call sound config_fits queued saying answering and_then no_text deadline_at append_gap record_gap later_of widen hold_refused_gap received_in_overflow drop_first consume_missing release_binding_state fail violation fewer ask request_missing maybe_finish_receiving recovered complete_outstanding in_range on_retransmission on_retransmit_reject gap_held gap_recorded on_gap stop_replay announced on_next_seq replay_after count_delivered complete_if replayed_counted on_replayed number_live on_live on_application new_session resume on_established bind on_peer
eventful-leaves = (refl, refl, refl, refl, refl)

pub eventful-allowed : Obeys (fresh self flow.Recoverable small) eventful
eventful-allowed = obeys-is (fresh self flow.Recoverable small) eventful eventful-obeys

-- the theorem speaks of it
pub eventful-claim : NotRenumbered (run (fresh self flow.Recoverable small) eventful)
eventful-claim = loss-cannot-renumber self flow.Recoverable small (omega arith) eventful eventful-allowed

-- ---- what each assumption is for
pub needed : Needed
unfolding taken call sound config_fits queued saying answering and_then no_text deadline_at append_gap record_gap later_of widen hold_refused_gap received_in_overflow drop_first consume_missing release_binding_state fail violation fewer ask request_missing maybe_finish_receiving recovered complete_outstanding in_range on_retransmission on_retransmit_reject gap_held gap_recorded gap_reported send_not_applied allocate_outbound on_gap stop_replay announced on_next_seq replay_after count_delivered complete_if replayed_counted on_replayed number_live on_live on_application new_session resume on_established bind on_context on_peer
needed =
    record {
      told_after_loss = refl;
      told_by_context = refl;
      told_truly = refl;
      told_by_binding = refl;
      told_after_batch = refl;
      only_its_tail = refl;
      with_its_header = refl;
      in_order = refl;
      nothing_between = refl;
      nothing_after_cut = refl;
      within_its_binding = refl;
      no_repeat = refl;
      no_reorder = refl;
      refused_is_lost = refl;
      recoverable = (refl, refl);
    }
