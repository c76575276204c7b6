-- Histories whose messages were given as they were taken. Claims 2 and 3, whatever peer and link do, are in proofs/Anyhow.
use Rattle.std.specs.Prelude.{List, [], ◌∷◌}
use Rattle.loss.specs.Seen.{Taking}
use Rattle.loss.specs.History.{History}
use Rattle.loss.specs.Good.{Good}

-- the messages, as if the peer had given them the numbers that they were taken for
unfoldable pub as_taken : List Taking → List Taking
as_taken [] = []
as_taken (t ∷ l) = record { gave = t.took; took = t.took } ∷ as_taken l

-- the numbers of a history are sound
abbrev pub Fine : History → Type 0
Fine h = Good h.world.session h.first (as_taken h.accepted) h.rejected
