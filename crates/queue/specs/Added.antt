-- What a call has said so far, as the list of outputs that it will queue.
use Rattle.std.specs.Prelude.{◌+◌, ◌≡◌, List, [], ◌∷◌, ◌++◌, map}
use Rattle.types.specs.Outputs.{line, output_of}
use Rattle.rules.specs.Names.{Output, Reason, Line}
use Rattle.rules.specs.Names.said
use Rattle.rules.specs.Names.quote
use Rattle.rules.specs.Calls.{room_for_call}
use Rattle.rings.specs.Ring.{ring_list}
use Rattle.queue.specs.declared.added.Added.{Added}

abbrev pub no_line : Line
no_line = line said.CloseTransport 0 quote.None

-- the first `count` lines
unfoldable pub lines_of : Added → List Line
lines_of a = ring_list room_for_call no_line a.lines 0 a.count

-- the outputs that they stand for, with the bytes kept beside the binding and those given with the call
unfoldable pub said_in : Reason → Reason → Added → List Output
said_in kept given a = map (output_of kept given) (lines_of a)

-- r is a with one more line
pub record Pushed (r a : Added) (l : Line) : Type 0 where
  pub count : r.count ≡ a.count + 1
  pub lines : lines_of r ≡ lines_of a ++ (l ∷ [])
