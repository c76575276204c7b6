-- `trace::reader::view` meets its contract: the size is what `size_at` says, and `part` gives the part. Assumes nothing.
use Rattle.trace.proofs.Laws.{size-inside, record_of}
use native.Mathlib.Omega.{arith}
use Rattle.trace.proofs.reader.view.Goals as goal

pub part-requires : goal.part-requires
part-requires c = omega (arith, c.size_at-n.ensures, (size-inside c.args.s.now c.args.at c.requires).0)

pub returns : goal.returns
returns c = record_of c.args.s c.args.at c.size_at-n.result c.part.result c.requires c.size_at-n.ensures c.part.ensures
