-- `all` over the places is the definition's walk.
use Rattle.std.proofs.Common.{rules, tests}
use Rattle.std.proofs.lemmas.Iterator.{YieldsList-from_slice}
use Rattle.std.proofs.lemmas.Iterator.Search.{all_from_yields_List}
use Rattle.library.specs.Outputs.{is_said}
use Rattle.library.proofs.outputs.all_said.Goals as goal

pub returns : goal.returns
returns c =
    all_from_yields_List is_said _ _ _ c.all.ensures.ran (YieldsList-from_slice c.args.q.slots cc) (λ x b q k. search (rules, tests))
