-- `tree_source::start` meets its contract. Assumes nothing.
use mathlib.Core.Path.{◌∙◌}
use Rattle.laws.proofs.Calls.{free}
use Rattle.tree_source.specs.Source.{behind_header, skip}
use Rattle.tree_source.proofs.start.Goals as goal

pub returns : goal.returns
unfolding behind_header skip
returns c = c.step-count.ensures.1 ∙ rw c.step-context.ensures.1
