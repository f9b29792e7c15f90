-- `tree_source::node_from` meets its contract. Assumes nothing.
use Rattle.laws.proofs.Calls.{free}
use Rattle.tree_source.proofs.Nodes.{six_from}
use Rattle.tree_source.proofs.node_from.Goals as goal

pub returns : goal.returns
returns c = six_from _ _ _ _ _ _ _ _ _ _ _ _ _ c.step-form.ensures c.step-attributes.ensures c.step-detail.ensures c.step-first.ensures c.step-second.ensures c.step-symbol.ensures.0
