-- `token_reader::node::lay` meets its contract. Assumes nothing.
use Rattle.token_reader.proofs.Nodes.{laid}
use Rattle.token_reader.proofs.node.lay.Goals as goal

pub returns : goal.returns
returns c = rw c.number.ensures (laid _ _ _ _ _ _ _ c.requires)
