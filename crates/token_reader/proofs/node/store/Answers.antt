-- `token_reader::node::store` meets its contract. Assumes nothing.
use Rattle.token_reader.proofs.Nodes.{stored}
use Rattle.token_reader.proofs.node.store.Goals as goal

pub returns : goal.returns
returns c = stored _ _ _ _ _ _ _ c.requires.0 c.requires.1
