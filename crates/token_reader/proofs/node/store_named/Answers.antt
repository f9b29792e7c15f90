-- `token_reader::node::store_named` meets its contract. Assumes nothing.
use Rattle.token_reader.proofs.node.store_named.Goals as goal

pub store-requires : goal.store-requires
store-requires c = c.requires

pub returns : goal.returns
returns c = rw c.symbol_at-symbol.ensures at c.store.ensures
