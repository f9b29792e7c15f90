-- `token_reader::expressions::atom` meets its contract. Assumes nothing.
use Rattle.token_reader.proofs.ExprEnds.{atom_stored}
use Rattle.token_reader.proofs.expressions.atom.Goals as goal

pub returns : goal.returns
returns c = atom_stored c.requires.0 c.requires.1 c.store_named.ensures c.strongest.ensures
