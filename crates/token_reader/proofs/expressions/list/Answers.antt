-- `token_reader::expressions::list` meets its contract. Assumes nothing.
use Rattle.token_reader.proofs.expressions.list.Goals as goal

pub returns : goal.returns
returns c = rw c.start.ensures
