-- `token_reader::expressions::wait` meets its contract. Assumes nothing.
use Rattle.token_reader.proofs.expressions.wait.Goals as goal

pub returns : goal.returns
returns c = (rw c.from.ensures at c.lay.ensures, rw c.start.ensures)
