-- `token_reader::expressions::attempt` meets its contract. Assumes nothing.
use Rattle.token_reader.proofs.ExprEnds.{try_stored}
use Rattle.token_reader.proofs.expressions.attempt.Goals as goal

pub returns : goal.returns
returns c = try_stored _ c.requires.0 c.requires.1 c.store.ensures c.strongest.ensures
