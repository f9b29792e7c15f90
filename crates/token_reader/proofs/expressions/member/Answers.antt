-- `token_reader::expressions::member` meets its contract. Assumes nothing.
use Rattle.token_reader.proofs.ExprEnds.{member_stored}
use Rattle.token_reader.proofs.expressions.member.Goals as goal

pub returns : goal.returns
returns c = member_stored _ c.requires.0 c.requires.1 c.store_named.ensures
