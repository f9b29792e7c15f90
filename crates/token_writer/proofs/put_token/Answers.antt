-- `token_writer::put_token` meets its contract. Assumes nothing.
use Rattle.laws.proofs.Putting.{put_two}
use Rattle.token_writer.proofs.put_token.Goals as goal

pub returns : goal.returns
returns c = rw (← c.symbol_on-beside.ensures) (put_two _ _ _ _)
