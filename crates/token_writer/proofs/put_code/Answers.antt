-- `token_writer::put_code` meets its contract. Assumes nothing.
use Rattle.laws.proofs.Putting.{put_two}
use Rattle.token_writer.proofs.put_code.Goals as goal

pub returns : goal.returns
returns c = put_two _ _ _ _
