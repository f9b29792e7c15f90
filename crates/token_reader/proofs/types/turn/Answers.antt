-- `token_reader::types::turn` meets its contract. Assumes nothing.
use Rattle.std.proofs.Common.{ap}
use Rattle.token_reader.specs.Kinds.{mode_number}
use Rattle.token_reader.specs.Waiting.{wanting, taking, listing}
use Rattle.token_reader.proofs.types.turn.Goals as goal

pub returns-in-Wanted : goal.returns-in-Wanted
returns-in-Wanted c = wanting (ap mode_number c.in-Wanted.is) c.want.ensures

pub returns-in-Read : goal.returns-in-Read
returns-in-Read c = taking (ap mode_number c.in-Read.is) c.take.ensures
