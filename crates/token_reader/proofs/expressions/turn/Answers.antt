-- `token_reader::expressions::turn` meets its contract. Assumes nothing.
use Rattle.std.proofs.Common.{ap}
use Rattle.token_reader.specs.Kinds.{mode_number}
use Rattle.token_reader.specs.Turns.{wanting, going, listing}
use Rattle.token_reader.proofs.Modes.{late}
use Rattle.token_reader.proofs.expressions.turn.Goals as goal

pub returns-in-Wanted : goal.returns-in-Wanted
returns-in-Wanted c = wanting (ap mode_number c.in-Wanted.is) c.begin.ensures

pub returns-in-Read : goal.returns-in-Read
returns-in-Read c = going (ap mode_number c.in-Read.is) c.go_on.ensures

pub returns-in-Listed : goal.returns-in-Listed
returns-in-Listed c = let n = late c.in-Listed.is in listing n.0 n.1 c.close.ensures
