-- `token_writer::levels::level_of` meets its contract. Assumes nothing.
use Rattle.token_writer.proofs.Strengths.{operator_level}
use Rattle.token_writer.proofs.levels.level_of.Goals as goal

pub returns : goal.returns
returns c = operator_level c.args.operator _ _ c.operator_code.ensures c.level_of.ensures
