-- `token_writer::levels::opens_arguments` meets its contract. Assumes nothing.
use mathlib.Core.Path.{sym, ◌∙◌}
use Rattle.laws.proofs.Keys.{among, outside}
use Rattle.token_writer.proofs.Strengths.{opening_codes, opens_by}
use Rattle.token_writer.proofs.levels.opens_arguments.Goals as goal

pub returns-in-13 : goal.returns-in-13
returns-in-13 c = sym (opens_by c.args.operator ∙ among opening_codes _ c.in-13.is)

pub returns-in_default : goal.returns-in_default
returns-in_default c = sym (opens_by c.args.operator ∙ outside opening_codes _ c.in_default.in_default-own.rest.1)
