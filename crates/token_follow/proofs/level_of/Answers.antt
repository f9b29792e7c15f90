-- `token_follow::level_of` meets its contract: the table gives what the grammar says. Assumes nothing.
use Rattle.std.proofs.Common.{◌∙◌}
use Rattle.token_follow.proofs.Tables.{level_at_lem}
use Rattle.token_follow.proofs.level_of.Goals as goal

pub returns : goal.returns
returns c = c.level_in.ensures ∙ level_at_lem _
