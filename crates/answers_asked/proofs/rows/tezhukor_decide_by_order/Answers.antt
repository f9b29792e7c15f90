-- `answers_asked::rows::tezhukor_decide_by_order` meets its contract. Assumes nothing.
use mathlib.Core.Path.{ap, ◌∙◌}
use Rattle.row_walk.specs.Numbers.{reply_number}
use Rattle.row_walk.proofs.Numbers.{decided_small, number_back}
use Rattle.answers_asked.proofs.rows.tezhukor_decide_by_order.Goals as goal

pub returns-clause-reply : goal.returns-clause-reply
returns-clause-reply c = c.reply_number.ensures ∙ ap reply_number c.decide_by.ensures.reply ∙ number_back _ (decided_small _ _ _ _)
