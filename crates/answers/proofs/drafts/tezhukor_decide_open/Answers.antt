-- `answers::drafts::tezhukor_decide_open` meets its contract. Assumes nothing.
use mathlib.Core.Path.{ap, ◌∙◌}
use Rattle.row_walk.specs.Numbers.{reply_number}
use Rattle.row_walk.proofs.Numbers.{number_back}
use Rattle.row_open.proofs.Replies.{open_small}
use Rattle.answers.proofs.drafts.tezhukor_decide_open.Goals as goal

pub returns-clause-reply : goal.returns-clause-reply
returns-clause-reply c = rw (← c.from.ensures) (c.reply_number.ensures ∙ ap reply_number c.decide_open.ensures.reply ∙ number_back _ (open_small _ _))
