-- `file_order::compare` meets its contract. Assumes nothing.
use Rattle.std.proofs.Common.{◌∙◌}
use Rattle.file_loader.proofs.Replied.{said_ok, passed_up}
use Rattle.file_order.proofs.Checks.{first_refused, second_refused, both_accepted}
use Rattle.file_order.proofs.compare.Goals as goal

pub returns-in_err-check : goal.returns-in_err-check
returns-in_err-check c = passed_up _ _ c.from_residual.ensures.0 c.from_residual.ensures.1 ∙ first_refused _ _ tt _ c.in_err-check.ensures

pub returns-in_err-check-2 : goal.returns-in_err-check-2
returns-in_err-check-2 c =
    passed_up _ _ c.from_residual-in_err-check-2.ensures.0 c.from_residual-in_err-check-2.ensures.1
    ∙ second_refused _ _ (said_ok _ _ _ c.in_ok-check.ensures).0 tt _ c.in_err-check-2.ensures

pub compare_accepted-requires : goal.compare_accepted-requires
compare_accepted-requires c = ((said_ok _ _ _ c.in_ok-check.ensures).0, (said_ok _ _ _ c.in_ok-check-2.ensures).0)

pub returns : goal.returns
returns c = both_accepted _ _ (said_ok _ _ _ c.in_ok-check.ensures).0 (said_ok _ _ _ c.in_ok-check-2.ensures).0 _ c.compare_accepted.ensures
