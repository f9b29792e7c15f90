-- `file_loader::load` meets its contract. Assumes nothing.
use Rattle.std.proofs.Common.{◌∙◌}
use Rattle.file_loader.specs.Files.{file_refusal}
use Rattle.file_loader.proofs.Replied.{refused_by, passed_up}
use Rattle.file_loader.proofs.Files.{refused}
use Rattle.file_loader.proofs.load.Goals as goal

pub returns-in_err-header-clause-reply : goal.returns-in_err-header-clause-reply
unfolding file_refusal
returns-in_err-header-clause-reply c =
    passed_up _ _ c.from_residual.ensures.0 c.from_residual.ensures.1 ∙ (refused _ _ c.args.file.now _ (refused_by _ _ c.args.file.now (c.in_err-header.ensures _))).0

pub returns-in_err-header-clause-table : goal.returns-in_err-header-clause-table
unfolding file_refusal
returns-in_err-header-clause-table c = (refused _ _ c.args.file.now _ (refused_by _ _ c.args.file.now (c.in_err-header.ensures _))).1
