-- `file_loader::check` meets its contract. Assumes nothing.
use Rattle.std.proofs.Common.{◌∙◌}
use Rattle.file_loader.specs.Files.{file_refusal}
use Rattle.file_loader.proofs.Replied.{refused_by, passed_up}
use Rattle.file_loader.proofs.Files.{nodes_left, to_body}
use Rattle.file_loader.proofs.check.Goals as goal

pub returns-in_err-header : goal.returns-in_err-header
unfolding file_refusal
returns-in_err-header c = passed_up _ _ c.from_residual.ensures.0 c.from_residual.ensures.1 ∙ refused_by _ _ tt (c.in_err-header.ensures _)

pub check_nodes-requires : goal.check_nodes-requires
check_nodes-requires c = to_body _ _ _ c.in_ok-header.ensures

pub returns : goal.returns
returns c = rw (nodes_left _ _ _ c.in_ok-header.ensures) c.check_nodes.ensures
