-- `file_loader::Header::read` meets its contract. Assumes nothing.
use Rattle.std.proofs.Common.{◌∙◌}
use Rattle.file_loader.proofs.Files.{header_first, header_second, header_both, header_none, header_some}
use Rattle.file_loader.proofs.Header.read.Goals as goal

pub returns-in_err-context-clause-value : goal.returns-in_err-context-clause-value
returns-in_err-context-clause-value c = c.from_residual.ensures ∙ header_none _ (header_first _ c.in_err-context.ensures)

pub returns-in_err-context-clause-read : goal.returns-in_err-context-clause-read
returns-in_err-context-clause-read c = rw c.from_residual.ensures (header_first _ c.in_err-context.ensures)

pub returns-in_err-count-clause-value : goal.returns-in_err-count-clause-value
returns-in_err-count-clause-value c = c.from_residual-in_err-count.ensures ∙ header_none _ (header_second _ _ _ c.in_ok-context.ensures c.in_err-count.ensures)

pub returns-in_err-count-clause-read : goal.returns-in_err-count-clause-read
returns-in_err-count-clause-read c = rw c.from_residual-in_err-count.ensures (header_second _ _ _ c.in_ok-context.ensures c.in_err-count.ensures)

pub returns-clause-value : goal.returns-clause-value
returns-clause-value c = let h = header_both _ _ _ c.in_ok-context.ensures _ _ c.in_ok-count.ensures in header_some _ _ _ _ h.0 h.1

pub returns-clause-read : goal.returns-clause-read
returns-clause-read c = header_both _ _ _ c.in_ok-context.ensures _ _ c.in_ok-count.ensures
