-- `file_save::counted` meets its contract. Assumes nothing.
use Rattle.std.proofs.Common.{◌∙◌}
use Rattle.file_save.proofs.Putting.{least_counted}
use Rattle.file_save.proofs.counted.Goals as goal

pub returns : goal.returns
returns c = c.min.ensures ∙ least_counted _
